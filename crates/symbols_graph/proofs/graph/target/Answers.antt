use Rattle.std.proofs.Common.{◌≡◌, Bool, List, [], ◌∷◌, None, length, refl, arith, rules}
use Rattle.std.specs.Map.{lookup}
use Rattle.symbols_graph.proofs.graph.target.Goals as goal

none_in : {K V : Type 0} (p : K → Bool) (es : List (K × V)) → length es ≡ 0 → None ≡ lookup p es
none_in p [] e = refl
none_in p (x ∷ es) e = absurd (omega arith)

pub returns-then-is_empty : goal.returns-then-is_empty
returns-then-is_empty c =
    let none : length c.args.redirects.now.entries ≡ 0 = search rules in
    none_in _ c.args.redirects.now.entries none
