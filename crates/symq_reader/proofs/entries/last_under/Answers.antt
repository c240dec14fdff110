use Rattle.std.proofs.Common.{◌≡◌, ◌+◌, ◌-◌, [], ◌∷◌, ◌++◌, take, Bool, true, false, cond, Some, sym, ap, ◌∙◌, arith}
use Rattle.std.proofs.lemmas.List.{take_more}
use Rattle.std.specs.Str.{bytes_eq}
use Rattle.serde_json.specs.Data.{no_members}
use Rattle.serde_json.specs.Find.{get_member}
use Rattle.symq_reader.specs.inner.Objects.{fast_path_value_data, put_entries}
use Rattle.symq_reader.proofs.Entered.{last_entry}
use Rattle.symq_reader.proofs.entries.last_under.Goals as goal

pub returns-then-eq : goal.returns-then-eq
returns-then-eq c =
    let xs = c.args.entries.now in
    let i = c.loop-left.left - 1 in
    let m = c.index-entries-left.result in
    let name = c.args.key.now in
    let next : c.loop-left.left ≡ i + 1 = omega arith in
    let front : take c.loop-left.left xs ≡ take i xs ++ m ∷ [] =
    ap (λ k. take k xs) next ∙ take_more xs i m (omega arith) ∙ ap (λ y. take i xs ++ y ∷ []) (sym c.index-entries-left.is) in
    let step = c.loop-left.invariant.0 ∙ ap (λ ys. get_member name (put_entries ys no_members)) front ∙ last_entry name (take i xs) m in
    let pick = λ (b : Bool). cond b (Some (fast_path_value_data m.1)) (get_member name (put_entries (take i xs) no_members)) in
    let same : bytes_eq m.0.now name ≡ true = grind arith in
    sym (step ∙ ap pick same)

pub loop-left-preserved : goal.loop-left-preserved
loop-left-preserved c =
    let xs = c.args.entries.now in
    let i = c.loop-left.left - 1 in
    let m = c.index-entries-left.result in
    let name = c.args.key.now in
    let next : c.loop-left.left ≡ i + 1 = omega arith in
    let front : take c.loop-left.left xs ≡ take i xs ++ m ∷ [] =
    ap (λ k. take k xs) next ∙ take_more xs i m (omega arith) ∙ ap (λ y. take i xs ++ y ∷ []) (sym c.index-entries-left.is) in
    let step = c.loop-left.invariant.0 ∙ ap (λ ys. get_member name (put_entries ys no_members)) front ∙ last_entry name (take i xs) m in
    let pick = λ (b : Bool). cond b (Some (fast_path_value_data m.1)) (get_member name (put_entries (take i xs) no_members)) in
    let other : bytes_eq m.0.now name ≡ false = grind arith in
    (step ∙ ap pick other, omega arith)
