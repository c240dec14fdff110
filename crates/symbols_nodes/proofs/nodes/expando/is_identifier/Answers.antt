use Rattle.std.proofs.Common.{◌≡◌, ℕ, List, [], ◌∷◌, Option, Some, Bool, true, ◌&&◌, ap, sym, ◌∙◌, rules, tests, subst}
use Rattle.std.specs.Iterator.{AlwaysYields}
use Rattle.std.specs.List.{list_all}
use Rattle.std.specs.Str.{chars}
use Rattle.std.proofs.iter.TextItems.{spells}
use Rattle.std.proofs.lemmas.Iterator.{YieldsList, YieldsList-from_chars}
use Rattle.std.proofs.lemmas.Iterator.Search.{all_from_yields_List}
use Rattle.symbols_nodes.specs.Expando.{is_identifier_start, is_identifier_part, is_identifier}
use Rattle.symbols_nodes.proofs.nodes.expando.is_identifier.Goals as goal

-- The first character was read, and the remaining ones were tested.
first_and_rest : {S : Type 0} {steps : S → Option ℕ → S → Type 0} (cs : List ℕ) (s t : S) (first : ℕ) (r : Bool)
    → AlwaysYields steps (λ (c : ℕ). c) s cs → steps s (Some first) t → is_identifier_start first ≡ true
    → ((rest : List ℕ) → YieldsList steps (λ (c : ℕ). c) t rest → r ≡ list_all is_identifier_part rest) → r ≡ is_identifier cs
first_and_rest [] s t first r yields step starts requested = absurd (yields first t step)
first_and_rest (c ∷ cs) s t first r yields step starts requested =
    let next = yields.1 first t step in
    let here : is_identifier_start c ≡ true = subst (λ (x : ℕ). is_identifier_start x ≡ true) next.0 starts in
    requested cs (record { runs = next.1 }) ∙ sym (ap (λ (b : Bool). b && list_all is_identifier_part cs) here)

pub returns-then-is_identifier_start : goal.returns-then-is_identifier_start
returns-then-is_identifier_start c =
    let yields = YieldsList-from_chars c.args.text.now c.utf8.text c.chars-rest.ensures.rest in
    first_and_rest {steps = spells} (chars c.args.text.now) c.chars-rest.result c.next.new.self c.in-Some.first c.all.result yields.runs
    (c.in-Some.ensures.steps) (sym c.is_identifier_start.ensures ∙ c.if-is_identifier_start.true)
    (λ rest is. all_from_yields_List is_identifier_part _ _ c.all.result c.all.ensures.ran is (λ x b q k. search (rules, tests)))
