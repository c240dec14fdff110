use Rattle.std.proofs.Common.{◌∙◌, sym, ap, refl, Some, map, List, ℕ, Bor, string_bytes}
use Rattle.std.specs.Option.{option_map}
use Rattle.symbols_ast.specs.Graph.{graph_view, resolution_view}
use Rattle.symbols_graph.specs.GraphFaults.{resolution_keys}
use Rattle.symbols_graph.specs.Repeats.{IsRepeatedEntryAt}
use Rattle.symbols_graph.proofs.GraphFaultOrder.{none_of, first_of_rank}
use Rattle.symbols_graph.proofs.RepeatLemmas.{first_viewed}
use Rattle.symbols_graph.proofs.graph_check.check_resolutions.Goals as goal

-- A pair of texts as bytes.
abbrev both : Bor (List ℕ) × Bor (List ℕ) → List ℕ × List ℕ
both p = (p.0.now, p.1.now)

pub returns-in-None-clause-accepted : goal.returns-in-None-clause-accepted
returns-in-None-clause-accepted c =
    let none = first_viewed (λ xs. IsRepeatedEntryAt (resolution_keys (map resolution_view xs))) c.deref.ensures.value (ap (option_map both) c.in-None.is)
    c.in_ok-from.ensures in
    none_of (graph_view c.args.raw.now) 4 (λ i here. none i here.0 here.1)

pub returns-in_ok-specifier_text-in-Some-clause-refused : goal.returns-in_ok-specifier_text-in-Some-clause-refused
returns-in_ok-specifier_text-in-Some-clause-refused c =
    let first = first_viewed (λ xs. IsRepeatedEntryAt (resolution_keys (map resolution_view xs))) c.deref.ensures.value (ap (option_map both) c.in-Some.is
    ∙ ap Some (ap {B = List ℕ × List ℕ} (λ (r : List ℕ). (r, c.in-Some.repeated.now)) (sym c.in_ok-referrer-in-Some.ensures.ok)
    ∙ ap {B = List ℕ × List ℕ} (λ (t : List ℕ). (string_bytes c.in_ok-referrer-in-Some.referrer, t)) (sym c.in_ok-specifier_text-in-Some.ensures.ok)))
    c.in_ok-from.ensures in
    first_of_rank (graph_view c.args.raw.now) 4 _ refl first.0 first.1 (λ i below here. first.2 i here.0 below here.1)
