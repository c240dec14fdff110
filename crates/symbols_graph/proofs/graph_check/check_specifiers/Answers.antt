use Rattle.std.proofs.Common.{◌∙◌, sym, ap, refl, Some, map}
use Rattle.std.specs.Option.{option_copied}
use Rattle.symbols_ast.specs.Graph.{graph_view, module_view}
use Rattle.symbols_graph.specs.GraphFaults.{module_specifiers}
use Rattle.symbols_graph.specs.Repeats.{IsRepeatedEntryAt}
use Rattle.symbols_graph.proofs.GraphFaultOrder.{none_of, first_of_rank}
use Rattle.symbols_graph.proofs.RepeatLemmas.{first_viewed}
use Rattle.symbols_graph.proofs.graph_check.check_specifiers.Goals as goal

pub returns-in-None-clause-accepted : goal.returns-in-None-clause-accepted
returns-in-None-clause-accepted c =
    let none = first_viewed (λ xs. IsRepeatedEntryAt (module_specifiers (map module_view xs))) c.deref.ensures.value (ap option_copied c.in-None.is)
    c.in_ok-name.ensures in
    none_of (graph_view c.args.raw.now) 1 (λ i here. none i here.0 here.1)

pub returns-in_ok-specifier-in-Some-clause-refused : goal.returns-in_ok-specifier-in-Some-clause-refused
returns-in_ok-specifier-in-Some-clause-refused c =
    let first = first_viewed (λ xs. IsRepeatedEntryAt (module_specifiers (map module_view xs))) c.deref.ensures.value (ap option_copied c.in-Some.is
    ∙ ap Some (sym c.in_ok-specifier-in-Some.ensures.ok)) c.in_ok-name.ensures in
    first_of_rank (graph_view c.args.raw.now) 1 _ refl first.0 first.1 (λ i below here. first.2 i here.0 below here.1)
