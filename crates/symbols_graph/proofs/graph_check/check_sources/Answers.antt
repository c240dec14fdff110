use Rattle.std.proofs.Common.{◌∙◌, sym, ap, refl, Some, map}
use Rattle.std.specs.Option.{option_copied}
use Rattle.symbols_ast.specs.Graph.{graph_view, redirect_view}
use Rattle.symbols_graph.specs.GraphFaults.{redirect_sources}
use Rattle.symbols_graph.specs.Repeats.{IsRepeatedEntryAt}
use Rattle.symbols_graph.proofs.GraphFaultOrder.{none_of, first_of_rank}
use Rattle.symbols_graph.proofs.RepeatLemmas.{first_viewed}
use Rattle.symbols_graph.proofs.graph_check.check_sources.Goals as goal

pub returns-in-None-clause-accepted : goal.returns-in-None-clause-accepted
returns-in-None-clause-accepted c =
    let none = first_viewed (λ xs. IsRepeatedEntryAt (redirect_sources (map redirect_view xs))) c.deref.ensures.value (ap option_copied c.in-None.is)
    c.in_ok-name.ensures in
    none_of (graph_view c.args.raw.now) 2 (λ i here. none i here.0 here.1)

pub returns-in_ok-source-in-Some-clause-refused : goal.returns-in_ok-source-in-Some-clause-refused
returns-in_ok-source-in-Some-clause-refused c =
    let first = first_viewed (λ xs. IsRepeatedEntryAt (redirect_sources (map redirect_view xs))) c.deref.ensures.value (ap option_copied c.in-Some.is
    ∙ ap Some (sym c.in_ok-source-in-Some.ensures.ok)) c.in_ok-name.ensures in
    first_of_rank (graph_view c.args.raw.now) 2 _ refl first.0 first.1 (λ i below here. first.2 i here.0 below here.1)
