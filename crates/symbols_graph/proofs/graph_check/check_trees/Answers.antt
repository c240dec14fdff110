use Rattle.std.proofs.Common.{rules, ◌≡◌, ◌<◌, ◌≤◌, refl, subst, List, length, get_or, string_bytes}
use Rattle.std.proofs.lemmas.List.Elements.{All-from_all_within, AllWithin-upto}
use Rattle.std.proofs.lemmas.Option.{MatchOption-at_some}
use Rattle.symbols_ast.specs.declared.graph.raw.RawModule.{RawModule}
use Rattle.symbols_ast.specs.Graph.{IsCheckedContent, content_view, graph_view}
use Rattle.symbols_graph.specs.GraphFaults.{HasFirstTreeFault}
use Rattle.symbols_graph.proofs.GraphFaultOrder.{none_of, first_of_rank}
use Rattle.symbols_graph.proofs.TreeRefusal.{first_bad, none_bad}
use Rattle.symbols_graph.proofs.graph_check.check_trees.Goals as goal

pub returns-in-Some-clause-refused : goal.returns-in-Some-clause-refused
returns-in-Some-clause-refused c =
    let content = content_view c.module-item.result.kind in
    let bad = MatchOption-at_some (IsCheckedContent content) (HasFirstTreeFault content) c.in-Some.fault c.in-Some.is c.in_ok-fault.ensures in
    let items = c.deref-module-items.ensures.value in
    let inside = subst (λ (xs : List RawModule). c.loop-module.module-index < length xs) items c.loop-module-test.true in
    let is = subst (λ (xs : List RawModule). c.module-item.result ≡ get_or xs c.loop-module.module-index c.module-item.result) items c.module-item.is in
    let first = first_bad c.args.raw.now.modules.items c.loop-module.module-index c.module-item.result inside is c.in-Some.fault bad c.loop-module.invariant
    (string_bytes c.in_ok-specifier.specifier) (search rules) in
    first_of_rank (graph_view c.args.raw.now) 5 _ refl first.0 first.1 (λ i below here. first.2 i here.0 below here.1)

pub returns-clause-accepted : goal.returns-clause-accepted
returns-clause-accepted c =
    let past = subst (λ (xs : List RawModule). length xs ≤ c.loop-module.module-index) c.deref-module-items.ensures.value c.loop-module-test.false in
    let all = All-from_all_within (λ m. IsCheckedContent (content_view m.kind)) c.args.raw.now.modules.items
    (AllWithin-upto (λ m. IsCheckedContent (content_view m.kind)) c.args.raw.now.modules.items 0 c.loop-module.module-index _ past c.loop-module.invariant) in
    none_of (graph_view c.args.raw.now) 5 (λ i here. none_bad c.args.raw.now.modules.items all i here.0 here.1)
