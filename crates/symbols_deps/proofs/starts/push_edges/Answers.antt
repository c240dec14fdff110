use Rattle.std.proofs.Common.{◌++◌, ◌∙◌, ◌≡◌, ap, List, map, is_some, rules}
use Rattle.symbols_ast.specs.NodeRefs.{node_view}
use Rattle.symbols_nodes.specs.References.{NamespacedReference, namespaced_reference_view, reference_of_node}
use Rattle.symbols_deps.proofs.VisitLists.{begins_at_node}
use Rattle.symbols_deps.proofs.starts.push_edges.Goals as goal

pub returns : goal.returns
returns c =
    let refers : c.is_some-refers.result ≡ is_some (reference_of_node (node_view c.args.node)) = search rules in
    c.in_ok-visit_edges.ensures
    ∙ ap (λ (ds : List NamespacedReference). map namespaced_reference_view c.args.found.now.items
    ++ ds) (begins_at_node c.args.mode (node_view c.args.node) c.is_some-refers.result c.kind-kind.result.now c.kind-kind.ensures refers)
