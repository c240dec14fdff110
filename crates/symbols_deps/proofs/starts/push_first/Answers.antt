use Rattle.std.proofs.Common.{◌++◌, ◌∙◌, ap, List, map}
use Rattle.symbols_ast.specs.NodeRefs.{node_view}
use Rattle.symbols_nodes.specs.References.{NamespacedReference, namespaced_reference_view}
use Rattle.symbols_deps.proofs.VisitLists.{begins_at_first}
use Rattle.symbols_deps.proofs.starts.push_first.Goals as goal

pub returns : goal.returns
returns c =
    c.in_ok-visit_first_edges.ensures
    ∙ ap (λ (ds : List NamespacedReference). map namespaced_reference_view c.args.found.now.items
    ++ ds) (begins_at_first c.args.mode (node_view c.args.node) c.kind.result.now c.kind.ensures)
