use Rattle.std.proofs.Common.{◌≡◌, ◌++◌, ◌+◌, ◌-◌, ◌*◌, map, take, length}
use Rattle.symbols_deps.specs.EdgeRules.{edges_to_children}
use Rattle.symbols_nodes.specs.References.{namespaced_reference_view}
use Rattle.symbols_deps.specs.inner.Visits.{dependencies_of_visited_edge}
use Rattle.symbols_deps.proofs.visit.Visit.+walk.Given as goal

abbrev pub decreases-visit_at : goal.decreases-visit_at
decreases-visit_at l = 16 * (length l.child.node.tree.now.nodes.items - l.child.node.number) + 8

abbrev pub decreases-visit_node : goal.decreases-visit_node
decreases-visit_node l = 16 * (length l.node.tree.now.nodes.items - l.node.number) + 7

abbrev pub decreases-visit_any : goal.decreases-visit_any
decreases-visit_any l = 16 * (length l.node.tree.now.nodes.items - l.node.number) + 6

abbrev pub decreases-visit_edges : goal.decreases-visit_edges
decreases-visit_edges l = 16 * (length l.self.node.tree.now.nodes.items - l.self.node.number) + 5

abbrev pub decreases-visit_decl : goal.decreases-visit_decl
decreases-visit_decl l = 16 * (length l.self.node.tree.now.nodes.items - l.self.node.number) + 4

abbrev pub decreases-visit_class : goal.decreases-visit_class
decreases-visit_class l = 16 * (length l.self.node.tree.now.nodes.items - l.self.node.number) + 3

abbrev pub decreases-visit_function : goal.decreases-visit_function
decreases-visit_function l = 16 * (length l.self.node.tree.now.nodes.items - l.self.node.number) + 3

abbrev pub decreases-visit_member : goal.decreases-visit_member
decreases-visit_member l = 16 * (length l.self.node.tree.now.nodes.items - l.self.node.number) + 3

abbrev pub decreases-visit_signature : goal.decreases-visit_signature
decreases-visit_signature l = 16 * (length l.self.node.tree.now.nodes.items - l.self.node.number) + 3

abbrev pub decreases-visit_statement : goal.decreases-visit_statement
decreases-visit_statement l = 16 * (length l.self.node.tree.now.nodes.items - l.self.node.number) + 2

abbrev pub decreases-visit_keyed : goal.decreases-visit_keyed
decreases-visit_keyed l = 16 * (length l.self.node.tree.now.nodes.items - l.self.node.number) + 2

abbrev pub decreases-visit_unkeyed : goal.decreases-visit_unkeyed
decreases-visit_unkeyed l = 16 * (length l.self.node.tree.now.nodes.items - l.self.node.number) + 2

abbrev pub decreases-visit_ty : goal.decreases-visit_ty
decreases-visit_ty l = 16 * (length l.self.node.tree.now.nodes.items - l.self.node.number) + 2

abbrev pub decreases-visit_expr : goal.decreases-visit_expr
decreases-visit_expr l = 16 * (length l.self.node.tree.now.nodes.items - l.self.node.number) + 2

abbrev pub decreases-visit_pat : goal.decreases-visit_pat
decreases-visit_pat l = 16 * (length l.self.node.tree.now.nodes.items - l.self.node.number) + 2

abbrev pub decreases-visit_property : goal.decreases-visit_property
decreases-visit_property l = 16 * (length l.self.node.tree.now.nodes.items - l.self.node.number) + 2

abbrev pub decreases-visit_optional : goal.decreases-visit_optional
decreases-visit_optional l = 16 * (length l.self.node.tree.now.nodes.items - l.self.node.number) + 1

abbrev pub decreases-visit_annotation : goal.decreases-visit_annotation
decreases-visit_annotation l = 16 * (length l.self.node.tree.now.nodes.items - l.self.node.number) + 1

abbrev pub decreases-visit_each : goal.decreases-visit_each
decreases-visit_each l = 16 * (length l.self.node.tree.now.nodes.items - l.self.node.number) + 1

abbrev pub decreases-visit_type : goal.decreases-visit_type
decreases-visit_type l = 16 * (length l.self.node.tree.now.nodes.items - l.self.node.number) + 1

abbrev pub decreases-visit_known : goal.decreases-visit_known
decreases-visit_known l = 16 * (length l.self.node.tree.now.nodes.items - l.self.node.number)

abbrev pub decreases-visit_child : goal.decreases-visit_child
decreases-visit_child l = 16 * (length l.self.node.tree.now.nodes.items - l.self.node.number)

abbrev pub decreases-visit_item : goal.decreases-visit_item
decreases-visit_item l = 16 * (length l.self.node.tree.now.nodes.items - l.self.node.number)

abbrev pub invariant-visit_each-loop-id : goal.invariant-visit_each-loop-id
invariant-visit_each-loop-id l =
    map namespaced_reference_view l.found.items ≡ map namespaced_reference_view l.fn.found.items ++ dependencies_of_visited_edge l.self
    (edges_to_children l.rules (take l.id-index l.ids))
