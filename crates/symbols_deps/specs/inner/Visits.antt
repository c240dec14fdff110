-- The dependencies that each function of the visitor appends.
use Rattle.std.specs.Prelude.{List, ◌++◌, map}
use Rattle.std.specs.List.{flat_map}
use Rattle.std.specs.Option.{option_map, option_to_list}
use Rattle.symbols_ast.specs.NodeRefs.{TreeNode, node_view}
use Rattle.symbols_nodes.specs.declared.deps.dep.ReferenceNamespace.{ReferenceNamespace}
use Rattle.symbols_nodes.specs.declared.deps.dep.ResolveDepsMode.{ResolveDepsMode}
use Rattle.symbols_deps.specs.declared.visit.Child.{Child}
use Rattle.symbols_deps.specs.declared.visit.Visit.{Visit}
use Rattle.symbols_deps.specs.DepPaths.{ReferenceGraphVertex, ReferenceGraphStep, occurrences_within_steps, path_length_bound}
use Rattle.symbols_deps.specs.Dependencies.{reference_graph, dependency_of_occurrence, steps_from, steps_to_children_of_edge, vertex_of_node}
use Rattle.symbols_deps.specs.EdgeRules.{FieldEdges}
use Rattle.symbols_nodes.specs.References.{NamespacedReference, reference_of_node}
use Rattle.symbols_deps.specs.inner.References.{dependency_in_namespace}

-- The dependencies on the paths that begin with these steps, with this namespace where no step has a mark.
unfoldable pub dependencies_along_steps : ResolveDepsMode → ReferenceNamespace → List ReferenceGraphStep → List NamespacedReference
dependencies_along_steps mode namespace steps = map dependency_of_occurrence
    (occurrences_within_steps reference_graph mode (path_length_bound steps) namespace steps)

-- The dependencies of a vertex: its own reference, and those along its steps.
abbrev pub dependencies_at_and_after_vertex : ResolveDepsMode → ReferenceNamespace → ReferenceGraphVertex → List NamespacedReference
dependencies_at_and_after_vertex mode namespace vertex = option_to_list (option_map (dependency_in_namespace namespace) (reference_of_node vertex.node))
    ++ dependencies_along_steps mode namespace (steps_from vertex)

-- The dependencies of a child that is entered.
abbrev pub dependencies_at_and_after_child : ResolveDepsMode → Child → List NamespacedReference
dependencies_at_and_after_child mode child = dependencies_at_and_after_vertex mode child.namespace (vertex_of_node (node_view child.node) child.form)

-- The dependencies along one edge of a node.
unfoldable pub dependencies_of_edge : ResolveDepsMode → ReferenceNamespace → TreeNode → FieldEdges → List NamespacedReference
dependencies_of_edge mode namespace node edge = dependencies_along_steps mode namespace (steps_to_children_of_edge node edge)

-- The dependencies along one edge of the visited node.
abbrev pub dependencies_of_visited_edge : Visit → FieldEdges → List NamespacedReference
dependencies_of_visited_edge visit edge = dependencies_of_edge visit.mode visit.namespace (node_view visit.node) edge

abbrev pub dependencies_of_visited_edges : Visit → List FieldEdges → List NamespacedReference
dependencies_of_visited_edges visit edges_from = flat_map (dependencies_of_visited_edge visit) edges_from
