-- The dependencies of a declaration: the steps of its tree, the steps at which paths begin, and the list of dependencies.
use Rattle.std.specs.Prelude.{◌≡◌, ℕ, Bool, true, false, is_some, if◌then◌else◌, List, [], ◌++◌, map, Option, None, Some}
use Rattle.std.specs.Option.{option_map, option_map_or, option_and_then}
use Rattle.std.specs.List.{filter_map, flat_map}
use Rattle.symbols_ast.specs.declared.tree.categories.Category.TheVariants as Category
use Rattle.symbols_ast.specs.declared.tree.kinds.Kind.{Kind}
use Rattle.symbols_ast.specs.declared.tree.kinds.Decl.TheVariants as Decl
use Rattle.symbols_ast.specs.declared.tree.kinds.Expr.TheVariants as Expr
use Rattle.symbols_ast.specs.declared.tree.kinds.Pat.TheVariants as Pat
use Rattle.symbols_ast.specs.Kinds.{category_allows_kind, kind_name}
use Rattle.symbols_ast.specs.Fields.{class_child_of, function_child_of, decl_child_of}
use Rattle.symbols_ast.specs.NodeRefs.{TreeNode, kind_of, child_in_field}
use Rattle.symbols_nodes.specs.declared.deps.dep.ReferenceNamespace.{ReferenceNamespace}
use Rattle.symbols_nodes.specs.declared.deps.dep.ReferenceNamespace.TheVariants as In
use Rattle.symbols_nodes.specs.declared.deps.dep.ResolveDepsMode.{ResolveDepsMode}
use Rattle.symbols_deps.specs.declared.rules.PatternContext.{PatternContext}
use Rattle.symbols_deps.specs.declared.rules.PatternContextRule.{PatternContextRule}
use Rattle.symbols_deps.specs.declared.rules.NamespaceRule.{NamespaceRule}
use Rattle.symbols_deps.specs.declared.rules.EdgeGuard.{EdgeGuard}
use Rattle.symbols_deps.specs.Annotations.{has_type_annotation}
use Rattle.symbols_deps.specs.DepPaths.{ReferenceGraphVertex, ReferenceGraphStep, ReferenceGraph, DependencyOccurrence, AreAllDependencyOccurrencesInOrder}
use Rattle.symbols_deps.specs.DepPaths.{occurrences_within_steps, path_length_bound}
use Rattle.symbols_deps.specs.EdgeRules.{FieldEdges}
use Rattle.symbols_deps.specs.EdgeTable.{edges_of_node_in_context, start_edges_of_kind, is_type_assertion}
use Rattle.symbols_nodes.specs.NodeViews.{ExportDeclView, SymbolNodeView, exported_class, exported_fn, exported_var, exported_ts_enum, exported_ts_interface}
use Rattle.symbols_nodes.specs.NodeViews.{exported_ts_module, exported_ts_type_alias, program, export_decl, export_default_decl, export_default_expr}
use Rattle.symbols_nodes.specs.NodeViews.{class_decl, fn_decl, ts_enum, ts_interface, ts_namespace, ts_type_alias, var, using_var, auto_accessor, class_method}
use Rattle.symbols_nodes.specs.NodeViews.{class_prop, class_param_prop, constructor, expando_property, ts_index_signature, ts_call_signature_decl}
use Rattle.symbols_nodes.specs.NodeViews.{ts_construct_signature_decl, ts_property_signature, ts_getter_signature, ts_setter_signature, ts_method_signature}
use Rattle.symbols_nodes.specs.Readings.{node_of_greater_number}
use Rattle.symbols_nodes.specs.References.{NamespacedReference, reference_of_node}

-- ---- the steps from a node

abbrev pub is_computed_key : Kind → Bool
is_computed_key (Kind.Expr (Expr.Computed _)) = true
is_computed_key _ = false

abbrev pub is_rest_pattern : Kind → Bool
is_rest_pattern (Kind.Pat (Pat.RestPat _ _)) = true
is_rest_pattern _ = false

abbrev pub signature_context_if : Bool → PatternContext
signature_context_if condition = if condition then PatternContext.Signature else PatternContext.Usual

-- The form in which a child of this kind is entered.
abbrev pub pattern_context_of : PatternContextRule → Kind → PatternContext
pattern_context_of PatternContextRule.Usual kind = PatternContext.Usual
pattern_context_of PatternContextRule.Signature kind = PatternContext.Signature
pattern_context_of PatternContextRule.SignatureKinds kind = signature_context_if (category_allows_kind Category.Signature (kind_name kind))
pattern_context_of PatternContextRule.SignatureRest kind = signature_context_if (is_rest_pattern kind)
pattern_context_of PatternContextRule.Property kind = PatternContext.Property

abbrev pub value_namespace_if : Bool → Option ReferenceNamespace
value_namespace_if condition = if condition then Some In.Value else None

-- The namespace that the edge to a child of this kind marks, if any.
abbrev pub edge_namespace : NamespaceRule → Kind → Option ReferenceNamespace
edge_namespace NamespaceRule.Unmarked kind = None
edge_namespace (NamespaceRule.Marked namespace) kind = Some namespace
edge_namespace NamespaceRule.ValueIfComputed kind = value_namespace_if (is_computed_key kind)
edge_namespace NamespaceRule.ByKind kind = if category_allows_kind Category.Type (kind_name kind) then Some In.Type
    else value_namespace_if (is_computed_key kind)

-- The edge to a child of this kind is followed only in the mode with expressions.
abbrev pub is_guard_for_expressions_mode : EdgeGuard → Kind → Bool
is_guard_for_expressions_mode EdgeGuard.Open kind = false
is_guard_for_expressions_mode EdgeGuard.Expressions kind = true
is_guard_for_expressions_mode EdgeGuard.Initializer kind = if is_type_assertion kind then false else true

abbrev pub vertex_of_node : TreeNode → PatternContext → ReferenceGraphVertex
vertex_of_node node form = record { node = node; form = form }

abbrev pub step_to_child_of_kind : FieldEdges → TreeNode → Kind → ReferenceGraphStep
step_to_child_of_kind edge child kind =
    record {
      to = vertex_of_node child (pattern_context_of edge.rules.form kind);
      mark = edge_namespace edge.rules.mark kind;
      needs_expressions =
          is_guard_for_expressions_mode edge.rules.guard kind;
    }

abbrev pub step_to_child_node : FieldEdges → TreeNode → Option ReferenceGraphStep
step_to_child_node edge child = option_map (step_to_child_of_kind edge child) (kind_of child)

-- The step to the child of a number, if the tree has that node and its number is greater than this node's.
abbrev pub step_to_child_number : TreeNode → FieldEdges → ℕ → Option ReferenceGraphStep
step_to_child_number node edge n = option_and_then (step_to_child_node edge) (node_of_greater_number node n)

abbrev pub steps_to_children_of_edge : TreeNode → FieldEdges → List ReferenceGraphStep
steps_to_children_of_edge node edge = filter_map (step_to_child_number node edge) edge.children

abbrev pub steps_to_children_of_edges : TreeNode → List FieldEdges → List ReferenceGraphStep
steps_to_children_of_edges node edges = flat_map (steps_to_children_of_edge node) edges

abbrev pub steps_from_vertex_of_kind : ReferenceGraphVertex → Kind → List ReferenceGraphStep
steps_from_vertex_of_kind vertex kind =
    steps_to_children_of_edges vertex.node (edges_of_node_in_context vertex.node vertex.form (is_some (reference_of_node vertex.node))
    (has_type_annotation vertex.node) kind)

unfoldable pub steps_from : ReferenceGraphVertex → List ReferenceGraphStep
steps_from vertex = option_map_or (steps_from_vertex_of_kind vertex) (kind_of vertex.node) []

abbrev pub reference_graph : ReferenceGraph
reference_graph = record { reference = λ vertex. reference_of_node vertex.node; steps = steps_from }

-- ---- where the visit begins

abbrev pub steps_from_node : TreeNode → List ReferenceGraphStep
steps_from_node node = steps_from (vertex_of_node node PatternContext.Usual)

abbrev pub steps_from_child_in_field : (Kind → Option ℕ) → TreeNode → List ReferenceGraphStep
steps_from_child_in_field field node = option_map_or steps_from_node (child_in_field node field) []

abbrev pub steps_from_class_child : TreeNode → List ReferenceGraphStep
steps_from_class_child node = steps_from_child_in_field class_child_of node

abbrev pub steps_from_function_child : TreeNode → List ReferenceGraphStep
steps_from_function_child node = steps_from_child_in_field function_child_of node

unfoldable pub start_edge_steps : TreeNode → List ReferenceGraphStep
start_edge_steps node = option_map_or (λ kind. steps_to_children_of_edges node (start_edges_of_kind kind)) (kind_of node) []

abbrev pub steps_of_exported_decl : ExportDeclView → List ReferenceGraphStep
steps_of_exported_decl (exported_class node) = steps_from_class_child node
steps_of_exported_decl (exported_fn node) = steps_from_function_child node
steps_of_exported_decl (exported_var _ declarator _) = steps_from_node declarator
steps_of_exported_decl (exported_ts_enum node) = steps_from_node node
steps_of_exported_decl (exported_ts_interface node) = steps_from_node node
steps_of_exported_decl (exported_ts_module _) = []
steps_of_exported_decl (exported_ts_type_alias node) = steps_from_node node

abbrev pub steps_of_default_export : TreeNode → Option Kind → List ReferenceGraphStep
steps_of_default_export decl (Some (Kind.Decl (Decl.ClassExpr _ _))) = steps_from_class_child decl
steps_of_default_export decl (Some (Kind.Decl (Decl.FnExpr _ _))) = steps_from_function_child decl
steps_of_default_export decl (Some (Kind.Decl (Decl.TsInterfaceDecl _ _ _ _))) = steps_from_node decl
steps_of_default_export decl _ = []

-- The steps with which the paths of a declaration begin.
abbrev pub start_steps_of_decl : SymbolNodeView → List ReferenceGraphStep
start_steps_of_decl (program _) = []
start_steps_of_decl (export_decl _ exported) = steps_of_exported_decl exported
start_steps_of_decl (export_default_decl node) = option_map_or (λ decl. steps_of_default_export decl (kind_of decl)) (child_in_field node decl_child_of) []
start_steps_of_decl (export_default_expr node) = start_edge_steps node
start_steps_of_decl (class_decl node) = steps_from_class_child node
start_steps_of_decl (fn_decl node) = steps_from_function_child node
start_steps_of_decl (ts_enum node) = steps_from_node node
start_steps_of_decl (ts_interface node) = steps_from_node node
start_steps_of_decl (ts_namespace _) = []
start_steps_of_decl (ts_type_alias node) = steps_from_node node
start_steps_of_decl (var _ declarator _) = steps_from_node declarator
start_steps_of_decl (using_var _ declarator _) = steps_from_node declarator
start_steps_of_decl (auto_accessor node) = start_edge_steps node
start_steps_of_decl (class_method node) = start_edge_steps node ++ steps_from_function_child node
start_steps_of_decl (class_prop node) = start_edge_steps node
start_steps_of_decl (class_param_prop node) = steps_from_node node
start_steps_of_decl (constructor node) = start_edge_steps node
start_steps_of_decl (expando_property node) = start_edge_steps node
start_steps_of_decl (ts_index_signature node) = steps_from_node node
start_steps_of_decl (ts_call_signature_decl node) = steps_from_node node
start_steps_of_decl (ts_construct_signature_decl node) = steps_from_node node
start_steps_of_decl (ts_property_signature node) = steps_from_node node
start_steps_of_decl (ts_getter_signature node) = steps_from_node node
start_steps_of_decl (ts_setter_signature node) = steps_from_node node
start_steps_of_decl (ts_method_signature node) = steps_from_node node

-- ---- the list of a declaration

abbrev pub dependency_of_occurrence : DependencyOccurrence → NamespacedReference
dependency_of_occurrence found = found.dependency

-- The list has exactly the dependencies on paths that begin with these steps, in the order of the paths. The namespace is the last mark's,
-- else the value namespace.
pub record AreDependenciesOfAllOccurrences (mode : ResolveDepsMode) (first : List ReferenceGraphStep) (list : List NamespacedReference) : Type 0 where
  pub all : List DependencyOccurrence
  pub are : AreAllDependencyOccurrencesInOrder reference_graph mode In.Value first all
  pub listed : list ≡ map dependency_of_occurrence all

-- The same list as a function: no path has more steps than the tree has levels.
unfoldable pub dependencies_of_all_occurrences : ResolveDepsMode → List ReferenceGraphStep → List NamespacedReference
dependencies_of_all_occurrences mode first = map dependency_of_occurrence
    (occurrences_within_steps reference_graph mode (path_length_bound first) In.Value first)

-- The dependencies of a declaration.
abbrev pub dependencies : ResolveDepsMode → SymbolNodeView → List NamespacedReference
dependencies mode node = dependencies_of_all_occurrences mode (start_steps_of_decl node)

abbrev pub dependencies_of_exported_decl : ResolveDepsMode → ExportDeclView → List NamespacedReference
dependencies_of_exported_decl mode exported = dependencies_of_all_occurrences mode (steps_of_exported_decl exported)
