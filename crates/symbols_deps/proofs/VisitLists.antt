-- The dependencies that each function of the visitor appends: those of a list of steps are those of its parts.
use Rattle.std.proofs.Common.{◌≡◌, ℕ, suc, ◌+◌, ◌-◌, ◌<◌, ◌≤◌, Bool, true, false, List, [], ◌∷◌, ◌++◌, map, length, take, get_or, Option}
use Rattle.std.proofs.Common.{None, Some, refl, sym, ◌∙◌, ap, arith, append_assoc, append-nil, le_refl, option_to_list, unwrap_or}
use Rattle.std.specs.Prelude.{if◌then◌else◌, is_some, not, ◌||◌}
use Rattle.std.specs.Option.{option_map}
use Rattle.std.specs.List.{filter_map, flat_map, cons_option}
use Rattle.std.proofs.lemmas.List.{map-append}
use Rattle.std.proofs.lemmas.List.Concat.{flat_map-append}
use Rattle.std.proofs.lemmas.List.Elements.{filter_map-append}
use Rattle.std.specs.declared.alloc.Global.{Global}
use Rattle.std.specs.declared.vec.Vec.{Vec}
use Rattle.symbols_ast.specs.declared.tree.arena.Id.{Id}
use Rattle.symbols_ast.specs.declared.tree.kinds.Kind.{Kind}
use Rattle.symbols_ast.specs.declared.tree.kinds.Expr.{Expr}
use Rattle.symbols_ast.specs.declared.tree.kinds.Ty.{Ty}
use Rattle.symbols_ast.specs.declared.tree.kinds.Pat.{Pat}
use Rattle.symbols_ast.specs.Ids.{id_view}
use Rattle.symbols_ast.specs.NodeRefs.{TreeNode, kind_of}
use Rattle.symbols_nodes.specs.declared.deps.dep.ReferenceNamespace.{ReferenceNamespace}
use Rattle.symbols_nodes.specs.declared.deps.dep.ReferenceNamespace.TheVariants as In
use Rattle.symbols_nodes.specs.declared.deps.dep.ResolveDepsMode.{ResolveDepsMode}
use Rattle.symbols_deps.specs.declared.rules.PatternContext.{PatternContext}
use Rattle.symbols_deps.specs.declared.rules.PatternContextRule.{PatternContextRule}
use Rattle.symbols_deps.specs.declared.rules.NamespaceRule.{NamespaceRule}
use Rattle.symbols_deps.specs.declared.rules.EdgeRuleSet.{EdgeRuleSet}
use Rattle.symbols_deps.specs.Annotations.{has_type_annotation}
use Rattle.symbols_deps.specs.DepPaths.{ReferenceGraphVertex, ReferenceGraphStep, is_step_followed_in_mode, DependencyOccurrence, occurrences_at_vertex}
use Rattle.symbols_deps.specs.DepPaths.{prepend_step, occurrences_after_steps, occurrences_within_steps, path_length_bound}
use Rattle.symbols_deps.specs.Dependencies.{reference_graph, dependency_of_occurrence, step_to_child_of_kind, step_to_child_number, steps_to_children_of_edge}
use Rattle.symbols_deps.specs.Dependencies.{steps_to_children_of_edges, steps_from, start_edge_steps, vertex_of_node, pattern_context_of, edge_namespace}
use Rattle.symbols_deps.specs.Dependencies.{is_guard_for_expressions_mode, dependencies_of_all_occurrences}
use Rattle.symbols_deps.specs.EdgeRules.{FieldEdges, default_edge_rules, edge_rules_with_pattern_context, edge_rules_with_namespace_rule}
use Rattle.symbols_deps.specs.EdgeRules.{edge_rules_marking_namespace, edge_to_child, edges_to_children, edge_to_optional_child}
use Rattle.symbols_deps.specs.EdgeTable.{edges_of_node_in_context, pat_edges_by_context, start_edges_of_kind}
use Rattle.symbols_deps.specs.inner.KnownFacts.{may_be_reference}
use Rattle.symbols_nodes.specs.Readings.{node_of_greater_number}
use Rattle.symbols_nodes.specs.References.{SymbolReference, id, NamespacedReference, reference_of_node, visits_expressions}
use Rattle.symbols_deps.specs.inner.References.{dependency_in_namespace}
use Rattle.symbols_deps.specs.inner.TableParts.{type_part_edge_rules_by_child_kind}
use Rattle.symbols_deps.specs.inner.Visits.{dependencies_along_steps, dependencies_at_and_after_vertex, dependencies_of_edge}
use Rattle.symbols_deps.proofs.KnownLemmas.{refers_by_name, refers_to_nothing}
use Rattle.symbols_deps.proofs.PathOrders.{same_lists}
use Rattle.symbols_deps.proofs.StepLemmas.{reaches_below, levels_below, direct_listed_alone, without_path_after_step}
use Rattle.symbols_deps.proofs.StepLemmas.{steps_from_kind, first_steps_of_kind, take_one_more}
use Rattle.symbols_deps.proofs.WholeLists.{computed_are}

-- ---- more levels than are enough change nothing

enough_levels : (mode : ResolveDepsMode) (namespace : ReferenceNamespace) (steps : List ReferenceGraphStep) (levels more : ℕ) → path_length_bound steps ≤ levels
    → path_length_bound steps ≤ more
    → occurrences_within_steps reference_graph mode levels namespace steps ≡ occurrences_within_steps reference_graph mode more namespace steps
enough_levels mode namespace steps levels more enough also =
    same_lists reference_graph mode namespace steps (occurrences_within_steps reference_graph mode levels namespace steps)
    (occurrences_within_steps reference_graph mode more namespace steps)
    (computed_are reference_graph mode reaches_below levels namespace steps enough)
    (computed_are reference_graph mode reaches_below more namespace steps also)

-- ---- step by step

-- The dependencies after a step, from those at and below each vertex.
abbrev later_step : ResolveDepsMode → (ReferenceNamespace → ReferenceGraphVertex → List NamespacedReference) → ReferenceNamespace → ReferenceGraphStep
    → List NamespacedReference
later_step mode inner namespace step = if is_step_followed_in_mode mode step then inner (unwrap_or step.mark namespace) step.to else []

without_path_if : (i : ℕ) (xs : List DependencyOccurrence) (test : Bool)
    → map dependency_of_occurrence (if test then map (prepend_step i) xs else []) ≡ (if test then map dependency_of_occurrence xs else [])
without_path_if i xs true = without_path_after_step i xs
without_path_if i xs false = refl

after_listed : (mode : ResolveDepsMode) (inner : ReferenceNamespace → ReferenceGraphVertex → List DependencyOccurrence) (namespace : ReferenceNamespace) (i : ℕ)
    (steps : List ReferenceGraphStep)
    → map dependency_of_occurrence (occurrences_after_steps mode inner namespace i steps)
    ≡ flat_map (later_step mode (λ marked vertex. map dependency_of_occurrence (inner marked vertex)) namespace) steps
after_listed mode inner namespace i [] = refl
after_listed mode inner namespace i (step ∷ steps) =
    let here = inner (unwrap_or step.mark namespace) step.to in
    let rest = after_listed mode inner namespace (i + 1) steps in
    map-append dependency_of_occurrence (if is_step_followed_in_mode mode step then map (prepend_step i) here else [])
    (occurrences_after_steps mode inner namespace (i + 1) steps)
    ∙ (ap (λ (ds : List NamespacedReference). ds ++ map dependency_of_occurrence (occurrences_after_steps mode inner namespace (i + 1) steps))
    (without_path_if i here (is_step_followed_in_mode mode step))
    ∙ ap (λ (ds : List NamespacedReference). (if is_step_followed_in_mode mode step then map dependency_of_occurrence here else []) ++ ds) rest)

abbrev within_vertex : ResolveDepsMode → ℕ → ReferenceNamespace → ReferenceGraphVertex → List NamespacedReference
within_vertex mode levels marked vertex =
    map dependency_of_occurrence (occurrences_at_vertex marked (reference_of_node vertex.node) ++ occurrences_within_steps reference_graph mode levels marked
    (steps_from vertex))

within_listed : (mode : ResolveDepsMode) (namespace : ReferenceNamespace) (levels : ℕ) (steps : List ReferenceGraphStep)
    → map dependency_of_occurrence (occurrences_within_steps reference_graph mode (suc levels) namespace steps)
    ≡ flat_map (later_step mode (within_vertex mode levels) namespace) steps
unfolding occurrences_within_steps
within_listed mode namespace levels steps =
    after_listed mode (λ marked vertex. occurrences_at_vertex marked (reference_of_node vertex.node)
    ++ occurrences_within_steps reference_graph mode levels marked (steps_from vertex)) namespace 0 steps

vertex_listed : (mode : ResolveDepsMode) (marked : ReferenceNamespace) (vertex : ReferenceGraphVertex) (levels : ℕ)
    → path_length_bound (steps_from vertex) ≤ levels
    → within_vertex mode levels marked vertex ≡ dependencies_at_and_after_vertex mode marked vertex
unfolding dependencies_along_steps
vertex_listed mode marked vertex levels enough =
    let direct = occurrences_at_vertex marked (reference_of_node vertex.node) in
    let within = occurrences_within_steps reference_graph mode levels marked (steps_from vertex) in
    map-append dependency_of_occurrence direct within
    ∙ (ap (λ (ds : List NamespacedReference). ds ++ map dependency_of_occurrence within) (direct_listed_alone marked (reference_of_node vertex.node))
    ∙ ap (λ (found : List DependencyOccurrence). option_to_list (option_map (dependency_in_namespace marked) (reference_of_node vertex.node))
    ++ map dependency_of_occurrence found)
    (enough_levels mode marked (steps_from vertex) levels (path_length_bound (steps_from vertex)) enough (le_refl (path_length_bound (steps_from vertex)))))

step_listed : (mode : ResolveDepsMode) (namespace : ReferenceNamespace) (levels : ℕ) (step : ReferenceGraphStep) (test : Bool)
    → length step.to.node.tree.nodes.items - step.to.node.number ≤ levels
    → (if test then within_vertex mode levels (unwrap_or step.mark namespace) step.to else [])
    ≡ (if test then dependencies_at_and_after_vertex mode (unwrap_or step.mark namespace) step.to else [])
step_listed mode namespace levels step true enough =
    let below = levels_below step.to.node (steps_from step.to) (reaches_below step.to) in
    vertex_listed mode (unwrap_or step.mark namespace) step.to levels (omega arith)
step_listed mode namespace levels step false enough = refl

steps_listed : (mode : ResolveDepsMode) (namespace : ReferenceNamespace) (levels : ℕ) (steps : List ReferenceGraphStep) → path_length_bound steps ≤ suc levels
    → flat_map (later_step mode (within_vertex mode levels) namespace) steps ≡ flat_map (later_step mode (dependencies_at_and_after_vertex mode) namespace)
    steps
steps_listed mode namespace levels [] enough = refl
steps_listed mode namespace levels (step ∷ steps) enough =
    let here = step_listed mode namespace levels step (is_step_followed_in_mode mode step) (omega arith) in
    let rest = steps_listed mode namespace levels steps (omega arith) in
    ap (λ (ds : List NamespacedReference). ds ++ flat_map (later_step mode (within_vertex mode levels) namespace) steps) here
    ∙ ap (λ (ds : List NamespacedReference). later_step mode (dependencies_at_and_after_vertex mode) namespace step ++ ds) rest

along_steps : (mode : ResolveDepsMode) (namespace : ReferenceNamespace) (steps : List ReferenceGraphStep)
    → dependencies_along_steps mode namespace steps ≡ flat_map (later_step mode (dependencies_at_and_after_vertex mode) namespace) steps
unfolding dependencies_along_steps
along_steps mode namespace steps =
    ap (λ (found : List DependencyOccurrence). map dependency_of_occurrence found)
    (enough_levels mode namespace steps (path_length_bound steps) (suc (path_length_bound steps)) (le_refl (path_length_bound steps)) (omega arith))
    ∙ (within_listed mode namespace (path_length_bound steps) steps ∙ steps_listed mode namespace (path_length_bound steps) steps (omega arith))

-- ---- along edges

along_nothing : (mode : ResolveDepsMode) (namespace : ReferenceNamespace) → dependencies_along_steps mode namespace [] ≡ []
along_nothing mode namespace = along_steps mode namespace []

along_append : (mode : ResolveDepsMode) (namespace : ReferenceNamespace) (xs ys : List ReferenceGraphStep)
    → dependencies_along_steps mode namespace (xs ++ ys) ≡ dependencies_along_steps mode namespace xs ++ dependencies_along_steps mode namespace ys
along_append mode namespace xs ys =
    rw (along_steps mode namespace (xs ++ ys), along_steps mode namespace xs, along_steps mode namespace ys)
    (flat_map-append (later_step mode (dependencies_at_and_after_vertex mode) namespace) xs ys)

along_edges_of : (mode : ResolveDepsMode) (namespace : ReferenceNamespace) (node : TreeNode) (rows : List FieldEdges)
    → dependencies_along_steps mode namespace (steps_to_children_of_edges node rows) ≡ flat_map (dependencies_of_edge mode namespace node) rows
unfolding dependencies_of_edge
along_edges_of mode namespace node [] = along_nothing mode namespace
along_edges_of mode namespace node (edge ∷ rows) =
    along_append mode namespace (steps_to_children_of_edge node edge) (steps_to_children_of_edges node rows)
    ∙ ap (λ (ds : List NamespacedReference). dependencies_along_steps mode namespace (steps_to_children_of_edge node edge) ++ ds)
    (along_edges_of mode namespace node rows)

-- The dependencies along the edges of a node of a known kind are those along its steps.
pub along_vertex : (mode : ResolveDepsMode) (namespace : ReferenceNamespace) (node : TreeNode) (form : PatternContext) (refers : Bool) (kind : Kind)
    → kind_of node ≡ Some kind → refers ≡ is_some (reference_of_node node)
    → flat_map (dependencies_of_edge mode namespace node) (edges_of_node_in_context node form refers (has_type_annotation node) kind)
    ≡ dependencies_along_steps mode namespace (steps_from (vertex_of_node node form))
along_vertex mode namespace node form refers kind is refers_is =
    ap (λ (b : Bool). flat_map (dependencies_of_edge mode namespace node) (edges_of_node_in_context node form b (has_type_annotation node) kind)) refers_is
    ∙ (sym (along_edges_of mode namespace node (edges_of_node_in_context node form (is_some (reference_of_node node)) (has_type_annotation node) kind))
    ∙ ap (λ (steps : List ReferenceGraphStep). dependencies_along_steps mode namespace steps) (sym (steps_from_kind (vertex_of_node node form) kind is)))

-- ---- along one edge

pub no_children : (mode : ResolveDepsMode) (namespace : ReferenceNamespace) (node : TreeNode) (rules : EdgeRuleSet)
    → dependencies_of_edge mode namespace node (edges_to_children rules []) ≡ []
unfolding dependencies_of_edge
no_children mode namespace node rules = along_nothing mode namespace

module _ (mode : ResolveDepsMode) (namespace : ReferenceNamespace) (node : TreeNode) (rules : EdgeRuleSet) where
  abbrev step_of : ℕ → Option ReferenceGraphStep
  step_of n = step_to_child_number node (edges_to_children rules []) n

  pub no_child : (n : ℕ) → None ≡ node_of_greater_number node n → dependencies_of_edge mode namespace node (edge_to_child rules n) ≡ []
  unfolding dependencies_of_edge
  no_child n unresolved =
      let e : step_of n ≡ None = rw (← unresolved) refl in
      ap (λ (step : Option ReferenceGraphStep). dependencies_along_steps mode namespace (cons_option step [])) e ∙ along_nothing mode namespace

  child_step : (n : ℕ) (child : TreeNode) (kind : Kind) → Some child ≡ node_of_greater_number node n → kind_of child ≡ Some kind
      → dependencies_of_edge mode namespace node (edge_to_child rules n)
      ≡ later_step mode (dependencies_at_and_after_vertex mode) namespace (step_to_child_of_kind (edges_to_children rules []) child kind)
  unfolding dependencies_of_edge
  child_step n child kind there is =
      let step = step_to_child_of_kind (edges_to_children rules []) child kind in
      let e : step_of n ≡ Some step = rw (← there, is) refl in
      ap (λ (found : Option ReferenceGraphStep). dependencies_along_steps mode namespace (cons_option found [])) e
      ∙ (along_steps mode namespace (step ∷ []) ∙ append-nil (later_step mode (dependencies_at_and_after_vertex mode) namespace step))

  pub closed_child : (n : ℕ) (child : TreeNode) (kind : Kind) → Some child ≡ node_of_greater_number node n → kind_of child ≡ Some kind
      → (visits_expressions mode || not (is_guard_for_expressions_mode rules.guard kind)) ≡ false
      → dependencies_of_edge mode namespace node (edge_to_child rules n) ≡ []
  closed_child n child kind there is closed =
      child_step n child kind there is
      ∙ ap (λ (b : Bool). if b then dependencies_at_and_after_vertex mode (unwrap_or (edge_namespace rules.mark kind) namespace)
      (vertex_of_node child (pattern_context_of rules.form kind))
      else []) closed

  pub open_child : (n : ℕ) (child : TreeNode) (kind : Kind) → Some child ≡ node_of_greater_number node n → kind_of child ≡ Some kind
      → (visits_expressions mode || not (is_guard_for_expressions_mode rules.guard kind)) ≡ true
      → dependencies_of_edge mode namespace node (edge_to_child rules n)
      ≡ dependencies_at_and_after_vertex mode (unwrap_or (edge_namespace rules.mark kind) namespace) (vertex_of_node child (pattern_context_of rules.form kind))
  open_child n child kind there is opens =
      child_step n child kind there is
      ∙ ap (λ (b : Bool). if b then dependencies_at_and_after_vertex mode (unwrap_or (edge_namespace rules.mark kind) namespace)
      (vertex_of_node child (pattern_context_of rules.form kind))
      else []) opens

  each_more : (xs : List ℕ) (n : ℕ) → dependencies_of_edge mode namespace node (edges_to_children rules (xs ++ n ∷ []))
      ≡ dependencies_of_edge mode namespace node (edges_to_children rules xs) ++ dependencies_of_edge mode namespace node (edge_to_child rules n)
  unfolding dependencies_of_edge
  each_more xs n =
      ap (λ (steps : List ReferenceGraphStep). dependencies_along_steps mode namespace steps) (filter_map-append step_of xs (n ∷ []))
      ∙ along_append mode namespace (filter_map step_of xs) (filter_map step_of (n ∷ []))

  -- The dependencies after one more child of a list is visited.
  pub each_take_more : (xs : List ℕ) (i n : ℕ) → i < length xs → n ≡ get_or xs i n → (old so_far new : List NamespacedReference)
      → so_far ≡ old ++ dependencies_of_edge mode namespace node (edges_to_children rules (take i xs))
      → new ≡ so_far ++ dependencies_of_edge mode namespace node (edge_to_child rules n)
      → new ≡ old ++ dependencies_of_edge mode namespace node (edges_to_children rules (take (i + 1) xs))
  each_take_more xs i n low is old so_far new before here =
      let before_it = dependencies_of_edge mode namespace node (edges_to_children rules (take i xs)) in
      let at_it = dependencies_of_edge mode namespace node (edge_to_child rules n) in
      let all = sym (each_more (take i xs) n)
      ∙ ap (λ (ys : List ℕ). dependencies_of_edge mode namespace node (edges_to_children rules ys)) (sym (take_one_more xs i n low is)) in
      here ∙ (ap (λ (ds : List NamespacedReference). ds ++ at_it) before ∙
      (append_assoc old before_it at_it ∙ ap (λ (ds : List NamespacedReference). old ++ ds) all))

-- ---- at one node

-- The dependencies at and below a node: its own reference, and those along its edges.
at_its_edges : (mode : ResolveDepsMode) (namespace : ReferenceNamespace) (node : TreeNode) (form : PatternContext) (refers : Bool) (kind : Kind)
    → kind_of node ≡ Some kind → refers ≡ is_some (reference_of_node node)
    → dependencies_at_and_after_vertex mode namespace (vertex_of_node node form) ≡ option_to_list (option_map (dependency_in_namespace namespace)
    (reference_of_node node))
    ++ flat_map (dependencies_of_edge mode namespace node) (edges_of_node_in_context node form refers (has_type_annotation node) kind)
at_its_edges mode namespace node form refers kind is refers_is =
    ap (λ (ds : List NamespacedReference). option_to_list (option_map (dependency_in_namespace namespace) (reference_of_node node)) ++ ds)
    (sym (along_vertex mode namespace node form refers kind is refers_is))

-- The only dependency at an identifier is the identifier itself.
pub at_name : (mode : ResolveDepsMode) (namespace : ReferenceNamespace) (node : TreeNode) (form : PatternContext) (sym : Id)
    → kind_of node ≡ Some (Kind.Expr (Expr.Ident sym))
    → dependencies_at_and_after_vertex mode namespace (vertex_of_node node form) ≡ dependency_in_namespace namespace (id (id_view sym)) ∷ []
at_name mode namespace node form sym is =
    let refers = refers_by_name node sym is in
    at_its_edges mode namespace node form true (Kind.Expr (Expr.Ident sym)) is (rw refers refl)
    ∙ ap (λ (reference : Option SymbolReference). option_to_list (option_map (dependency_in_namespace namespace) reference) ++ []) refers

-- The dependencies of an annotation are those of its type.
pub at_annotation : (mode : ResolveDepsMode) (namespace : ReferenceNamespace) (node : TreeNode) (form : PatternContext) (ty : ℕ)
    → kind_of node ≡ Some (Kind.Ty (Ty.TsTypeAnn ty))
    → dependencies_at_and_after_vertex mode namespace (vertex_of_node node form) ≡ dependencies_of_edge mode namespace node
    (edge_to_child (edge_rules_marking_namespace In.Type) ty)
at_annotation mode namespace node form ty is =
    let nothing = refers_to_nothing node (Kind.Ty (Ty.TsTypeAnn ty)) is refl in
    let inner = dependencies_of_edge mode namespace node (edge_to_child (edge_rules_marking_namespace In.Type) ty) in
    at_its_edges mode namespace node form false (Kind.Ty (Ty.TsTypeAnn ty)) is (rw nothing refl)
    ∙ (ap (λ (reference : Option SymbolReference). option_to_list (option_map (dependency_in_namespace namespace) reference) ++ (inner ++ [])) nothing
    ∙ append-nil inner)

-- A type without children has no dependencies.
at_bare_edges : (mode : ResolveDepsMode) (namespace : ReferenceNamespace) (node : TreeNode) (form : PatternContext) (annotated : Bool) (children : Vec ℕ Global)
    → children.items ≡ []
    → flat_map (dependencies_of_edge mode namespace node) (pat_edges_by_context node form annotated (Pat.Plain children)) ≡ []
at_bare_edges mode namespace node PatternContext.Usual annotated children none =
    rw (
      none,
      no_children mode namespace node
          (edge_rules_with_pattern_context PatternContextRule.SignatureKinds (edge_rules_with_namespace_rule NamespaceRule.ByKind default_edge_rules)),
    ) refl
at_bare_edges mode namespace node PatternContext.Signature annotated children none =
    rw (
      none,
      no_children mode namespace node
          (edge_rules_with_pattern_context PatternContextRule.SignatureKinds (edge_rules_with_namespace_rule NamespaceRule.ByKind default_edge_rules)),
    ) refl
at_bare_edges mode namespace node PatternContext.Property annotated children none = refl

pub at_bare : (mode : ResolveDepsMode) (namespace : ReferenceNamespace) (node : TreeNode) (form : PatternContext) (children : Vec ℕ Global)
    → kind_of node ≡ Some (Kind.Pat (Pat.Plain children)) → children.items ≡ []
    → dependencies_at_and_after_vertex mode namespace (vertex_of_node node form) ≡ []
at_bare mode namespace node form children is none =
    let nothing = refers_to_nothing node (Kind.Pat (Pat.Plain children)) is refl in
    let inner = flat_map (dependencies_of_edge mode namespace node) (pat_edges_by_context node form (has_type_annotation node) (Pat.Plain children)) in
    at_its_edges mode namespace node form false (Kind.Pat (Pat.Plain children)) is (rw nothing refl)
    ∙ (ap (λ (reference : Option SymbolReference). option_to_list (option_map (dependency_in_namespace namespace) reference) ++ inner) nothing
    ∙ at_bare_edges mode namespace node form (has_type_annotation node) children none)

-- The dependencies at and below a node of a known kind.
pub node_and_below : (mode : ResolveDepsMode) (namespace : ReferenceNamespace) (node : TreeNode) (form : PatternContext) (refers : Bool) (kind : Kind)
    → kind_of node ≡ Some kind → refers ≡ is_some (reference_of_node node)
    → (old here new : List NamespacedReference) → here ≡ old ++ option_to_list (option_map (dependency_in_namespace namespace) (reference_of_node node))
    → new ≡ here ++ flat_map (dependencies_of_edge mode namespace node) (edges_of_node_in_context node form refers (has_type_annotation node) kind)
    → new ≡ old ++ dependencies_at_and_after_vertex mode namespace (vertex_of_node node form)
node_and_below mode namespace node form refers kind is refers_is old here new at_it below =
    let direct = option_to_list (option_map (dependency_in_namespace namespace) (reference_of_node node)) in
    let inner = flat_map (dependencies_of_edge mode namespace node) (edges_of_node_in_context node form refers (has_type_annotation node) kind) in
    let along = along_vertex mode namespace node form refers kind is refers_is in
    below ∙ (ap (λ (ds : List NamespacedReference). ds ++ inner) at_it
    ∙ (append_assoc old direct inner ∙ ap (λ (ds : List NamespacedReference). old ++ ds) (ap (λ (ds : List NamespacedReference). direct ++ ds) along)))

-- The same of a node that is no reference.
pub alone_and_below : (mode : ResolveDepsMode) (namespace : ReferenceNamespace) (node : TreeNode) (form : PatternContext) (kind : Kind)
    → kind_of node ≡ Some kind
    → may_be_reference kind ≡ false
    → (old new : List NamespacedReference) → new ≡ old
    ++ flat_map (dependencies_of_edge mode namespace node) (edges_of_node_in_context node form false (has_type_annotation node) kind)
    → new ≡ old ++ dependencies_at_and_after_vertex mode namespace (vertex_of_node node form)
alone_and_below mode namespace node form kind is not_so old new below =
    let nothing = refers_to_nothing node kind is not_so in
    node_and_below mode namespace node form false kind is (rw nothing refl) old old new (rw nothing (sym (append-nil old))) below

-- The edges of a pattern that is an identifier go to its annotation, in every form.
binding_edges : (node : TreeNode) (form : PatternContext) (annotated : Bool) (name : Id) (type_ann : Option ℕ)
    → pat_edges_by_context node form annotated (Pat.BindingIdent name type_ann) ≡ edge_to_optional_child default_edge_rules type_ann ∷ []
binding_edges node PatternContext.Usual annotated name type_ann = refl
binding_edges node PatternContext.Signature annotated name type_ann = refl
binding_edges node PatternContext.Property annotated name type_ann = refl

pub at_binding : (mode : ResolveDepsMode) (namespace : ReferenceNamespace) (node : TreeNode) (form : PatternContext) (name : Id) (type_ann : Option ℕ)
    → kind_of node ≡ Some (Kind.Pat (Pat.BindingIdent name type_ann))
    → dependencies_at_and_after_vertex mode namespace (vertex_of_node node form) ≡ dependencies_of_edge mode namespace node
    (edge_to_optional_child default_edge_rules type_ann)
at_binding mode namespace node form name type_ann is =
    let nothing = refers_to_nothing node (Kind.Pat (Pat.BindingIdent name type_ann)) is refl in
    let along = flat_map (dependencies_of_edge mode namespace node) in
    at_its_edges mode namespace node form false (Kind.Pat (Pat.BindingIdent name type_ann)) is (rw nothing refl)
    ∙ (ap (λ (reference : Option SymbolReference). option_to_list (option_map (dependency_in_namespace namespace) reference)
    ++ along (pat_edges_by_context node form (has_type_annotation node) (Pat.BindingIdent name type_ann))) nothing
    ∙ (ap along (binding_edges node form (has_type_annotation node) name type_ann)
    ∙ append-nil (dependencies_of_edge mode namespace node (edge_to_optional_child default_edge_rules type_ann))))

-- The edges of a type go to its parts, unless it is entered as a parameter property.
pub parts_and_below : (mode : ResolveDepsMode) (namespace : ReferenceNamespace) (node : TreeNode) (form : PatternContext) (children : Vec ℕ Global)
    → kind_of node ≡ Some (Kind.Pat (Pat.Plain children))
    → pat_edges_by_context node form (has_type_annotation node) (Pat.Plain children) ≡ edges_to_children type_part_edge_rules_by_child_kind children.items ∷ []
    → (old new : List NamespacedReference) → new ≡ old ++ dependencies_of_edge mode namespace node
    (edges_to_children type_part_edge_rules_by_child_kind children.items)
    → new ≡ old ++ dependencies_at_and_after_vertex mode namespace (vertex_of_node node form)
parts_and_below mode namespace node form children is rows old new below =
    let inner = dependencies_of_edge mode namespace node (edges_to_children type_part_edge_rules_by_child_kind children.items) in
    alone_and_below mode namespace node form (Kind.Pat (Pat.Plain children)) is refl old new
    (below ∙ ap (λ (ds : List NamespacedReference). old ++ ds) (sym (ap (flat_map (dependencies_of_edge mode namespace node)) rows ∙ append-nil inner)))

pub at_parts : (mode : ResolveDepsMode) (namespace : ReferenceNamespace) (node : TreeNode) (form : PatternContext) (children : Vec ℕ Global)
    → kind_of node ≡ Some (Kind.Pat (Pat.Plain children))
    → pat_edges_by_context node form (has_type_annotation node) (Pat.Plain children) ≡ edges_to_children type_part_edge_rules_by_child_kind children.items ∷ []
    → dependencies_at_and_after_vertex mode namespace (vertex_of_node node form) ≡ dependencies_of_edge mode namespace node
    (edges_to_children type_part_edge_rules_by_child_kind children.items)
at_parts mode namespace node form children is rows =
    sym (parts_and_below mode namespace node form children is rows []
    (dependencies_of_edge mode namespace node (edges_to_children type_part_edge_rules_by_child_kind children.items)) refl)

-- ---- where the visit begins

by_along : (mode : ResolveDepsMode) (steps : List ReferenceGraphStep) → dependencies_of_all_occurrences mode steps
    ≡ dependencies_along_steps mode In.Value steps
unfolding dependencies_of_all_occurrences dependencies_along_steps
by_along mode steps = refl

pub adds_nothing : (mode : ResolveDepsMode) (old : List NamespacedReference) → old ++ dependencies_of_all_occurrences mode [] ≡ old
adds_nothing mode old = ap (λ (ds : List NamespacedReference). old ++ ds) (by_along mode [] ∙ along_nothing mode In.Value) ∙ append-nil old

pub adds_in_round : (mode : ResolveDepsMode) (old : List NamespacedReference) (xs ys : List ReferenceGraphStep)
    → old ++ dependencies_of_all_occurrences mode (xs ++ ys) ≡ (old ++ dependencies_of_all_occurrences mode xs) ++ dependencies_of_all_occurrences mode ys
adds_in_round mode old xs ys =
    let all : dependencies_of_all_occurrences mode (xs ++ ys) ≡ dependencies_of_all_occurrences mode xs ++ dependencies_of_all_occurrences mode ys =
    rw (by_along mode (xs ++ ys), by_along mode xs, by_along mode ys) (along_append mode In.Value xs ys) in
    ap (λ (ds : List NamespacedReference). old ++ ds) all ∙ sym (append_assoc old (dependencies_of_all_occurrences mode xs)
    (dependencies_of_all_occurrences mode ys))

pub begins_at_node : (mode : ResolveDepsMode) (node : TreeNode) (refers : Bool) (kind : Kind) → kind_of node ≡ Some kind
    → refers ≡ is_some (reference_of_node node)
    → flat_map (dependencies_of_edge mode In.Value node) (edges_of_node_in_context node PatternContext.Usual refers (has_type_annotation node) kind)
    ≡ dependencies_of_all_occurrences mode (steps_from (vertex_of_node node PatternContext.Usual))
begins_at_node mode node refers kind is refers_is =
    along_vertex mode In.Value node PatternContext.Usual refers kind is refers_is ∙ sym (by_along mode (steps_from (vertex_of_node node PatternContext.Usual)))

-- The same of a node that is no reference.
pub begins_unnamed : (mode : ResolveDepsMode) (node : TreeNode) (kind : Kind) → kind_of node ≡ Some kind → may_be_reference kind ≡ false
    → flat_map (dependencies_of_edge mode In.Value node) (edges_of_node_in_context node PatternContext.Usual false (has_type_annotation node) kind)
    ≡ dependencies_of_all_occurrences mode (steps_from (vertex_of_node node PatternContext.Usual))
begins_unnamed mode node kind is not_so = begins_at_node mode node false kind is (rw (refers_to_nothing node kind is not_so) refl)

pub begins_at_first : (mode : ResolveDepsMode) (node : TreeNode) (kind : Kind) → kind_of node ≡ Some kind
    → flat_map (dependencies_of_edge mode In.Value node) (start_edges_of_kind kind) ≡ dependencies_of_all_occurrences mode (start_edge_steps node)
begins_at_first mode node kind is =
    sym (along_edges_of mode In.Value node (start_edges_of_kind kind))
    ∙ (ap (λ (steps : List ReferenceGraphStep). dependencies_along_steps mode In.Value steps) (sym (first_steps_of_kind node kind is))
    ∙ sym (by_along mode (start_edge_steps node)))

-- The dependencies at and below a node that is no reference are those along its steps.
pub begins_alone : (mode : ResolveDepsMode) (node : TreeNode) (kind : Kind) → kind_of node ≡ Some kind → may_be_reference kind ≡ false
    → dependencies_at_and_after_vertex mode In.Value (vertex_of_node node PatternContext.Usual) ≡ dependencies_of_all_occurrences mode
    (steps_from (vertex_of_node node PatternContext.Usual))
begins_alone mode node kind is not_so =
    let steps = steps_from (vertex_of_node node PatternContext.Usual) in
    ap (λ (reference : Option SymbolReference). option_to_list (option_map (dependency_in_namespace In.Value) reference)
    ++ dependencies_along_steps mode In.Value steps)
    (refers_to_nothing node kind is not_so)
    ∙ sym (by_along mode steps)
