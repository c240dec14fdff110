-- Each step enters a node of a greater number in the same tree, which bounds the levels below it.
use Rattle.std.proofs.Common.{◌≡◌, ℕ, suc, zero, ◌+◌, ◌-◌, ◌<◌, ◌≤◌, Bool, true, false, get_or, List, [], ◌∷◌}
use Rattle.std.proofs.Common.{◌++◌, map, length, take, Option, None, Some, refl, sym, ◌∙◌, ap, subst, arith}
use Rattle.std.specs.Prelude.{All, nat_lt, if◌then◌else◌, slice_get, is_some}
use Rattle.std.specs.Option.{option_map, option_and_then, option_to_list, option_map_or}
use Rattle.std.specs.List.{filter_map, flat_map, cons_option}
use Rattle.std.proofs.lemmas.List.Elements.{All-nil, All-cons, All-append}
use Rattle.std.proofs.lemmas.Bool.{ltb-true}
use Rattle.std.proofs.lemmas.List.{take_more}
use Rattle.std.proofs.lemmas.Option.{slice_get_within, get_or_from_slice_get}
use Rattle.symbols_ast.specs.declared.tree.kinds.Kind.{Kind}
use Rattle.symbols_ast.specs.NodeRefs.{TreeNode, kind_of}
use Rattle.symbols_nodes.specs.declared.deps.dep.ReferenceNamespace.{ReferenceNamespace}
use Rattle.symbols_nodes.specs.declared.deps.dep.SymbolNodeDep.{SymbolNodeDep}
use Rattle.symbols_deps.specs.Annotations.{has_type_annotation}
use Rattle.symbols_deps.specs.DepPaths.{ReferenceGraphVertex, ReferenceGraphStep, DependencyOccurrence, occurrences_at_vertex, prepend_step, path_length_bound}
use Rattle.symbols_deps.specs.Dependencies.{step_to_child_of_kind, step_to_child_node, step_to_child_number, steps_to_children_of_edge}
use Rattle.symbols_deps.specs.Dependencies.{steps_to_children_of_edges, steps_from_vertex_of_kind, steps_from, start_edge_steps, dependency_of_occurrence}
use Rattle.symbols_deps.specs.EdgeRules.{FieldEdges}
use Rattle.symbols_deps.specs.EdgeTable.{edges_of_node_in_context, start_edges_of_kind}
use Rattle.symbols_nodes.specs.Readings.{node_of_greater_number}
use Rattle.symbols_nodes.specs.References.{SymbolReference, NamespacedReference, reference_view, namespaced_reference_view, reference_of_node}
use Rattle.symbols_deps.specs.inner.References.{dependency_in_namespace}
use Rattle.symbols_deps.proofs.PathLists.{some_injective}

-- ---- steps enter nodes of greater numbers

pub record IsBelow (node child : TreeNode) : Type 0 where
  pub same_tree : child.tree ≡ node.tree
  pub greater : node.number < child.number
  pub inside : child.number < length child.tree.nodes.items

flat_map_all : {A B : Type 0} (P : B → Type 0) (f : A → List B) → ((x : A) → All P (f x)) → (xs : List A) → All P (flat_map f xs)
flat_map_all P f each [] = All-nil P
flat_map_all P f each (x ∷ xs) = All-append P (f x) (flat_map f xs) (each x) (flat_map_all P f each xs)

cons_option_all : {B : Type 0} (P : B → Type 0) (o : Option B) (ys : List B) → ((y : B) → o ≡ Some y → P y) → All P ys → All P (cons_option o ys)
cons_option_all P None ys each rest = rest
cons_option_all P (Some y) ys each rest = All-cons P y ys (each y refl) rest

filter_map_all : {A B : Type 0} (P : B → Type 0) (h : A → Option B) → ((x : A) (y : B) → h x ≡ Some y → P y) → (xs : List A) → All P (filter_map h xs)
filter_map_all P h each [] = All-nil P
filter_map_all P h each (x ∷ xs) = cons_option_all P (h x) (filter_map h xs) (each x) (filter_map_all P h each xs)

node_below_if : (node child : TreeNode) (n : ℕ) (greater inside : Bool) → (greater ≡ true → node.number < n)
    → (inside ≡ true → n < length node.tree.nodes.items)
    → (if greater then (if inside then Some (let t : TreeNode = record { tree = node.tree; number = n } in t) else None) else None) ≡ Some child
    → IsBelow node child
node_below_if node child n true true g i is =
    let e : (let t : TreeNode = record { tree = node.tree; number = n } in t) ≡ child = cc in
    subst (λ (c : TreeNode). IsBelow node c) e (record { same_tree = refl; greater = g refl; inside = i refl })
node_below_if node child n true false g i is = absurd (let no : ⊥ = cc in no)
node_below_if node child n false inside g i is = absurd (let no : ⊥ = cc in no)

is_below : (node child : TreeNode) (n : ℕ) → node_of_greater_number node n ≡ Some child → IsBelow node child
is_below node child n is = node_below_if node child n (nat_lt node.number n) (nat_lt n (length node.tree.nodes.items)) (λ e. ltb-true node.number n e)
    (λ e. ltb-true n (length node.tree.nodes.items) e) is

kind_below : (node child : TreeNode) (edge : FieldEdges) (kind : Option Kind) (step : ReferenceGraphStep) → IsBelow node child
    → option_map (step_to_child_of_kind edge child) kind ≡ Some step → IsBelow node step.to.node
kind_below node child edge None step below is = absurd (let no : ⊥ = cc in no)
kind_below node child edge (Some kind) step below is =
    subst (λ (s : ReferenceGraphStep). IsBelow node s.to.node) (some_injective (step_to_child_of_kind edge child kind) step is) below

step_below : (node : TreeNode) (edge : FieldEdges) (child : Option TreeNode) (step : ReferenceGraphStep) → ((c : TreeNode) → child ≡ Some c → IsBelow node c)
    → option_and_then (step_to_child_node edge) child ≡ Some step → IsBelow node step.to.node
step_below node edge None step below is = absurd (let no : ⊥ = cc in no)
step_below node edge (Some child) step below is = kind_below node child edge (kind_of child) step (below child refl) is

all_below_at : (vertex : ReferenceGraphVertex) (kind : Option Kind)
    → All (λ (s : ReferenceGraphStep). IsBelow vertex.node s.to.node) (option_map_or (steps_from_vertex_of_kind vertex) kind [])
all_below_at vertex None = All-nil (λ (s : ReferenceGraphStep). IsBelow vertex.node s.to.node)
all_below_at vertex (Some kind) =
    flat_map_all (λ (s : ReferenceGraphStep). IsBelow vertex.node s.to.node) (steps_to_children_of_edge vertex.node)
    (λ edge. filter_map_all (λ (s : ReferenceGraphStep). IsBelow vertex.node s.to.node) (step_to_child_number vertex.node edge)
    (λ n step is. step_below vertex.node edge (node_of_greater_number vertex.node n) step (λ c e. is_below vertex.node c n e) is)
    edge.children)
    (edges_of_node_in_context vertex.node vertex.form (is_some (reference_of_node vertex.node)) (has_type_annotation vertex.node) kind)

all_below : (vertex : ReferenceGraphVertex) → All (λ (s : ReferenceGraphStep). IsBelow vertex.node s.to.node) (steps_from vertex)
unfolding steps_from
all_below vertex = all_below_at vertex (kind_of vertex.node)

pub reaches_below : (vertex : ReferenceGraphVertex) (i : ℕ) (step : ReferenceGraphStep) → slice_get (steps_from vertex) i ≡ Some step
    → IsBelow vertex.node step.to.node
reaches_below vertex i step occurs =
    let below = all_below vertex i step (slice_get_within (steps_from vertex) i step occurs) in
    subst (λ (s : ReferenceGraphStep). IsBelow vertex.node s.to.node) (get_or_from_slice_get (steps_from vertex) i step step occurs) below

-- ---- levels

-- The levels of a step are at most those of all steps.
pub levels_at : (steps : List ReferenceGraphStep) (i : ℕ) (step : ReferenceGraphStep) → slice_get steps i ≡ Some step
    → suc (length step.to.node.tree.nodes.items - step.to.node.number) ≤ path_length_bound steps
levels_at [] i step occurs = absurd (let inside = slice_get_within [] i step occurs in omega arith)
levels_at (first ∷ steps) zero step occurs =
    subst (λ (s : ReferenceGraphStep). suc (length s.to.node.tree.nodes.items - s.to.node.number) ≤ path_length_bound (first ∷ steps))
    (some_injective first step occurs)
    (omega arith)
levels_at (first ∷ steps) (suc i) step occurs = let rest = levels_at steps i step occurs in omega arith

-- Steps that enter nodes of greater numbers than a node's have at most the levels of that node.
pub levels_below : (node : TreeNode) (steps : List ReferenceGraphStep)
    → ((i : ℕ) (step : ReferenceGraphStep) → slice_get steps i ≡ Some step → IsBelow node step.to.node)
    → path_length_bound steps ≤ length node.tree.nodes.items - node.number
levels_below node [] below = omega arith
levels_below node (step ∷ steps) below =
    let rest = levels_below node steps (λ i s occurs. below (suc i) s occurs) in
    let here = below 0 step refl in
    let high : step.to.node.number < length node.tree.nodes.items = rw (← here.same_tree) here.inside in
    let low : node.number < step.to.node.number = here.greater in
    rw here.same_tree (omega arith)

-- ---- lists

pub take_one_more : {A : Type 0} (xs : List A) (i : ℕ) (x : A) → i < length xs → x ≡ get_or xs i x → take (i + 1) xs ≡ take i xs ++ x ∷ []
take_one_more xs i x low is = take_more xs i x low ∙ ap (λ y. take i xs ++ y ∷ []) (sym is)

pub steps_from_kind : (vertex : ReferenceGraphVertex) (kind : Kind) → kind_of vertex.node ≡ Some kind
    → steps_from vertex ≡ steps_from_vertex_of_kind vertex kind
unfolding steps_from
steps_from_kind vertex kind is = rw is refl

pub first_steps_of_kind : (node : TreeNode) (kind : Kind) → kind_of node ≡ Some kind → start_edge_steps node
    ≡ steps_to_children_of_edges node (start_edges_of_kind kind)
unfolding start_edge_steps
first_steps_of_kind node kind is = rw is refl

-- ---- lists of dependencies in the Rust code

pub direct_listed_alone : (namespace : ReferenceNamespace) (reference : Option SymbolReference)
    → map dependency_of_occurrence (occurrences_at_vertex namespace reference) ≡ option_to_list (option_map (dependency_in_namespace namespace) reference)
direct_listed_alone namespace None = refl
direct_listed_alone namespace (Some reference) = refl

pub first_parts_view : (xs : List (SymbolNodeDep × ReferenceNamespace))
    → map reference_view (map (λ (d : SymbolNodeDep × ReferenceNamespace). d.0) xs) ≡ map (λ (d : NamespacedReference). d.reference)
    (map namespaced_reference_view xs)
first_parts_view [] = refl
first_parts_view (x ∷ xs) = ap (λ rest. reference_view x.0 ∷ rest) (first_parts_view xs)

pub without_path_after_step : (i : ℕ) (xs : List DependencyOccurrence) → map dependency_of_occurrence (map (prepend_step i) xs)
    ≡ map dependency_of_occurrence xs
without_path_after_step i [] = refl
without_path_after_step i (x ∷ xs) = ap (λ rest. x.dependency ∷ rest) (without_path_after_step i xs)
