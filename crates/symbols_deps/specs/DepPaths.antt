-- The references that a declaration depends on, and their order, by the open paths from the declaration to them.
use Rattle.std.specs.Prelude.{◌≡◌, ℕ, zero, suc, ◌+◌, ◌-◌, ◌<◌, max, Bool, true, not, ◌||◌, if◌then◌else◌}
use Rattle.std.specs.Prelude.{length, List, [], ◌∷◌, ◌++◌, map, Option, Some, None, Contains, slice_get}
use Rattle.std.specs.Option.{unwrap_or}
use Rattle.symbols_ast.specs.NodeRefs.{TreeNode}
use Rattle.symbols_nodes.specs.declared.deps.dep.ReferenceNamespace.{ReferenceNamespace}
use Rattle.symbols_nodes.specs.declared.deps.dep.ResolveDepsMode.{ResolveDepsMode}
use Rattle.symbols_deps.specs.declared.rules.PatternContext.{PatternContext}
use Rattle.symbols_nodes.specs.References.{SymbolReference, NamespacedReference, visits_expressions}

-- A node with the form in which an edge enters it.
pub record ReferenceGraphVertex : Type 0 where
  pub node : TreeNode
  pub form : PatternContext

-- A step: the vertex that it enters, the namespace that it marks references with, if any, and whether only the mode with expressions
-- follows it.
pub record ReferenceGraphStep : Type 0 where
  pub to : ReferenceGraphVertex
  pub mark : Option ReferenceNamespace
  pub needs_expressions : Bool

abbrev pub is_step_followed_in_mode : ResolveDepsMode → ReferenceGraphStep → Bool
is_step_followed_in_mode mode step = visits_expressions mode || not step.needs_expressions

-- For each vertex its reference, if it is one, and its steps in order.
pub record ReferenceGraph : Type 0 where
  pub reference : ReferenceGraphVertex → Option SymbolReference
  pub steps : ReferenceGraphVertex → List ReferenceGraphStep

-- A path is a list of indices: the first of these steps, and each later step among those of the vertex before. Each step must be open in
-- the mode. The path's marks and its end are further indices of the relation.
pub data IsReferencePathFollowedInMode (graph : ReferenceGraph) (mode : ResolveDepsMode) : List ReferenceGraphStep → List ℕ → List (Option ReferenceNamespace)
    → ReferenceGraphVertex → Type 0 where
  ends : {steps : List ReferenceGraphStep} {i : ℕ} (step : ReferenceGraphStep)
      → slice_get steps i ≡ Some step → is_step_followed_in_mode mode step ≡ true
      → IsReferencePathFollowedInMode graph mode steps (i ∷ []) (step.mark ∷ []) step.to
  first_step_followed_by_path : {steps : List ReferenceGraphStep} {i : ℕ} {path : List ℕ} {marks : List (Option ReferenceNamespace)}
      {end : ReferenceGraphVertex}
      (step : ReferenceGraphStep)
      → slice_get steps i ≡ Some step → is_step_followed_in_mode mode step ≡ true → IsReferencePathFollowedInMode graph mode
      (graph.steps step.to) path marks end
      → IsReferencePathFollowedInMode graph mode steps (i ∷ path) (step.mark ∷ marks) end

-- The namespace of the last step with a mark; the given namespace if no step has one.
abbrev pub last_marked_namespace : ReferenceNamespace → List (Option ReferenceNamespace) → ReferenceNamespace
last_marked_namespace namespace [] = namespace
last_marked_namespace namespace (mark ∷ marks) = last_marked_namespace (unwrap_or mark namespace) marks

-- An open path leads from these steps to the reference. Its namespace is the last mark on the path, else the given namespace.
pub record IsDependencyAtPath (graph : ReferenceGraph) (mode : ResolveDepsMode) (namespace : ReferenceNamespace) (steps : List ReferenceGraphStep) (path : List
    ℕ) (dependency : NamespacedReference) : Type 0 where
  pub end : ReferenceGraphVertex
  pub marks : List (Option ReferenceNamespace)
  pub reaches : IsReferencePathFollowedInMode graph mode steps path marks end
  pub refers : graph.reference end ≡ Some dependency.reference
  pub marked : dependency.namespace ≡ last_marked_namespace namespace marks

-- The lexicographic order of paths; a path is before those that continue it.
pub data IsPathBefore : List ℕ → List ℕ → Type 0 where
  continues : {i : ℕ} {path : List ℕ} → IsPathBefore [] (i ∷ path)
  lower_step : {i j : ℕ} {path other : List ℕ} → i < j → IsPathBefore (i ∷ path) (j ∷ other)
  same_step : {i : ℕ} {path other : List ℕ} → IsPathBefore path other → IsPathBefore (i ∷ path) (i ∷ other)

-- A dependency, and the path that leads to it.
pub record DependencyOccurrence : Type 0 where
  pub path : List ℕ
  pub dependency : NamespacedReference

-- Each path is before the paths of all later dependencies.
pub data AreInPathOrder : List DependencyOccurrence → Type 0 where
  no_path : AreInPathOrder []
  first_path : {found : DependencyOccurrence} {rest : List DependencyOccurrence}
      → ((other : DependencyOccurrence) → Contains rest other → IsPathBefore found.path other.path)
      → AreInPathOrder rest → AreInPathOrder (found ∷ rest)

-- The list has exactly the dependencies on paths that begin with these steps, in the order of the paths.
pub record AreAllDependencyOccurrencesInOrder (graph : ReferenceGraph) (mode : ResolveDepsMode) (namespace : ReferenceNamespace)
    (steps : List ReferenceGraphStep) (all : List
    DependencyOccurrence) : Type 0 where
  pub are_all_dependencies : (found : DependencyOccurrence) → Contains all found → IsDependencyAtPath graph mode namespace steps found.path found.dependency
  pub has_every_dependency : (path : List ℕ) (dependency : NamespacedReference) → IsDependencyAtPath graph mode namespace steps path dependency
      → Contains all (record { path = path; dependency = dependency })
  pub in_order : AreInPathOrder all

-- ---- the list as a function that computes it

-- The dependency of the vertex itself, on the empty path.
abbrev pub occurrences_at_vertex : ReferenceNamespace → Option SymbolReference → List DependencyOccurrence
occurrences_at_vertex namespace None = []
occurrences_at_vertex namespace (Some reference) = record { path = []; dependency = record { reference = reference; namespace = namespace } } ∷ []

-- The path with one more step at its front.
abbrev pub prepend_step : ℕ → DependencyOccurrence → DependencyOccurrence
prepend_step i found = record found { path = i ∷ found.path }

-- The dependencies after each open step, where the first step has index i.
abbrev pub occurrences_after_steps : ResolveDepsMode → (ReferenceNamespace → ReferenceGraphVertex → List DependencyOccurrence) → ReferenceNamespace → ℕ
    → List ReferenceGraphStep → List DependencyOccurrence
occurrences_after_steps mode inner namespace i [] = []
occurrences_after_steps mode inner namespace i (step ∷ steps) =
    (if is_step_followed_in_mode mode step then map (prepend_step i) (inner (unwrap_or step.mark namespace) step.to) else [])
    ++ occurrences_after_steps mode inner namespace (i + 1) steps

-- The dependencies on paths of a bounded number of steps.
unfoldable pub occurrences_within_steps : ReferenceGraph → ResolveDepsMode → ℕ → ReferenceNamespace → List ReferenceGraphStep → List DependencyOccurrence
occurrences_within_steps graph mode zero namespace steps = []
occurrences_within_steps graph mode (suc levels) namespace steps =
    occurrences_after_steps mode (λ marked vertex. occurrences_at_vertex marked (graph.reference vertex)
    ++ occurrences_within_steps graph mode levels marked (graph.steps vertex)) namespace 0 steps

-- A bound on the length of paths that begin with these steps: each step enters a node of a greater number.
abbrev pub path_length_bound : List ReferenceGraphStep → ℕ
path_length_bound [] = 0
path_length_bound (step ∷ steps) = max (suc (length step.to.node.tree.nodes.items - step.to.node.number)) (path_length_bound steps)

-- The first list is a subsequence of the second one.
pub data IsSubsequence {A : Type 0} : List A → List A → Type 0 where
  nothing_left : IsSubsequence [] []
  keeps : {x : A} {xs ys : List A} → IsSubsequence xs ys → IsSubsequence (x ∷ xs) (x ∷ ys)
  leaves_out : {y : A} {xs ys : List A} → IsSubsequence xs ys → IsSubsequence xs (y ∷ ys)
