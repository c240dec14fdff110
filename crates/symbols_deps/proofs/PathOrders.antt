-- Lists in the order of their paths: one whose entries are all in another is a subsequence of it.
use Rattle.std.proofs.Common.{◌≡◌, ℕ, ◌≤◌, length, inl, inr, List, [], ◌∷◌, map, Option, refl, sym, ◌∙◌, ap, subst, arith}
use Rattle.std.specs.Prelude.{Contains}
use Rattle.symbols_nodes.specs.declared.deps.dep.ReferenceNamespace.{ReferenceNamespace}
use Rattle.symbols_nodes.specs.declared.deps.dep.ResolveDepsMode.{ResolveDepsMode}
use Rattle.symbols_nodes.specs.declared.deps.dep.ResolveDepsMode.TheVariants.{TypesAndExpressions}
use Rattle.symbols_nodes.specs.References.{NamespacedReference}
use Rattle.symbols_deps.specs.DepPaths.{ReferenceGraphVertex, ReferenceGraphStep, ReferenceGraph, IsReferencePathFollowedInMode, ends}
use Rattle.symbols_deps.specs.DepPaths.{first_step_followed_by_path, IsDependencyAtPath}
use Rattle.symbols_deps.specs.DepPaths.{IsPathBefore, continues, lower_step, same_step}
use Rattle.symbols_deps.specs.DepPaths.{DependencyOccurrence, AreInPathOrder, no_path, first_path, AreAllDependencyOccurrencesInOrder, IsSubsequence}
use Rattle.symbols_deps.specs.DepPaths.{nothing_left, keeps}
use Rattle.symbols_deps.specs.DepPaths.{leaves_out}
use Rattle.symbols_deps.proofs.PathLists.{contains_head, contains_tail, head_or_tail, contains_nothing}

before_transitive : (a b c : List ℕ) → IsPathBefore a b → IsPathBefore b c → IsPathBefore a c
before_transitive [] [] c first second = elim first [ ]
before_transitive [] (j ∷ b) [] first second = elim second [ ]
before_transitive (i ∷ a) [] c first second = elim first [ ]
before_transitive (i ∷ a) (j ∷ b) [] first second = elim second [ ]
before_transitive [] (j ∷ b) (k ∷ c) first second = continues
before_transitive (i ∷ a) (j ∷ b) (k ∷ c) (lower_step low) (lower_step high) = lower_step (omega arith)
before_transitive (i ∷ a) (j ∷ b) (k ∷ c) (lower_step low) (same_step second) = lower_step low
before_transitive (i ∷ a) (j ∷ b) (k ∷ c) (same_step first) (lower_step high) = lower_step high
before_transitive (i ∷ a) (j ∷ b) (k ∷ c) (same_step first) (same_step second) = same_step (before_transitive a b c first second)

paths_differ : (a b : List ℕ) → IsPathBefore a b → a ≡ b → ⊥
paths_differ [] [] before e = elim before [ ]
paths_differ (i ∷ a) [] before e = elim before [ ]
paths_differ [] (j ∷ b) continues e = let no : ⊥ = cc in no
paths_differ (i ∷ a) (j ∷ b) (lower_step low) e = let same : i ≡ j = cc in omega arith
paths_differ (i ∷ a) (j ∷ b) (same_step first) e = let same : a ≡ b = cc in paths_differ a b first same

entries_differ : (f g : DependencyOccurrence) → IsPathBefore f.path g.path → f ≡ g → ⊥
entries_differ f g before same = paths_differ f.path g.path before (ap (λ (h : DependencyOccurrence). h.path) same)

-- A list in path order is a subsequence of another such list that contains all its entries.
subsequence_by_order : (xs ys : List DependencyOccurrence) → AreInPathOrder xs → AreInPathOrder ys
    → ((f : DependencyOccurrence) → Contains xs f → Contains ys f)
    → IsSubsequence xs ys
subsequence_by_order [] [] in_xs in_ys among = nothing_left
subsequence_by_order [] (y ∷ ys) in_xs (first_path first rest) among =
    leaves_out (subsequence_by_order [] ys no_path rest (λ f has. absurd (contains_nothing f has)))
subsequence_by_order (x ∷ xs) [] in_xs in_ys among = absurd (contains_nothing x (among x (contains_head x xs)))
subsequence_by_order (x ∷ xs) (y ∷ ys) (first_path x_first x_rest) (first_path y_first y_rest) among =
    elim (head_or_tail y x ys (among x (contains_head x xs))) [
      | inl same ↦
          subst (λ (z : DependencyOccurrence). IsSubsequence (x ∷ xs) (z ∷ ys)) (sym same)
          (keeps (subsequence_by_order xs ys x_rest y_rest
          (λ f has. elim (head_or_tail y f ys (among f (contains_tail x f xs has))) [
            | inl again ↦ absurd (entries_differ x f (x_first f has) (sym same ∙ again))
            | inr h ↦ h
          ])))
      | inr later_on ↦
          leaves_out (subsequence_by_order (x ∷ xs) ys (first_path x_first x_rest) y_rest
          (λ f has. elim (head_or_tail x f xs has) [
            | inl same ↦ subst (λ (z : DependencyOccurrence). Contains ys z) same later_on
            | inr h ↦ elim (head_or_tail y f ys (among f (contains_tail x f xs h))) [
              | inl again ↦ absurd (entries_differ y f (before_transitive y.path x.path f.path (y_first x later_on) (x_first f h)) again)
              | inr deeper ↦ deeper
            ]
          ]))
    ]

pub subsequence_mapped : {A B : Type 0} (f : A → B) (xs ys : List A) → IsSubsequence xs ys → IsSubsequence (map f xs) (map f ys)
subsequence_mapped f [] [] nothing_left = nothing_left
subsequence_mapped f (x ∷ xs) (y ∷ ys) (keeps rest) = keeps (subsequence_mapped f xs ys rest)
subsequence_mapped f (x ∷ xs) [] among = elim among [ ]
subsequence_mapped f xs (y ∷ ys) (leaves_out rest) = leaves_out (subsequence_mapped f xs ys rest)

-- ---- a step that is open in a mode is open with expressions

open_with_expressions : (graph : ReferenceGraph) (mode : ResolveDepsMode) (steps : List ReferenceGraphStep) (path : List ℕ) (marks : List
    (Option ReferenceNamespace)) (end : ReferenceGraphVertex) → IsReferencePathFollowedInMode graph mode steps path marks end
    → IsReferencePathFollowedInMode graph TypesAndExpressions steps path marks end
open_with_expressions graph mode steps [] marks end reaches = elim reaches [ ]
open_with_expressions graph mode steps (i ∷ path) [] end reaches = elim reaches [ ]
open_with_expressions graph mode steps (i ∷ path) (mark ∷ marks) end (ends step occurs opens) = ends step occurs refl
open_with_expressions graph mode steps (i ∷ path) (mark ∷ marks) end (first_step_followed_by_path step occurs opens reaches) =
    first_step_followed_by_path step occurs refl (open_with_expressions graph mode (graph.steps step.to) path marks end reaches)

occurs_with_expressions : (graph : ReferenceGraph) (mode : ResolveDepsMode) (namespace : ReferenceNamespace) (steps : List ReferenceGraphStep) (path : List ℕ)
    (dependency : NamespacedReference) → IsDependencyAtPath graph mode namespace steps path dependency
    → IsDependencyAtPath graph TypesAndExpressions namespace steps path dependency
occurs_with_expressions graph mode namespace steps path dependency d =
    record { end = d.end; marks = d.marks; reaches = open_with_expressions graph mode steps path d.marks d.end d.reaches; refers = d.refers; marked = d.marked }

pub fewer_among_all : (graph : ReferenceGraph) (mode : ResolveDepsMode) (namespace : ReferenceNamespace) (steps : List ReferenceGraphStep)
    (some all : List DependencyOccurrence)
    → AreAllDependencyOccurrencesInOrder graph mode namespace steps some → AreAllDependencyOccurrencesInOrder graph TypesAndExpressions namespace steps all
    → IsSubsequence some all
fewer_among_all graph mode namespace steps some all few full =
    subsequence_by_order some all few.in_order full.in_order
    (λ f has. full.has_every_dependency f.path f.dependency (occurs_with_expressions graph mode namespace steps f.path f.dependency
    (few.are_all_dependencies f has)))

-- ---- two such lists are equal

subsequence_length : {A : Type 0} (xs ys : List A) → IsSubsequence xs ys → length xs ≤ length ys
subsequence_length [] [] nothing_left = omega arith
subsequence_length (x ∷ xs) [] among = elim among [ ]
subsequence_length (x ∷ xs) (y ∷ ys) (keeps rest) = let low = subsequence_length xs ys rest in omega arith
subsequence_length xs (y ∷ ys) (leaves_out rest) = let low = subsequence_length xs ys rest in omega arith

same_by_length : {A : Type 0} (xs ys : List A) → IsSubsequence xs ys → length ys ≤ length xs → xs ≡ ys
same_by_length [] [] nothing_left long = refl
same_by_length (x ∷ xs) [] among long = elim among [ ]
same_by_length (x ∷ xs) (y ∷ ys) (keeps rest) long = ap (λ zs. x ∷ zs) (same_by_length xs ys rest (omega arith))
same_by_length xs (y ∷ ys) (leaves_out rest) long = let low = subsequence_length xs ys rest in absurd (omega arith)

pub same_lists : (graph : ReferenceGraph) (mode : ResolveDepsMode) (namespace : ReferenceNamespace) (steps : List ReferenceGraphStep)
    (these those : List DependencyOccurrence)
    → AreAllDependencyOccurrencesInOrder graph mode namespace steps these → AreAllDependencyOccurrencesInOrder graph mode namespace steps those → these ≡ those
same_lists graph mode namespace steps these those are too =
    let one = subsequence_by_order these those are.in_order too.in_order (λ f has. too.has_every_dependency f.path f.dependency
    (are.are_all_dependencies f has)) in
    let other = subsequence_by_order those these too.in_order are.in_order (λ f has. are.has_every_dependency f.path f.dependency
    (too.are_all_dependencies f has)) in
    same_by_length these those one (subsequence_length those these other)
