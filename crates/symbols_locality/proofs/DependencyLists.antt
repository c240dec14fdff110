-- The list of the dependencies of a declaration is unique.
use Rattle.std.proofs.Common.{◌≡◌, ℕ, inl, inr, List, [], ◌∷◌, map, Option, None, Some, refl, sym, ap, subst, ◌∙◌, arith}
use Rattle.std.specs.Prelude.{Contains, MatchOption}
use Rattle.std.specs.List.{AllZip}
use Rattle.symbols_nodes.specs.declared.deps.dep.ResolveDepsMode.{ResolveDepsMode}
use Rattle.symbols_nodes.specs.NodeViews.{SymbolNodeView}
use Rattle.symbols_nodes.specs.References.{NamespacedReference}
use Rattle.symbols_table.specs.DeclViews.{Declaration, decl_kind_node}
use Rattle.symbols_deps.specs.DepPaths.{ReferenceGraphStep, IsPathBefore, continues, lower_step, same_step, DependencyOccurrence, AreInPathOrder}
use Rattle.symbols_deps.specs.DepPaths.{first_path}
use Rattle.symbols_deps.specs.Dependencies.{dependency_of_occurrence, start_steps_of_decl, AreDependenciesOfAllOccurrences}
use Rattle.symbols_deps.specs.DeclDependencies.{AreDeclDependencies}
use Rattle.symbols_locality.proofs.Lists.{first_or_later, contains_first, contains_later, contains_nothing}

-- ---- the order of paths

before_transitive : (a b c : List ℕ) → IsPathBefore a b → IsPathBefore b c → IsPathBefore a c
before_transitive [] [] c first second = elim first [ ]
before_transitive [] (j ∷ b) [] first second = elim second [ ]
before_transitive (i ∷ a) [] c first second = elim first [ ]
before_transitive (i ∷ a) (j ∷ b) [] first second = elim second [ ]
before_transitive [] (j ∷ b) (k ∷ c) first second = continues
before_transitive (i ∷ a) (j ∷ b) (k ∷ c) (lower_step low) (lower_step high) = lower_step (omega arith)
before_transitive (i ∷ a) (j ∷ b) (k ∷ c) (lower_step low) (same_step second) = lower_step low
before_transitive (i ∷ a) (j ∷ b) (k ∷ c) (same_step first) (lower_step high) = lower_step high
before_transitive (i ∷ a) (j ∷ b) (k ∷ c) (same_step first) (same_step second) = same_step (before_transitive a b c first second)

paths_differ : (a b : List ℕ) → IsPathBefore a b → a ≡ b → ⊥
paths_differ [] [] before e = elim before [ ]
paths_differ (i ∷ a) [] before e = elim before [ ]
paths_differ [] (j ∷ b) continues e = let no : ⊥ = cc in no
paths_differ (i ∷ a) (j ∷ b) (lower_step low) e = let same : i ≡ j = cc in omega arith
paths_differ (i ∷ a) (j ∷ b) (same_step first) e = let same : a ≡ b = cc in paths_differ a b first same

not_before_itself : (a : List ℕ) → IsPathBefore a a → ⊥
not_before_itself a before = paths_differ a a before refl

-- ---- lists in this order

-- a later element of a list in order isn't its first
not_first : (x f : DependencyOccurrence) → IsPathBefore x.path f.path → x ≡ f → ⊥
not_first x f before same = not_before_itself x.path (subst (λ (g : DependencyOccurrence). IsPathBefore x.path g.path) (sym same) before)

same_in_order : (xs ys : List DependencyOccurrence) → AreInPathOrder xs → AreInPathOrder ys → ((f : DependencyOccurrence) → Contains xs f → Contains ys f)
    → ((f : DependencyOccurrence) → Contains ys f → Contains xs f) → xs ≡ ys
same_in_order [] [] in_xs in_ys there back = refl
same_in_order [] (y ∷ ys) in_xs in_ys there back = absurd (contains_nothing y (back y (contains_first y ys)))
same_in_order (x ∷ xs) [] in_xs in_ys there back = absurd (contains_nothing x (there x (contains_first x xs)))
same_in_order (x ∷ xs) (y ∷ ys) (first_path x_first x_later) (first_path y_first y_later) there back =
    let head : x ≡ y = elim (first_or_later y ys x (there x (contains_first x xs))) [
      | inl same ↦ sym same
      | inr x_among ↦ elim (first_or_later x xs y (back y (contains_first y ys))) [
        | inl same ↦ same
        | inr y_among ↦ absurd (not_before_itself x.path (before_transitive x.path y.path x.path (x_first y y_among) (y_first x x_among)))
      ]
    ] in
    let later_there : (f : DependencyOccurrence) → Contains xs f → Contains ys f = λ f has. elim (first_or_later y ys f (there f (contains_later x xs f has))) [
      | inl same ↦ absurd (not_first x f (x_first f has) (head ∙ same))
      | inr later ↦ later
    ] in
    let later_back : (f : DependencyOccurrence) → Contains ys f → Contains xs f = λ f has. elim (first_or_later x xs f (back f (contains_later y ys f has))) [
      | inl same ↦ absurd (not_first y f (y_first f has) (sym head ∙ same))
      | inr later ↦ later
    ] in
    let tail : xs ≡ ys = same_in_order xs ys x_later y_later later_there later_back in
    ap (λ (z : DependencyOccurrence). z ∷ xs) head ∙ ap (λ (zs : List DependencyOccurrence). y ∷ zs) tail

-- ---- the dependencies of declarations

same_list : (mode : ResolveDepsMode) (steps : List ReferenceGraphStep) (a b : List NamespacedReference) → AreDependenciesOfAllOccurrences mode steps a
    → AreDependenciesOfAllOccurrences mode steps b → a ≡ b
same_list mode steps a b one two =
    let same : one.all ≡ two.all = same_in_order one.all two.all one.are.in_order two.are.in_order
    (λ f has. two.are.has_every_dependency f.path f.dependency (one.are.are_all_dependencies f has))
    (λ f has. one.are.has_every_dependency f.path f.dependency (two.are.are_all_dependencies f has)) in
    one.listed ∙ (ap (map dependency_of_occurrence) same ∙ sym two.listed)

same_of_decl : (mode : ResolveDepsMode) (decl : Declaration) (a b : List NamespacedReference) → AreDeclDependencies mode decl a
    → AreDeclDependencies mode decl b
    → a ≡ b
same_of_decl mode decl a b = by (decl_kind_node decl.kind)
  where
    by : (node : Option SymbolNodeView) → MatchOption node (a ≡ []) (λ n. AreDependenciesOfAllOccurrences mode (start_steps_of_decl n) a)
        → MatchOption node (b ≡ []) (λ n. AreDependenciesOfAllOccurrences mode (start_steps_of_decl n) b) → a ≡ b
    by None x y = x ∙ sym y
    by (Some n) x y = same_list mode (start_steps_of_decl n) a b x y

pub same_dependencies : (mode : ResolveDepsMode) (decls : List Declaration) (a b : List (List NamespacedReference))
    → AllZip (AreDeclDependencies mode) decls a → AllZip (AreDeclDependencies mode) decls b → a ≡ b
same_dependencies mode [] [] [] x y = refl
same_dependencies mode [] [] (v ∷ b) x y = absurd y
same_dependencies mode [] (u ∷ a) b x y = absurd x
same_dependencies mode (decl ∷ decls) [] b x y = absurd x
same_dependencies mode (decl ∷ decls) (u ∷ a) [] x y = absurd y
same_dependencies mode (decl ∷ decls) (u ∷ a) (v ∷ b) x y =
    let head : u ≡ v = same_of_decl mode decl u v x.0 y.0 in
    let tail : a ≡ b = same_dependencies mode decls a b x.1 y.1 in
    cc
