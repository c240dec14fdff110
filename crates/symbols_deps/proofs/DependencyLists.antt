-- The list of a declaration's dependencies is exact, and the list in mode types is a subsequence of the list with expressions.
use Rattle.std.proofs.Common.{◌≡◌, List, [], Option, None, Some, refl, le_refl}
use Rattle.std.specs.Prelude.{MatchOption}
use Rattle.std.specs.Option.{option_map_or}
use Rattle.symbols_nodes.specs.declared.deps.dep.ReferenceNamespace.TheVariants as In
use Rattle.symbols_nodes.specs.declared.deps.dep.ResolveDepsMode.{ResolveDepsMode}
use Rattle.symbols_nodes.specs.declared.deps.dep.ResolveDepsMode.TheVariants.{TypesAndExpressions}
use Rattle.symbols_deps.specs.DepPaths.{ReferenceGraphStep, AreAllDependencyOccurrencesInOrder, IsSubsequence, occurrences_within_steps, path_length_bound}
use Rattle.symbols_nodes.specs.NodeViews.{SymbolNodeView}
use Rattle.symbols_table.specs.DeclViews.{Declaration, decl_kind_node}
use Rattle.symbols_deps.specs.DeclDependencies.{decl_dependencies, AreDeclDependencies}
use Rattle.symbols_deps.specs.Dependencies.{reference_graph, dependency_of_occurrence, dependencies, dependencies_of_all_occurrences, start_steps_of_decl}
use Rattle.symbols_deps.specs.Dependencies.{AreDependenciesOfAllOccurrences}
use Rattle.symbols_nodes.specs.References.{NamespacedReference}
use Rattle.symbols_deps.proofs.PathOrders.{fewer_among_all, subsequence_mapped}
use Rattle.symbols_deps.proofs.StepLemmas.{reaches_below}
use Rattle.symbols_deps.proofs.WholeLists.{computed_are}

listed_are : (mode : ResolveDepsMode) (starts : List ReferenceGraphStep)
    → AreAllDependencyOccurrencesInOrder reference_graph mode In.Value starts (occurrences_within_steps reference_graph mode
    (path_length_bound starts) In.Value starts)
listed_are mode starts = computed_are reference_graph mode reaches_below (path_length_bound starts) In.Value starts (le_refl (path_length_bound starts))

-- The list that the function computes has exactly the dependencies.
pub has_exactly : (mode : ResolveDepsMode) (starts : List ReferenceGraphStep) (list : List NamespacedReference) → list
    ≡ dependencies_of_all_occurrences mode starts
    → AreDependenciesOfAllOccurrences mode starts list
unfolding dependencies_of_all_occurrences
has_exactly mode starts list is =
    record { all = occurrences_within_steps reference_graph mode (path_length_bound starts) In.Value starts; are = listed_are mode starts; listed = is }

-- So has the list of a declaration, with or without a node.
pub decl_has_exactly : (mode : ResolveDepsMode) (decl : Declaration) → AreDeclDependencies mode decl (decl_dependencies mode decl)
decl_has_exactly mode decl = by (decl_kind_node decl.kind)
  where
    by : (node : Option SymbolNodeView) → MatchOption node (option_map_or (dependencies mode) node [] ≡ [])
        (λ (n : SymbolNodeView). AreDependenciesOfAllOccurrences mode (start_steps_of_decl n) (option_map_or (dependencies mode) node []))
    by None = refl
    by (Some n) = has_exactly mode (start_steps_of_decl n) (dependencies mode n) refl

pub types_are_subsequence : (mode : ResolveDepsMode) (starts : List ReferenceGraphStep)
    → IsSubsequence (dependencies_of_all_occurrences mode starts) (dependencies_of_all_occurrences TypesAndExpressions starts)
unfolding dependencies_of_all_occurrences
types_are_subsequence mode starts = subsequence_mapped dependency_of_occurrence _ _
    (fewer_among_all reference_graph mode In.Value starts _ _ (listed_are mode starts) (listed_are TypesAndExpressions starts))

-- What is promised of the list of a declaration.
pub ruleset dependency_lists = (types_are_subsequence, has_exactly)
