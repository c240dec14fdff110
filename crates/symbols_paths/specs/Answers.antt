-- The contract of `find_definition_paths`.
use Rattle.std.specs.Prelude.{◌≡◌, ◌≢◌, ◌<◌, ◌≤◌, ◌⊎◌, List, [], ◌∷◌, length, Contains, Option, None}
use Rattle.symbols_ast.specs.declared.ids.ModuleId.{ModuleId}
use Rattle.symbols_ast.specs.declared.ids.SymbolId.{SymbolId}
use Rattle.symbols_ast.specs.Graph.{GraphView}
use Rattle.symbols_table.specs.declared.info.fault.SymbolsFault.{SymbolsFault}
use Rattle.symbols_table.specs.declared.info.fault.SymbolsFault.TheVariants.{UnknownModule, UnknownSymbol}
use Rattle.symbols_table.specs.SymbolViews.{SymbolView}
use Rattle.symbols_root.specs.declared.rules.Rules.{Rules}
use Rattle.symbols_root.specs.Roots.{RootView, specifier_in}
use Rattle.symbols_root.specs.Calls.{IsStored}
use Rattle.symbols_root.specs.GraphModules.{symbol_in_module}
use Rattle.symbols_paths.specs.declared.definition_path.DefinitionPathNode.{DefinitionPathNode}
use Rattle.symbols_paths.specs.PathTrees.{SymbolBySpecifier, QualifiedNameParts, PathLeaf, PathForest, leaves_of_forest, HasDistinctDefinitions}
use Rattle.symbols_paths.specs.PartTargets.{search_targets_of}
use Rattle.symbols_paths.specs.Derived.{IsForestByAnyCandidates, IsForestWithPartsByAnyCandidates}
use Rattle.symbols_paths.specs.FirstReach.{IsLeafOfSymbol, IsLeafWithParts, IsLeafByFirstCandidatesNoAlias, IsLeafWithAnyPartsResolved}
use Rattle.symbols_paths.specs.FirstReach.{HasCandidateLeavesIfPartUnresolved}
use Rattle.symbols_paths.specs.AliasSearches.{IsLeafByFirstCandidatesOrAlias, IsLeafByFirstCandidatesWithParts, HasNoAliasCycle}
use Rattle.symbols_paths.specs.AliasSearches.{HasUniqueRemainingPartsInEachSearch}
use Rattle.symbols_paths.specs.AliasSearches.{HasUniqueRemainingPartsInMainSearch, ReachesNoAlias}
use Rattle.symbols_paths.specs.Choice.{IsForestFoundBySearch, IsForestFoundBySearchWithParts}
use Rattle.symbols_paths.specs.Views.{symbol_by_specifier, paths_by_specifier, modules_of_paths, AreModulesStored}
use Rattle.symbols_paths.specs.NeededModules.{IsFaultOfStoringNeededBySearch}

-- the paths of a symbol under parts. `is_forest_by_any_candidates`: the list can be derived. `has_only_leaves_of_symbol`: each leaf is one
-- of the symbol's under the parts. `has_first_candidate_leaves`: a leaf of first reach is in the list, as the leaf it comes to under the
-- parts. `loses_no_leaf`: no leaf that first candidates lead to is lost, if no alias takes part in resolving itself, and no search reaches
-- a symbol with two different remaining parts. `loses_no_leaf_without_alias`: the same if the query's own search reaches no alias, and no
-- symbol with two different remaining parts. `is_found_by_search`: it is the list that the search returns.
pub record AreDefinitionPathsWithParts (rules : Rules) (graph : GraphView) (s : SymbolBySpecifier) (ps : QualifiedNameParts) (paths : PathForest) : Type 0 where
  pub is_forest_by_any_candidates : IsForestWithPartsByAnyCandidates (search_targets_of rules graph) s ps paths
  pub has_only_leaves_of_symbol : (x : PathLeaf) → Contains (leaves_of_forest paths) x → IsLeafWithParts (search_targets_of rules graph) s ps x
  pub has_first_candidate_leaves : (x y : PathLeaf) → IsLeafByFirstCandidatesNoAlias (search_targets_of rules graph) s x → IsLeafWithAnyPartsResolved
      (search_targets_of rules graph) ps x y
      → Contains (leaves_of_forest paths) y
  pub loses_no_leaf : HasNoAliasCycle (search_targets_of rules graph) s ps → HasUniqueRemainingPartsInEachSearch (search_targets_of rules graph) s ps →
      (x : PathLeaf)
      → IsLeafByFirstCandidatesWithParts (search_targets_of rules graph) s ps x → Contains (leaves_of_forest paths) x
  pub loses_no_leaf_without_alias : ReachesNoAlias (search_targets_of rules graph) s ps → HasUniqueRemainingPartsInMainSearch
      (search_targets_of rules graph) s ps → (x : PathLeaf)
      → IsLeafByFirstCandidatesWithParts (search_targets_of rules graph) s ps x → Contains (leaves_of_forest paths) x
  pub is_found_by_search : IsForestFoundBySearchWithParts (search_targets_of rules graph) s ps paths

-- the paths of a symbol without parts, as above, but for `loses_no_leaf_without_alias` it is enough that the query's own search reaches no
-- alias. `has_no_duplicates`: if it reaches none, no declaration is a definition twice. `unresolved_parts_come_last`: an unresolved part,
-- unless after an alias, occurs only if all leaves of first reach of its candidates do.
pub record AreDefinitionPaths (rules : Rules) (graph : GraphView) (s : SymbolBySpecifier) (paths : PathForest) : Type 0 where
  pub is_forest_by_any_candidates : IsForestByAnyCandidates (search_targets_of rules graph) s paths
  pub has_only_leaves_of_symbol : (x : PathLeaf) → Contains (leaves_of_forest paths) x → IsLeafOfSymbol (search_targets_of rules graph) s x
  pub has_first_candidate_leaves : (x : PathLeaf) → IsLeafByFirstCandidatesNoAlias (search_targets_of rules graph) s x → Contains (leaves_of_forest paths) x
  pub has_no_duplicates : ReachesNoAlias (search_targets_of rules graph) s [] → HasDistinctDefinitions (leaves_of_forest paths)
  pub unresolved_parts_come_last : HasCandidateLeavesIfPartUnresolved rules graph paths (leaves_of_forest paths)
  pub loses_no_leaf : HasNoAliasCycle (search_targets_of rules graph) s [] → HasUniqueRemainingPartsInEachSearch (search_targets_of rules graph) s [] →
      (x : PathLeaf)
      → IsLeafByFirstCandidatesOrAlias (search_targets_of rules graph) s x
      → Contains (leaves_of_forest paths) x
  pub loses_no_leaf_without_alias : ReachesNoAlias (search_targets_of rules graph) s [] → (x : PathLeaf) → IsLeafByFirstCandidatesOrAlias
      (search_targets_of rules graph) s x
      → Contains (leaves_of_forest paths) x
  pub is_found_by_search : IsForestFoundBySearch (search_targets_of rules graph) s paths

-- the paths of a symbol under any parts, or without parts
abbrev pub AreDefinitionPathsWithAnyParts : Rules → GraphView → SymbolBySpecifier → QualifiedNameParts → PathForest → Type 0
AreDefinitionPathsWithAnyParts rules graph s [] paths = AreDefinitionPaths rules graph s paths
AreDefinitionPathsWithAnyParts rules graph s (p ∷ ps) paths = AreDefinitionPathsWithParts rules graph s (p ∷ ps) paths

-- the symbol of a stored module, by its number
abbrev pub symbol_in_root : RootView → ModuleId → SymbolId → Option SymbolView
symbol_in_root root module_id s = symbol_in_module root.graph (specifier_in root module_id) s

-- the module is stored and has the symbol
abbrev pub HasSymbol : RootView → ModuleId → SymbolId → Type 0
HasSymbol root module_id s = IsStored root module_id × (symbol_in_root root module_id s ≢ None)

-- a result: the module is stored and has the symbol, the paths are those of the symbol, and the modules of the paths are stored
pub record IsFindDefinitionPathsResult (old new : RootView) (module_id : ModuleId) (s : SymbolId) (paths : List DefinitionPathNode) : Type 0 where
  pub known : module_id.0 < length old.stored
  pub has_symbol : symbol_in_root old module_id s ≢ None
  pub are_paths : AreDefinitionPaths old.rules old.graph (symbol_by_specifier old module_id s) (paths_by_specifier new paths)
  pub stored : AreModulesStored new (modules_of_paths paths)

-- a fault: no module with this id is stored, and the root is unchanged
pub record IsUnknownModuleFaultOfSymbol (old new : RootView) (module_id : ModuleId) (fault : SymbolsFault) : Type 0 where
  pub unknown : length old.stored ≤ module_id.0
  pub fault_is : fault ≡ UnknownModule
  pub unchanged : new ≡ old

-- a fault: the module has no such symbol, and the root is unchanged
pub record IsUnknownSymbolFault (old new : RootView) (module_id : ModuleId) (s : SymbolId) (fault : SymbolsFault) : Type 0 where
  pub known : module_id.0 < length old.stored
  pub unknown : symbol_in_root old module_id s ≡ None
  pub fault_is : fault ≡ UnknownSymbol
  pub unchanged : new ≡ old

-- a fault: a module that the search needs can't be stored, or an allocation failed
pub record IsFaultOfSearchForPaths (old new : RootView) (module_id : ModuleId) (s : SymbolId) (fault : SymbolsFault) : Type 0 where
  pub known : module_id.0 < length old.stored
  pub has_symbol : symbol_in_root old module_id s ≢ None
  pub refused : IsFaultOfStoringNeededBySearch new (specifier_in old module_id) fault

-- the faults of a call
abbrev pub IsFindDefinitionPathsFault : RootView → RootView → ModuleId → SymbolId → SymbolsFault → Type 0
IsFindDefinitionPathsFault old new module_id s fault =
    IsUnknownModuleFaultOfSymbol old new module_id fault ⊎ IsUnknownSymbolFault old new module_id s fault ⊎ IsFaultOfSearchForPaths old new module_id s fault
