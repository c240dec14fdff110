-- One exported name: its entry among the exports, and the statements that are looked up until it is found.
use Rattle.std.specs.Prelude.{◌≡◌, ℕ, ◌<◌, ◌↔◌, ◌⊎◌, List, [], ◌∷◌, ◌++◌, length, map, find, Contains}
use Rattle.std.specs.Prelude.{AllPairs, Option, None, Some, option_map, option_to_list, if◌then◌else◌}
use Rattle.std.specs.Str.{bytes_eq}
use Rattle.symbols_ast.specs.declared.ids.ModuleId.{ModuleId}
use Rattle.symbols_ast.specs.Graph.{GraphView}
use Rattle.symbols_table.specs.declared.info.fault.SymbolsFault.{SymbolsFault}
use Rattle.symbols_table.specs.Events.{default_export_name}
use Rattle.symbols_root.specs.Roots.{RootView, IsStoringFault, specifier_in, root_with_stored_modules}
use Rattle.symbols_exports.specs.ExportAnswers.{IsUnknownModuleFault}
use Rattle.symbols_exports.specs.Chains.{StarTargets, star_target_at, IsChainBefore, IsChainBeforeOrEqual, IsLeastChain}
use Rattle.symbols_exports.specs.Exports.{ExportEntry, StarPosition, IsStarStatementBefore}
use Rattle.symbols_exports.specs.StarStatements.{star_targets_of}
use Rattle.symbols_exports.specs.CollectedNames.{ResolvedExportView}
use Rattle.symbols_exports.specs.ExportViews.{export_view_of_entry, export_by_specifier, AreModulesOfExportsStored}
use Rattle.symbols_exports.specs.Traces.{exports_of}

-- the entry for a name among the exports of a module
abbrev pub find_export : GraphView → List ℕ → List ℕ → Option ExportEntry
find_export graph start name = find (λ (entry : ExportEntry). bytes_eq name entry.name) (exports_of graph start)

-- the last chain of the search: that of the entry; without an entry the empty chain for `default`, and else none, so that all chains are
-- searched
abbrev pub last_searched_chain : List ℕ → Option ExportEntry → Option (List ℕ)
last_searched_chain name (Some entry) = Some entry.chain
last_searched_chain name None = if bytes_eq name default_export_name then Some [] else None

abbrev pub IsChainNotAfterLastSearched : Option (List ℕ) → List ℕ → Type 0
IsChainNotAfterLastSearched None chain = Unit {0}
IsChainNotAfterLastSearched (Some last) chain = IsChainBeforeOrEqual chain last

-- the modules whose least chain isn't after the last chain, in chain order
pub record AreReachedUpToChain (statements : StarTargets) (start : List ℕ) (last : Option (List ℕ)) (reached : List (List ℕ × List ℕ)) : Type 0 where
  pub all : (chain end : List ℕ) → Contains reached (chain, end) ↔ (IsLeastChain statements start chain end × IsChainNotAfterLastSearched last chain)
  pub ordered : AllPairs (λ (x y : List ℕ × List ℕ). IsChainBefore x.0 y.0) reached

-- a statement whose least chain to its module, followed by its index, isn't after the last chain
abbrev pub IsStarLookedUp : StarTargets → List ℕ → Option (List ℕ) → StarPosition → Type 0
IsStarLookedUp statements start last at = (chain : List ℕ) × IsLeastChain statements start chain at.0 × (at.1 < length (statements at.0))
    × IsChainNotAfterLastSearched last (chain ++ at.1 ∷ [])

pub record AreStarsLookedUp (statements : StarTargets) (start : List ℕ) (last : Option (List ℕ)) (lookups : List StarPosition) : Type 0 where
  pub all : (at : StarPosition) → Contains lookups at ↔ IsStarLookedUp statements start last at
  pub ordered : AllPairs (IsStarStatementBefore statements start) lookups

-- `export_of` succeeds: the entry for the name is returned, with modules by their numbers in the new root. The modules reached up to the
-- last chain are stored. The lookups are one for each statement up to it
pub record IsExportOfCallResult (old new : RootView) (start : ModuleId) (name : List ℕ) (names : List ResolvedExportView) (lookups : ℕ) : Type 0 where
  pub known : start.0 < length old.stored
  pub is_found_export : map (export_by_specifier new) names
      ≡ option_to_list (option_map (export_view_of_entry old.graph (specifier_in old start)) (find_export old.graph (specifier_in old start) name))
  pub are_modules_of_exports_stored : AreModulesOfExportsStored new names
  pub reached : List (List ℕ × List ℕ)
  pub are_reached : AreReachedUpToChain (star_targets_of old.graph) (specifier_in old start)
      (last_searched_chain name (find_export old.graph (specifier_in old start) name))
      reached
  pub stored : new ≡ root_with_stored_modules old (map (λ (m : List ℕ × List ℕ). m.1) reached)
  pub statements : List StarPosition
  pub are_looked_up_stars : AreStarsLookedUp (star_targets_of old.graph) (specifier_in old start)
      (last_searched_chain name (find_export old.graph (specifier_in old start) name))
      statements
  pub lookups_counted : lookups ≡ length statements

-- `export_of` fails during the search: some modules reached up to the last chain are stored, and some statements up to it were looked up,
-- each once. If a module was refused, such a statement resolves to it
pub record IsExportOfWalkFault (old new : RootView) (start : ModuleId) (name : List ℕ) (fault : SymbolsFault) (lookups : ℕ) : Type 0 where
  pub known : start.0 < length old.stored
  pub reached : List (List ℕ × List ℕ)
  pub are_reached : (chain end : List ℕ) → Contains reached (chain, end) → IsLeastChain (star_targets_of old.graph) (specifier_in old start) chain end
      × IsChainNotAfterLastSearched (last_searched_chain name (find_export old.graph (specifier_in old start) name)) chain
  pub ordered : AllPairs (λ (x y : List ℕ × List ℕ). IsChainBefore x.0 y.0) reached
  pub stored : new ≡ root_with_stored_modules old (map (λ (m : List ℕ × List ℕ). m.1) reached)
  pub statements : List StarPosition
  pub are_looked_up_stars : (at : StarPosition) → Contains statements at
      → IsStarLookedUp (star_targets_of old.graph) (specifier_in old start) (last_searched_chain name (find_export old.graph (specifier_in old start) name)) at
  pub looked_up_in_order : AllPairs (IsStarStatementBefore (star_targets_of old.graph) (specifier_in old start)) statements
  pub lookups_counted : lookups ≡ length statements
  pub needed : Option (List ℕ)
  pub is_needed : (specifier : List ℕ) → needed ≡ Some specifier
      → (at : StarPosition) × Contains statements at × (star_target_at (star_targets_of old.graph) at.0 at.1 ≡ Some specifier)
  pub refused : IsStoringFault new needed fault

abbrev pub IsExportOfCallFault : RootView → RootView → ModuleId → List ℕ → SymbolsFault → ℕ → Type 0
IsExportOfCallFault old new start name fault lookups = IsUnknownModuleFault old new start fault lookups ⊎ IsExportOfWalkFault old new start name fault lookups
