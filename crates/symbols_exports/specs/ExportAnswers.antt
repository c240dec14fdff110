-- The results and the faults of `exports`, and the modules that it stores.
use Rattle.std.specs.Prelude.{◌≡◌, ℕ, ◌<◌, ◌≤◌, ◌⊎◌, List, length, map, Contains, AllPairs, Option, Some}
use Rattle.std.specs.List.{sum_by}
use Rattle.symbols_ast.specs.declared.ids.ModuleId.{ModuleId}
use Rattle.symbols_ast.specs.Graph.{GraphView}
use Rattle.symbols_table.specs.declared.info.fault.SymbolsFault.{SymbolsFault}
use Rattle.symbols_table.specs.declared.info.fault.SymbolsFault.TheVariants.{UnknownModule}
use Rattle.symbols_root.specs.Roots.{RootView, IsStoringFault, specifier_in, root_with_stored_modules}
use Rattle.symbols_exports.specs.Chains.{IsChainBefore, IsLeastChain, IsReachedByStars, AreReachedByStars}
use Rattle.symbols_exports.specs.Exports.{ExportEntry, StarPosition, AreExports, AreUnresolvedStars}
use Rattle.symbols_exports.specs.SharedNames.{NameWithExporters, AreSharedNames}
use Rattle.symbols_exports.specs.SharedNameLists.{shared_names_of, shared_name_views_if_strict, shared_name_view_of_resolved, AreExporterModulesStored}
use Rattle.symbols_exports.specs.StarStatements.{star_targets_of, explicit_exports_of}
use Rattle.symbols_exports.specs.CollectedNames.{ResolvedExportView}
use Rattle.symbols_exports.specs.ExportViews.{star_statement_by_specifier, export_by_specifier, AreReferrersOfStarsStored, AreModulesOfExportsStored}
use Rattle.symbols_exports.specs.Traces.{exports_of, unresolved_stars_of, export_views_of_module, unresolved_star_views_of_module}

-- the number of `export *` statements of the modules, each of which is given with a chain to it
abbrev pub star_statement_count : GraphView → List (List ℕ × List ℕ) → ℕ
star_statement_count graph modules = sum_by (λ (m : List ℕ × List ℕ). length (star_targets_of graph m.1)) modules

-- the computed lists are those of the definitions, and no other lists are
pub record AreExportListsCorrectAndUnique (graph : GraphView) (start : List ℕ) : Type 0 where
  pub are_exports : AreExports (star_targets_of graph) (explicit_exports_of graph) start (exports_of graph start)
  pub exports_are_unique : (entries : List ExportEntry) → AreExports (star_targets_of graph) (explicit_exports_of graph) start entries
      → entries ≡ exports_of graph start
  pub are_unresolved : AreUnresolvedStars (star_targets_of graph) start (unresolved_stars_of graph start)
  pub unresolved_are_unique : (unresolved : List StarPosition) → AreUnresolvedStars (star_targets_of graph) start unresolved
      → unresolved ≡ unresolved_stars_of graph start
  pub are_shared : AreSharedNames (star_targets_of graph) (explicit_exports_of graph) start (shared_names_of graph start)
  pub shared_are_unique : (names : List (NameWithExporters ExportEntry)) → AreSharedNames (star_targets_of graph) (explicit_exports_of graph) start names
      → names ≡ shared_names_of graph start

-- `exports` succeeds for the stored module of this number: its exports, its shared names by the root's rules, and its unresolved statements
-- are returned, with modules by their numbers in the new root. All reachable modules are stored. The lookups are one for each of their
-- statements
pub record IsExportsCallResult (old new : RootView) (start : ModuleId) (names : List ResolvedExportView) (shared : List (NameWithExporters ResolvedExportView))
    (unresolved : List (ModuleId
    × List ℕ)) (lookups : ℕ) : Type 0 where
  pub known : start.0 < length old.stored
  pub are_exports_of_module : map (export_by_specifier new) names ≡ export_views_of_module old.graph (specifier_in old start)
  pub are_modules_of_exports_stored : AreModulesOfExportsStored new names
  pub are_shared_names_by_rules : map (shared_name_view_of_resolved new) shared ≡ shared_name_views_if_strict old.rules old.graph (specifier_in old start)
  pub are_exporter_modules_stored : AreExporterModulesStored new shared
  pub are_unresolved_stars : map (star_statement_by_specifier new) unresolved ≡ unresolved_star_views_of_module old.graph (specifier_in old start)
  pub are_referrers_of_stars_stored : AreReferrersOfStarsStored new unresolved
  pub reached : List (List ℕ × List ℕ)
  pub are_reached : AreReachedByStars (star_targets_of old.graph) (specifier_in old start) reached
  pub stored : new ≡ root_with_stored_modules old (map (λ (m : List ℕ × List ℕ). m.1) reached)
  pub lookups_counted : lookups ≡ star_statement_count old.graph reached

-- no module of this number is stored: the root is unchanged, and nothing was looked up
pub record IsUnknownModuleFault (old new : RootView) (start : ModuleId) (fault : SymbolsFault) (lookups : ℕ) : Type 0 where
  pub unknown : length old.stored ≤ start.0
  pub fault_is : fault ≡ UnknownModule
  pub unchanged : new ≡ old
  pub no_lookups : lookups ≡ 0

-- `exports` fails during the walk: some reachable modules are stored, in the order of their least chains, and there are at most as many
-- lookups as they have statements. If a module was refused, it is a reachable one
pub record IsExportsWalkFault (old new : RootView) (start : ModuleId) (fault : SymbolsFault) (lookups : ℕ) : Type 0 where
  pub known : start.0 < length old.stored
  pub reached : List (List ℕ × List ℕ)
  pub are_least : (chain end : List ℕ) → Contains reached (chain, end) → IsLeastChain (star_targets_of old.graph) (specifier_in old start) chain end
  pub ordered : AllPairs (λ (x y : List ℕ × List ℕ). IsChainBefore x.0 y.0) reached
  pub stored : new ≡ root_with_stored_modules old (map (λ (m : List ℕ × List ℕ). m.1) reached)
  pub lookups_counted : lookups ≤ star_statement_count old.graph reached
  pub needed : Option (List ℕ)
  pub is_needed_module_reached : (specifier : List ℕ) → needed ≡ Some specifier → IsReachedByStars (star_targets_of old.graph)
      (specifier_in old start) specifier
  pub refused : IsStoringFault new needed fault

-- why `exports` fails: no such module is stored, or the walk failed
abbrev pub IsExportsCallFault : RootView → RootView → ModuleId → SymbolsFault → ℕ → Type 0
IsExportsCallFault old new start fault lookups = IsUnknownModuleFault old new start fault lookups ⊎ IsExportsWalkFault old new start fault lookups
