-- Results of a walk by its filter: definitions for inner functions and proofs.
use Rattle.std.specs.Prelude.{ℕ, List}
use Rattle.symbols_ast.specs.declared.ids.ModuleId.{ModuleId}
use Rattle.symbols_table.specs.declared.info.fault.SymbolsFault.{SymbolsFault}
use Rattle.symbols_root.specs.Roots.{RootView}
use Rattle.symbols_exports.specs.declared.name_filter.NameFilter.{NameFilter}
use Rattle.symbols_exports.specs.declared.name_filter.NameFilter.TheVariants.{AllNames, OneName}
use Rattle.symbols_exports.specs.ExportAnswers.{IsExportsCallResult, IsExportsCallFault}
use Rattle.symbols_exports.specs.SharedNames.{NameWithExporters}
use Rattle.symbols_exports.specs.CollectedNames.{ResolvedExportView}
use Rattle.symbols_exports.specs.OneName.{IsExportOfCallResult, IsExportOfCallFault}

-- a walk succeeds: all exports are returned, or the one that the filter names
abbrev pub IsExportWalkAnswer : NameFilter → RootView → RootView → ModuleId → List ResolvedExportView → List (NameWithExporters ResolvedExportView)
    → List (ModuleId × List ℕ) → ℕ → Type 0
IsExportWalkAnswer AllNames old new start names shared unresolved lookups = IsExportsCallResult old new start names shared unresolved lookups
IsExportWalkAnswer (OneName name) old new start names shared unresolved lookups = IsExportOfCallResult old new start name.now names lookups

abbrev pub IsExportWalkFault : NameFilter → RootView → RootView → ModuleId → SymbolsFault → ℕ → Type 0
IsExportWalkFault AllNames old new start fault lookups = IsExportsCallFault old new start fault lookups
IsExportWalkFault (OneName name) old new start fault lookups = IsExportOfCallFault old new start name.now fault lookups
