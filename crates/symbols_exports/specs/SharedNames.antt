-- Shared names: those that two or more reachable modules export locally and the queried module doesn't.
use Rattle.std.specs.Prelude.{◌≡◌, ℕ, ◌↔◌, List, AllPairs, Contains}
use Rattle.symbols_ast.specs.declared.ids.SymbolId.{SymbolId}
use Rattle.symbols_table.specs.Events.{default_export_name}
use Rattle.symbols_exports.specs.Chains.{StarTargets, IsChainBefore, IsLeastChain}
use Rattle.symbols_exports.specs.Exports.{ExplicitExports, ExportEntry, IsExport, IsExportEntryBefore}

-- a name with its exporters
pub record NameWithExporters (A : Type 0) : Type 0 where
  pub name : List ℕ
  pub exporters : List A

-- a reachable module exports the name locally: the entry has the least chain to the module, and its symbol there
pub record IsExporter (statements : StarTargets) (explicit : ExplicitExports) (start : List ℕ) (name : List ℕ) (entry : ExportEntry) : Type 0 where
  pub named : entry.name ≡ name
  pub ends_at : IsLeastChain statements start entry.chain entry.exporter
  pub exporter_exports_name_explicitly : Contains (explicit entry.exporter) (name, entry.symbol)

-- two different modules export the name locally
pub record HasTwoExporters (statements : StarTargets) (explicit : ExplicitExports) (start : List ℕ) (name : List ℕ) : Type 0 where
  pub one : ExportEntry
  pub other : ExportEntry
  pub one_is_exporter : IsExporter statements explicit start name one
  pub other_is_exporter : IsExporter statements explicit start name other
  pub exporters_are_different : one.exporter ≡ other.exporter → ⊥

-- a shared name: two modules export it locally, it isn't `default`, and the module at which the chains begin doesn't export it locally
pub record IsSharedName (statements : StarTargets) (explicit : ExplicitExports) (start : List ℕ) (name : List ℕ) : Type 0 where
  pub is_not_default : name ≡ default_export_name → ⊥
  pub is_not_exported_by_start : (symbol : SymbolId) → Contains (explicit start) (name, symbol) → ⊥
  pub two : HasTwoExporters statements explicit start name

-- a shared name with all its exporters, in chain order
pub record IsSharedNameEntry (statements : StarTargets) (explicit : ExplicitExports) (start : List ℕ) (shared : NameWithExporters ExportEntry) : Type 0 where
  pub is_shared : IsSharedName statements explicit start shared.name
  pub exporters : (entry : ExportEntry) → Contains shared.exporters entry ↔ IsExporter statements explicit start shared.name entry
  pub ordered : AllPairs (λ (x y : ExportEntry). IsChainBefore x.chain y.chain) shared.exporters

-- in the order of the exports of these names
abbrev pub IsSharedNameBefore : StarTargets → ExplicitExports → List ℕ → NameWithExporters ExportEntry → NameWithExporters ExportEntry → Type 0
IsSharedNameBefore statements explicit start x y =
    (e f : ExportEntry) → IsExport statements explicit start e → IsExport statements explicit start f → e.name ≡ x.name → f.name ≡ y.name
    → IsExportEntryBefore explicit e f

-- the shared names of a module, in order
pub record AreSharedNames (statements : StarTargets) (explicit : ExplicitExports) (start : List ℕ) (names : List (NameWithExporters ExportEntry)) : Type 0 where
  pub all : (shared : NameWithExporters ExportEntry) → Contains names shared ↔ IsSharedNameEntry statements explicit start shared
  pub ordered : AllPairs (IsSharedNameBefore statements explicit start) names
