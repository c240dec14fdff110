-- Public names of stored modules: definitions for inner functions and proofs.
use Rattle.std.specs.Prelude.{ℕ, ◌<◌, List, length, Contains}
use Rattle.symbols_root.specs.Roots.{RootView, specifier_in}
use Rattle.symbols_exports.specs.declared.export_chain.ResolvedExport.{ResolvedExport}
use Rattle.symbols_exports.specs.StarStatements.{explicit_exports_of}
use Rattle.symbols_exports.specs.CollectedNames.{ResolvedExportView}
use Rattle.symbols_exports.specs.PublicNames.{ExportedNameWithMember, exports_of_symbol, public_names_with_members}

-- the module of the export is stored, and exports the symbol locally under some name
pub record IsExplicitExport (root : RootView) (export : ResolvedExport) : Type 0 where
  pub stored : export.«module».0 < length root.stored
  pub name : List ℕ
  pub explicit : Contains (explicit_exports_of root.graph (specifier_in root export.«module»)) (name, export.symbol_id)

-- an exported name of a root, without a member and with each member of its symbol
abbrev pub public_names_of_export : RootView → ResolvedExportView → List ExportedNameWithMember
public_names_of_export root view = public_names_with_members view.name
    (exports_of_symbol root.graph (specifier_in root view.export.«module») view.export.symbol_id)
