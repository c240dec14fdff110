-- Names with their chains as a walk stores them, with modules by number.
use Rattle.std.specs.Prelude.{ℕ, List, map, String}
use Rattle.std.specs.Prelude.{string_bytes}
use Rattle.std.specs.Global.{Global}
use Rattle.symbols_ast.specs.declared.ids.ModuleId.{ModuleId}
use Rattle.symbols_exports.specs.declared.module_exports.UnresolvedSpecifier.{UnresolvedSpecifier}
use Rattle.symbols_exports.specs.declared.export_chain.ResolvedExport.{ResolvedExport}
use Rattle.symbols_exports.specs.declared.export_chain.ResolvedExportOrReExportAllPath.{ResolvedExportOrReExportAllPath}
use Rattle.symbols_exports.specs.declared.shared_name.SharedName.{SharedName}
use Rattle.symbols_exports.specs.ExportChains.{resolved_export, statements_of_chain}
use Rattle.symbols_exports.specs.SharedNames.{NameWithExporters}

-- an unresolved statement, by the number of its module and its specifier
abbrev pub unresolved_star_view : UnresolvedSpecifier → ModuleId × List ℕ
unresolved_star_view statement = (statement.referrer, statement.specifier.now)

-- a name, the statements of its chain, and the export at the end
pub record ResolvedExportView : Type 0 where
  pub name : List ℕ
  pub statements : List (ModuleId × List ℕ)
  pub export : ResolvedExport

abbrev pub resolved_export_view : String Global × ResolvedExportOrReExportAllPath → ResolvedExportView
resolved_export_view entry = record { name = string_bytes entry.0; statements = statements_of_chain entry.1; export = resolved_export entry.1 }

abbrev pub resolved_export_views : List (String Global × ResolvedExportOrReExportAllPath) → List ResolvedExportView
resolved_export_views entries = map resolved_export_view entries

-- a name with one of its chains
abbrev pub resolved_chain_view : List ℕ → ResolvedExportOrReExportAllPath → ResolvedExportView
resolved_chain_view name path = record { name = name; statements = statements_of_chain path; export = resolved_export path }

-- a shared name with the chains to its exporters
abbrev pub resolved_shared_name_view : SharedName → NameWithExporters ResolvedExportView
resolved_shared_name_view shared =
    record { name = string_bytes shared.name; exporters = map (resolved_chain_view (string_bytes shared.name)) shared.exporters.items }

abbrev pub resolved_shared_name_views : List SharedName → List (NameWithExporters ResolvedExportView)
resolved_shared_name_views names = map resolved_shared_name_view names
