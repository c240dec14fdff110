-- Exports and unresolved statements as answers return them, with modules by specifier.
use Rattle.std.specs.Prelude.{ℕ, ◌<◌, List, [], ◌∷◌, length, map, All, unwrap_or, slice_index_or}
use Rattle.symbols_ast.specs.declared.ids.ModuleId.{ModuleId}
use Rattle.symbols_ast.specs.declared.ids.SymbolId.{SymbolId}
use Rattle.symbols_ast.specs.Graph.{GraphView}
use Rattle.symbols_root.specs.Roots.{RootView, specifier_in}
use Rattle.symbols_exports.specs.Chains.{star_target_at}
use Rattle.symbols_exports.specs.Exports.{ExportEntry, StarPosition}
use Rattle.symbols_exports.specs.StarStatements.{star_specifiers, star_targets_of}
use Rattle.symbols_exports.specs.CollectedNames.{ResolvedExportView}

-- a statement: the specifier of its module, and its own specifier
abbrev pub StarStatementView : Type 0
StarStatementView = List ℕ × List ℕ

abbrev pub star_statement_view : GraphView → StarPosition → StarStatementView
star_statement_view graph at = (at.0, slice_index_or (star_specifiers graph at.0) at.1 [])

-- the statements on a chain from a module
abbrev pub chain_statements : GraphView → List ℕ → List ℕ → List StarStatementView
chain_statements graph specifier [] = []
chain_statements graph specifier (position ∷ rest) =
    star_statement_view graph (specifier, position) ∷ chain_statements graph (unwrap_or (star_target_at (star_targets_of graph) specifier position) []) rest

-- an export: its name, the statements of its chain, the exporting module, and its symbol there
pub record ExportView : Type 0 where
  pub name : List ℕ
  pub statements : List StarStatementView
  pub exporter : List ℕ
  pub symbol : SymbolId

abbrev pub export_view_of_entry : GraphView → List ℕ → ExportEntry → ExportView
export_view_of_entry graph start entry =
    record { name = entry.name; statements = chain_statements graph start entry.chain; exporter = entry.exporter; symbol = entry.symbol }

-- statements and exports whose modules are numbers of a root, by specifier
abbrev pub star_statement_by_specifier : RootView → ModuleId × List ℕ → StarStatementView
star_statement_by_specifier root statement = (specifier_in root statement.0, statement.1)

abbrev pub export_by_specifier : RootView → ResolvedExportView → ExportView
export_by_specifier root name = record {
  name = name.name;
  statements = map (star_statement_by_specifier root) name.statements;
  exporter = specifier_in root name.export.«module»;
  symbol = name.export.symbol_id;
}

-- all module numbers in the statements, and in the names, are those of stored modules
abbrev pub AreReferrersOfStarsStored : RootView → List (ModuleId × List ℕ) → Type 0
AreReferrersOfStarsStored root statements = All (λ (statement : ModuleId × List ℕ). statement.0.0 < length root.stored) statements

pub record AreModulesOfExportStored (root : RootView) (name : ResolvedExportView) : Type 0 where
  pub statements_are_stored : AreReferrersOfStarsStored root name.statements
  pub export_is_stored : name.export.«module».0 < length root.stored

abbrev pub AreModulesOfExportsStored : RootView → List ResolvedExportView → Type 0
AreModulesOfExportsStored root names = All (AreModulesOfExportStored root) names
