-- The result of the analysis of a module.
use Rattle.std.specs.Prelude.{◌≡◌, ℕ, ◌<◌, ◌≤◌, List, length, Option, Some, None, string_bytes}
use Rattle.symbols_ast.specs.declared.ids.ModuleId.{ModuleId}
use Rattle.symbols_ast.specs.declared.ids.SymbolId.{SymbolId}
use Rattle.symbols_ast.specs.declared.tree.arena.Tree.{Tree}
use Rattle.symbols_ast.specs.Graph.{ModuleView}
use Rattle.symbols_ast.specs.Ids.{IdView}
use Rattle.symbols_table.specs.declared.info.module_info.ModuleInfo.{ModuleInfo}
use Rattle.symbols_table.specs.declared.info.fault.SymbolsFault.{SymbolsFault}
use Rattle.symbols_table.specs.declared.info.fault.SymbolsFault.TheVariants as fault
use Rattle.symbols_table.specs.Changes.{Change, parents_after_changes, export_insertions_after_changes, AreExportsOfInsertions, exports_after_changes}
use Rattle.symbols_table.specs.Changes.{export_stars_after_changes, symbol_of_ident_after_changes}
use Rattle.symbols_table.specs.Events.{changes_of_events}
use Rattle.symbols_table.specs.TreeEvents.{tree_events}
use Rattle.symbols_table.specs.JsonEvents.{json_events}
use Rattle.symbols_table.specs.SymbolViews.{symbol_after_changes}
use Rattle.symbols_table.specs.Modules.{AnalyzableSource, parsed, json_text, analyzable_source, SymbolTable, symbol_table_of, symbol_in_table}
use Rattle.symbols_table.specs.Modules.{symbol_of_ident_in_table}

-- The changes made by the events of a tree, and by those of a JSON text.
abbrev pub table_changes_from_tree : Tree → List Change
table_changes_from_tree tree = changes_of_events (tree_events tree)

abbrev pub table_changes_from_json : List ℕ → List Change
table_changes_from_json text = changes_of_events (json_events text)

abbrev pub table_changes_from_tree_or_json : AnalyzableSource → List Change
table_changes_from_tree_or_json (parsed _ tree) = table_changes_from_tree tree
table_changes_from_tree_or_json (json_text text) = table_changes_from_json text

-- The number of symbols that the changes make.
abbrev pub symbol_count : List Change → ℕ
symbol_count changes = length (parents_after_changes changes)

-- The table has the contents that the changes give: its symbols with all that their views show, the bindings of identifiers, and the
-- `export *` statements. The exports have each name once, at the position of its first setting, with the symbol of its last.
pub record IsTableMadeByChanges (table : SymbolTable) (changes : List Change) : Type 0 where
  pub symbols : (s : SymbolId) → symbol_in_table table s ≡ symbol_after_changes changes s
  pub exports_of_each_symbol : (s : SymbolId) → AreExportsOfInsertions (export_insertions_after_changes changes s) (exports_after_changes changes s)
  pub names : (id : IdView) → symbol_of_ident_in_table table id ≡ symbol_of_ident_after_changes changes id
  pub stars : table.stars ≡ export_stars_after_changes changes

-- The table has this module number and specifier, and the contents that the source's events give.
pub record IsAnalyzedTable (module_id : ModuleId) (name : List ℕ) (content : AnalyzableSource) (limit : ℕ) (table : SymbolTable) : Type 0 where
  pub number : table.module_id ≡ module_id
  pub specifier : table.specifier ≡ name
  pub source : table.source ≡ content
  pub tables : IsTableMadeByChanges table (table_changes_from_tree_or_json content)
  pub within : symbol_count (table_changes_from_tree_or_json content) ≤ limit

-- The result is `None` if the module has no source of symbols, and else the analyzed module.
abbrev pub IsAnalysisResult : ModuleId → ModuleView → ℕ → Option ModuleInfo → Type 0
IsAnalysisResult module_id graph_module limit None = analyzable_source graph_module.content ≡ None
IsAnalysisResult module_id graph_module limit (Some info) =
    (source : AnalyzableSource) × (analyzable_source graph_module.content ≡ Some source)
    × IsAnalyzedTable module_id graph_module.specifier source limit (symbol_table_of info)

-- The module's source needs more symbols than the limit.
abbrev pub HasTooManySymbols : ModuleView → ℕ → Type 0
HasTooManySymbols graph_module limit = (source : AnalyzableSource) × (analyzable_source graph_module.content ≡ Some source)
    × (limit < symbol_count (table_changes_from_tree_or_json source))

-- The faults of an analysis: a failed allocation, or a source that needs more symbols than the limit.
abbrev pub IsAnalysisFault : ModuleView → ℕ → SymbolsFault → Type 0
IsAnalysisFault graph_module limit fault.OutOfMemory = Unit {0}
IsAnalysisFault graph_module limit (fault.TooManySymbols specifier) = (string_bytes specifier ≡ graph_module.specifier) × HasTooManySymbols graph_module limit
IsAnalysisFault graph_module limit fault.TooManyModules = ⊥
IsAnalysisFault graph_module limit fault.UnknownModule = ⊥
IsAnalysisFault graph_module limit fault.UnknownSymbol = ⊥
