-- The view of an analyzed module that contracts use.
use Rattle.std.specs.Prelude.{ℕ, List, [], map, Option, Some, None}
use Rattle.std.specs.Map.{lookup}
use Rattle.std.specs.Option.{option_map}
use Rattle.symbols_ast.specs.declared.ids.ModuleId.{ModuleId}
use Rattle.symbols_ast.specs.declared.ids.SymbolId.{SymbolId}
use Rattle.symbols_ast.specs.declared.tree.arena.Tree.{Tree}
use Rattle.symbols_ast.specs.Graph.{ModuleContent, esm, json, external}
use Rattle.symbols_ast.specs.Ids.{IdView, is_same_id}
use Rattle.symbols_table.specs.declared.decl.symbol.Symbol.{Symbol}
use Rattle.symbols_table.specs.declared.info.es_module.EsModuleInfo.{EsModuleInfo}
use Rattle.symbols_table.specs.declared.info.json_module.JsonModuleInfo.{JsonModuleInfo}
use Rattle.symbols_table.specs.declared.info.module_info.ModuleInfo.{ModuleInfo}
use Rattle.symbols_table.specs.declared.info.module_info.ModuleInfoRef.{ModuleInfoRef}
use Rattle.symbols_table.specs.Changes.{ExportStarStatement}
use Rattle.symbols_table.specs.ModuleViews.{identifier_bindings_view, export_star_view}
use Rattle.symbols_table.specs.SymbolViews.{SymbolView, symbol_view_of_number}

-- The source of a symbol table: the text of a module with its tree, or a JSON text.
pub data AnalyzableSource : Type 0 where
  parsed : List ℕ → Tree → AnalyzableSource
  json_text : List ℕ → AnalyzableSource

-- The source of a module of the graph, if it has one.
abbrev pub analyzable_source : ModuleContent → Option AnalyzableSource
analyzable_source (esm text tree _) = option_map (parsed text) tree
analyzable_source (json text) = Some (json_text text)
analyzable_source external = None

abbrev pub source_text : AnalyzableSource → List ℕ
source_text (parsed text _) = text
source_text (json_text text) = text

abbrev pub source_tree : AnalyzableSource → Option Tree
source_tree (parsed _ tree) = Some tree
source_tree (json_text _) = None

-- An analyzed module. Its bound identifiers and `export *` statements are those of its tree; for a JSON text both are empty.
pub record SymbolTable : Type 0 where
  pub module_id : ModuleId
  pub specifier : List ℕ
  pub source : AnalyzableSource
  pub symbols : List Symbol
  pub names : List (IdView × SymbolId)
  pub stars : List ExportStarStatement

abbrev pub esm_symbol_table : EsModuleInfo → SymbolTable
esm_symbol_table info = record {
  module_id = info.module_id;
  specifier = info.specifier.now;
  source = parsed info.text.now info.source.now;
  symbols = info.symbols.items;
  names = identifier_bindings_view info.ids.entries;
  stars = map export_star_view info.stars.items;
}

abbrev pub json_symbol_table : JsonModuleInfo → SymbolTable
json_symbol_table info = record {
  module_id = info.module_id;
  specifier = info.specifier.now;
  source = json_text info.text.now;
  symbols = info.symbols.items;
  names = [];
  stars = [];
}

abbrev pub symbol_table_of : ModuleInfo → SymbolTable
symbol_table_of (ModuleInfo.Json info) = json_symbol_table info
symbol_table_of (ModuleInfo.Esm info) = esm_symbol_table info

abbrev pub symbol_table_of_ref : ModuleInfoRef → SymbolTable
symbol_table_of_ref (ModuleInfoRef.Json info) = json_symbol_table info.now
symbol_table_of_ref (ModuleInfoRef.Esm info) = esm_symbol_table info.now

-- The symbol of a number, if the module has one.
abbrev pub symbol_in_table : SymbolTable → SymbolId → Option SymbolView
symbol_in_table table s = symbol_view_of_number table.symbols s

-- The symbol that an identifier is bound to, if any.
abbrev pub symbol_of_ident_in_table : SymbolTable → IdView → Option SymbolId
symbol_of_ident_in_table table id = lookup (is_same_id id) table.names

-- The module as one of its kind, if it is of that kind.
abbrev pub maybe_esm_info : ModuleInfo → Option EsModuleInfo
maybe_esm_info (ModuleInfo.Json _) = None
maybe_esm_info (ModuleInfo.Esm info) = Some info

abbrev pub maybe_json_info : ModuleInfo → Option JsonModuleInfo
maybe_json_info (ModuleInfo.Json info) = Some info
maybe_json_info (ModuleInfo.Esm _) = None

abbrev pub maybe_esm_of_ref : ModuleInfoRef → Option EsModuleInfo
maybe_esm_of_ref (ModuleInfoRef.Json _) = None
maybe_esm_of_ref (ModuleInfoRef.Esm info) = Some info.now

abbrev pub maybe_json_of_ref : ModuleInfoRef → Option JsonModuleInfo
maybe_json_of_ref (ModuleInfoRef.Json info) = Some info.now
maybe_json_of_ref (ModuleInfoRef.Esm _) = None
