-- Shorthands for the parts of a symbol's view.
use Rattle.std.specs.Prelude.{ℕ, List, Option}
use Rattle.std.specs.Option.{option_map}
use Rattle.symbols_ast.specs.declared.ids.ModuleId.{ModuleId}
use Rattle.symbols_ast.specs.declared.ids.SymbolId.{SymbolId}
use Rattle.symbols_ast.specs.declared.ids.UniqueSymbolId.{UniqueSymbolId}
use Rattle.symbols_table.specs.declared.decl.symbol.Symbol.{Symbol}
use Rattle.symbols_table.specs.DeclViews.{Declaration}
use Rattle.symbols_table.specs.SymbolViews.{symbol_view}

-- The symbol's own number, and that of its module.
abbrev pub symbol_local_id : Symbol → SymbolId
symbol_local_id symbol = (symbol_view symbol).number

abbrev pub symbol_module_id : Symbol → ModuleId
symbol_module_id symbol = symbol.module_id

-- The symbol's id across all modules; its parent is in the same module.
abbrev pub symbol_unique_id : Symbol → UniqueSymbolId
symbol_unique_id symbol = record { module_id = symbol.module_id; symbol_id = symbol.symbol_id }

abbrev pub symbol_parent_unique_id : Symbol → Option UniqueSymbolId
symbol_parent_unique_id symbol = option_map (λ parent. record { module_id = symbol.module_id; symbol_id = parent }) symbol.parent_id

abbrev pub symbol_parent : Symbol → Option SymbolId
symbol_parent symbol = (symbol_view symbol).parent

abbrev pub symbol_decls : Symbol → List Declaration
symbol_decls symbol = (symbol_view symbol).decls

abbrev pub symbol_export_entries : Symbol → List (List ℕ × SymbolId)
symbol_export_entries symbol = (symbol_view symbol).exports

abbrev pub symbol_children : Symbol → List SymbolId
symbol_children symbol = (symbol_view symbol).children

abbrev pub symbol_members : Symbol → List SymbolId
symbol_members symbol = (symbol_view symbol).members
