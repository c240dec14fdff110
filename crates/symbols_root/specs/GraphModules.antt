-- The symbols of the modules of a graph, each by its own specifier. All of it depends on the graph alone.
use Rattle.std.specs.Prelude.{ℕ, List, [], Option}
use Rattle.std.specs.Option.{option_and_then, option_map_or}
use Rattle.symbols_ast.specs.declared.ids.SymbolId.{SymbolId}
use Rattle.symbols_ast.specs.Graph.{GraphView}
use Rattle.symbols_table.specs.Analysis.{table_changes_from_tree_or_json}
use Rattle.symbols_table.specs.Changes.{Change}
use Rattle.symbols_table.specs.Modules.{analyzable_source}
use Rattle.symbols_table.specs.SymbolViews.{SymbolView, symbol_after_changes}
use Rattle.symbols_root.specs.Specifiers.{module_with_specifier}

-- the changes that make the symbols of the module of this specifier; none if it has no symbols
abbrev pub table_changes_of_module : GraphView → List ℕ → List Change
table_changes_of_module graph specifier =
    option_map_or table_changes_from_tree_or_json (option_and_then (λ m. analyzable_source m.content) (module_with_specifier graph specifier)) []

-- the symbol of this number in that module
abbrev pub symbol_in_module : GraphView → List ℕ → SymbolId → Option SymbolView
symbol_in_module graph specifier s = symbol_after_changes (table_changes_of_module graph specifier) s
