-- The symbols of exports in a root.
use Rattle.std.specs.Prelude.{Option}
use Rattle.std.specs.Option.{option_and_then}
use Rattle.symbols_table.specs.SymbolViews.{SymbolView}
use Rattle.symbols_root.specs.Roots.{RootView, maybe_specifier}
use Rattle.symbols_root.specs.GraphModules.{symbol_in_module}
use Rattle.symbols_exports.specs.declared.export_chain.ResolvedExport.{ResolvedExport}

-- the symbol of an export, if its module is stored and has the symbol
abbrev pub symbol_of_export : RootView → ResolvedExport → Option SymbolView
symbol_of_export root export = option_and_then (λ specifier. symbol_in_module root.graph specifier export.symbol_id) (maybe_specifier root export.«module»)
