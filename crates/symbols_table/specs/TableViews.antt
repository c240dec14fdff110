-- The views of a symbol's exports, children and members that contracts use.
use Rattle.std.specs.Prelude.{ℕ, List, [], Option, Box}
use Rattle.std.specs.Option.{option_map_or}
use Rattle.std.specs.Borrow.{Bor}
use Rattle.std.specs.Global.{Global}
use Rattle.symbols_ast.specs.declared.ids.SymbolId.{SymbolId}
use Rattle.symbols_table.specs.declared.decl.tables.Maps.{Maps}
use Rattle.symbols_table.specs.DeclViews.{exports_view}

-- The exports, children and members of a symbol.
pub record SymbolMapsView : Type 0 where
  pub exports : List (List ℕ × SymbolId)
  pub children : List SymbolId
  pub members : List SymbolId

abbrev pub empty_symbol_maps : SymbolMapsView
empty_symbol_maps = record { exports = []; children = []; members = [] }

-- The view of the tables, which are empty if no maps are allocated.
abbrev pub symbol_maps_view : Option (Box Maps Global) → SymbolMapsView
symbol_maps_view maps = option_map_or (λ (maps : Box Maps Global). record {
  exports = exports_view maps.value.exports.entries;
  children = maps.value.child_ids;
  members = maps.value.members;
}) maps empty_symbol_maps

-- The view of an export whose name is borrowed.
abbrev pub export_entry_view : Bor (List ℕ) × SymbolId → List ℕ × SymbolId
export_entry_view export = (export.0.now, export.1)
