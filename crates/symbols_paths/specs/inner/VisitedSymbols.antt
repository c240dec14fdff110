-- The symbols that a search visited, as a set by its keys.
use Rattle.std.specs.Prelude.{Bool, ◌&&◌, ◌==◌, List}
use Rattle.symbols_ast.specs.declared.ids.UniqueSymbolId.{UniqueSymbolId}

-- the symbols in order
pub record VisitedKeys : Type 0 where
  pub keys : List UniqueSymbolId

abbrev pub is_same_unique_id : UniqueSymbolId → UniqueSymbolId → Bool
is_same_unique_id s t = (s.module_id.0 == t.module_id.0) && (s.symbol_id.0 == t.symbol_id.0)
