-- The views of a module's bound identifiers and `export *` statements that contracts use.
use Rattle.std.specs.Prelude.{List, map}
use Rattle.std.specs.Borrow.{Bor}
use Rattle.symbols_ast.specs.declared.ids.SymbolId.{SymbolId}
use Rattle.symbols_ast.specs.declared.tree.arena.Id.{Id}
use Rattle.symbols_ast.specs.Ids.{IdView, id_view}
use Rattle.symbols_table.specs.declared.info.re_exports.StarStatement.{StarStatement}
use Rattle.symbols_table.specs.Changes.{ExportStarStatement}

-- The identifiers with the symbols that they are bound to.
abbrev pub identifier_bindings_view : List (Bor Id × SymbolId) → List (IdView × SymbolId)
identifier_bindings_view entries = map (λ entry. (id_view entry.0.now, entry.1)) entries

abbrev pub export_star_view : StarStatement → ExportStarStatement
export_star_view star = record { number = star.node_id; specifier_text = star.src.now }
