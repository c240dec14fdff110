-- Lists of symbols without repetition.
use Rattle.std.specs.Prelude.{◌≡◌, List, [], fold}
use Rattle.symbols_ast.specs.declared.ids.SymbolId.{SymbolId}
use Rattle.symbols_table.specs.Changes.{append_if_absent}

-- Inserting the symbols one by one into an empty set gives the same list, so none is repeated.
abbrev pub HasDistinctSymbols : List SymbolId → Type 0
HasDistinctSymbols symbols = fold append_if_absent [] symbols ≡ symbols
