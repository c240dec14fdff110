use Rattle.std.proofs.Common.{◌≡◌, ◌++◌, length, string_bytes}
use Rattle.symbols_table.specs.QualifiedNames.{text_with_quotes_escaped}
use Rattle.symbols_table.specs.inner.NamePaths.{reversed_pieces_text}
use Rattle.symbols_table.proofs.info.qualified_name.take_all_escaped.Given as goal

abbrev pub invariant-loop-piece : goal.invariant-loop-piece
invariant-loop-piece l = string_bytes l.made ++ text_with_quotes_escaped (reversed_pieces_text l.pieces.items)
    ≡ string_bytes l.initial.made ++ text_with_quotes_escaped (reversed_pieces_text l.initial.pieces.items)

abbrev pub decreases-loop-piece : goal.decreases-loop-piece
decreases-loop-piece l = length l.pieces.items
