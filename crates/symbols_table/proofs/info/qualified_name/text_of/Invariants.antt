use Rattle.std.proofs.Common.{◌≡◌, ◌++◌, length, string_bytes}
use Rattle.symbols_table.specs.inner.NamePaths.{reversed_pieces_text}
use Rattle.symbols_table.proofs.info.qualified_name.text_of.Given as goal

abbrev pub invariant-loop-piece : goal.invariant-loop-piece
invariant-loop-piece l = string_bytes l.text ++ reversed_pieces_text l.pieces.items ≡ reversed_pieces_text l.fn.pieces.items

abbrev pub decreases-loop-piece : goal.decreases-loop-piece
decreases-loop-piece l = length l.pieces.items
