use Rattle.std.proofs.Common.{ap, ◌∙◌}
use Rattle.symbols_table.specs.inner.NamePaths.{reversed_pieces_text}
use Rattle.symbols_table.proofs.NamePaths.{piece_first}
use Rattle.symbols_table.proofs.info.qualified_name.with_piece.Goals as goal

pub returns : goal.returns
returns c = ap reversed_pieces_text c.in_ok-push.ensures.items ∙ piece_first c.args.pieces.items c.args.piece
