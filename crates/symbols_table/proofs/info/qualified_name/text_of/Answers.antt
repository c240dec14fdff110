use Rattle.std.proofs.Common.{◌++◌, string_bytes, ap, ◌∙◌}
use Rattle.symbols_table.specs.inner.NamePaths.{reversed_pieces_text}
use Rattle.symbols_table.proofs.NamePaths.{one_consumed}
use Rattle.symbols_table.proofs.info.qualified_name.text_of.Goals as goal

pub loop-piece-preserved-in_ok-push_str : goal.loop-piece-preserved-in_ok-push_str
loop-piece-preserved-in_ok-push_str c = ap (λ text. text ++ reversed_pieces_text c.pop.new.self.items) c.in_ok-push_str.ensures.bytes
    ∙ one_consumed (string_bytes c.loop-piece.text) c.as_str.result.now c.loop-piece.pieces.items c.pop.new.self.items c.in-Some.piece (reversed_pieces_text
    c.args.pieces.items) c.in-Some.ensures.items c.as_str.ensures.value c.loop-piece.invariant

pub loop-piece-preserved : goal.loop-piece-preserved
loop-piece-preserved c = ap (λ text. text ++ reversed_pieces_text c.pop.new.self.items) c.in_ok-push_str.ensures.bytes
    ∙ one_consumed (string_bytes c.loop-piece.text) c.as_str.result.now c.loop-piece.pieces.items c.pop.new.self.items c.in-Some.piece (reversed_pieces_text
    c.args.pieces.items) c.in-Some.ensures.items c.as_str.ensures.value c.loop-piece.invariant
