use Rattle.std.proofs.Common.{arith, ◌++◌, string_bytes, ap, ◌∙◌}
use Rattle.std.proofs.lemmas.Bool.{false≢true}
use Rattle.symbols_table.specs.QualifiedNames.{text_with_quotes_escaped}
use Rattle.symbols_table.specs.inner.NamePaths.{reversed_pieces_text}
use Rattle.symbols_table.proofs.Escapes.{one_escaped, all_viewed}
use Rattle.symbols_table.proofs.info.qualified_name.take_all_escaped.Goals as goal

pub loop-piece-preserved-in_ok-push_all_escaped : goal.loop-piece-preserved-in_ok-push_all_escaped
loop-piece-preserved-in_ok-push_all_escaped c =
    ap (λ text. text ++ text_with_quotes_escaped (reversed_pieces_text c.pop.new.self.items)) c.in_ok-push_all_escaped.ensures
    ∙ one_escaped (string_bytes c.loop-piece.made) c.as_str.result.now c.loop-piece.pieces.items c.pop.new.self.items c.in-Some.piece _ c.in-Some.ensures.items
    c.as_str.ensures.value c.as_str.utf8 c.loop-piece.invariant

pub loop-piece-preserved : goal.loop-piece-preserved
loop-piece-preserved c =
    ap (λ text. text ++ text_with_quotes_escaped (reversed_pieces_text c.pop.new.self.items)) c.in_ok-push_all_escaped.ensures
    ∙ one_escaped (string_bytes c.loop-piece.made) c.as_str.result.now c.loop-piece.pieces.items c.pop.new.self.items c.in-Some.piece _ c.in-Some.ensures.items
    c.as_str.ensures.value c.as_str.utf8 c.loop-piece.invariant

pub returns : goal.returns
returns c = all_viewed (string_bytes c.loop-piece.made) _ c.loop-piece.pieces.items (λ some. false≢true (c.in_default.ensures.variant.1 (omega (arith, some))))
    c.loop-piece.invariant
