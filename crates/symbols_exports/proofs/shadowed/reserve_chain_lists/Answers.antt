use Rattle.std.proofs.Common.{arith}
use Rattle.std.proofs.lemmas.List.{length_push}
use Rattle.symbols_exports.specs.inner.Collecting.{chain_lists_view}
use Rattle.symbols_exports.proofs.ShadowedChains.{room_made}
use Rattle.symbols_exports.proofs.shadowed.reserve_chain_lists.Goals as goal

pub room-preserved : goal.room-preserved
room-preserved c = (
  room_made c.args.index c.room.shadowed.items c.push.new.self.items c.new.result (chain_lists_view c.args.shadowed.now.items)
      c.in_ok-push.ensures.items c.new.ensures.items (omega (arith, c.room-test.true, c.len.ensures)) c.room.invariant.0,
  λ count few within. rw c.in_ok-push.ensures.items (omega (arith, length_push c.room.shadowed.items c.new.result, c.room-test.true, c.len.ensures, within)),
)
