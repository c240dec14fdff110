use Rattle.std.proofs.Common.{◌≡◌, ◌++◌, map}
use Rattle.symbols_exports.specs.ExportChains.{resolved_export, statements_of_chain}
use Rattle.symbols_exports.specs.inner.Collecting.{frame_view}
use Rattle.symbols_exports.proofs.frame_chain.chain_of_frames.Given as goal

abbrev pub invariant-loop-frame : goal.invariant-loop-frame
invariant-loop-frame l = (map frame_view l.frame-iterator.iter.rest.now ++ statements_of_chain l.chain ≡ map frame_view l.stack)
    × (resolved_export l.chain ≡ l.fn.export)
