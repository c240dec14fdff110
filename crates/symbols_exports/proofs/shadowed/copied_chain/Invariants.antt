use Rattle.std.proofs.Common.{◌≡◌, ◌++◌, map}
use Rattle.symbols_exports.specs.ExportChains.{statements_of_chain}
use Rattle.symbols_exports.specs.inner.Collecting.{frame_view}
use Rattle.symbols_exports.proofs.shadowed.copied_chain.Given as goal

abbrev pub invariant-rest : goal.invariant-rest
invariant-rest l = map frame_view l.frames.items ++ statements_of_chain l.rest ≡ statements_of_chain l.chain
