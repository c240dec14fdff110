use Rattle.std.proofs.Common.{None}
use Rattle.symbols_paths.proofs.BuiltPaths.{AreLaid}
use Rattle.symbols_paths.proofs.build_paths.prepend_segments.Given as goal

abbrev pub invariant-loop-segment : goal.invariant-loop-segment
invariant-loop-segment l = AreLaid None l.paths.items l.segment-iterator.rest.items l.fn.segments.items l.fn.next.items
