use Rattle.std.proofs.Common.{Some, reverse}
use Rattle.symbols_paths.specs.inner.PathBuilders.{remaining_parts}
use Rattle.symbols_paths.proofs.BuiltPaths.{AreLaid}
use Rattle.symbols_paths.proofs.DropOrder.{whole}
use Rattle.symbols_paths.proofs.DropBuilders.{weight_of_segment}
use Rattle.symbols_paths.proofs.build_paths.prepend_segments_with_parts.Given as goal

abbrev pub invariant-loop-segment : goal.invariant-loop-segment
invariant-loop-segment l = AreLaid (Some (remaining_parts l.parts)) l.paths.items (reverse l.stack.items) l.fn.segments.items l.fn.next.items

abbrev pub decreases-loop-segment : goal.decreases-loop-segment
decreases-loop-segment l = whole weight_of_segment l.stack.items
