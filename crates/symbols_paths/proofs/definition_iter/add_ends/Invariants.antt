use Rattle.std.proofs.Common.{reverse}
use Rattle.symbols_paths.proofs.PathEnds.{AreEndsSo}
use Rattle.symbols_paths.proofs.DropOrder.{whole}
use Rattle.symbols_paths.proofs.DropPaths.{weight_of_path}
use Rattle.symbols_paths.proofs.definition_iter.add_ends.Given as goal

abbrev pub invariant-loop-path : goal.invariant-loop-path
invariant-loop-path l = AreEndsSo l.left.items (reverse l.stack.items) l.fn.left.items l.fn.paths.items

abbrev pub decreases-loop-path : goal.decreases-loop-path
decreases-loop-path l = whole weight_of_path l.stack.items
