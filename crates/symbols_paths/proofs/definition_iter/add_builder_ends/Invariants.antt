use Rattle.std.proofs.Common.{reverse}
use Rattle.symbols_paths.proofs.PathEnds.{AreBuilderEndsSo}
use Rattle.symbols_paths.proofs.DropOrder.{whole}
use Rattle.symbols_paths.proofs.DropBuilders.{weight_of_builder}
use Rattle.symbols_paths.proofs.definition_iter.add_builder_ends.Given as goal

abbrev pub invariant-loop-builder : goal.invariant-loop-builder
invariant-loop-builder l = AreBuilderEndsSo l.left.items (reverse l.stack.items) l.fn.left.items l.fn.builders.items

abbrev pub decreases-loop-builder : goal.decreases-loop-builder
decreases-loop-builder l = whole weight_of_builder l.stack.items
