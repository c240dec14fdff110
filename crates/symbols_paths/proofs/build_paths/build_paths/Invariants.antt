use Rattle.std.proofs.Common.{◌+◌, reverse}
use Rattle.symbols_paths.proofs.OpenForks.{AreBuilding, forks_weight}
use Rattle.symbols_paths.proofs.DropOrder.{whole}
use Rattle.symbols_paths.proofs.DropBuilders.{weight_of_builder}
use Rattle.symbols_paths.proofs.build_paths.build_paths.Given as goal

abbrev pub invariant-loop-builder : goal.invariant-loop-builder
invariant-loop-builder l = AreBuilding l.paths.items (reverse l.rest.items) (reverse l.forks.items) l.fn.builders.items

abbrev pub decreases-loop-builder : goal.decreases-loop-builder
decreases-loop-builder l = whole weight_of_builder l.rest.items + forks_weight (reverse l.forks.items)
