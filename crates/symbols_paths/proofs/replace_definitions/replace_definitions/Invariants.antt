use Rattle.std.proofs.Common.{◌+◌, reverse}
use Rattle.symbols_paths.specs.inner.PathBuilders.{remaining_parts}
use Rattle.symbols_paths.proofs.OpenReplacements.{AreReplacing, forks_weight}
use Rattle.symbols_paths.proofs.DropOrder.{whole}
use Rattle.symbols_paths.proofs.DropBuilders.{weight_of_builder}
use Rattle.symbols_paths.proofs.replace_definitions.replace_definitions.Given as goal

abbrev pub invariant-loop-builder : goal.invariant-loop-builder
invariant-loop-builder l =
    AreReplacing (remaining_parts l.parts) l.found.items (reverse l.rest.items) (reverse l.forks.items) l.changed.items l.fn.builders.items
    l.fn.changed.items

abbrev pub decreases-loop-builder : goal.decreases-loop-builder
decreases-loop-builder l = whole weight_of_builder l.rest.items + forks_weight (reverse l.forks.items)
