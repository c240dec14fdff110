use Rattle.std.proofs.Common.{◌∷◌, [], map, reverse}
use Rattle.std.specs.Borrow.{Bor}
use Rattle.symbols_paths.specs.declared.path_builder.PathBuilder.{PathBuilder}
use Rattle.symbols_paths.proofs.BuilderDefinitions.{IsListedSoFar}
use Rattle.symbols_paths.proofs.DropOrder.{whole}
use Rattle.symbols_paths.proofs.DropBuilders.{weight_of_builder}
use Rattle.symbols_paths.proofs.replace_definitions.list_definition.Given as goal

abbrev pub invariant-loop-builder : goal.invariant-loop-builder
invariant-loop-builder l = IsListedSoFar l.found.items (reverse (map (λ (b : Bor PathBuilder). b.now) l.stack.items)) l.fn.found.items (l.builder ∷ [])

abbrev pub decreases-loop-builder : goal.decreases-loop-builder
decreases-loop-builder l = whole weight_of_builder (map (λ (b : Bor PathBuilder). b.now) l.stack.items)
