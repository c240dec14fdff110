use Rattle.std.proofs.Common.{[], drop}
use Rattle.symbols_paths.proofs.BuilderDefinitions.{IsListedSoFar}
use Rattle.symbols_paths.proofs.replace_definitions.definitions_among.Given as goal

abbrev pub invariant-loop-builder : goal.invariant-loop-builder
invariant-loop-builder l = IsListedSoFar l.found.items (drop l.builder-index l.builders) [] l.builders
