use Rattle.symbols_paths.specs.Views.{remaining_ends}
use Rattle.symbols_paths.proofs.PathEnds.{AreDefinitionsSo}
use Rattle.symbols_paths.proofs.definition_iter.definitions_of_ends.Given as goal

abbrev pub invariant-loop-end : goal.invariant-loop-end
invariant-loop-end l = AreDefinitionsSo l.left.items l.end-iterator.rest.items (remaining_ends l.fn.ends)
