use Rattle.symbols_paths.proofs.DepEntries.{AreEntriesSo}
use Rattle.symbols_paths.proofs.symbol_dep.entries_of_paths.Given as goal

abbrev pub invariant-loop-path : goal.invariant-loop-path
invariant-loop-path l = AreEntriesSo l.entries.items l.path-iterator.rest.items l.fn.paths.items
