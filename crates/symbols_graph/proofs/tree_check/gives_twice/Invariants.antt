use Rattle.symbols_graph.proofs.Giving.{HasGiven}
use Rattle.symbols_graph.proofs.tree_check.gives_twice.Given as goal

abbrev pub invariant-loop-id : goal.invariant-loop-id
invariant-loop-id l = HasGiven l.ids l.initial.depths l.depths l.depth l.id-index
