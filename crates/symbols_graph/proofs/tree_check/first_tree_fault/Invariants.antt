use Rattle.std.proofs.Common.{◌+◌, ◌*◌, ◌^◌, ◌<◌, length}
use Rattle.symbols_graph.specs.inner.Depths.{AreDepthsAfterCheckedNodes}
use Rattle.symbols_ast.specs.TreeFaults.{HasNoTreeFaultBelowRank}
use Rattle.symbols_graph.proofs.tree_check.first_tree_fault.Given as goal

abbrev pub invariant-loop-n : goal.invariant-loop-n
invariant-loop-n l = record {
  few : length l.nodes < 2 ^ 32;
  deep : AreDepthsAfterCheckedNodes l.nodes l.n l.depths.items;
  clear : HasNoTreeFaultBelowRank l.text l.nodes (5 * l.n + 2);
}
