use Rattle.std.proofs.Common.{ℕ, ◌<◌, get_or}
use Rattle.symbols_ast.specs.TreeFaults.{IsBadChild}
use Rattle.symbols_graph.proofs.tree_check.any_bad_child.Given as goal

abbrev pub invariant-loop-id : goal.invariant-loop-id
invariant-loop-id l = (k : ℕ) → k < l.id-index → IsBadChild l.count l.n (get_or l.ids k 0) → ⊥
