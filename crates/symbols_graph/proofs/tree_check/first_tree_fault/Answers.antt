use Rattle.std.proofs.Common.{arith}
use Rattle.symbols_ast.specs.TreeFaults.{IsFaultlessTree}
use Rattle.symbols_graph.proofs.FaultOrder.{faultless}
use Rattle.symbols_graph.proofs.Faultless.{well_formed_where_faultless}
use Rattle.symbols_graph.proofs.tree_check.first_tree_fault.Goals as goal

pub returns : goal.returns
returns c =
    let nodes = c.args.tree.now.nodes.items in
    let none : IsFaultlessTree c.args.text.now nodes =
    rw c.as_slice-nodes.ensures.value at (faultless _ _ c.loop-n.n (omega arith) c.loop-n.invariant.few c.loop-n.invariant.clear) in
    record { first = none; whole = well_formed_where_faultless _ _ none }
