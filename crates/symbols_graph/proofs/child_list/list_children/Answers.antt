use Rattle.symbols_graph.proofs.NodeLemmas.{children_in_fields}
use Rattle.symbols_graph.proofs.child_list.list_children.Goals as goal

pub returns-in-Some : goal.returns-in-Some
returns-in-Some c =
    let found = c.in-Some.ensures.lookup in
    let all = children_in_fields c.args.nodes.now c.args.n c.in-Some.node.now c.fields.result found.3.0 found.1 c.fields.ensures in
    rw (c.clear.ensures.items, all) at c.push_all_children.ensures
