use Rattle.symq_reader.specs.GraphText.{as_node, raw_node_view}
use Rattle.symq_reader.proofs.ListRounds.{each_round}
use Rattle.symq_reader.proofs.nodes.nodes.Goals as goal

pub loop-item-preserved : goal.loop-item-preserved
loop-item-preserved c =
    let l = c.loop-item in
    each_round as_node raw_node_view l.nodes.items c.add_node.new.found.items c.in_ok-add_node.ensures.added.0 c.item-item.result c.in-Some.items.now
    l.item-index
    _ c.loop-item-test.true c.item-item.is c.in_ok-add_node.ensures.added.1 c.in_ok-add_node.ensures.added.2 l.invariant
