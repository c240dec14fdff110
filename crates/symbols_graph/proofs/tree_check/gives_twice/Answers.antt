use Rattle.std.proofs.Common.{◌≡◌, ◌<◌, length, get_or, arith, rules}
use Rattle.symbols_graph.proofs.Giving.{HasGiven-more, SetsDepth-whole}
use Rattle.symbols_graph.proofs.tree_check.gives_twice.Goals as goal

pub loop-id-preserved : goal.loop-id-preserved
loop-id-preserved c =
    let at : c.index-child.result ≡ get_or c.args.ids.now c.loop-id.id-index c.index-child.result = rw c.index-child.ensures c.id-item.is in
    let inside : c.index-child.result < length c.loop-id.depths = search rules in
    HasGiven-more _ _ _ _ _ c.loop-id.invariant c.index-child.result at c.requires.deep c.loop-id-test.true inside c.if-depths-child-ne1.false

pub returns-clause-given : goal.returns-clause-given
returns-clause-given c = λ _. SetsDepth-whole _ _ _ _ _ c.loop-id.invariant (omega arith)
