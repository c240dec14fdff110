use Rattle.std.proofs.Common.{rules}
use Rattle.symq_reader.specs.GraphText.{as_resolution, raw_resolution_view}
use Rattle.symq_reader.proofs.ListRounds.{each_round}
use Rattle.symq_reader.proofs.graph.resolutions.Goals as goal

pub loop-item-preserved : goal.loop-item-preserved
loop-item-preserved c =
    let l = c.loop-item in
    each_round as_resolution raw_resolution_view l.resolutions.items c.push.new.self.items c.in_ok-resolution.field-0 c.item-item.result c.in-Some.items.now
    l.item-index _ c.loop-item-test.true c.item-item.is c.in_ok-resolution.ensures (search rules) l.invariant
