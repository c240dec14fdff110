use Rattle.std.proofs.Common.{length}
use Rattle.json.specs.Json as json
use Rattle.symq_reader.specs.inner.Streams.{ConsumesItems}
use Rattle.symq_reader.specs.inner.Pieces.{AreModulesAppended}
use Rattle.symq_reader.proofs.stream.modules.more_modules.Given as goal

-- the items that were read precede those to come
abbrev pub invariant-items : goal.invariant-items
invariant-items l = (done : json.Items) × ConsumesItems 125 l.initial.reader done l.reader × AreModulesAppended done l.initial.found.items l.found.items

abbrev pub decreases-items : goal.decreases-items
decreases-items l = length l.reader
