use Rattle.std.proofs.Common.{length}
use Rattle.json.specs.Json as json
use Rattle.symq_reader.specs.inner.Pieces.{ConsumesValues, AreModulesAppended}
use Rattle.symq_reader.proofs.stream.pieces.piece.Given as goal

-- the values that were read are those of the modules that were appended
abbrev pub invariant-modules : goal.invariant-modules
invariant-modules l = (values : json.Items) × ConsumesValues l.initial.reader values l.reader × AreModulesAppended values l.initial.found.items l.found.items

abbrev pub decreases-modules : goal.decreases-modules
decreases-modules l = length l.reader
