use Rattle.std.proofs.Common.{length}
use Rattle.symq_reader.specs.inner.Pieces.{ReadsPieces}
use Rattle.symq_reader.proofs.stream.pieces.pieces.Given as goal

-- the modules before the rest were read and appended
abbrev pub invariant-pieces : goal.invariant-pieces
invariant-pieces l = ReadsPieces l.fn.list l.rest l.initial.found.items l.found.items

abbrev pub decreases-pieces : goal.decreases-pieces
decreases-pieces l = length l.rest
