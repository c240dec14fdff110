use Rattle.std.proofs.Common.{◌≡◌, ◌++◌, ℕ, List, length}
use Rattle.std.specs.Io.KnownBytes.{Appends}
use Rattle.symq_core.proofs.write_all.write_all.Given as goal

abbrev pub invariant-writes : goal.invariant-writes
invariant-writes g l =
    (sent : List ℕ) × (l.bytes ≡ sent ++ l.rest) × Appends (g.W.Output.written l.initial.writer) (g.W.Output.written l.writer) sent
    × (g.W.Output.failures l.writer ≡ g.W.Output.failures l.initial.writer)

abbrev pub decreases-writes : goal.decreases-writes
decreases-writes g l = length l.rest
