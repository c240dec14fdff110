use Rattle.std.proofs.Common.{ℕ, ◌<◌, ◌≤◌, ◌-◌, length, get_or}
use Rattle.json.specs.Written.{PlainBetween}
use Rattle.symq_reader.proofs.query_list.keyword_len.Given as goal

abbrev pub invariant-loop-end : goal.invariant-loop-end
invariant-loop-end l = (l.end ≤ length l.bytes) × PlainBetween l.bytes 0 l.end × ((k : ℕ) → k < l.end → get_or l.bytes k 0 < 128)

abbrev pub decreases-loop-end : goal.decreases-loop-end
decreases-loop-end l = length l.bytes - l.end
