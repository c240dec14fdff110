use Rattle.std.proofs.Common.{◌≡◌, ◌-◌, ◌<◌, ◌≤◌, length, take, decimal}
use Rattle.symq_reader.proofs.short_numbers.short_number.Given as goal

abbrev pub invariant-digits : goal.invariant-digits
invariant-digits l = (0 < l.found) × (l.index ≤ length l.bytes) × (take l.index l.bytes ≡ decimal l.found)

abbrev pub decreases-digits : goal.decreases-digits
decreases-digits l = length l.bytes - l.index
