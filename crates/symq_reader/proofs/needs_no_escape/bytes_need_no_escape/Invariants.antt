use Rattle.json.specs.Written.{PlainBetween}
use Rattle.symq_reader.proofs.needs_no_escape.bytes_need_no_escape.Given as goal

abbrev pub invariant-loop-byte : goal.invariant-loop-byte
invariant-loop-byte l = PlainBetween l.text 0 l.byte-index
