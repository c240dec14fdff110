use Rattle.std.proofs.Common.{◌≡◌, ◌∷◌, Some, arith}
use Rattle.json.specs.Token.{Token}
use Rattle.serde_json.specs.Find.{as_u64}
use Rattle.serde_json.specs.Read.{number_of}
use Rattle.symq_reader.specs.inner.Objects.{whole_number}
use Rattle.symq_reader.specs.JsonData.{number_or_minus_one}
use Rattle.symq_reader.specs.inner.Streams.{ReadsValue}
use Rattle.symq_reader.proofs.Entered.{whole_read}
use Rattle.symq_reader.proofs.Streamed.{mapped_ok}
use Rattle.symq_reader.proofs.stream.entries.next_whole.Goals as goal

pub returns-in-Some-Number : goal.returns-in-Some-Number
returns-in-Some-Number c =
    let s = c.in-Some-Number.digits.now in
    let begins : c.args.reader.now ≡ Token.number s ∷ c.next.new.self = grind arith in
    mapped_ok c.whole.result (λ n. as_u64 (number_or_minus_one (number_of s)) ≡ Some n)
    (λ n. ReadsValue 120 c.args.reader.now c.next.new.self (λ d. Some d) (whole_number n))
    (λ n h. whole_read 120 c.args.reader.now c.next.new.self s n begins h) c.whole.ensures
