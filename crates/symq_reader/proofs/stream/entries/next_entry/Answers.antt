use Rattle.std.proofs.Common.{◌≡◌, ◌∷◌, arith}
use Rattle.json.specs.Token.{Token}
use Rattle.symq_reader.proofs.Entered.{whole_read, text_read}
use Rattle.symq_reader.proofs.stream.entries.next_entry.Goals as goal

pub returns-in_ok-whole-in-Some-Number : goal.returns-in_ok-whole-in-Some-Number
returns-in_ok-whole-in-Some-Number c =
    let s = c.in-Some-Number.digits.now in
    let begins : c.args.reader.now ≡ Token.number s ∷ c.next.new.self = grind arith in
    whole_read 121 c.args.reader.now c.next.new.self s c.in_ok-whole-in-Some-Number.field-0 begins c.in_ok-whole-in-Some-Number.ensures

pub returns-in-Some-String : goal.returns-in-Some-String
returns-in-Some-String c =
    let begins : c.args.reader.now ≡ Token.string c.in-Some-String.text.now ∷ c.next.new.self = grind arith in
    text_read 121 c.args.reader.now c.next.new.self c.in-Some-String.text.now begins
