use Rattle.std.proofs.Common.{◌≡◌, [], ◌∷◌, Some, ap, arith}
use Rattle.json.specs.Token.{Token}
use Rattle.json.specs.Json.{after_end_array}
use Rattle.symq_reader.proofs.Entered.{none_read, wholes_read}
use Rattle.symq_reader.proofs.stream.entries.list.Goals as goal

pub returns-in-Some-EndArray : goal.returns-in-Some-EndArray
returns-in-Some-EndArray c =
    let ts = c.args.reader.now in
    let begins : ts ≡ Token.end_array ∷ c.next.new.self = grind arith in
    let ends : after_end_array ts ≡ Some c.next.new.self = ap after_end_array begins in
    wholes_read ts c.next.new.self [] c.new.result.items c.new.ensures.items (none_read (λ d. Some d) 120 ts c.next.new.self ends)
