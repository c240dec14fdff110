use Rattle.std.proofs.Common.{◌≡◌, Some, arith}
use Rattle.json.specs.Json.{after_end_array}
use Rattle.symq_reader.proofs.Entered.{name_read}
use Rattle.symq_reader.proofs.stream.entries.list_of_name.Goals as goal

pub returns-then-take_end_array : goal.returns-then-take_end_array
returns-then-take_end_array c =
    let ends : after_end_array c.next_whole.new.reader ≡ Some c.take_end_array.new.self = grind arith in
    name_read c.args.reader.now c.next_whole.new.reader c.take_end_array.new.self c.args.name.now c.in_ok-number.number c.in_ok-number.ensures ends
