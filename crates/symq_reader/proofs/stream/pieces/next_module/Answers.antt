use Rattle.std.proofs.Common.{◌≡◌, ◌∷◌, refl, lit<, arith, rules}
use Rattle.json.specs.Token.{Token}
use Rattle.symq_reader.specs.GraphText.{as_module, raw_module_view}
use Rattle.symq_reader.proofs.Streamed.{object_read}
use Rattle.symq_reader.proofs.stream.pieces.next_module.Goals as goal

pub returns-in_ok-push-in-Some-BeginObject : goal.returns-in_ok-push-in-Some-BeginObject
returns-in_ok-push-in-Some-BeginObject c =
    let begins : c.args.reader.now ≡ Token.begin_object ∷ c.next.new.self = grind arith in
    let found = c.in_ok-module_members-in-Some-BeginObject in
    record {
      one = found.field-0;
      reads = object_read as_module 125 124 c.args.reader.now c.next.new.self c.module_members.new.reader (raw_module_view found.field-0) (lit< tt) refl begins
          found.ensures;
      pushed = search rules;
    }
