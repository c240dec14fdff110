use Rattle.std.proofs.Common.{◌≡◌, ◌∷◌, refl, lit<, arith}
use Rattle.json.specs.Token.{Token}
use Rattle.symq_reader.specs.GraphText.{as_module, raw_module_view}
use Rattle.symq_reader.specs.inner.Streams.{ReadsValue, ReadsMembers}
use Rattle.symq_reader.proofs.Streamed.{mapped_ok, object_read}
use Rattle.symq_reader.proofs.stream.modules.module.Goals as goal

pub returns : goal.returns
returns c =
    let begins : c.args.reader.now ≡ Token.begin_object ∷ c.next.new.self = grind arith in
    mapped_ok c.module_members.result (λ found. ReadsMembers 124 c.next.new.self c.module_members.new.reader as_module (raw_module_view found))
    (λ found. ReadsValue 125 c.args.reader.now c.module_members.new.reader as_module (raw_module_view found))
    (λ found h. object_read as_module 125 124 c.args.reader.now c.next.new.self c.module_members.new.reader (raw_module_view found) (lit< tt) refl begins h)
    c.module_members.ensures
