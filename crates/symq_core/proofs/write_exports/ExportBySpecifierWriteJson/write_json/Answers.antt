use Rattle.std.proofs.lemmas.Result.{on_ok_weaker}
use Rattle.symq_core.proofs.Texts.{written, then}
use Rattle.symq_core.proofs.write_exports.ExportBySpecifierWriteJson.write_json.Goals as goal

pub returns : goal.returns
returns c =
    let chain = then (then (written c.in_ok-begin_object.ensures) (written c.in_ok-key.ensures)) (rw c.deref.ensures.value at c.in_ok-write_items.ensures) in
    let name = rw c.as_str.ensures.value at c.in_ok-add_text-2.ensures in
    let number = rw (c.from.ensures, c.number.ensures) at c.in_ok-add_number.ensures in
    let members = then (then c.in_ok-add_text.ensures name) number in
    on_ok_weaker c.end_object.result (λ e. then chain (then members (record { before = c.end_object.ensures.room.0; tokens = e }))) c.end_object.ensures.ok
