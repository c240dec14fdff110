use Rattle.std.proofs.lemmas.Result.{on_ok_weaker}
use Rattle.symq_core.proofs.Texts.{written, then}
use Rattle.symq_core.proofs.write_exports.write_exports.Goals as goal

pub returns : goal.returns
returns c =
    let exports = rw c.deref.ensures.value at c.in_ok-write_items.ensures in
    let front = then (then (written c.in_ok-begin_object.ensures) (written c.in_ok-key.ensures)) exports in
    on_ok_weaker c.end_exports.result (λ e. then front e) c.end_exports.ensures
