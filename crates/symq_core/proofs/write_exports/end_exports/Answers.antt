use Rattle.std.proofs.lemmas.Result.{on_ok_weaker}
use Rattle.symq_core.proofs.Texts.{written, then}
use Rattle.symq_core.proofs.write_exports.end_exports.Goals as goal

pub returns-in_ok-write_items-in-Some : goal.returns-in_ok-write_items-in-Some
returns-in_ok-write_items-in-Some c =
    let shared = rw c.deref-in-Some.ensures.value at c.in_ok-write_items-in-Some.ensures in
    let front = then (written c.in_ok-key-in-Some.ensures) shared in
    let end = rw c.deref-in-Some-2.ensures.value at c.end_unresolved-in-Some.ensures in
    rw c.in-Some.is (on_ok_weaker c.end_unresolved-in-Some.result (λ e. then front e) end)
