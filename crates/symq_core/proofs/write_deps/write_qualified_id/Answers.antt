use Rattle.std.proofs.lemmas.Result.{on_ok_weaker}
use Rattle.symq_core.proofs.Texts.{written, then}
use Rattle.symq_core.proofs.write_deps.write_qualified_id.Goals as goal

pub returns : goal.returns
returns c =
    let name = written (rw c.as_str.ensures.value at c.in_ok-string-2.ensures) in
    let scope = written (rw c.from.ensures at c.in_ok-u64.ensures) in
    let front = then (then (written c.in_ok-begin_array.ensures) (written c.in_ok-string.ensures)) (then name scope) in
    on_ok_weaker c.end_array.result (λ e.
    then front (then c.in_ok-write_items.ensures (record { before = c.end_array.ensures.room.0; tokens = e }))) c.end_array.ensures.ok
