use Rattle.std.proofs.lemmas.Result.{on_ok_weaker}
use Rattle.symq_core.proofs.Texts.{written, then}
use Rattle.symq_core.proofs.write_paths.write_unresolved.Goals as goal

pub returns : goal.returns
returns c =
    let kind = rw c.unresolved_reason_str.ensures at c.in_ok-add_text.ensures in
    let name = rw c.unresolved_name_or_specifier.ensures at c.in_ok-add_text-3.ensures in
    let front = then (then (written c.in_ok-begin_object.ensures) kind) (then c.in_ok-add_text-2.ensures name) in
    let parts = then (written c.in_ok-key.ensures) (rw c.as_slice.ensures.value at c.in_ok-write_items.ensures) in
    on_ok_weaker c.end_unresolved.result (λ e. then front (then parts e)) c.end_unresolved.ensures
