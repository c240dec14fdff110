use Rattle.std.proofs.lemmas.Result.{on_ok_weaker}
use Rattle.symq_core.proofs.Texts.{written, then}
use Rattle.symq_core.proofs.write_paths.begin_link.Goals as goal

pub returns : goal.returns
returns c =
    let decl = then (then (written c.in_ok-begin_object.ensures) (written c.in_ok-key.ensures)) (c.in_ok-write_decl.ensures c.args.specifier.now) in
    let back = then c.in_ok-add_text.ensures (written c.in_ok-key-2.ensures) in
    on_ok_weaker c.begin_array.result (λ e. then decl (then back (record { before = c.begin_array.ensures.room.0; tokens = e }))) c.begin_array.ensures.ok
