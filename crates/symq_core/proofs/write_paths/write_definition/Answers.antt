use Rattle.std.proofs.Common.{subst}
use Rattle.std.proofs.lemmas.Result.{on_ok_weaker}
use Rattle.symbols_paths.specs.Views.{star_import_view}
use Rattle.symq_core.specs.inner.JsonWriting.{AppendsTokens}
use Rattle.symq_core.proofs.Texts.{written, then, star_before}
use Rattle.symq_core.proofs.write_paths.write_definition.Goals as goal

pub returns : goal.returns
returns c =
    let decl = then (then (written c.in_ok-begin_object.ensures) (written c.in_ok-key.ensures)) (c.in_ok-write_decl.ensures
    c.args.definition.now.«module».now) in
    let front = then decl (then c.in_ok-add_number.ensures c.in_ok-add_text.ensures) in
    let back = then c.in_ok-add_number-2.ensures (rw (c.from.ensures, c.number.ensures) at c.in_ok-add_number-3.ensures) in
    on_ok_weaker c.end_object.result (λ e. then front (subst (AppendsTokens _ _) (star_before (star_import_view c.args.definition.now.kind) _)
    (then c.in_ok-add_star.ensures (then back (record { before = c.end_object.ensures.room.0; tokens = e }))))) c.end_object.ensures.ok
