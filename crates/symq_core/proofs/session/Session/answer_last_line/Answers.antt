use Rattle.std.proofs.Common.{◌<◌, [], ◌∷◌, ◌++◌, length, arith}
use Rattle.std.proofs.lemmas.Result.{err_from_is_err_and}
use Rattle.std.proofs.lemmas.Grind.{common_steps}
use Rattle.symq_core.specs.inner.Sessions.{line_answer}
use Rattle.symq_core.proofs.Parts.{nonempty_line-some}
use Rattle.symq_core.proofs.Blocks.{flush_failed}
use Rattle.symq_core.proofs.session.Session.answer_last_line.Goals as goal

pub returns-in_err-take_line-clause-err : goal.returns-in_err-take_line-clause-err
returns-in_err-take_line-clause-err g c =
    let p = err_from_is_err_and c.from_residual.result c.from_residual.ensures.1 in
    let e = c.in_err-take_line.ensures.err in
    let line = c.args.self.now.line.items in
    let some : 0 < length line = grind (arith, common_steps) in
    rw (p.1, p.2, nonempty_line-some line some) e

pub returns-clause-err : goal.returns-clause-err
returns-clause-err g c =
    let line = c.args.self.now.line.items in
    let some : 0 < length line = grind (arith, common_steps) in
    let sent = c.in_ok-take_line.ensures.ok in
    rw (nonempty_line-some line some) (flush_failed (line_answer c.args.self.now.root) ((line ++ []) ∷ []) c.flush-2.result _ _ _ c.args.self.now.answers.items
    c.take_line.new.self.answers.items c.flush-2.new.self.answers.items _ _ _ c.flush-2.ensures.err sent.0 sent.2)
