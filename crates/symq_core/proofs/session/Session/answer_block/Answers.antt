use Rattle.std.proofs.Common.{ℕ, List, [], ◌∷◌, ◌++◌, ap, sym, subst, ◌∙◌, append-nil}
use Rattle.std.proofs.lemmas.Result.{err_from_is_err_and, on_ok_weaker}
use Rattle.symq_core.specs.Lines.{answer_lines}
use Rattle.symq_core.specs.inner.Sessions.{SendsText, split_with_partial_line, line_answer}
use Rattle.symq_core.proofs.Parts.{answer_lines-append}
use Rattle.symq_core.proofs.Beginnings.{sends_then, sends_all}
use Rattle.symq_core.proofs.Blocks.{one_more_line, one_more_fault, all_lines, flush_failed}
use Rattle.symq_core.proofs.session.Session.answer_block.Goals as goal

pub returns-in_err-take_line-clause-err : goal.returns-in_err-take_line-clause-err
returns-in_err-take_line-clause-err g c =
    let p = err_from_is_err_and c.from_residual.result c.from_residual.ensures.1 in
    let l = c.lines in
    let v = l.invariant in
    let e = rw v.4 at c.in_err-take_line.ensures.err in
    let old = c.args.self.now in
    rw (p.1, p.2) (one_more_fault (line_answer old.root) c.in_err-take_line.field-0.0 _ _ _ old.answers.items l.self.answers.items
    c.take_line.new.self.answers.items old.line.items c.args.block.now l.self.line.items l.rest.now c.in-Some.line.now c.in-Some.more.now v.0 _ _ _
    v.1 c.in-Some.ensures.split v.2 v.3 e)

pub lines-preserved : goal.lines-preserved
lines-preserved g c =
    let l = c.lines in
    let v = l.invariant in
    let old = c.args.self.now in
    let answer = line_answer old.root in
    let done = rw v.4 at c.in_ok-take_line.ensures.ok in
    let line = l.self.line.items ++ c.in-Some.line.now in (
      v.0 ++ line ∷ [],
      one_more_line old.line.items c.args.block.now l.self.line.items l.rest.now c.in-Some.line.now c.in-Some.more.now v.0 v.1 c.in-Some.ensures.split
          ∙ ap (λ t. (v.0 ++ line ∷ []) ++ split_with_partial_line t c.in-Some.more.now) (sym {A = List ℕ} done.1),
      subst (SendsText _ _ old.answers.items c.take_line.new.self.answers.items) (sym (answer_lines-append answer v.0 (line ∷ [])))
          (sends_then _ _ _ old.answers.items l.self.answers.items c.take_line.new.self.answers.items (answer_lines answer v.0)
          (answer_lines answer (line ∷ []))
          v.2 done.0),
      done.2 ∙ v.3,
      c.in_ok-take_line.ensures.same ∙ v.4,
    )

pub returns-in_err-extend_from_slice-clause-err : goal.returns-in_err-extend_from_slice-clause-err
returns-in_err-extend_from_slice-clause-err g c =
    let p = err_from_is_err_and c.from_residual-in_err-extend_from_slice.result c.from_residual-in_err-extend_from_slice.ensures.1 in
    let l = c.lines in
    let v = l.invariant in
    let old = c.args.self.now in
    let answer = line_answer old.root in
    let all = all_lines old.line.items c.args.block.now l.self.line.items l.rest.now v.0 v.1 c.in_default.ensures.split in
    rw (p.1, p.2, all.0) ((v.0, [], sym (append-nil v.0), v.2), v.3)

pub returns-clause-ok : goal.returns-clause-ok
returns-clause-ok g c =
    let l = c.lines in
    let v = l.invariant in
    let old = c.args.self.now in
    let answer = line_answer old.root in
    let all = all_lines old.line.items c.args.block.now l.self.line.items l.rest.now v.0 v.1 c.in_default.ensures.split in
    let line = ap (λ l. l.items) c.flush.ensures.unchanged.1 ∙ c.in_ok-extend_from_slice.ensures.items in
    rw (all.0, all.1) (on_ok_weaker c.flush.result
    (λ done. (sends_all _ _ _ old.answers.items l.self.answers.items (answer_lines answer v.0) v.2 done.0, done.1, line, done.2 ∙ v.3)) c.flush.ensures.ok)

pub returns-clause-err : goal.returns-clause-err
returns-clause-err g c =
    let l = c.lines in
    let v = l.invariant in
    let old = c.args.self.now in
    let answer = line_answer old.root in
    let all = all_lines old.line.items c.args.block.now l.self.line.items l.rest.now v.0 v.1 c.in_default.ensures.split in
    rw all.0 (flush_failed answer v.0 c.flush.result _ _ _ old.answers.items l.self.answers.items c.flush.new.self.answers.items _ _ _ c.flush.ensures.err
    v.2 v.3)
