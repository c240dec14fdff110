use Rattle.std.proofs.Common.{[], ◌∷◌, ◌++◌, refl, ap, sym, subst, ◌∙◌, append-nil}
use Rattle.std.proofs.KnownBytes.{Appends-nil}
use Rattle.std.proofs.lemmas.Result.{err_from_is_err_and}
use Rattle.symq_core.specs.Serving.{IsPrefixAppendedToOutput}
use Rattle.symq_core.proofs.session.Session.take_line.Goals as goal

pub returns-in_err-flush-clause-err : goal.returns-in_err-flush-clause-err
returns-in_err-flush-clause-err g c =
    let p = err_from_is_err_and c.from_residual-in_err-flush.result c.from_residual-in_err-flush.ensures.1 in
    let e = c.in_err-flush.ensures.err in
    rw (p.1, p.2, e.0) (
      subst (IsPrefixAppendedToOutput _ _) (c.in_ok-end_line.ensures.ended.1 ∙ ap (λ t. c.args.self.now.answers.items ++ t) (sym (append-nil _))) e.1,
      e.2,
    )

pub returns-in_err-end_line-clause-err : goal.returns-in_err-end_line-clause-err
returns-in_err-end_line-clause-err g c =
    let p = err_from_is_err_and c.from_residual.result c.from_residual.ensures.1 in
    let none = append-nil c.args.self.now.answers.items ∙ sym c.in_err-end_line.ensures.retained in
    rw (p.1, p.2) (([], (c.args.self.now.line.items ++ c.args.tail.now) ∷ [], refl, ([], none, Appends-nil _)), refl)
