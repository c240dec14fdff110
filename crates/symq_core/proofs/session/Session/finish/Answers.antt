use Rattle.symq_core.specs.Lines.{nonempty_line}
use Rattle.symq_core.specs.inner.Sessions.{line_answer}
use Rattle.symq_core.proofs.session.Session.finish.Goals as goal

pub returns-in-Err-clause-err : goal.returns-in-Err-clause-err
returns-in-Err-clause-err g c =
    let old = c.args.self.now in
    c.write_before_fault.ensures (line_answer old.root) (nonempty_line old.line.items) _ _ _ c.in-Err.ensures.err
