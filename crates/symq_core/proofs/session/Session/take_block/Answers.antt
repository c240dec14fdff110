use Rattle.symq_core.specs.Lines.{all_but_last}
use Rattle.symq_core.specs.inner.Sessions.{split_with_partial_line, line_answer}
use Rattle.symq_core.proofs.session.Session.take_block.Goals as goal

pub returns-in-Err-clause-err : goal.returns-in-Err-clause-err
returns-in-Err-clause-err g c =
    let old = c.args.self.now in
    c.write_before_fault.ensures (line_answer old.root) (all_but_last (split_with_partial_line old.line.items c.args.block.now)) _ _ _ c.in-Err.ensures.err
