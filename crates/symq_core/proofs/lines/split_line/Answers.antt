use Rattle.symq_core.proofs.Parts.{parts_unended, parts_at_end}
use Rattle.symq_core.proofs.lines.split_line.Goals as goal

pub returns-in_err-end-clause-split : goal.returns-in_err-end-clause-split
returns-in_err-end-clause-split c = rw c.from_residual.ensures (parts_unended c.args.bytes.now c.in_err-end.ensures)

pub returns-clause-split : goal.returns-clause-split
returns-clause-split c =
    let first = c.in_ok-end.ensures in
    rw c.split_at.ensures.back (parts_at_end c.args.bytes.now c.in_ok-end.end first.0 first.1)
