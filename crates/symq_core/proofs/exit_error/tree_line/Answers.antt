use Rattle.std.proofs.Common.{sym}
use Rattle.symq_core.proofs.exit_error.tree_line.Goals as goal

pub returns : goal.returns
returns c = rw (sym c.in_ok-rest.ensures) c.format.ensures.ok
