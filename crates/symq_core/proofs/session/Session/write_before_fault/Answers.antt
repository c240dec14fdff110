use Rattle.std.proofs.Common.{sym, subst}
use Rattle.symq_core.specs.inner.Sessions.{IsLinesFault, IsWrittenLinesFault}
use Rattle.symq_core.proofs.Blocks.{first_begun}
use Rattle.symq_core.proofs.session.Session.write_before_fault.Goals as goal

pub returns-in-Err : goal.returns-in-Err
returns-in-Err g c = λ answer lines begun waiting count p.
    let before = g.W.Output.written c.args.writer.now in
    let after = g.W.Output.written c.flush.new.writer in
    let old = g.W.Output.failures c.args.writer.now in
    let new = g.W.Output.failures c.flush.new.writer in
    let pending = c.args.self.now.answers.items in
    let q = c.in-Err.ensures.err in
    subst (IsWrittenLinesFault answer lines begun after waiting count new) (sym q.0)
    (first_begun answer lines begun before after waiting pending count old new
    (subst (IsLinesFault answer lines begun before waiting pending count old) c.in-OutOfMemory.is p) q.1 q.2)
