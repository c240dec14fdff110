use Rattle.std.proofs.Common.{refl, sym, subst}
use Rattle.symq_c.specs.Sessions.{IsSessionStateOfText}
use Rattle.symq_c.proofs.session_state.state_of.Goals as goal

pub returns-in-Ok-clause-accepted : goal.returns-in-Ok-clause-accepted
returns-in-Ok-clause-accepted c = subst (IsSessionStateOfText c.args.text.now c.args.rules) (sym c.in-Ok.ensures.ok) (c.in_ok-graph.ensures.accepted, refl)
