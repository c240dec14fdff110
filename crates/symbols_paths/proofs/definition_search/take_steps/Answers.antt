use Rattle.std.proofs.Common.{sym}
use Rattle.symbols_paths.proofs.SearchLoop.{next_steps, found_at_last}
use Rattle.symbols_paths.proofs.definition_search.take_steps.Goals as goal

pub steps-preserved : goal.steps-preserved
steps-preserved g c = next_steps c.steps.invariant c.in-Ok.ensures.keeps.grown c.in-Ok.ensures.stores c.in-Ok.ensures.steps

pub returns-clause-found : goal.returns-clause-found
returns-clause-found g c = found_at_last c.steps.invariant c.found_paths.result (sym c.steps-test.ensures) c.found_paths.ensures
