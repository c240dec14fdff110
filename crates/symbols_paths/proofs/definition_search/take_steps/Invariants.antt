use Rattle.symbols_paths.specs.inner.SearchWork.{remaining_search_work}
use Rattle.symbols_paths.proofs.SearchLoop.{AreSteps}
use Rattle.symbols_paths.proofs.definition_search.take_steps.Given as goal

abbrev pub ghost-take_step : goal.ghost-take_step
ghost-take_step g a = g.start

abbrev pub invariant-steps : goal.invariant-steps
invariant-steps g l = AreSteps g.start l.fn.root l.fn.state.visited.keys l.fn.state.frames.items l.fn.first l.root l.state.resolving.keys
    l.state.visited.keys l.state.frames.items l.step

abbrev pub decreases-steps : goal.decreases-steps
decreases-steps g l = remaining_search_work g.start.running l.state.visited.keys l.state.frames.items l.step
