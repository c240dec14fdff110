use Rattle.std.proofs.lemmas.Result.{IfOk-weaker}
use Rattle.symbols_paths.proofs.definition_search.search_from.Goals as goal

pub take_steps-requires : goal.take_steps-requires
take_steps-requires g c = rw (c.new-resolving.ensures.empty, c.new-visited.ensures.empty) c.requires

pub returns-clause-found : goal.returns-clause-found
returns-clause-found g c = IfOk-weaker c.take_steps.result _ _ (λ paths is. (c.take_steps.new.state.visited.keys, rw c.new-visited.ensures.empty at is))
    c.take_steps.ensures.found
