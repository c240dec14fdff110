use Rattle.std.proofs.lemmas.Result.{IfOk-weaker}
use Rattle.symbols_paths.proofs.SearchLoop.{search_can_begin, paths_of_new_search}
use Rattle.symbols_paths.proofs.definition_search.find_definition_paths_internal.Goals as goal

pub search_from-requires : goal.search_from-requires
search_from-requires c = rw c.new-frames.ensures.items (search_can_begin c.args.root.now c.args.symbol c.requires.known)

pub returns-clause-found : goal.returns-clause-found
returns-clause-found c = IfOk-weaker c.search_from.result _ _
    (λ paths is. paths_of_new_search c.args.root.now c.args.symbol (rw c.new-frames.ensures.items at is.1))
    c.search_from.ensures.found
