use Rattle.symbols_paths.proofs.resume_search.replaced_paths.Goals as goal

pub returns-clause-found : goal.returns-clause-found
returns-clause-found c = rw c.into_inner-search.ensures at c.replace_definitions.ensures.found
