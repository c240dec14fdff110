use Rattle.symbols_paths.proofs.definition_search.search_from.Given as goal

abbrev pub ghost-take_steps : goal.ghost-take_steps
ghost-take_steps g a = g.start
