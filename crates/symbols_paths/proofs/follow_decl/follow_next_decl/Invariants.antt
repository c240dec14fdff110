use Rattle.symbols_paths.proofs.follow_decl.follow_next_decl.Given as goal

abbrev pub ghost-follow_decl : goal.ghost-follow_decl
ghost-follow_decl g a = g.start
