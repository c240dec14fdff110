use Rattle.symbols_paths.proofs.follow_decl.follow_decl.Given as goal

abbrev pub ghost-begin_alias : goal.ghost-begin_alias
ghost-begin_alias g a = g.start

abbrev pub ghost-follow_import : goal.ghost-follow_import
ghost-follow_import g a = g.start
