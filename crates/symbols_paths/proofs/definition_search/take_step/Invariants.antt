use Rattle.symbols_paths.proofs.definition_search.take_step.Given as goal

abbrev pub ghost-begin_search : goal.ghost-begin_search
ghost-begin_search g a = g.start

abbrev pub ghost-follow_next_decl : goal.ghost-follow_next_decl
ghost-follow_next_decl g a = g.start

abbrev pub ghost-try_next_star : goal.ghost-try_next_star
ghost-try_next_star g a = g.start

abbrev pub ghost-replace_next_definition : goal.ghost-replace_next_definition
ghost-replace_next_definition g a = g.start

abbrev pub ghost-resume_frame : goal.ghost-resume_frame
ghost-resume_frame g a = g.start
