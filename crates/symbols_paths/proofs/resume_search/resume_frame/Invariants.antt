use Rattle.symbols_paths.proofs.resume_search.resume_frame.Given as goal

abbrev pub ghost-resume_star : goal.ghost-resume_star
ghost-resume_star g a = g.start

abbrev pub ghost-resume_alias : goal.ghost-resume_alias
ghost-resume_alias g a = g.start

abbrev pub ghost-resume_parts : goal.ghost-resume_parts
ghost-resume_parts g a = g.start

abbrev pub ghost-resume_replacement : goal.ghost-resume_replacement
ghost-resume_replacement g a = g.start
