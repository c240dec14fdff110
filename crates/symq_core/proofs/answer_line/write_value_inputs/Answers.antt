use Rattle.symq_core.proofs.answer_line.write_value_inputs.Goals as goal

pub returns-in-None-clause-value : goal.returns-in-None-clause-value
returns-in-None-clause-value c = rw (← c.in_ok-query.ensures, c.in-None.is) c.write_text.ensures
