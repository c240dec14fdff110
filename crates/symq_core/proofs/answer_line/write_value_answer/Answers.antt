use Rattle.symbols_root.specs.laws.Growing.{has_grown_refl}
use Rattle.symq_core.proofs.answer_line.write_value_answer.Goals as goal

pub returns-in_err-query-in-Some-clause-grown : goal.returns-in_err-query-in-Some-clause-grown
returns-in_err-query-in-Some-clause-grown c = has_grown_refl c.args.root.now

pub returns-in-None-2-clause-grown : goal.returns-in-None-2-clause-grown
returns-in-None-2-clause-grown c = has_grown_refl c.args.root.now
