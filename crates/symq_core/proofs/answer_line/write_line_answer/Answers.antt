use Rattle.symbols_root.specs.laws.Growing.{has_grown_refl}
use Rattle.symq_core.proofs.answer_line.write_line_answer.Goals as goal

pub returns-in_err-fast-clause-grown : goal.returns-in_err-fast-clause-grown
returns-in_err-fast-clause-grown c = has_grown_refl c.args.root.now
