use Rattle.std.proofs.Common.{sym, subst}
use Rattle.symbols_queries.specs.declared.query.Answer.{Answer}
use Rattle.symbols_queries.specs.Queries.{answer_view}
use Rattle.symq_core.specs.Queries.{answer_json}
use Rattle.symq_core.specs.inner.JsonWriting.{AppendsValueTokensIfOk}
use Rattle.symq_core.proofs.query.write_answer.Goals as goal

pub returns-in-Definitions : goal.returns-in-Definitions
returns-in-Definitions c =
    let answered = rw c.deref-in-Definitions.ensures.value at c.write_list-in-Definitions.ensures in
    subst (λ (x : Answer). AppendsValueTokensIfOk c.write_list-in-Definitions.result c.args.out.now c.write_list-in-Definitions.new.out
    (answer_json (answer_view x)))
    (sym c.in-Definitions.is) answered
