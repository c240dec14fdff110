use Rattle.std.proofs.Common.{◌≡◌, Option, None, sym, subst}
use Rattle.symbols_answers.specs.Answers.{AnswerView, query_answer}
use Rattle.symbols_queries.specs.Queries.{query_view}
use Rattle.symq_core.specs.Queries.{answer_or_fault_json}
use Rattle.symq_core.specs.inner.JsonWriting.{AppendsValueTokensIfOk}
use Rattle.symq_core.proofs.QueryResults.{none_answered}
use Rattle.symq_core.proofs.answer_line.write_query_answer.Goals as goal

pub returns-in-Err-UnknownSymbol-clause-value : goal.returns-in-Err-UnknownSymbol-clause-value
returns-in-Err-UnknownSymbol-clause-value c =
    let faults = rw c.in-Err-UnknownSymbol.field-0-is at c.in-Err-UnknownSymbol.ensures.faults in
    let none : query_answer c.args.root.now.rules c.args.root.now.graph (query_view c.args.query.now) ≡ None =
    none_answered c.args.root.now c.answer.new.self (query_view c.args.query.now) faults in
    subst (λ (found : Option AnswerView). AppendsValueTokensIfOk c.write_text.result c.args.out.now c.write_text.new.out (answer_or_fault_json found))
    (sym none)
    c.write_text.ensures
