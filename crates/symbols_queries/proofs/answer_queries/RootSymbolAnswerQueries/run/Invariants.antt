use Rattle.symbols_queries.proofs.Running.{AreAnswered}
use Rattle.symbols_queries.proofs.answer_queries.RootSymbolAnswerQueries.run.Given as goal

abbrev pub invariant-loop-query : goal.invariant-loop-query
invariant-loop-query l = AreAnswered l.fn.self l.self l.answers.items l.queries l.query-index
