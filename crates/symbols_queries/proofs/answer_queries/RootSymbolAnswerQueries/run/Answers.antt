use Rattle.std.proofs.Common.{◌∙◌, inl, arith}
use Rattle.symbols_root.specs.laws.Growing.{has_grown_trans}
use Rattle.symbols_queries.specs.Queries.{query_view, answer_view}
use Rattle.symbols_answers.specs.Answers.{IsAnswerToQuery, AreQueryModulesStored}
use Rattle.symbols_queries.specs.declared.query.Answer.{Answer}
use Rattle.symbols_queries.specs.declared.query.Query.{Query}
use Rattle.symbols_queries.proofs.Running.{IsNamed, zip_weaker, answered_first, answered_on, last_named, same_last, run_refused, run_out_of_memory}
use Rattle.symbols_queries.proofs.Running.{stores_up_to, stores_last}
use Rattle.symbols_queries.proofs.answer_queries.RootSymbolAnswerQueries.run.Goals as goal

pub loop-query-init : goal.loop-query-init
loop-query-init c = answered_first c.args.self.now c.new-answers.result.items c.args.queries.now c.new-answers.ensures.items

pub loop-query-preserved : goal.loop-query-preserved
loop-query-preserved c = answered_on c.args.self.now c.loop-query.self c.answer.new.self c.loop-query.answers.items c.push.new.self.items c.in-Ok.given
    c.args.queries.now c.loop-query.query-index c.query-item.result c.loop-query.invariant (omega (arith, c.loop-query-test.true)) c.query-item.is
    c.in-Ok.ensures.grown (record { answers = c.in-Ok.ensures.answers; is_right_answer = c.in-Ok.ensures.means; stored = c.in-Ok.ensures.stored })
    c.in-Ok.ensures.stores
    c.in_ok-push-in-Ok.ensures.items

pub returns-in-Err-clause-grown : goal.returns-in-Err-clause-grown
returns-in-Err-clause-grown c = has_grown_trans c.loop-query.invariant.grown c.in-Err.ensures.grown

pub returns-in-Err-clause-faults : goal.returns-in-Err-clause-faults
returns-in-Err-clause-faults c = run_refused c.args.self.now c.loop-query.self c.answer.new.self c.loop-query.answers.items c.args.queries.now
    c.loop-query.query-index c.query-item.result c.in-Err.fault c.loop-query.invariant (omega (arith, c.loop-query-test.true)) c.query-item.is
    (inl c.in-Err.ensures.faults)

pub returns-in-Err-clause-enough : goal.returns-in-Err-clause-enough
returns-in-Err-clause-enough c = λ wide. c.in-Err.ensures.enough (c.loop-query.invariant.grown.limits ∙ wide)

pub returns-in_err-push-in-Ok-clause-faults : goal.returns-in_err-push-in-Ok-clause-faults
returns-in_err-push-in-Ok-clause-faults c = run_out_of_memory c.from_residual.result c.args.self.now c.loop-query.self c.answer.new.self
    c.loop-query.answers.items c.in-Ok.given c.args.queries.now c.loop-query.query-index c.query-item.result c.loop-query.invariant
    (omega (arith, c.loop-query-test.true)) c.query-item.is c.in-Ok.ensures.grown
    (record { answers = c.in-Ok.ensures.answers; is_right_answer = c.in-Ok.ensures.means; stored = c.in-Ok.ensures.stored }) c.in-Ok.ensures.stores
    c.from_residual.ensures.1

pub returns-clause-grown : goal.returns-clause-grown
returns-clause-grown c = c.loop-query.invariant.grown

pub returns-clause-answers : goal.returns-clause-answers
returns-clause-answers c = same_last c.args.self.now c.loop-query.self c.loop-query.answers.items c.args.queries.now (last_named c.args.self.now
    c.loop-query.self c.loop-query.answers.items c.args.queries.now c.loop-query.query-index c.loop-query.invariant (omega (arith, c.loop-query-test.false)))

pub returns-clause-means : goal.returns-clause-means
returns-clause-means c =
    let named_form = last_named c.args.self.now c.loop-query.self c.loop-query.answers.items c.args.queries.now c.loop-query.query-index c.loop-query.invariant
    (omega (arith, c.loop-query-test.false)) in
    zip_weaker (IsNamed c.args.self.now c.loop-query.self) (λ (query : Query) (given : Answer). IsAnswerToQuery c.args.self.now.rules c.args.self.now.graph
    (query_view query) (answer_view given)) (λ query given is. is.is_right_answer) c.args.queries.now c.loop-query.answers.items named_form

pub returns-clause-stored : goal.returns-clause-stored
returns-clause-stored c =
    let named_form = last_named c.args.self.now c.loop-query.self c.loop-query.answers.items c.args.queries.now c.loop-query.query-index c.loop-query.invariant
    (omega (arith, c.loop-query-test.false)) in
    zip_weaker (IsNamed c.args.self.now c.loop-query.self) (λ (query : Query) (given : Answer). AreQueryModulesStored c.loop-query.self (query_view query)
    (answer_view given)) (λ query given is. is.stored) c.args.queries.now c.loop-query.answers.items named_form

pub returns-in-Err-clause-stores : goal.returns-in-Err-clause-stores
returns-in-Err-clause-stores c =
    stores_up_to c.args.self.now c.loop-query.self c.answer.new.self c.loop-query.answers.items c.args.queries.now c.loop-query.query-index
    c.query-item.result c.loop-query.invariant (omega (arith, c.loop-query-test.true)) c.query-item.is c.in-Err.ensures.stores

pub returns-in_err-push-in-Ok-clause-stores : goal.returns-in_err-push-in-Ok-clause-stores
returns-in_err-push-in-Ok-clause-stores c =
    stores_up_to c.args.self.now c.loop-query.self c.answer.new.self c.loop-query.answers.items c.args.queries.now c.loop-query.query-index
    c.query-item.result c.loop-query.invariant (omega (arith, c.loop-query-test.true)) c.query-item.is c.in-Ok.ensures.stores

pub returns-clause-stores : goal.returns-clause-stores
returns-clause-stores c =
    stores_last c.args.self.now c.loop-query.self c.loop-query.answers.items c.args.queries.now c.loop-query.query-index c.loop-query.invariant
