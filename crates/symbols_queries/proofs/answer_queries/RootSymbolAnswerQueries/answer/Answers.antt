use Rattle.std.proofs.Common.{◌∙◌}
use Rattle.std.proofs.lemmas.Result.{IfOk-weaker, IfErr-weaker}
use Rattle.symbols_root.specs.laws.Growing.{has_grown_trans}
use Rattle.symbols_queries.specs.declared.query.Answer.{Answer}
use Rattle.symbols_queries.specs.Queries.{query_view, answer_view}
use Rattle.symbols_queries.proofs.QueriesAnswered.{form_is}
use Rattle.symbols_queries.proofs.Running.{queried_first, none_given, query_given, query_refused, module_refused}
use Rattle.symbols_queries.proofs.Running.{stores_queried, stores_for_query}
use Rattle.symbols_paths.specs.laws.Storing.{newly_stored_none_if_same_root}
use Rattle.symbols_queries.proofs.answer_queries.RootSymbolAnswerQueries.answer.Goals as goal

pub returns-in-Err-clause-faults : goal.returns-in-Err-clause-faults
returns-in-Err-clause-faults c = module_refused c.args.self.now c.module_from_specifier.new.self c.specifier.result.now (query_view c.args.query.now)
    c.in-Err.fault c.specifier.ensures c.in-Err.ensures.unchanged c.in-Err.ensures.keeps.refused c.in-Err.ensures.can_fail

pub returns-in-Ok-None-clause-answers : goal.returns-in-Ok-None-clause-answers
returns-in-Ok-None-clause-answers c = (none_given c.args.self.now c.module_from_specifier.new.self c.specifier.result.now (query_view c.args.query.now)
    (form_is c.args.query.now) c.specifier.ensures c.in-Ok-None.ensures.keeps.grown (rw c.in-Ok-None.field-0-is at c.in-Ok-None.ensures.gives)
    c.in-Ok-None.ensures.chain).answers

pub returns-in-Ok-None-clause-means : goal.returns-in-Ok-None-clause-means
returns-in-Ok-None-clause-means c = (none_given c.args.self.now c.module_from_specifier.new.self c.specifier.result.now (query_view c.args.query.now)
    (form_is c.args.query.now) c.specifier.ensures c.in-Ok-None.ensures.keeps.grown (rw c.in-Ok-None.field-0-is at c.in-Ok-None.ensures.gives)
    c.in-Ok-None.ensures.chain).is_right_answer

pub returns-in-Ok-None-clause-stored : goal.returns-in-Ok-None-clause-stored
returns-in-Ok-None-clause-stored c = (none_given c.args.self.now c.module_from_specifier.new.self c.specifier.result.now (query_view c.args.query.now)
    (form_is c.args.query.now) c.specifier.ensures c.in-Ok-None.ensures.keeps.grown (rw c.in-Ok-None.field-0-is at c.in-Ok-None.ensures.gives)
    c.in-Ok-None.ensures.chain).stored

pub answer_on-requires : goal.answer_on-requires
answer_on-requires c = (queried_first c.args.self.now c.module_from_specifier.new.self c.in-Ok-Some.module_id c.specifier.result.now
    (query_view c.args.query.now) c.specifier.ensures
    c.in-Ok-Some.ensures.stored (rw c.in-Ok-Some.field-0-is at c.in-Ok-Some.ensures.gives) c.in-Ok-Some.ensures.chain).within

pub returns-in-Ok-Some-clause-grown : goal.returns-in-Ok-Some-clause-grown
returns-in-Ok-Some-clause-grown c = has_grown_trans c.in-Ok-Some.ensures.keeps.grown c.answer_on.ensures.keeps.grown

pub returns-in-Ok-Some-clause-answers : goal.returns-in-Ok-Some-clause-answers
returns-in-Ok-Some-clause-answers c =
    let queried = queried_first c.args.self.now c.module_from_specifier.new.self c.in-Ok-Some.module_id c.specifier.result.now (query_view c.args.query.now)
    c.specifier.ensures c.in-Ok-Some.ensures.stored (rw c.in-Ok-Some.field-0-is at c.in-Ok-Some.ensures.gives) c.in-Ok-Some.ensures.chain in
    IfOk-weaker c.answer_on.result _ _ (λ (given : Answer) is. (query_given c.args.self.now c.module_from_specifier.new.self c.answer_on.new.root
    c.in-Ok-Some.module_id (query_view c.args.query.now) (answer_view given) (form_is c.args.query.now) queried c.answer_on.ensures.keeps.grown
    is).answers) c.answer_on.ensures.given

pub returns-in-Ok-Some-clause-means : goal.returns-in-Ok-Some-clause-means
returns-in-Ok-Some-clause-means c =
    let queried = queried_first c.args.self.now c.module_from_specifier.new.self c.in-Ok-Some.module_id c.specifier.result.now (query_view c.args.query.now)
    c.specifier.ensures c.in-Ok-Some.ensures.stored (rw c.in-Ok-Some.field-0-is at c.in-Ok-Some.ensures.gives) c.in-Ok-Some.ensures.chain in
    IfOk-weaker c.answer_on.result _ _ (λ (given : Answer) is. (query_given c.args.self.now c.module_from_specifier.new.self c.answer_on.new.root
    c.in-Ok-Some.module_id (query_view c.args.query.now) (answer_view given) (form_is c.args.query.now) queried c.answer_on.ensures.keeps.grown
    is).is_right_answer) c.answer_on.ensures.given

pub returns-in-Ok-Some-clause-stored : goal.returns-in-Ok-Some-clause-stored
returns-in-Ok-Some-clause-stored c =
    let queried = queried_first c.args.self.now c.module_from_specifier.new.self c.in-Ok-Some.module_id c.specifier.result.now (query_view c.args.query.now)
    c.specifier.ensures c.in-Ok-Some.ensures.stored (rw c.in-Ok-Some.field-0-is at c.in-Ok-Some.ensures.gives) c.in-Ok-Some.ensures.chain in
    IfOk-weaker c.answer_on.result _ _ (λ (given : Answer) is. (query_given c.args.self.now c.module_from_specifier.new.self c.answer_on.new.root
    c.in-Ok-Some.module_id (query_view c.args.query.now) (answer_view given) (form_is c.args.query.now) queried c.answer_on.ensures.keeps.grown
    is).stored) c.answer_on.ensures.given

pub returns-in-Ok-Some-clause-faults : goal.returns-in-Ok-Some-clause-faults
returns-in-Ok-Some-clause-faults c =
    let queried = queried_first c.args.self.now c.module_from_specifier.new.self c.in-Ok-Some.module_id c.specifier.result.now (query_view c.args.query.now)
    c.specifier.ensures c.in-Ok-Some.ensures.stored (rw c.in-Ok-Some.field-0-is at c.in-Ok-Some.ensures.gives) c.in-Ok-Some.ensures.chain in
    IfErr-weaker c.answer_on.result _ _ (λ fault is. query_refused c.args.self.now c.module_from_specifier.new.self c.answer_on.new.root
    c.in-Ok-Some.module_id
    (query_view c.args.query.now) fault (form_is c.args.query.now) queried c.answer_on.ensures.keeps.grown c.answer_on.ensures.stores is)
    c.answer_on.ensures.keeps.refused

pub returns-in-Ok-Some-clause-enough : goal.returns-in-Ok-Some-clause-enough
returns-in-Ok-Some-clause-enough c = λ wide. c.answer_on.ensures.keeps.enough (c.in-Ok-Some.ensures.keeps.grown.limits ∙ wide)

pub returns-in-Err-clause-stores : goal.returns-in-Err-clause-stores
returns-in-Err-clause-stores c =
    newly_stored_none_if_same_root c.args.self.now c.module_from_specifier.new.self c.in-Err.ensures.unchanged

pub returns-in-Ok-None-clause-stores : goal.returns-in-Ok-None-clause-stores
returns-in-Ok-None-clause-stores c =
    stores_queried c.args.self.now c.module_from_specifier.new.self c.specifier.result.now (query_view c.args.query.now) c.specifier.ensures
    c.in-Ok-None.ensures.stored

pub returns-in-Ok-Some-clause-stores : goal.returns-in-Ok-Some-clause-stores
returns-in-Ok-Some-clause-stores c =
    let queried = queried_first c.args.self.now c.module_from_specifier.new.self c.in-Ok-Some.module_id c.specifier.result.now (query_view c.args.query.now)
    c.specifier.ensures c.in-Ok-Some.ensures.stored (rw c.in-Ok-Some.field-0-is at c.in-Ok-Some.ensures.gives) c.in-Ok-Some.ensures.chain in
    stores_for_query c.args.self.now c.module_from_specifier.new.self c.answer_on.new.root c.in-Ok-Some.module_id (query_view c.args.query.now)
    (form_is c.args.query.now) queried
    (stores_queried c.args.self.now c.module_from_specifier.new.self c.specifier.result.now (query_view c.args.query.now) c.specifier.ensures
    c.in-Ok-Some.ensures.stored) c.answer_on.ensures.stores
