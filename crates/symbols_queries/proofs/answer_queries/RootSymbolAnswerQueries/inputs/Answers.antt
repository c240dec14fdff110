use Rattle.std.proofs.Common.{◌∙◌}
use Rattle.std.proofs.lemmas.Result.{IfOk-weaker, IfErr-weaker}
use Rattle.symbols_root.specs.laws.Growing.{has_grown_trans}
use Rattle.symbols_paths.specs.laws.Storing.{newly_stored_none_if_same_root}
use Rattle.symbols_answers.specs.Questions.{inputs_query}
use Rattle.symbols_queries.specs.Queries.{query_view}
use Rattle.symbols_queries.proofs.Running.{module_refused, stores_queried}
use Rattle.symbols_queries.proofs.InputsAnswered.{resolved_in, inputs_returned, inputs_refused, stores_for_inputs}
use Rattle.symbols_queries.proofs.answer_queries.RootSymbolAnswerQueries.inputs.Goals as goal

pub returns-in-Err-clause-faults : goal.returns-in-Err-clause-faults
returns-in-Err-clause-faults c = module_refused c.args.self.now c.module_from_specifier-resolved.new.self c.specifier.result.now
    (inputs_query (query_view c.args.query.now)) c.in-Err.fault c.specifier.ensures c.in-Err.ensures.unchanged c.in-Err.ensures.keeps.refused
    c.in-Err.ensures.can_fail

pub returns-in-Err-clause-stores : goal.returns-in-Err-clause-stores
returns-in-Err-clause-stores c = newly_stored_none_if_same_root c.args.self.now c.module_from_specifier-resolved.new.self c.in-Err.ensures.unchanged

pub inputs-requires : goal.inputs-requires
inputs-requires c = resolved_in c.args.self.now c.module_from_specifier-resolved.new.self c.module_from_specifier-resolved.new.self (query_view
    c.args.query.now)
    c.specifier.result.now c.specifier.ensures c.in-Ok.ensures.keeps.grown c.in-Ok.ensures.stored c.in-Ok.module_id c.in-Ok.ensures.gives

pub returns-in-Ok-clause-grown : goal.returns-in-Ok-clause-grown
returns-in-Ok-clause-grown c = has_grown_trans c.in-Ok.ensures.keeps.grown c.inputs.ensures.keeps.keeps.grown

pub returns-in-Ok-clause-answers : goal.returns-in-Ok-clause-answers
returns-in-Ok-clause-answers c = IfOk-weaker c.inputs.result _ _ (λ inputs is. is.answers) (inputs_returned c.args.self.now
    c.module_from_specifier-resolved.new.self
    c.inputs.new.root (query_view c.args.query.now) c.specifier.result.now c.specifier.ensures c.in-Ok.ensures.keeps.grown c.in-Ok.ensures.stored
    c.inputs.result c.inputs.ensures.listed c.inputs.ensures.few c.inputs.ensures.stored)

pub returns-in-Ok-clause-means : goal.returns-in-Ok-clause-means
returns-in-Ok-clause-means c = IfOk-weaker c.inputs.result _ _ (λ inputs is. is.is_right_answer) (inputs_returned c.args.self.now
    c.module_from_specifier-resolved.new.self c.inputs.new.root (query_view c.args.query.now) c.specifier.result.now c.specifier.ensures
    c.in-Ok.ensures.keeps.grown
    c.in-Ok.ensures.stored c.inputs.result c.inputs.ensures.listed c.inputs.ensures.few c.inputs.ensures.stored)

pub returns-in-Ok-clause-stored : goal.returns-in-Ok-clause-stored
returns-in-Ok-clause-stored c = IfOk-weaker c.inputs.result _ _ (λ inputs is. is.stored) (inputs_returned c.args.self.now
    c.module_from_specifier-resolved.new.self
    c.inputs.new.root (query_view c.args.query.now) c.specifier.result.now c.specifier.ensures c.in-Ok.ensures.keeps.grown c.in-Ok.ensures.stored
    c.inputs.result c.inputs.ensures.listed c.inputs.ensures.few c.inputs.ensures.stored)

pub returns-in-Ok-clause-faults : goal.returns-in-Ok-clause-faults
returns-in-Ok-clause-faults c = IfErr-weaker c.inputs.result _ _ (λ fault is. inputs_refused c.args.self.now c.module_from_specifier-resolved.new.self
    c.inputs.new.root (query_view c.args.query.now) c.specifier.result.now c.specifier.ensures c.in-Ok.ensures.keeps.grown c.in-Ok.ensures.stored
    fault c.inputs.ensures.keeps.keeps.grown c.inputs.ensures.keeps.stores is) c.inputs.ensures.keeps.keeps.refused

pub returns-in-Ok-clause-stores : goal.returns-in-Ok-clause-stores
returns-in-Ok-clause-stores c = stores_for_inputs c.args.self.now c.module_from_specifier-resolved.new.self c.inputs.new.root (query_view c.args.query.now)
    c.specifier.result.now c.specifier.ensures c.in-Ok.ensures.keeps.grown c.in-Ok.ensures.stored
    (stores_queried c.args.self.now c.module_from_specifier-resolved.new.self c.specifier.result.now (inputs_query (query_view c.args.query.now))
    c.specifier.ensures c.in-Ok.ensures.stored) c.inputs.ensures.keeps.stores

pub returns-in-Ok-clause-enough : goal.returns-in-Ok-clause-enough
returns-in-Ok-clause-enough c = λ wide. c.inputs.ensures.keeps.keeps.enough (c.in-Ok.ensures.keeps.grown.limits ∙ wide)
