use Rattle.std.proofs.Common.{map, refl, sym, ap, subst, ◌∙◌, rules}
use Rattle.std.specs.Prelude.{All, Contains}
use Rattle.symbols_root.specs.Roots.{specifier_in}
use Rattle.symbols_paths.specs.PathTrees.{PathForest, leaves_of_forest, definitions_among}
use Rattle.symbols_paths.specs.Views.{remaining_definitions}
use Rattle.symbols_answers.specs.Questions.{query_definitions}
use Rattle.symbols_answers.specs.Answers.{answer_definitions, module_of_definition_view}
use Rattle.symbols_queries.specs.Queries.{definition_by_specifier_view}
use Rattle.symbols_queries.proofs.QueriesAnswered.{memory_refused, paths_given, paths_answered, paths_refused, paths_enough}
use Rattle.symbols_queries.proofs.PathModules.{definitions_there}
use Rattle.symbols_paths.specs.laws.Storing.{newly_stored_among_more}
use Rattle.symbols_queries.proofs.answer_queries.definitions_answer.Goals as goal

pub returns-in-Err-clause-keeps : goal.returns-in-Err-clause-keeps
returns-in-Err-clause-keeps c =
    let s = c.args.symbol in
    record {
      grown = c.in-Err.ensures.grown;
      refused = paths_refused (query_definitions s) s (λ (paths : PathForest). answer_definitions (definitions_among (leaves_of_forest paths)))
          (λ rules graph specifier.
          refl) (λ rules graph specifier given is. is) (λ rules graph specifier v is. is) (λ is. is) c.args.root.now c.go_to_definitions.new.self
          c.args.module_id
          c.in-Err.fault c.in-Err.ensures.grown c.requires c.in-Err.ensures.faults;
      enough = λ wide. paths_enough c.args.root.now c.go_to_definitions.new.self c.args.module_id c.args.symbol c.in-Err.fault c.requires
          c.in-Err.ensures.faults (λ has. c.in-Err.ensures.enough (c.requires, has) wide);
    }

pub returns-in_err-named-in-Ok-clause-keeps : goal.returns-in_err-named-in-Ok-clause-keeps
returns-in_err-named-in-Ok-clause-keeps c =
    let s = c.args.symbol in
    let has = paths_answered (query_definitions s) s (λ (paths : PathForest). answer_definitions (definitions_among (leaves_of_forest paths)))
    (λ rules graph specifier. refl)
    (λ rules graph specifier given is. is) (λ rules graph specifier v is. is) (λ is. is) c.args.root.now c.args.module_id c.in-Ok.ensures.known.1 in
    record {
      grown = c.in-Ok.ensures.grown;
      refused = memory_refused c.from_residual.result c.args.root.now c.go_to_definitions.new.self (specifier_in c.args.root.now c.args.module_id)
          (query_definitions c.args.symbol) has c.from_residual.ensures.1;
      enough = search rules;
    }

pub returns-in_ok-named-in-Ok-clause-given : goal.returns-in_ok-named-in-Ok-clause-given
returns-in_ok-named-in-Ok-clause-given c =
    let s = c.args.symbol in
    paths_given (query_definitions s) s (λ (paths : PathForest). answer_definitions (definitions_among (leaves_of_forest paths)))
    (λ rules graph specifier. refl)
    (λ rules graph specifier given is. is) (λ rules graph specifier v is. is) (λ is. is) c.args.root.now c.go_to_definitions.new.self c.args.module_id
    (answer_definitions (map definition_by_specifier_view c.in_ok-named-in-Ok.named.items)) c.in-Ok.ensures.answers.0 c.in-Ok.ensures.grown c.requires
    c.in-Ok.ensures.known.1 c.in-Ok.ensures.answers.1 (ap answer_definitions (c.in_ok-named-in-Ok.ensures ∙ c.in-Ok.ensures.answers.2))
    (ap answer_definitions (c.in_ok-named-in-Ok.ensures ∙ c.in-Ok.ensures.listed)) (subst (λ named_form. All (Contains c.go_to_definitions.new.self.stored)
    (map module_of_definition_view named_form)) (sym c.in_ok-named-in-Ok.ensures)
    (definitions_there c.go_to_definitions.new.self (remaining_definitions c.in-Ok.definitions) c.in-Ok.ensures.stored))

pub definitions_by_specifier-requires : goal.definitions_by_specifier-requires
definitions_by_specifier-requires c = c.in-Ok.ensures.stored

pub returns-in-Err-clause-stores : goal.returns-in-Err-clause-stores
returns-in-Err-clause-stores c =
    newly_stored_among_more c.in-Err.ensures.stores (λ v needed. needed)

pub returns-in_err-named-in-Ok-clause-stores : goal.returns-in_err-named-in-Ok-clause-stores
returns-in_err-named-in-Ok-clause-stores c =
    newly_stored_among_more c.in-Ok.ensures.stores (λ v needed. needed)

pub returns-in_ok-named-in-Ok-clause-stores : goal.returns-in_ok-named-in-Ok-clause-stores
returns-in_ok-named-in-Ok-clause-stores c =
    newly_stored_among_more c.in-Ok.ensures.stores (λ v needed. needed)
