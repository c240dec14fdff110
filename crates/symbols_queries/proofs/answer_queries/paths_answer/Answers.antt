use Rattle.std.proofs.Common.{refl, sym, ap, subst, ◌∙◌, rules}
use Rattle.std.specs.Prelude.{All, Contains}
use Rattle.symbols_root.specs.Roots.{specifier_in}
use Rattle.symbols_paths.specs.PathTrees.{PathForest}
use Rattle.symbols_paths.specs.Views.{paths_by_specifier}
use Rattle.symbols_answers.specs.Questions.{query_paths}
use Rattle.symbols_answers.specs.Answers.{answer_paths, modules_of_path_forest}
use Rattle.symbols_queries.specs.Queries.{path_forest_view}
use Rattle.symbols_queries.proofs.QueriesAnswered.{memory_refused, paths_given, paths_answered, paths_refused, paths_enough}
use Rattle.symbols_queries.proofs.PathModules.{paths_there}
use Rattle.symbols_paths.specs.laws.Storing.{newly_stored_among_more}
use Rattle.symbols_queries.proofs.answer_queries.paths_answer.Goals as goal

pub returns-in-Err-clause-keeps : goal.returns-in-Err-clause-keeps
returns-in-Err-clause-keeps c =
    let s = c.args.symbol in
    record {
      grown = c.in-Err.ensures.grown;
      refused = paths_refused (query_paths s) s (λ (paths : PathForest). answer_paths paths) (λ rules graph specifier. refl)
          (λ rules graph specifier given is. is)
          (λ rules graph specifier v is. is) (λ is. is) c.args.root.now c.find_definition_paths.new.self c.args.module_id c.in-Err.fault c.in-Err.ensures.grown
          c.requires c.in-Err.ensures.faults;
      enough = λ wide. paths_enough c.args.root.now c.find_definition_paths.new.self c.args.module_id c.args.symbol c.in-Err.fault c.requires
          c.in-Err.ensures.faults (λ has. c.in-Err.ensures.enough (c.requires, has) wide);
    }

pub returns-in_err-paths_by_specifier-in-Ok-clause-keeps : goal.returns-in_err-paths_by_specifier-in-Ok-clause-keeps
returns-in_err-paths_by_specifier-in-Ok-clause-keeps c =
    let s = c.args.symbol in
    let has = paths_answered (query_paths s) s (λ (paths : PathForest). answer_paths paths) (λ rules graph specifier. refl)
    (λ rules graph specifier given is. is)
    (λ rules graph specifier v is. is) (λ is. is) c.args.root.now c.args.module_id c.in-Ok.ensures.answers.has_symbol in
    record {
      grown = c.in-Ok.ensures.grown;
      refused = memory_refused c.from_residual.result c.args.root.now c.find_definition_paths.new.self (specifier_in c.args.root.now c.args.module_id)
          (query_paths c.args.symbol) has c.from_residual.ensures.1;
      enough = search rules;
    }

pub returns-in_ok-paths_by_specifier-in-Ok-clause-given : goal.returns-in_ok-paths_by_specifier-in-Ok-clause-given
returns-in_ok-paths_by_specifier-in-Ok-clause-given c =
    let s = c.args.symbol in
    paths_given (query_paths s) s (λ (paths : PathForest). answer_paths paths) (λ rules graph specifier. refl) (λ rules graph specifier given is. is)
    (λ rules graph specifier v is. is) (λ is. is) c.args.root.now c.find_definition_paths.new.self c.args.module_id
    (answer_paths (path_forest_view c.in_ok-paths_by_specifier-in-Ok.field-0.items)) (paths_by_specifier c.find_definition_paths.new.self c.in-Ok.paths.items)
    c.in-Ok.ensures.grown c.requires c.in-Ok.ensures.answers.has_symbol c.in-Ok.ensures.answers.are_paths
    (ap answer_paths c.in_ok-paths_by_specifier-in-Ok.ensures) (ap answer_paths (c.in_ok-paths_by_specifier-in-Ok.ensures ∙ c.in-Ok.ensures.listed))
    (subst (λ named_form. All (Contains c.find_definition_paths.new.self.stored) (modules_of_path_forest named_form))
    (sym c.in_ok-paths_by_specifier-in-Ok.ensures)
    (paths_there c.find_definition_paths.new.self c.in-Ok.paths.items c.in-Ok.ensures.answers.stored))

pub paths_by_specifier-requires : goal.paths_by_specifier-requires
paths_by_specifier-requires c = c.in-Ok.ensures.answers.stored

pub returns-in-Err-clause-stores : goal.returns-in-Err-clause-stores
returns-in-Err-clause-stores c =
    newly_stored_among_more c.in-Err.ensures.stores (λ v needed. needed)

pub returns-in_err-paths_by_specifier-in-Ok-clause-stores : goal.returns-in_err-paths_by_specifier-in-Ok-clause-stores
returns-in_err-paths_by_specifier-in-Ok-clause-stores c =
    newly_stored_among_more c.in-Ok.ensures.stores (λ v needed. needed)

pub returns-in_ok-paths_by_specifier-in-Ok-clause-stores : goal.returns-in_ok-paths_by_specifier-in-Ok-clause-stores
returns-in_ok-paths_by_specifier-in-Ok-clause-stores c =
    newly_stored_among_more c.in-Ok.ensures.stores (λ v needed. needed)
