use Rattle.std.proofs.Common.{map, option_map, rules}
use Rattle.symbols_root.specs.Roots.{specifier_in}
use Rattle.symbols_exports.specs.CollectedNames.{resolved_export_views, resolved_shared_name_views, unresolved_star_view}
use Rattle.symbols_answers.specs.Questions.{query_exports}
use Rattle.symbols_queries.specs.Queries.{star_statement_by_specifier_view, export_view, shared_names_view}
use Rattle.symbols_queries.proofs.QueriesAnswered.{memory_refused, exports_given, exports_answered, exports_refused}
use Rattle.symbols_paths.specs.laws.Storing.{newly_stored_among_more}
use Rattle.symbols_queries.proofs.StoredForQuery.{stores_reached, stores_until_fault}
use Rattle.symbols_queries.proofs.answer_queries.exports_answer.Goals as goal

pub returns-in-Err-clause-keeps : goal.returns-in-Err-clause-keeps
returns-in-Err-clause-keeps c =
    record {
      grown = c.in-Err.ensures.grown;
      refused = exports_refused c.args.root.now c.exports.new.root c.args.module_id c.in-Err.fault c.in-Err.ensures.faults.0 c.requires
          c.in-Err.ensures.faults.1;
      enough = c.in-Err.ensures.enough c.requires;
    }

pub returns-in_err-exports_by_specifier-in-Ok-clause-keeps : goal.returns-in_err-exports_by_specifier-in-Ok-clause-keeps
returns-in_err-exports_by_specifier-in-Ok-clause-keeps c =
    record {
      grown = c.in-Ok.ensures.grown;
      refused = memory_refused c.from_residual.result c.args.root.now c.exports.new.root (specifier_in c.args.root.now c.args.module_id) query_exports
          (exports_answered c.args.root.now.rules c.args.root.now.graph (specifier_in c.args.root.now c.args.module_id)) c.from_residual.ensures.1;
      enough = search rules;
    }

pub returns-in_ok-exports_by_specifier-in-Ok-clause-given : goal.returns-in_ok-exports_by_specifier-in-Ok-clause-given
returns-in_ok-exports_by_specifier-in-Ok-clause-given c =
    let named = c.in_ok-exports_by_specifier-in-Ok.field-0 in
    exports_given c.args.root.now c.exports.new.root c.args.module_id (resolved_export_views c.in-Ok.found.resolved.entries)
    (resolved_shared_name_views c.in-Ok.found.shared.items)
    (map unresolved_star_view c.in-Ok.found.unresolved_specifiers.items) c.in-Ok.ensures.answers.0 (map export_view named.exports.items)
    (option_map shared_names_view named.shared) (map star_statement_by_specifier_view named.unresolved.items) c.in-Ok.ensures.grown c.in-Ok.ensures.answers.1
    (c.in-Ok.ensures.listed (specifier_in c.args.root.now c.args.module_id)) c.in_ok-exports_by_specifier-in-Ok.ensures.names
    c.in_ok-exports_by_specifier-in-Ok.ensures.shared c.in_ok-exports_by_specifier-in-Ok.ensures.statements

pub exports_by_specifier-requires-clause-names : goal.exports_by_specifier-requires-clause-names
exports_by_specifier-requires-clause-names c = c.in-Ok.ensures.answers.1.are_modules_of_exports_stored

pub exports_by_specifier-requires-clause-shared : goal.exports_by_specifier-requires-clause-shared
exports_by_specifier-requires-clause-shared c = c.in-Ok.ensures.answers.1.are_exporter_modules_stored

pub exports_by_specifier-requires-clause-statements : goal.exports_by_specifier-requires-clause-statements
exports_by_specifier-requires-clause-statements c = c.in-Ok.ensures.answers.1.are_referrers_of_stars_stored

pub returns-in-Err-clause-stores : goal.returns-in-Err-clause-stores
returns-in-Err-clause-stores c =
    newly_stored_among_more (stores_until_fault c.args.root.now c.exports.new.root c.args.module_id c.in-Err.fault c.in-Err.ensures.faults.0
    c.in-Err.ensures.faults.1)
    (λ v reached. reached)

pub returns-in_err-exports_by_specifier-in-Ok-clause-stores : goal.returns-in_err-exports_by_specifier-in-Ok-clause-stores
returns-in_err-exports_by_specifier-in-Ok-clause-stores c =
    newly_stored_among_more (stores_reached c.args.root.now c.exports.new.root (specifier_in c.args.root.now c.args.module_id) c.in-Ok.ensures.answers.1.reached
    c.in-Ok.ensures.answers.1.are_reached c.in-Ok.ensures.answers.1.stored) (λ v reached. reached)

pub returns-in_ok-exports_by_specifier-in-Ok-clause-stores : goal.returns-in_ok-exports_by_specifier-in-Ok-clause-stores
returns-in_ok-exports_by_specifier-in-Ok-clause-stores c =
    newly_stored_among_more (stores_reached c.args.root.now c.exports.new.root (specifier_in c.args.root.now c.args.module_id) c.in-Ok.ensures.answers.1.reached
    c.in-Ok.ensures.answers.1.are_reached c.in-Ok.ensures.answers.1.stored) (λ v reached. reached)
