use Rattle.std.proofs.Common.{map}
use Rattle.symbols_root.specs.Roots.{specifier_in}
use Rattle.symbols_exports.specs.PublicNames.{public_name_view}
use Rattle.symbols_queries.proofs.QueriesAnswered.{names_given, names_refused}
use Rattle.symbols_paths.specs.laws.Storing.{newly_stored_among_more}
use Rattle.symbols_queries.proofs.StoredForQuery.{stores_reached, stores_until_fault}
use Rattle.symbols_queries.proofs.answer_queries.names_answer.Goals as goal

pub returns-in-Err-clause-keeps : goal.returns-in-Err-clause-keeps
returns-in-Err-clause-keeps c =
    record {
      grown = c.in-Err.ensures.grown;
      refused = names_refused c.args.root.now c.public_names.new.root c.args.module_id c.in-Err.fault c.in-Err.ensures.faults.0 c.requires
          c.in-Err.ensures.faults.1;
      enough = c.in-Err.ensures.enough c.requires;
    }

pub returns-in-Ok-clause-given : goal.returns-in-Ok-clause-given
returns-in-Ok-clause-given c = names_given c.args.root.now c.public_names.new.root c.args.module_id (map public_name_view c.in-Ok.names.items)
    c.in-Ok.ensures.grown
    c.in-Ok.ensures.answers c.in-Ok.ensures.once (c.in-Ok.ensures.listed (specifier_in c.args.root.now c.args.module_id))

pub returns-in-Err-clause-stores : goal.returns-in-Err-clause-stores
returns-in-Err-clause-stores c =
    newly_stored_among_more (stores_until_fault c.args.root.now c.public_names.new.root c.args.module_id c.in-Err.fault c.in-Err.ensures.faults.0
    c.in-Err.ensures.faults.1)
    (λ v reached. reached)

pub returns-in-Ok-clause-stores : goal.returns-in-Ok-clause-stores
returns-in-Ok-clause-stores c =
    newly_stored_among_more (stores_reached c.args.root.now c.public_names.new.root
    (specifier_in c.args.root.now c.args.module_id) c.in-Ok.ensures.answers.reached
    c.in-Ok.ensures.answers.are_reached c.in-Ok.ensures.answers.stored) (λ v reached. reached)
