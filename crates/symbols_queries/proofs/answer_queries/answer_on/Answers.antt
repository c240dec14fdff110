use Rattle.std.proofs.lemmas.Result.{IfErr-weaker}
use Rattle.symbols_ast.specs.Ids.{id_view}
use Rattle.symbols_root.specs.Roots.{specifier_in}
use Rattle.symbols_root.specs.laws.Growing.{has_grown_refl}
use Rattle.symbols_answers.specs.Questions.{query_name, query_deps}
use Rattle.symbols_queries.proofs.QueriesAnswered.{no_refusal, module_given, symbol_given}
use Rattle.symbols_paths.specs.laws.Storing.{newly_stored_none}
use Rattle.symbols_queries.proofs.answer_queries.answer_on.Goals as goal

pub returns-in-Module-clause-keeps : goal.returns-in-Module-clause-keeps
returns-in-Module-clause-keeps c = record { grown = has_grown_refl c.args.root.now; refused = tt; enough = λ wide. tt }

pub returns-in-Module-clause-given : goal.returns-in-Module-clause-given
returns-in-Module-clause-given c = rw c.in-Module.is (module_given c.args.root.now c.args.module_id c.specifier_from_id.result.now c.requires
    c.specifier_from_id.ensures)

pub returns-in-Symbol-clause-keeps : goal.returns-in-Symbol-clause-keeps
returns-in-Symbol-clause-keeps c = record { grown = has_grown_refl c.args.root.now; refused = tt; enough = λ wide. tt }

pub returns-in-Symbol-clause-given : goal.returns-in-Symbol-clause-given
returns-in-Symbol-clause-given c = rw c.in-Symbol.is
    (symbol_given c.args.root.now c.args.module_id (id_view c.in-Symbol.id) c.symbol_id_from_swc.result c.requires c.symbol_id_from_swc.ensures)

pub returns-in-Name-clause-keeps : goal.returns-in-Name-clause-keeps
returns-in-Name-clause-keeps c =
    record {
      grown = has_grown_refl c.args.root.now;
      refused = rw c.in-Name.is c.name_answer.ensures.faults;
      enough = λ wide. IfErr-weaker c.name_answer.result _ _ (λ f is. no_refusal c.args.root.now (specifier_in c.args.root.now c.args.module_id)
          (query_name c.in-Name.symbol) f (λ v w. w) is) c.name_answer.ensures.faults;
    }

pub returns-in-Deps-clause-keeps : goal.returns-in-Deps-clause-keeps
returns-in-Deps-clause-keeps c =
    record {
      grown = has_grown_refl c.args.root.now;
      refused = rw c.in-Deps.is c.deps_answer.ensures.faults;
      enough = λ wide. IfErr-weaker c.deps_answer.result _ _ (λ f is. no_refusal c.args.root.now (specifier_in c.args.root.now c.args.module_id)
          (query_deps c.in-Deps.symbol c.in-Deps.mode) f (λ v w. w) is) c.deps_answer.ensures.faults;
    }

pub returns-in-Module-clause-stores : goal.returns-in-Module-clause-stores
returns-in-Module-clause-stores c =
    newly_stored_none c.args.root.now

pub returns-in-Symbol-clause-stores : goal.returns-in-Symbol-clause-stores
returns-in-Symbol-clause-stores c =
    newly_stored_none c.args.root.now

pub returns-in-Name-clause-stores : goal.returns-in-Name-clause-stores
returns-in-Name-clause-stores c =
    newly_stored_none c.args.root.now

pub returns-in-Deps-clause-stores : goal.returns-in-Deps-clause-stores
returns-in-Deps-clause-stores c =
    newly_stored_none c.args.root.now

pub returns-in-Exports-clause-stores : goal.returns-in-Exports-clause-stores
returns-in-Exports-clause-stores c = rw c.in-Exports.is c.exports_answer.ensures.stores

pub returns-in-Names-clause-stores : goal.returns-in-Names-clause-stores
returns-in-Names-clause-stores c = rw c.in-Names.is c.names_answer.ensures.stores
