use Rattle.std.proofs.Common.{map, sym, subst, ◌∙◌, rules}
use Rattle.std.specs.Prelude.{All, Contains, flat_map}
use Rattle.symbols_nodes.specs.References.{reference_view}
use Rattle.symbols_root.specs.Roots.{specifier_in}
use Rattle.symbols_paths.specs.DepAnswers.{AreResolvedEntriesOfReference}
use Rattle.symbols_answers.specs.Questions.{query_resolve}
use Rattle.symbols_answers.specs.Answers.{modules_of_dep_entry}
use Rattle.symbols_queries.specs.Queries.{dep_entry_view}
use Rattle.symbols_queries.proofs.QueriesAnswered.{memory_refused, entries_given, entries_answered, entries_refused}
use Rattle.symbols_queries.proofs.PathModules.{entries_there}
use Rattle.symbols_paths.specs.laws.Storing.{newly_stored_among_more}
use Rattle.symbols_queries.proofs.answer_queries.entries_answer.Goals as goal

pub returns-in-Err-clause-keeps : goal.returns-in-Err-clause-keeps
returns-in-Err-clause-keeps c =
    record {
      grown = c.in-Err.ensures.grown;
      refused = entries_refused c.args.root.now c.resolve_symbol_dep.new.self c.args.module_id (reference_view c.args.dep.now) c.in-Err.fault
          c.in-Err.ensures.grown c.requires c.in-Err.ensures.faults;
      enough = c.in-Err.ensures.enough c.requires;
    }

pub returns-in_err-entries_by_specifier-in-Ok-clause-keeps : goal.returns-in_err-entries_by_specifier-in-Ok-clause-keeps
returns-in_err-entries_by_specifier-in-Ok-clause-keeps c =
    record {
      grown = c.in-Ok.ensures.grown;
      refused = memory_refused c.from_residual.result c.args.root.now c.resolve_symbol_dep.new.self (specifier_in c.args.root.now c.args.module_id)
          (query_resolve (reference_view c.args.dep.now)) (entries_answered c.args.root.now.rules c.args.root.now.graph
          (specifier_in c.args.root.now c.args.module_id) (reference_view c.args.dep.now)) c.from_residual.ensures.1;
      enough = search rules;
    }

pub returns-in_ok-entries_by_specifier-in-Ok-clause-given : goal.returns-in_ok-entries_by_specifier-in-Ok-clause-given
returns-in_ok-entries_by_specifier-in-Ok-clause-given c =
    let named_form = c.in_ok-entries_by_specifier-in-Ok.ensures in
    let is = subst (AreResolvedEntriesOfReference c.args.root.now.rules c.args.root.now.graph (specifier_in c.args.root.now c.args.module_id)
    (reference_view c.args.dep.now))
    (sym named_form) c.in-Ok.ensures.answers.1 in
    entries_given c.args.root.now c.resolve_symbol_dep.new.self c.args.module_id (reference_view c.args.dep.now)
    (map dep_entry_view c.in_ok-entries_by_specifier-in-Ok.field-0.items) c.in-Ok.ensures.grown c.requires is (named_form ∙ c.in-Ok.ensures.listed)
    (subst (λ given. All (Contains c.resolve_symbol_dep.new.self.stored) (flat_map modules_of_dep_entry given)) (sym named_form)
    (entries_there c.resolve_symbol_dep.new.self c.in-Ok.entries.items c.in-Ok.ensures.stored))

pub entries_by_specifier-requires : goal.entries_by_specifier-requires
entries_by_specifier-requires c = c.in-Ok.ensures.stored

pub returns-in-Err-clause-stores : goal.returns-in-Err-clause-stores
returns-in-Err-clause-stores c =
    newly_stored_among_more c.in-Err.ensures.stores (λ v needed. needed)

pub returns-in_err-entries_by_specifier-in-Ok-clause-stores : goal.returns-in_err-entries_by_specifier-in-Ok-clause-stores
returns-in_err-entries_by_specifier-in-Ok-clause-stores c =
    newly_stored_among_more c.in-Ok.ensures.stores (λ v needed. needed)

pub returns-in_ok-entries_by_specifier-in-Ok-clause-stores : goal.returns-in_ok-entries_by_specifier-in-Ok-clause-stores
returns-in_ok-entries_by_specifier-in-Ok-clause-stores c =
    newly_stored_among_more c.in-Ok.ensures.stores (λ v needed. needed)
