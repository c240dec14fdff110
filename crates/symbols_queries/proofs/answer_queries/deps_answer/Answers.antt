use Rattle.std.proofs.Common.{map}
use Rattle.symbols_table.specs.Modules.{symbol_table_of_ref}
use Rattle.symbols_root.specs.Roots.{specifier_in}
use Rattle.symbols_answers.specs.Questions.{query_deps}
use Rattle.symbols_queries.specs.Queries.{deps_view}
use Rattle.symbols_queries.proofs.QueriesAnswered.{memory_refused, deps_given, deps_answered, no_deps}
use Rattle.symbols_queries.proofs.answer_queries.deps_answer.Goals as goal

pub returns-in_err-symbol_deps-in-Some-symbol-clause-faults : goal.returns-in_err-symbol_deps-in-Some-symbol-clause-faults
returns-in_err-symbol_deps-in-Some-symbol-clause-faults c =
    let has = deps_answered c.args.root.now c.args.module_id (symbol_table_of_ref c.in-Some.info) c.in-Some.ensures.table c.args.symbol_id c.args.mode
    c.in-Some-symbol.symbol.now c.in-Some-symbol.ensures in
    memory_refused c.from_residual.result c.args.root.now c.args.root.now (specifier_in c.args.root.now c.args.module_id)
    (query_deps c.args.symbol_id c.args.mode) has c.from_residual.ensures.1

pub returns-in_ok-symbol_deps-in-Some-symbol-clause-given : goal.returns-in_ok-symbol_deps-in-Some-symbol-clause-given
returns-in_ok-symbol_deps-in-Some-symbol-clause-given c =
    deps_given c.args.root.now c.args.module_id (symbol_table_of_ref c.in-Some.info) c.requires c.in-Some.ensures.table c.args.symbol_id c.args.mode
    c.in-Some-symbol.symbol.now (map deps_view c.in_ok-symbol_deps-in-Some-symbol.field-0.items) c.in-Some-symbol.ensures
    c.in_ok-symbol_deps-in-Some-symbol.ensures (c.dependencies_are_listed.ensures c.args.mode)

pub returns-in-None-symbol-clause-faults : goal.returns-in-None-symbol-clause-faults
returns-in-None-symbol-clause-faults c =
    no_deps c.args.root.now c.args.module_id (symbol_table_of_ref c.in-Some.info) c.in-Some.ensures.table c.args.symbol_id c.args.mode c.in-None-symbol.ensures
