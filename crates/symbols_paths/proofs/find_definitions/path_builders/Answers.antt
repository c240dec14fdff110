use Rattle.std.proofs.Common.{[], refl, subst, inl, inr}
use Rattle.std.proofs.lemmas.Result.{IfOk-weaker, IfErr-weaker}
use Rattle.symbols_ast.specs.declared.ids.ModuleId.{ModuleId}
use Rattle.symbols_table.specs.Modules.{symbol_table_of_ref}
use Rattle.symbols_paths.specs.inner.Needed.{IsNeededFrom}
use Rattle.symbols_paths.specs.laws.Storing.{fault_of_storing_one_of_more, newly_stored_among_more}
use Rattle.symbols_paths.proofs.Needing.{needed_in_newer}
use Rattle.symbols_paths.proofs.Answering.{paths_found, paths_listed, no_symbol_there, symbol_there}
use Rattle.symbols_paths.proofs.find_definitions.path_builders.Goals as goal

pub returns-then-is_none-clause-enough : goal.returns-then-is_none-clause-enough
returns-then-is_none-clause-enough c = λ has wide. absurd (has.1 (no_symbol_there c.args.root.now c.args.module_id (symbol_table_of_ref c.in-Some.info)
    c.in-Some.ensures.table c.args.symbol_id c.symbol.result c.symbol.ensures c.if-is_none.ensures))

pub returns-then-is_none-clause-faults : goal.returns-then-is_none-clause-faults
returns-then-is_none-clause-faults c = inr (inl (record {
  known = c.in-Some.ensures.found.0 refl;
  unknown = no_symbol_there c.args.root.now c.args.module_id (symbol_table_of_ref c.in-Some.info) c.in-Some.ensures.table c.args.symbol_id c.symbol.result
      c.symbol.ensures c.if-is_none.ensures;
  fault_is = refl;
  unchanged = refl;
}))

pub returns-clause-answers : goal.returns-clause-answers
returns-clause-answers c = IfOk-weaker c.find_definition_paths_internal.result _ _ (λ builders outcome. paths_found builders.items
    (c.in-Some.ensures.found.0 refl) c.new.ensures.module c.new.ensures.symbol c.find_definition_paths_internal.ensures.keeps.grown outcome)
    c.find_definition_paths_internal.ensures.found

pub returns-clause-listed : goal.returns-clause-listed
returns-clause-listed c = IfOk-weaker c.find_definition_paths_internal.result _ _ (λ builders outcome. paths_listed builders.items
    (c.in-Some.ensures.found.0 refl) c.new.ensures.module c.new.ensures.symbol c.find_definition_paths_internal.ensures.keeps.grown outcome)
    c.find_definition_paths_internal.ensures.found

pub returns-clause-known : goal.returns-clause-known
returns-clause-known c =
    let has = symbol_there c.args.root.now c.args.module_id (symbol_table_of_ref c.in-Some.info) c.in-Some.ensures.table c.args.symbol_id c.symbol.result
    c.symbol.ensures c.if-is_none.ensures in
    IfOk-weaker c.find_definition_paths_internal.result _ _ (λ builders is. (c.in-Some.ensures.found.0 refl, has))
    c.find_definition_paths_internal.ensures.found

pub returns-clause-stored : goal.returns-clause-stored
returns-clause-stored c = IfOk-weaker c.find_definition_paths_internal.result _ _ (λ builders outcome. outcome.searched.stored)
    c.find_definition_paths_internal.ensures.found

pub returns-clause-faults : goal.returns-clause-faults
returns-clause-faults c =
    let has = symbol_there c.args.root.now c.args.module_id (symbol_table_of_ref c.in-Some.info) c.in-Some.ensures.table c.args.symbol_id c.symbol.result
    c.symbol.ensures c.if-is_none.ensures in
    IfErr-weaker c.find_definition_paths_internal.result _ _ (λ fault refused.
    inr (inr (record {
      known = c.in-Some.ensures.found.0 refl;
      has_symbol = has;
      refused = fault_of_storing_one_of_more refused (λ v needed. needed_in_newer c.find_definition_paths_internal.ensures.keeps.grown
          (subst (λ (id : ModuleId). IsNeededFrom c.args.root.now id [] v) c.new.ensures.module needed));
    })))
    c.find_definition_paths_internal.ensures.keeps.refused

pub returns-clause-stores : goal.returns-clause-stores
returns-clause-stores c = newly_stored_among_more c.find_definition_paths_internal.ensures.stores
    (λ v needed. subst (λ (id : ModuleId). IsNeededFrom c.args.root.now id [] v) c.new.ensures.module needed)
