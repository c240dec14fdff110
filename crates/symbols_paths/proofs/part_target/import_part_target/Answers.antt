use Rattle.std.proofs.Common.{◌∙◌}
use Rattle.std.proofs.lemmas.Result.{IfOk-weaker}
use Rattle.symbols_root.specs.Roots.{specifier_in}
use Rattle.symbols_root.specs.laws.Numbers.{id_is_that_of_found_module}
use Rattle.symbols_exports.specs.StarStatements.{resolve_specifier}
use Rattle.symbols_paths.specs.Views.{strings_view}
use Rattle.symbols_paths.specs.inner.Views.{first_part, later_parts}
use Rattle.symbols_paths.specs.laws.Storing.{newly_stored_by_two_calls}
use Rattle.symbols_paths.proofs.PartTargetReads.{named_specifier_text}
use Rattle.symbols_paths.proofs.SearchedExports.{searched_itself}
use Rattle.symbols_paths.proofs.Needing.{refused_target}
use Rattle.symbols_paths.proofs.SearchPreconditions.{keeps_wider}
use Rattle.symbols_paths.proofs.StoredNeeded.{stores_imported, searched_there}
use Rattle.symbols_paths.proofs.part_target.import_part_target.Goals as goal

pub returns-in-Err-clause-keeps : goal.returns-in-Err-clause-keeps
returns-in-Err-clause-keeps c =
    let keeps = c.in-Err.ensures.keeps in
    record {
      grown = keeps.grown;
      refused = refused_target c.args.root.now c.resolve_specifier.new.root (resolve_specifier c.args.root.now.graph
          (specifier_in c.args.root.now c.args.module_id) c.args.specifier_text.now) c.in-Err.fault
          (λ v target. (v, target, searched_itself c.args.root.now.graph v (first_part (strings_view c.args.parts.now)))) c.in-Err.ensures.unchanged
          keeps.refused;
      enough = keeps.enough;
    }

pub returns-in-Ok-Some-clause-view : goal.returns-in-Ok-Some-clause-view
returns-in-Ok-Some-clause-view c =
    let old = c.args.root.now in
    let mid = c.resolve_specifier.new.root in
    let found = resolve_specifier old.graph (specifier_in old c.args.module_id) c.args.specifier_text.now in
    let decl_targets = id_is_that_of_found_module mid c.in-Ok-Some.target found (rw c.in-Ok-Some.field-0-is at c.in-Ok-Some.ensures.gives) in
    IfOk-weaker c.module_part_target.result _ _ (λ part_target view. view
    ∙ named_specifier_text old mid (specifier_in old c.args.module_id) c.args.specifier_text.now
    (first_part (strings_view c.args.parts.now)) (later_parts
    (strings_view c.args.parts.now)) c.in-Ok-Some.target found c.in-Ok-Some.ensures.keeps.grown decl_targets.is) c.module_part_target.ensures.view

pub returns-in-Ok-Some-clause-keeps : goal.returns-in-Ok-Some-clause-keeps
returns-in-Ok-Some-clause-keeps c =
    let old = c.args.root.now in
    let mid = c.resolve_specifier.new.root in
    let found = resolve_specifier old.graph (specifier_in old c.args.module_id) c.args.specifier_text.now in
    let decl_targets = id_is_that_of_found_module mid c.in-Ok-Some.target found (rw c.in-Ok-Some.field-0-is at c.in-Ok-Some.ensures.gives) in
    keeps_wider c.module_part_target.result c.in-Ok-Some.ensures.keeps.grown (searched_there old mid c.args.module_id c.in-Ok-Some.target
    c.args.specifier_text.now (first_part (strings_view c.args.parts.now)) c.in-Ok-Some.ensures.keeps.grown decl_targets.is)
    c.module_part_target.ensures.keeps

pub returns-in-Err-clause-stores : goal.returns-in-Err-clause-stores
returns-in-Err-clause-stores c =
    stores_imported c.args.root.now c.resolve_specifier.new.root c.args.module_id c.args.specifier_text.now (first_part (strings_view c.args.parts.now))
    c.in-Err.ensures.stores

pub returns-in_err-specifier_text-in-Ok-None-clause-stores : goal.returns-in_err-specifier_text-in-Ok-None-clause-stores
returns-in_err-specifier_text-in-Ok-None-clause-stores c =
    stores_imported c.args.root.now c.resolve_specifier.new.root c.args.module_id c.args.specifier_text.now (first_part (strings_view c.args.parts.now))
    c.in-Ok-None.ensures.stores

pub returns-in_err-missing_part-in-Ok-None-clause-stores : goal.returns-in_err-missing_part-in-Ok-None-clause-stores
returns-in_err-missing_part-in-Ok-None-clause-stores c =
    stores_imported c.args.root.now c.resolve_specifier.new.root c.args.module_id c.args.specifier_text.now (first_part (strings_view c.args.parts.now))
    c.in-Ok-None.ensures.stores

pub returns-in_ok-missing_part-in-Ok-None-clause-stores : goal.returns-in_ok-missing_part-in-Ok-None-clause-stores
returns-in_ok-missing_part-in-Ok-None-clause-stores c =
    stores_imported c.args.root.now c.resolve_specifier.new.root c.args.module_id c.args.specifier_text.now (first_part (strings_view c.args.parts.now))
    c.in-Ok-None.ensures.stores

pub returns-in-Ok-Some-clause-stores : goal.returns-in-Ok-Some-clause-stores
returns-in-Ok-Some-clause-stores c =
    let old = c.args.root.now in
    let mid = c.resolve_specifier.new.root in
    let found = resolve_specifier old.graph (specifier_in old c.args.module_id) c.args.specifier_text.now in
    let decl_targets = id_is_that_of_found_module mid c.in-Ok-Some.target found (rw c.in-Ok-Some.field-0-is at c.in-Ok-Some.ensures.gives) in
    let part = first_part (strings_view c.args.parts.now) in
    newly_stored_by_two_calls (stores_imported old mid c.args.module_id c.args.specifier_text.now part c.in-Ok-Some.ensures.stores)
    c.module_part_target.ensures.stores
    (searched_there old mid c.args.module_id c.in-Ok-Some.target c.args.specifier_text.now part c.in-Ok-Some.ensures.keeps.grown decl_targets.is)
