use Rattle.std.proofs.Common.{◌∙◌, ap}
use Rattle.symbols_root.specs.Roots.{specifier_in}
use Rattle.symbols_root.specs.laws.Growing.{has_grown_trans}
use Rattle.symbols_root.specs.laws.Numbers.{id_is_that_of_found_module}
use Rattle.symbols_exports.specs.StarStatements.{resolve_specifier}
use Rattle.symbols_paths.proofs.Needing.{refused_target}
use Rattle.symbols_paths.proofs.ResolvedSpecifiers.{there_searched, refused_along, none_along, some_along, some_stored}
use Rattle.symbols_paths.proofs.StoredNeeded.{stores_there, stores_along, stores_exported, stores_unexported}
use Rattle.symbols_paths.proofs.re_exported_symbol.re_exported_symbol.Goals as goal

pub returns-in-Err-clause-keeps : goal.returns-in-Err-clause-keeps
returns-in-Err-clause-keeps c =
    let keeps = c.in-Err.ensures.keeps in
    record {
      grown = keeps.grown;
      refused = refused_target c.args.root.now c.resolve_specifier.new.root (resolve_specifier c.args.root.now.graph
          (specifier_in c.args.root.now c.args.module_id) c.args.specifier_text.now) c.in-Err.fault
          (λ v target. there_searched c.args.root.now.graph (specifier_in c.args.root.now c.args.module_id) c.args.specifier_text.now c.args.name.now v
          c.requires.occurs target) c.in-Err.ensures.unchanged keeps.refused;
      enough = keeps.enough;
    }

pub returns-in-Err-export_of-clause-keeps : goal.returns-in-Err-export_of-clause-keeps
returns-in-Err-export_of-clause-keeps c =
    let decl_targets = id_is_that_of_found_module c.resolve_specifier.new.root c.in-Ok-Some.target (resolve_specifier c.args.root.now.graph
    (specifier_in c.args.root.now c.args.module_id) c.args.specifier_text.now) (rw c.in-Ok-Some.field-0-is at c.in-Ok-Some.ensures.gives) in
    let first = c.in-Ok-Some.ensures.keeps.grown in
    let then = c.in-Err-export_of.ensures in
    record {
      grown = has_grown_trans first then.grown;
      refused = refused_along c.args.root.now c.resolve_specifier.new.root c.export_of.new.root (specifier_in c.args.root.now c.args.module_id)
          c.args.specifier_text.now c.args.name.now c.in-Ok-Some.target c.in-Err-export_of.fault then.faults.0 first c.requires.occurs decl_targets
          then.faults.1;
      enough = λ wide. then.enough decl_targets.within (first.limits ∙ wide);
    }

pub returns-in-Ok-None-export_of-clause-keeps : goal.returns-in-Ok-None-export_of-clause-keeps
returns-in-Ok-None-export_of-clause-keeps c =
    record { grown = has_grown_trans c.in-Ok-Some.ensures.keeps.grown c.in-Ok-None-export_of.ensures.grown; refused = tt; enough = λ wide. tt }

pub returns-in-Ok-None-export_of-clause-gives : goal.returns-in-Ok-None-export_of-clause-gives
returns-in-Ok-None-export_of-clause-gives c =
    let decl_targets = id_is_that_of_found_module c.resolve_specifier.new.root c.in-Ok-Some.target (resolve_specifier c.args.root.now.graph
    (specifier_in c.args.root.now c.args.module_id) c.args.specifier_text.now) (rw c.in-Ok-Some.field-0-is at c.in-Ok-Some.ensures.gives) in
    none_along c.args.root.now c.resolve_specifier.new.root c.export_of.new.root (specifier_in c.args.root.now c.args.module_id) c.args.specifier_text.now
    c.args.name.now c.in-Ok-Some.target c.in-Ok-None-export_of.ensures.answers.0 c.in-Ok-Some.ensures.keeps.grown decl_targets
    (rw c.in-Ok-None-export_of.field-0-is at c.in-Ok-None-export_of.ensures.answers.1)

pub returns-in-Ok-Some-export_of-clause-keeps : goal.returns-in-Ok-Some-export_of-clause-keeps
returns-in-Ok-Some-export_of-clause-keeps c =
    record { grown = has_grown_trans c.in-Ok-Some.ensures.keeps.grown c.in-Ok-Some-export_of.ensures.grown; refused = tt; enough = λ wide. tt }

pub returns-in-Ok-Some-export_of-clause-gives : goal.returns-in-Ok-Some-export_of-clause-gives
returns-in-Ok-Some-export_of-clause-gives c =
    let decl_targets = id_is_that_of_found_module c.resolve_specifier.new.root c.in-Ok-Some.target (resolve_specifier c.args.root.now.graph
    (specifier_in c.args.root.now c.args.module_id) c.args.specifier_text.now) (rw c.in-Ok-Some.field-0-is at c.in-Ok-Some.ensures.gives) in
    some_along c.args.root.now c.resolve_specifier.new.root c.export_of.new.root (specifier_in c.args.root.now c.args.module_id) c.args.specifier_text.now
    c.args.name.now c.in-Ok-Some.target c.in-Ok-Some-export_of.path c.new.result c.in-Ok-Some-export_of.ensures.answers.0 c.in-Ok-Some.ensures.keeps.grown
    decl_targets (rw c.in-Ok-Some-export_of.field-0-is at c.in-Ok-Some-export_of.ensures.answers.1)
    (c.new.ensures.module ∙ ap (λ export. export.«module») c.as_resolved_export-export.ensures) (c.new.ensures.symbol
    ∙ ap (λ export. export.symbol_id) c.as_resolved_export-export.ensures)

pub returns-in-Ok-Some-export_of-clause-stored : goal.returns-in-Ok-Some-export_of-clause-stored
returns-in-Ok-Some-export_of-clause-stored c = rw (c.new.ensures.module, c.as_resolved_export-export.ensures) (some_stored c.resolve_specifier.new.root
    c.export_of.new.root c.args.name.now c.in-Ok-Some.target c.in-Ok-Some-export_of.path c.in-Ok-Some-export_of.ensures.answers.0
    (rw c.in-Ok-Some-export_of.field-0-is at c.in-Ok-Some-export_of.ensures.answers.1))

pub returns-in-Err-clause-stores : goal.returns-in-Err-clause-stores
returns-in-Err-clause-stores c = stores_there c.args.root.now c.resolve_specifier.new.root c.args.module_id c.args.specifier_text.now c.args.name.now
    c.requires.occurs c.in-Err.ensures.stores

pub returns-in-Ok-None-clause-stores : goal.returns-in-Ok-None-clause-stores
returns-in-Ok-None-clause-stores c = stores_there c.args.root.now c.resolve_specifier.new.root c.args.module_id c.args.specifier_text.now c.args.name.now
    c.requires.occurs c.in-Ok-None.ensures.stores

pub returns-in-Err-export_of-clause-stores : goal.returns-in-Err-export_of-clause-stores
returns-in-Err-export_of-clause-stores c =
    let old = c.args.root.now in
    let mid = c.resolve_specifier.new.root in
    let decl_targets = id_is_that_of_found_module mid c.in-Ok-Some.target
    (resolve_specifier old.graph (specifier_in old c.args.module_id) c.args.specifier_text.now)
    (rw c.in-Ok-Some.field-0-is at c.in-Ok-Some.ensures.gives) in
    stores_along old mid c.export_of.new.root c.args.module_id c.in-Ok-Some.target c.args.specifier_text.now c.args.name.now
    c.in-Ok-Some.ensures.keeps.grown c.requires.occurs decl_targets.is c.in-Ok-Some.ensures.stores
    (stores_unexported mid c.export_of.new.root c.in-Ok-Some.target c.args.name.now c.in-Err-export_of.fault c.in-Err-export_of.ensures.faults.0
    c.in-Err-export_of.ensures.faults.1)

pub returns-in-Ok-None-export_of-clause-stores : goal.returns-in-Ok-None-export_of-clause-stores
returns-in-Ok-None-export_of-clause-stores c =
    let old = c.args.root.now in
    let mid = c.resolve_specifier.new.root in
    let decl_targets = id_is_that_of_found_module mid c.in-Ok-Some.target
    (resolve_specifier old.graph (specifier_in old c.args.module_id) c.args.specifier_text.now)
    (rw c.in-Ok-Some.field-0-is at c.in-Ok-Some.ensures.gives) in
    stores_along old mid c.export_of.new.root c.args.module_id c.in-Ok-Some.target c.args.specifier_text.now c.args.name.now
    c.in-Ok-Some.ensures.keeps.grown c.requires.occurs decl_targets.is c.in-Ok-Some.ensures.stores
    (stores_exported mid c.export_of.new.root c.in-Ok-Some.target c.args.name.now _ c.in-Ok-None-export_of.ensures.answers.0
    c.in-Ok-None-export_of.ensures.answers.1)

pub returns-in-Ok-Some-export_of-clause-stores : goal.returns-in-Ok-Some-export_of-clause-stores
returns-in-Ok-Some-export_of-clause-stores c =
    let old = c.args.root.now in
    let mid = c.resolve_specifier.new.root in
    let decl_targets = id_is_that_of_found_module mid c.in-Ok-Some.target
    (resolve_specifier old.graph (specifier_in old c.args.module_id) c.args.specifier_text.now)
    (rw c.in-Ok-Some.field-0-is at c.in-Ok-Some.ensures.gives) in
    stores_along old mid c.export_of.new.root c.args.module_id c.in-Ok-Some.target c.args.specifier_text.now c.args.name.now
    c.in-Ok-Some.ensures.keeps.grown c.requires.occurs decl_targets.is c.in-Ok-Some.ensures.stores
    (stores_exported mid c.export_of.new.root c.in-Ok-Some.target c.args.name.now _ c.in-Ok-Some-export_of.ensures.answers.0
    c.in-Ok-Some-export_of.ensures.answers.1)
