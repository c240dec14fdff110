use Rattle.std.proofs.Common.{◌≡◌, arith, None, ◌∙◌, sym, ap, subst}
use Rattle.std.specs.Prelude.{string_bytes}
use Rattle.std.proofs.lemmas.List.{length-map}
use Rattle.symbols_root.specs.Roots.{specifier_in}
use Rattle.symbols_root.specs.laws.Growing.{specifier_unchanged_by_growth, stored_id_remains_stored}
use Rattle.symbols_exports.specs.OneName.{find_export}
use Rattle.symbols_paths.specs.PathTrees.{no_part}
use Rattle.symbols_paths.specs.PartTargets.{part_is_unresolved, module_part_target}
use Rattle.symbols_paths.specs.NeededModules.{IsFaultOfStoringOneOf, AreNewlyStoredAmong}
use Rattle.symbols_paths.specs.inner.Needed.{IsSearchedForExportOf}
use Rattle.symbols_paths.specs.Views.{strings_view}
use Rattle.symbols_paths.specs.inner.Views.{first_part, later_parts}
use Rattle.symbols_paths.proofs.PartTargetReads.{first_read}
use Rattle.symbols_paths.proofs.QualifiedSteps.{some_parts}
use Rattle.symbols_paths.proofs.ResolvedSpecifiers.{refused_export, none_exported, some_stored}
use Rattle.symbols_paths.proofs.StoredNeeded.{stores_exported, stores_unexported}
use Rattle.symbols_paths.proofs.part_target.module_part_target.Goals as goal

pub returns-in-Err-clause-keeps : goal.returns-in-Err-clause-keeps
returns-in-Err-clause-keeps c =
    let first = c.as_str.ensures.value ∙ first_read c.args.parts.now c.index-parts-0.result c.requires.some c.index-parts-0.is in
    record {
      grown = c.in-Err.ensures.grown;
      refused = subst (λ name. IsFaultOfStoringOneOf c.export_of.new.root (IsSearchedForExportOf c.args.root.now c.args.module_id name) c.in-Err.fault) first
          (refused_export c.args.root.now c.export_of.new.root _ c.args.module_id c.in-Err.fault c.in-Err.ensures.faults.0 c.requires.known
          c.in-Err.ensures.faults.1);
      enough = c.in-Err.ensures.enough c.requires.known;
    }

pub returns-in_ok-missing_part-in-Ok-None-clause-view : goal.returns-in_ok-missing_part-in-Ok-None-clause-view
returns-in_ok-missing_part-in-Ok-None-clause-view c =
    let old = c.args.root.now in
    let new = c.export_of.new.root in
    let grown = c.in-Ok-None.ensures.grown in
    let parts = strings_view c.args.parts.now in
    let v = specifier_in old c.args.module_id in
    let first = c.as_str.ensures.value ∙ first_read c.args.parts.now c.index-parts-0.result c.requires.some c.index-parts-0.is in
    let named = c.in_ok-name-in-Ok-None.ensures.ok
    ∙ (c.as_str-in-Ok-None.ensures.value ∙ first_read c.args.parts.now c.index-parts-0-in-Ok-None.result c.requires.some c.index-parts-0-in-Ok-None.is) in
    let none_there = none_exported old new c.args.module_id _ c.in-Ok-None.ensures.answers.0 (rw c.in-Ok-None.field-0-is at c.in-Ok-None.ensures.answers.1) in
    let none_first : find_export old.graph v (first_part parts) ≡ None = subst (λ name. find_export old.graph v name ≡ None) first none_there in
    c.in_ok-missing_part-in-Ok-None.ensures.view new
    ∙ ((λ i. part_is_unresolved (record {
      specifier = specifier_unchanged_by_growth grown c.args.module_id c.requires.known i;
      reason = no_part (named i);
      parts = some_parts parts (omega (arith, length-map c.args.parts.now string_bytes, c.requires.some)) i;
    }))
    ∙ sym (ap (module_part_target v (first_part parts) (later_parts parts)) none_first))

pub returns-in_ok-missing_part-in-Ok-None-clause-stored : goal.returns-in_ok-missing_part-in-Ok-None-clause-stored
returns-in_ok-missing_part-in-Ok-None-clause-stored c =
    c.in_ok-missing_part-in-Ok-None.ensures.stored c.export_of.new.root
    (stored_id_remains_stored c.in-Ok-None.ensures.grown c.args.module_id.0 c.requires.known)

pub returns-in-Ok-Some-clause-stored : goal.returns-in-Ok-Some-clause-stored
returns-in-Ok-Some-clause-stored c = rw (c.new.ensures.module, c.as_resolved_export-export.ensures) (some_stored c.args.root.now c.export_of.new.root _
    c.args.module_id c.in-Ok-Some.path c.in-Ok-Some.ensures.answers.0 (rw c.in-Ok-Some.field-0-is at c.in-Ok-Some.ensures.answers.1))

pub returns-in-Err-clause-stores : goal.returns-in-Err-clause-stores
returns-in-Err-clause-stores c =
    let first = c.as_str.ensures.value ∙ first_read c.args.parts.now c.index-parts-0.result c.requires.some c.index-parts-0.is in
    subst (λ name. AreNewlyStoredAmong c.args.root.now c.export_of.new.root (IsSearchedForExportOf c.args.root.now c.args.module_id name)) first
    (stores_unexported c.args.root.now c.export_of.new.root c.args.module_id _ c.in-Err.fault c.in-Err.ensures.faults.0 c.in-Err.ensures.faults.1)

pub returns-in_err-name-in-Ok-None-clause-stores : goal.returns-in_err-name-in-Ok-None-clause-stores
returns-in_err-name-in-Ok-None-clause-stores c =
    let first = c.as_str.ensures.value ∙ first_read c.args.parts.now c.index-parts-0.result c.requires.some c.index-parts-0.is in
    subst (λ name. AreNewlyStoredAmong c.args.root.now c.export_of.new.root (IsSearchedForExportOf c.args.root.now c.args.module_id name)) first
    (stores_exported c.args.root.now c.export_of.new.root c.args.module_id _ _ c.in-Ok-None.ensures.answers.0 c.in-Ok-None.ensures.answers.1)

pub returns-in_err-missing_part-in-Ok-None-clause-stores : goal.returns-in_err-missing_part-in-Ok-None-clause-stores
returns-in_err-missing_part-in-Ok-None-clause-stores c =
    let first = c.as_str.ensures.value ∙ first_read c.args.parts.now c.index-parts-0.result c.requires.some c.index-parts-0.is in
    subst (λ name. AreNewlyStoredAmong c.args.root.now c.export_of.new.root (IsSearchedForExportOf c.args.root.now c.args.module_id name)) first
    (stores_exported c.args.root.now c.export_of.new.root c.args.module_id _ _ c.in-Ok-None.ensures.answers.0 c.in-Ok-None.ensures.answers.1)

pub returns-in_ok-missing_part-in-Ok-None-clause-stores : goal.returns-in_ok-missing_part-in-Ok-None-clause-stores
returns-in_ok-missing_part-in-Ok-None-clause-stores c =
    let first = c.as_str.ensures.value ∙ first_read c.args.parts.now c.index-parts-0.result c.requires.some c.index-parts-0.is in
    subst (λ name. AreNewlyStoredAmong c.args.root.now c.export_of.new.root (IsSearchedForExportOf c.args.root.now c.args.module_id name)) first
    (stores_exported c.args.root.now c.export_of.new.root c.args.module_id _ _ c.in-Ok-None.ensures.answers.0 c.in-Ok-None.ensures.answers.1)

pub returns-in-Ok-Some-clause-stores : goal.returns-in-Ok-Some-clause-stores
returns-in-Ok-Some-clause-stores c =
    let first = c.as_str.ensures.value ∙ first_read c.args.parts.now c.index-parts-0.result c.requires.some c.index-parts-0.is in
    subst (λ name. AreNewlyStoredAmong c.args.root.now c.export_of.new.root (IsSearchedForExportOf c.args.root.now c.args.module_id name)) first
    (stores_exported c.args.root.now c.export_of.new.root c.args.module_id _ _ c.in-Ok-Some.ensures.answers.0 c.in-Ok-Some.ensures.answers.1)
