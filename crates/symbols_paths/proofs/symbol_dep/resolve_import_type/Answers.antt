use Rattle.std.proofs.Common.{ℕ, List, map, refl, sym, ap, subst, ◌∙◌}
use Rattle.std.specs.Prelude.{String}
use Rattle.std.specs.Global.{Global}
use Rattle.symbols_root.specs.Roots.{specifier_in}
use Rattle.symbols_root.specs.laws.Growing.{stored_id_remains_stored}
use Rattle.symbols_root.specs.laws.Numbers.{id_is_that_of_found_module, no_id_no_module_found}
use Rattle.symbols_exports.specs.StarStatements.{resolve_specifier}
use Rattle.symbols_paths.specs.PathTrees.{no_module, unresolved, leaf, forest_of_tree}
use Rattle.symbols_paths.specs.Views.{strings_view, AreModulesStored}
use Rattle.symbols_paths.specs.DepAnswers.{resolved_dep_entry_view, modules_of_entries, path_entries}
use Rattle.symbols_paths.proofs.BuilderLemmas.{one_stored}
use Rattle.symbols_paths.proofs.DepEntries.{module_there, module_missing}
use Rattle.symbols_paths.specs.laws.Storing.{newly_stored_among_more}
use Rattle.symbols_paths.proofs.Needing.{refused_target}
use Rattle.symbols_paths.proofs.symbol_dep.resolve_import_type.Goals as goal

pub returns-in-Err-clause-keeps : goal.returns-in-Err-clause-keeps
returns-in-Err-clause-keeps c =
    let keeps = c.in-Err.ensures.keeps in
    record {
      grown = keeps.grown;
      refused = refused_target c.args.root.now c.resolve_specifier.new.root (resolve_specifier c.args.root.now.graph
          (specifier_in c.args.root.now c.args.module_id) c.args.specifier_text.now) c.in-Err.fault (λ v target. (v, target, refl))
          c.in-Err.ensures.unchanged keeps.refused;
      enough = keeps.enough;
    }

pub returns-in_ok-entries_of_builders-in-Ok-None-clause-found : goal.returns-in_ok-entries_of_builders-in-Ok-None-clause-found
returns-in_ok-entries_of_builders-in-Ok-None-clause-found c =
    let old = c.args.root.now in
    let new = c.resolve_specifier.new.root in
    let found = resolve_specifier old.graph (specifier_in old c.args.module_id) c.args.specifier_text.now in
    let gives = rw c.in-Ok-None.field-0-is at c.in-Ok-None.ensures.gives in
    let view = c.in_ok-entries_of_builders-in-Ok-None.ensures.view new ∙ ap path_entries (c.in_ok-paths-in-Ok-None.ensures.view new) in
    let here = specifier_in new c.args.module_id in
    let without_alias =
    ap (λ (t : List ℕ). path_entries (forest_of_tree (leaf (unresolved
    (record { specifier = here; reason = no_module t; parts = strings_view c.new-parts.result.items }))))) c.in_ok-specifier_text-in-Ok-None.ensures.ok
    ∙ ap (λ (ps : List (String Global)). path_entries (forest_of_tree
    (leaf (unresolved (record { specifier = here; reason = no_module c.args.specifier_text.now; parts = strings_view ps }))))) c.new-parts.ensures.items in
    module_missing old new c.args.module_id c.args.specifier_text.now found
    (map (resolved_dep_entry_view new) c.in_ok-entries_of_builders-in-Ok-None.field-0.items)
    c.in-Ok-None.ensures.keeps.grown c.requires.known (no_id_no_module_found found gives) (view ∙ without_alias)

pub returns-in_ok-push-in-Ok-Some-clause-found : goal.returns-in_ok-push-in-Ok-Some-clause-found
returns-in_ok-push-in-Ok-Some-clause-found c =
    let old = c.args.root.now in
    let new = c.resolve_specifier.new.root in
    let m = specifier_in old c.args.module_id in
    let found = resolve_specifier old.graph m c.args.specifier_text.now in
    let decl_targets = id_is_that_of_found_module new c.in-Ok-Some.target found (rw c.in-Ok-Some.field-0-is at c.in-Ok-Some.ensures.gives) in
    let items = rw c.new-entries.ensures.items at c.in_ok-push-in-Ok-Some.ensures.items in
    module_there m c.args.specifier_text.now found (specifier_in new c.in-Ok-Some.target) (map (resolved_dep_entry_view new) c.push.new.self.items)
    decl_targets.is
    (ap (map (resolved_dep_entry_view new)) items)

pub returns-in_ok-entries_of_builders-in-Ok-None-clause-stored : goal.returns-in_ok-entries_of_builders-in-Ok-None-clause-stored
returns-in_ok-entries_of_builders-in-Ok-None-clause-stored c =
    let new = c.resolve_specifier.new.root in
    c.in_ok-entries_of_builders-in-Ok-None.ensures.stored new
    (c.in_ok-paths-in-Ok-None.ensures.stored new (stored_id_remains_stored c.in-Ok-None.ensures.keeps.grown c.args.module_id.0 c.requires.known))

pub returns-in_ok-push-in-Ok-Some-clause-stored : goal.returns-in_ok-push-in-Ok-Some-clause-stored
returns-in_ok-push-in-Ok-Some-clause-stored c =
    let old = c.args.root.now in
    let new = c.resolve_specifier.new.root in
    let found = resolve_specifier old.graph (specifier_in old c.args.module_id) c.args.specifier_text.now in
    let decl_targets = id_is_that_of_found_module new c.in-Ok-Some.target found (rw c.in-Ok-Some.field-0-is at c.in-Ok-Some.ensures.gives) in
    let items = rw c.new-entries.ensures.items at c.in_ok-push-in-Ok-Some.ensures.items in
    subst (λ entries. AreModulesStored new (modules_of_entries entries)) (sym items) (one_stored new c.in-Ok-Some.target decl_targets.within)

pub returns-in-Err-clause-stores : goal.returns-in-Err-clause-stores
returns-in-Err-clause-stores c =
    newly_stored_among_more c.in-Err.ensures.stores (λ v target. (v, target, refl))

pub returns-in_err-specifier_text-in-Ok-None-clause-stores : goal.returns-in_err-specifier_text-in-Ok-None-clause-stores
returns-in_err-specifier_text-in-Ok-None-clause-stores c =
    newly_stored_among_more c.in-Ok-None.ensures.stores (λ v target. (v, target, refl))

pub returns-in_err-paths-in-Ok-None-clause-stores : goal.returns-in_err-paths-in-Ok-None-clause-stores
returns-in_err-paths-in-Ok-None-clause-stores c =
    newly_stored_among_more c.in-Ok-None.ensures.stores (λ v target. (v, target, refl))

pub returns-in_err-entries_of_builders-in-Ok-None-clause-stores : goal.returns-in_err-entries_of_builders-in-Ok-None-clause-stores
returns-in_err-entries_of_builders-in-Ok-None-clause-stores c =
    newly_stored_among_more c.in-Ok-None.ensures.stores (λ v target. (v, target, refl))

pub returns-in_ok-entries_of_builders-in-Ok-None-clause-stores : goal.returns-in_ok-entries_of_builders-in-Ok-None-clause-stores
returns-in_ok-entries_of_builders-in-Ok-None-clause-stores c =
    newly_stored_among_more c.in-Ok-None.ensures.stores (λ v target. (v, target, refl))

pub returns-in_err-push-in-Ok-Some-clause-stores : goal.returns-in_err-push-in-Ok-Some-clause-stores
returns-in_err-push-in-Ok-Some-clause-stores c =
    newly_stored_among_more c.in-Ok-Some.ensures.stores (λ v target. (v, target, refl))

pub returns-in_ok-push-in-Ok-Some-clause-stores : goal.returns-in_ok-push-in-Ok-Some-clause-stores
returns-in_ok-push-in-Ok-Some-clause-stores c =
    newly_stored_among_more c.in-Ok-Some.ensures.stores (λ v target. (v, target, refl))
