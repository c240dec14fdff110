use Rattle.std.proofs.Common.{◌≡◌, ◌∙◌, true, false, None, rules, sym, ap}
use Rattle.symbols_root.specs.Roots.{RootView, specifier_in}
use Rattle.symbols_root.specs.laws.Growing.{stored_id_remains_stored}
use Rattle.symbols_root.specs.laws.Numbers.{id_is_that_of_found_module, no_id_no_module_found}
use Rattle.symbols_exports.specs.StarStatements.{resolve_specifier}
use Rattle.symbols_paths.specs.PathTrees.{no_module, unresolved, leaf, forest_of_tree, forest_below_link_unless_empty, joined_forests}
use Rattle.symbols_paths.specs.DeclTargets.{explicit_export, searches_stars_for}
use Rattle.symbols_paths.specs.Views.{strings_view}
use Rattle.symbols_paths.specs.inner.PathBuilders.{built_paths}
use Rattle.symbols_paths.specs.inner.StillToCome.{link_head_of_current_decl}
use Rattle.symbols_paths.proofs.GrownRoots.{all_still_stored}
use Rattle.symbols_paths.proofs.Forwards.{target_later}
use Rattle.symbols_paths.proofs.Needing.{refused_target}
use Rattle.symbols_paths.proofs.ImportSteps.{target_needed, target_stored, step_unresolved, step_explicit, step_along, step_missing}
use Rattle.symbols_paths.proofs.follow_decl.follow_import.Goals as goal

pub returns-in-Err-clause-keeps : goal.returns-in-Err-clause-keeps
returns-in-Err-clause-keeps g c =
    let old = c.args.root.now in
    let keeps = c.in-Err.ensures.keeps in
    record {
      grown = keeps.grown;
      refused = refused_target old c.resolve_specifier.new.root (resolve_specifier old.graph (specifier_in old c.args.here.symbol.module_id)
          c.args.named_import.now.specifier_text.now) c.in-Err.fault
          (target_needed g.start keeps.grown c.args.state.now.resolving.keys c.args.state.now.visited.keys c.args.state.now.frames.items c.args.here
          c.requires.0 c.args.named_import.now c.requires.1.0 c.requires.1.1) c.in-Err.ensures.unchanged keeps.refused;
      enough = keeps.enough;
    }

pub returns-in_err-specifier_text-in-Ok-None-clause-stores : goal.returns-in_err-specifier_text-in-Ok-None-clause-stores
returns-in_err-specifier_text-in-Ok-None-clause-stores g c = target_stored g.start c.in-Ok-None.ensures.keeps.grown c.args.state.now.resolving.keys
    c.args.state.now.visited.keys
    c.args.state.now.frames.items c.args.here c.requires.0 c.args.named_import.now c.requires.1.0 c.requires.1.1 c.in-Ok-None.ensures.stores

pub returns-in_err-next-in-Ok-None-clause-stores : goal.returns-in_err-next-in-Ok-None-clause-stores
returns-in_err-next-in-Ok-None-clause-stores g c = target_stored g.start c.in-Ok-None.ensures.keeps.grown c.args.state.now.resolving.keys
    c.args.state.now.visited.keys
    c.args.state.now.frames.items c.args.here c.requires.0 c.args.named_import.now c.requires.1.0 c.requires.1.1 c.in-Ok-None.ensures.stores

pub returns-in_err-with_link-in-Ok-None-clause-stores : goal.returns-in_err-with_link-in-Ok-None-clause-stores
returns-in_err-with_link-in-Ok-None-clause-stores g c = target_stored g.start c.in-Ok-None.ensures.keeps.grown c.args.state.now.resolving.keys
    c.args.state.now.visited.keys
    c.args.state.now.frames.items c.args.here c.requires.0 c.args.named_import.now c.requires.1.0 c.requires.1.1 c.in-Ok-None.ensures.stores

pub returns-in-Ok-None-clause-stores : goal.returns-in-Ok-None-clause-stores
returns-in-Ok-None-clause-stores g c = target_stored g.start c.in-Ok-None.ensures.keeps.grown c.args.state.now.resolving.keys c.args.state.now.visited.keys
    c.args.state.now.frames.items c.args.here c.requires.0 c.args.named_import.now c.requires.1.0 c.requires.1.1 c.in-Ok-None.ensures.stores

pub returns-in_err-push_front-in-Some-clause-stores : goal.returns-in_err-push_front-in-Some-clause-stores
returns-in_err-push_front-in-Some-clause-stores g c = target_stored g.start c.in-Ok-Some.ensures.keeps.grown c.args.state.now.resolving.keys
    c.args.state.now.visited.keys
    c.args.state.now.frames.items c.args.here c.requires.0 c.args.named_import.now c.requires.1.0 c.requires.1.1 c.in-Ok-Some.ensures.stores

pub returns-in_err-new-in-None-clause-stores : goal.returns-in_err-new-in-None-clause-stores
returns-in_err-new-in-None-clause-stores g c = target_stored g.start c.in-Ok-Some.ensures.keeps.grown c.args.state.now.resolving.keys
    c.args.state.now.visited.keys
    c.args.state.now.frames.items c.args.here c.requires.0 c.args.named_import.now c.requires.1.0 c.requires.1.1 c.in-Ok-Some.ensures.stores

pub returns-in_err-with_missing_export-in-None-2-clause-stores : goal.returns-in_err-with_missing_export-in-None-2-clause-stores
returns-in_err-with_missing_export-in-None-2-clause-stores g c = target_stored g.start c.in-Ok-Some.ensures.keeps.grown c.args.state.now.resolving.keys
    c.args.state.now.visited.keys
    c.args.state.now.frames.items c.args.here c.requires.0 c.args.named_import.now c.requires.1.0 c.requires.1.1 c.in-Ok-Some.ensures.stores

pub returns-in_ok-push_front-in-Some-clause-stores : goal.returns-in_ok-push_front-in-Some-clause-stores
returns-in_ok-push_front-in-Some-clause-stores g c = target_stored g.start c.in-Ok-Some.ensures.keeps.grown c.args.state.now.resolving.keys
    c.args.state.now.visited.keys
    c.args.state.now.frames.items c.args.here c.requires.0 c.args.named_import.now c.requires.1.0 c.requires.1.1 c.in-Ok-Some.ensures.stores

pub returns-in_ok-new-in-None-clause-stores : goal.returns-in_ok-new-in-None-clause-stores
returns-in_ok-new-in-None-clause-stores g c = target_stored g.start c.in-Ok-Some.ensures.keeps.grown c.args.state.now.resolving.keys
    c.args.state.now.visited.keys
    c.args.state.now.frames.items c.args.here c.requires.0 c.args.named_import.now c.requires.1.0 c.requires.1.1 c.in-Ok-Some.ensures.stores

pub returns-in_ok-with_missing_export-in-None-2-clause-stores : goal.returns-in_ok-with_missing_export-in-None-2-clause-stores
returns-in_ok-with_missing_export-in-None-2-clause-stores g c = target_stored g.start c.in-Ok-Some.ensures.keeps.grown c.args.state.now.resolving.keys
    c.args.state.now.visited.keys
    c.args.state.now.frames.items c.args.here c.requires.0 c.args.named_import.now c.requires.1.0 c.requires.1.1 c.in-Ok-Some.ensures.stores

pub explicit_export-requires : goal.explicit_export-requires
explicit_export-requires g c =
    let old = c.args.root.now in
    let mid = c.resolve_specifier.new.root in
    let here = c.args.here in
    let grown = c.in-Ok-Some.ensures.keeps.grown in
    let id = c.in-Ok-Some.module_id in
    let target = id_is_that_of_found_module mid id
    (resolve_specifier old.graph (specifier_in old here.symbol.module_id) c.args.named_import.now.specifier_text.now)
    (rw c.in-Ok-Some.field-0-is at c.in-Ok-Some.ensures.gives) in
    target.within

pub returns-in-Ok-None-clause-steps : goal.returns-in-Ok-None-clause-steps
returns-in-Ok-None-clause-steps g c =
    let old = c.args.root.now in
    let mid = c.resolve_specifier.new.root in
    let here = c.args.here in
    let grown = c.in-Ok-None.ensures.keeps.grown in
    let unresolved_there = target_later grown here.symbol.module_id c.requires.0.step_valid.stored c.args.named_import.now.specifier_text.now
    ∙ no_id_no_module_found (resolve_specifier old.graph (specifier_in old here.symbol.module_id) c.args.named_import.now.specifier_text.now)
    (rw c.in-Ok-None.field-0-is at c.in-Ok-None.ensures.gives) in
    let within = stored_id_remains_stored grown here.symbol.module_id.0 c.requires.0.step_valid.stored in
    let is = c.in_ok-with_link-in-Ok-None.ensures.next in
    step_unresolved g.start grown c.args.state.now.resolving.keys c.args.state.now.visited.keys c.args.state.now.frames.items here c.requires.0
    c.args.named_import.now c.requires.1.0 c.requires.1.1 c.in_ok-with_link-in-Ok-None.field-0 unresolved_there
    (record {
      symbol = is.symbol;
      index = is.index;
      paths = λ (root : RootView). is.paths root ∙ ap (λ f. joined_forests (built_paths root here.paths.items)
          (forest_below_link_unless_empty (link_head_of_current_decl root here here.symbol) f)) (c.in_ok-next-in-Ok-None.ensures.view root
          ∙ (λ i. forest_of_tree (leaf (unresolved (record {
            specifier = specifier_in root here.symbol.module_id;
            reason = no_module (c.in_ok-specifier_text-in-Ok-None.ensures.ok i);
            parts = strings_view (c.new-parts.ensures.items i);
          })))));
    })
    (c.in_ok-with_link-in-Ok-None.ensures.stored mid within (all_still_stored grown _ c.requires.0.step_valid.paths.stored)
    (c.in_ok-next-in-Ok-None.ensures.stored mid within))

pub returns-in_ok-push_front-in-Some-clause-steps : goal.returns-in_ok-push_front-in-Some-clause-steps
returns-in_ok-push_front-in-Some-clause-steps g c =
    let old = c.args.root.now in
    let mid = c.resolve_specifier.new.root in
    let here = c.args.here in
    let grown = c.in-Ok-Some.ensures.keeps.grown in
    let id = c.in-Ok-Some.module_id in
    let target = id_is_that_of_found_module mid id
    (resolve_specifier old.graph (specifier_in old here.symbol.module_id) c.args.named_import.now.specifier_text.now)
    (rw c.in-Ok-Some.field-0-is at c.in-Ok-Some.ensures.gives) in
    let there = target_later grown here.symbol.module_id c.requires.0.step_valid.stored c.args.named_import.now.specifier_text.now ∙ target.is in
    rw c.in_ok-push_front-in-Some.ensures.items (step_explicit g.start grown c.args.state.now.resolving.keys c.args.state.now.visited.keys
    c.args.state.now.frames.items here c.requires.0
    c.args.named_import.now c.requires.1.0 c.requires.1.1 id target.within there target.is c.in-Some.explicit c.new.result
    (sym c.in-Some.ensures) c.new.ensures.module c.new.ensures.symbol)

pub returns-in_ok-new-in-None-clause-steps : goal.returns-in_ok-new-in-None-clause-steps
returns-in_ok-new-in-None-clause-steps g c =
    let old = c.args.root.now in
    let mid = c.resolve_specifier.new.root in
    let here = c.args.here in
    let grown = c.in-Ok-Some.ensures.keeps.grown in
    let id = c.in-Ok-Some.module_id in
    let target = id_is_that_of_found_module mid id
    (resolve_specifier old.graph (specifier_in old here.symbol.module_id) c.args.named_import.now.specifier_text.now)
    (rw c.in-Ok-Some.field-0-is at c.in-Ok-Some.ensures.gives) in
    let there = target_later grown here.symbol.module_id c.requires.0.step_valid.stored c.args.named_import.now.specifier_text.now ∙ target.is in
    let so : searches_stars_for mid.rules c.args.named_import.now.name.now ≡ true = search rules in
    step_along g.start grown c.args.state.now.resolving.keys c.args.state.now.visited.keys c.args.state.now.frames.items here c.requires.0
    c.args.named_import.now c.requires.1.0 c.requires.1.1 id target.within there target.is (sym c.in-None.ensures) c.in_ok-new-in-None.field-0 so
    c.in_ok-new-in-None.ensures.ok

pub returns-in_ok-with_missing_export-in-None-2-clause-steps : goal.returns-in_ok-with_missing_export-in-None-2-clause-steps
returns-in_ok-with_missing_export-in-None-2-clause-steps g c =
    let old = c.args.root.now in
    let mid = c.resolve_specifier.new.root in
    let here = c.args.here in
    let grown = c.in-Ok-Some.ensures.keeps.grown in
    let id = c.in-Ok-Some.module_id in
    let target = id_is_that_of_found_module mid id
    (resolve_specifier old.graph (specifier_in old here.symbol.module_id) c.args.named_import.now.specifier_text.now)
    (rw c.in-Ok-Some.field-0-is at c.in-Ok-Some.ensures.gives) in
    let there = target_later grown here.symbol.module_id c.requires.0.step_valid.stored c.args.named_import.now.specifier_text.now ∙ target.is in
    let so : searches_stars_for mid.rules c.args.named_import.now.name.now ≡ false = search rules in
    let exported : explicit_export mid.graph (specifier_in mid id) c.args.named_import.now.name.now ≡ None = search rules in
    let within = stored_id_remains_stored grown here.symbol.module_id.0 c.requires.0.step_valid.stored in
    step_missing g.start grown c.args.state.now.resolving.keys c.args.state.now.visited.keys c.args.state.now.frames.items here c.requires.0
    c.args.named_import.now c.requires.1.0 c.requires.1.1 id target.within there target.is exported c.in_ok-with_missing_export-in-None-2.field-0 so
    c.in_ok-with_missing_export-in-None-2.ensures.next (c.in_ok-with_missing_export-in-None-2.ensures.stored mid within
    (all_still_stored grown _ c.requires.0.step_valid.paths.stored) target.within)
