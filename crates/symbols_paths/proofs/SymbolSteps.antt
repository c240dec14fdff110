-- The steps at a declaration that is neither an alias nor an import.
use Rattle.std.proofs.Common.{◌≡◌, ◌+◌, ◌<◌, ◌^◌, List, ◌∷◌, Some, sym, subst, arith}
use Rattle.std.specs.Borrow.{Bor}
use Rattle.symbols_ast.specs.declared.ids.SymbolId.{SymbolId}
use Rattle.symbols_ast.specs.declared.ids.UniqueSymbolId.{UniqueSymbolId}
use Rattle.symbols_ast.specs.declared.tree.arena.Id.{Id}
use Rattle.symbols_ast.specs.declared.tree.arena.SourceRange.{SourceRange}
use Rattle.symbols_ast.specs.Ids.{id_view}
use Rattle.symbols_root.specs.Roots.{RootView, specifier_in}
use Rattle.symbols_root.specs.Calls.{IsStored}
use Rattle.symbols_root.specs.laws.Growing.{has_grown_refl}
use Rattle.symbols_paths.specs.declared.alias_decl.AliasDecl.{AliasDecl}
use Rattle.symbols_paths.specs.declared.decl_target.DeclTarget.{DeclTarget}
use Rattle.symbols_paths.specs.declared.decl_target.DeclTarget.TheVariants as read
use Rattle.symbols_paths.specs.declared.definition.DefinitionKind.{DefinitionKind}
use Rattle.symbols_paths.specs.declared.shared_parts.SharedParts.{SharedParts}
use Rattle.symbols_paths.specs.declared.search_step.Expansion.{Expansion}
use Rattle.symbols_paths.specs.declared.search_step.Frame.{Frame}
use Rattle.symbols_paths.specs.declared.search_step.Frame.TheVariants as frame
use Rattle.symbols_paths.specs.declared.search_step.Step.TheVariants.{Search, Expand}
use Rattle.symbols_paths.specs.PathTrees.{DeclBySpecifier, no_symbol, definition, unresolved, leaf, link, no_trees}
use Rattle.symbols_paths.specs.PathTrees.{forest_of_tree}
use Rattle.symbols_paths.specs.DeclTargets.{forward_target_to_nothing, forward_target_to_unresolved, forward_target_within_module}
use Rattle.symbols_paths.specs.PartTargets.{search_targets_of_root}
use Rattle.symbols_paths.specs.Derived.{alias_link_head, definition_of_decl}
use Rattle.symbols_paths.specs.Choice.{decl_is_definition, decl_forwards, no_candidate_left}
use Rattle.symbols_paths.specs.Views.{decl_by_specifier, star_import_view, AreModulesStored}
use Rattle.symbols_paths.specs.inner.Views.{symbol_of_unique_id}
use Rattle.symbols_paths.specs.inner.PathBuilders.{remaining_parts, modules_of_builders}
use Rattle.symbols_paths.specs.inner.SearchSteps.{symbols_of_unique_ids, decls_of_aliases, IsTargetOfDeclAtIndex}
use Rattle.symbols_paths.specs.inner.StillToCome.{HoldsAfterSymbolSearch, HoldsAfterLinkAndLaterDecls, aliases_with_frames, link_head_of_current_decl}
use Rattle.symbols_paths.specs.inner.StillToCome.{forest_found_before_current_decl}
use Rattle.symbols_paths.specs.inner.SearchInvariants.{SearchStart, IsNeededBySearchFromStart, IsDefinitionOfNeededModule, IsSearchOfNeededModules}
use Rattle.symbols_paths.specs.inner.SearchInvariants.{IsStepWithSameOutcomeAndLessWork, IsExpansionAtNextDecl}
use Rattle.symbols_paths.proofs.DeclReads.{target_read}
use Rattle.symbols_paths.proofs.Leaves.{only_this}
use Rattle.symbols_paths.proofs.LeafNeeds.{star_declared}
use Rattle.symbols_paths.proofs.ComingPaths.{came_followed, came_tried, came_only}
use Rattle.symbols_paths.proofs.GrownSearches.{still_needed}
use Rattle.symbols_paths.proofs.DeclSteps.{step_path, step_link}

module _ (start : SearchStart) (root : RootView) (running : List AliasDecl) (visited : List UniqueSymbolId) (frames : List Frame) (here : Expansion)
    (valid : IsSearchOfNeededModules start root running visited frames (Expand here)) (fits : here.index + 1 < 2 ^ 32) where
  abbrev aliases_in : RootView → List DeclBySpecifier
  aliases_in later = decls_of_aliases later (aliases_with_frames start.running frames)

  abbrev IsRead : DeclTarget → Type 0
  IsRead decl_target = IsTargetOfDeclAtIndex root.rules root.graph (symbol_of_unique_id root here.symbol) here.index decl_target

  pub step_definition : (kind : DefinitionKind) (range : SourceRange) (next : Expansion) → IsRead (read.Definition kind range)
      → IsExpansionAtNextDecl here next (λ later. forest_of_tree (leaf (definition (record {
        decl = decl_by_specifier later here.symbol.module_id (record { symbol = here.symbol.symbol_id; index = here.index });
        range = range;
        star = star_import_view kind;
      })))) → AreModulesStored root (modules_of_builders next.paths.items)
      → IsStepWithSameOutcomeAndLessWork start root visited frames (Expand here) root running visited frames (Expand next)
  step_definition kind range next is_read is stored = step_path start (has_grown_refl root) running visited frames here valid next _ fits is stored
      (λ later on x has. subst (IsDefinitionOfNeededModule start later) (only_this (definition_of_decl (symbol_of_unique_id later here.symbol) here.index range
      (star_import_view kind)) x has) (record {
        needed = still_needed start on here.symbol.module_id valid.step_valid.stored valid.step_valid.needed;
        declared = star_declared later.rules later.graph (symbol_of_unique_id later here.symbol) here.index range (star_import_view kind)
            (target_read on here.symbol valid.step_valid.stored here.index (read.Definition kind range) is_read);
      }))
      (λ later on go y. came_followed (search_targets_of_root later) (aliases_in later) go (forest_found_before_current_decl later here)
      (target_read on here.symbol valid.step_valid.stored here.index (read.Definition kind range) is_read) decl_is_definition y)

  pub step_nothing : (next : Expansion) → IsRead read.Nothing → IsExpansionAtNextDecl here next (λ later. no_trees)
      → AreModulesStored root (modules_of_builders next.paths.items)
      → IsStepWithSameOutcomeAndLessWork start root visited frames (Expand here) root running visited frames (Expand next)
  step_nothing next is_read is stored = step_path start (has_grown_refl root) running visited frames here valid next _ fits is stored
      (λ later on x has. absurd (omega (arith, has.1)))
      (λ later on go y. came_followed (search_targets_of_root later) (aliases_in later) go (forest_found_before_current_decl later here)
      (target_read on here.symbol valid.step_valid.stored here.index read.Nothing is_read)
      (decl_forwards {forward = forward_target_to_nothing (symbol_of_unique_id later here.symbol)} no_candidate_left) y)

  pub step_symbol : (t : SymbolId) (target : UniqueSymbolId) → IsRead (read.Symbol t) → target.module_id ≡ here.symbol.module_id → target.symbol_id ≡ t
      → IsStepWithSameOutcomeAndLessWork start root visited frames (Expand here) root running visited (frame.Link here target ∷ frames) (Search target)
  step_symbol t target is_read in_module number =
      let same : target ≡ record { module_id = here.symbol.module_id; symbol_id = t } =
      (λ i. record { module_id = in_module i; symbol_id = number i }) in
      let stored = subst (λ (u : UniqueSymbolId). IsStored root u.module_id) (sym same) valid.step_valid.stored in
      step_link start (has_grown_refl root) running visited frames here valid target target fits stored stored
      (subst (λ (u : UniqueSymbolId). IsNeededBySearchFromStart start root (specifier_in root u.module_id)) (sym same) valid.step_valid.needed)
      (λ later on go y. came_tried (search_targets_of_root later) (aliases_in later) go (forest_found_before_current_decl later here)
      (forward_target_within_module (symbol_of_unique_id later here.symbol) (Some t))
      (target_read on here.symbol valid.step_valid.stored here.index (read.Symbol t) is_read)
      (came_only (search_targets_of_root later) (aliases_in later) _ (subst (λ (u : UniqueSymbolId). HoldsAfterSymbolSearch (search_targets_of_root later)
      (HoldsAfterLinkAndLaterDecls (search_targets_of_root later) go (aliases_in later) (symbol_of_unique_id later here.symbol) here.index
      (forest_found_before_current_decl later here)
      (link_head_of_current_decl later here u)) (aliases_in later) (symbols_of_unique_ids later visited) (symbol_of_unique_id later u)) same y)))

  pub step_unresolved_id : (id : Bor Id) (parts : SharedParts) (next : Expansion) → IsRead (read.UnresolvedId id parts)
      → IsExpansionAtNextDecl here next (λ later. forest_of_tree
      (link (alias_link_head (symbol_of_unique_id later here.symbol) here.index (remaining_parts parts)) (forest_of_tree (leaf (unresolved (record {
        specifier = specifier_in later here.symbol.module_id;
        reason = no_symbol (id_view id.now);
        parts = remaining_parts parts;
      })))))) → AreModulesStored root (modules_of_builders next.paths.items)
      → IsStepWithSameOutcomeAndLessWork start root visited frames (Expand here) root running visited frames (Expand next)
  step_unresolved_id id parts next is_read is stored = step_path start (has_grown_refl root) running visited frames here valid next _ fits is stored
      (λ later on x has. absurd (omega (arith, has.1)))
      (λ later on go y. came_followed (search_targets_of_root later) (aliases_in later) go (forest_found_before_current_decl later here)
      (target_read on here.symbol valid.step_valid.stored here.index (read.UnresolvedId id parts) is_read)
      (decl_forwards {forward = forward_target_to_unresolved (symbol_of_unique_id later here.symbol) (remaining_parts parts) (record {
        specifier = specifier_in later here.symbol.module_id;
        reason = no_symbol (id_view id.now);
        parts = remaining_parts parts;
      })} no_candidate_left) y)
