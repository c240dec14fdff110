-- The steps at a named import.
use Rattle.std.proofs.Common.{◌≡◌, ℕ, ◌+◌, ◌<◌, ◌^◌, true, false, List, [], ◌∷◌, length, Option, None, Some, Box, sym, ap, subst}
use Rattle.std.proofs.Common.{arith}
use Rattle.std.specs.Global.{Global}
use Rattle.std.specs.Prelude.{Contains}
use Rattle.symbols_ast.specs.declared.ids.ModuleId.{ModuleId}
use Rattle.symbols_ast.specs.declared.ids.SymbolId.{SymbolId}
use Rattle.symbols_ast.specs.declared.ids.UniqueSymbolId.{UniqueSymbolId}
use Rattle.symbols_root.specs.Roots.{RootView, specifier_in}
use Rattle.symbols_root.specs.Growing.{HasGrown}
use Rattle.symbols_root.specs.Calls.{IsStored}
use Rattle.symbols_root.specs.laws.Growing.{has_grown_trans, stored_id_remains_stored}
use Rattle.symbols_exports.specs.StarStatements.{resolve_specifier}
use Rattle.symbols_paths.specs.declared.alias_decl.AliasDecl.{AliasDecl}
use Rattle.symbols_paths.specs.declared.decl_target.NamedImport.{NamedImport}
use Rattle.symbols_paths.specs.declared.decl_target.DeclTarget.TheVariants as read
use Rattle.symbols_paths.specs.declared.search_step.Expansion.{Expansion}
use Rattle.symbols_paths.specs.declared.search_step.StarSearch.{StarSearch}
use Rattle.symbols_paths.specs.declared.search_step.Frame.{Frame}
use Rattle.symbols_paths.specs.declared.search_step.Frame.TheVariants as frame
use Rattle.symbols_paths.specs.declared.search_step.Step.TheVariants.{Search, Expand, TryStar}
use Rattle.symbols_paths.specs.PathTrees.{SymbolBySpecifier, DeclBySpecifier, PathForest, UnresolvedEntry, no_module, forest_below_link_unless_empty}
use Rattle.symbols_paths.specs.DeclTargets.{ForwardTarget, forward_target_of_import, forward_target_into_module, explicit_export, searches_stars_for}
use Rattle.symbols_paths.specs.PartTargets.{search_targets_of_root}
use Rattle.symbols_paths.specs.Derived.{link_head_of_forward}
use Rattle.symbols_paths.specs.Choice.{forest_of_unresolved}
use Rattle.symbols_paths.specs.NeededModules.{at_search_start, imported_module, AreNewlyStoredAmong}
use Rattle.symbols_paths.specs.Views.{AreModulesStored}
use Rattle.symbols_paths.specs.laws.Storing.{newly_stored_among_more}
use Rattle.symbols_paths.specs.inner.Views.{symbol_of_unique_id}
use Rattle.symbols_paths.specs.inner.PathBuilders.{modules_of_builders}
use Rattle.symbols_paths.specs.inner.ReplacedDefinitions.{definitions_of_forest}
use Rattle.symbols_paths.specs.inner.Needed.{StoresOnlyResolvedModule, IsNeededAlongStarsOf}
use Rattle.symbols_paths.specs.inner.SearchSteps.{symbols_of_unique_ids, decls_of_aliases, IsTargetOfDeclAtIndex, IsImportDeclared}
use Rattle.symbols_paths.specs.inner.StillToCome.{HoldsAfterSymbolSearch, HoldsAfterDeclListSearch, HoldsAfterLinkAndLaterDecls, HoldsAfterCandidateSearch}
use Rattle.symbols_paths.specs.inner.StillToCome.{aliases_with_frames, link_head_of_current_decl, unresolved_entry_of_missing_export, remaining_star_candidates}
use Rattle.symbols_paths.specs.inner.StillToCome.{forest_found_before_current_decl}
use Rattle.symbols_paths.specs.inner.SearchInvariants.{SearchStart, IsNeededBySearchFromStart, IsSearchOfNeededModules, IsStepWithSameOutcomeAndLessWork}
use Rattle.symbols_paths.specs.inner.SearchInvariants.{IsExpansionAtNextDecl}
use Rattle.symbols_paths.proofs.DeclReads.{target_read, occurs_among}
use Rattle.symbols_paths.proofs.Forwards.{forward_later, forward_unresolved, forward_into, collected_later, not_collected_later}
use Rattle.symbols_paths.proofs.LeafNeeds.{needed_on}
use Rattle.symbols_paths.proofs.Needing.{needed_in_newer, needed_import}
use Rattle.symbols_paths.proofs.StoredNeeded.{import_needs, stars_need}
use Rattle.symbols_paths.proofs.ComingPaths.{came_tried, came_no_candidate, came_only}
use Rattle.symbols_paths.proofs.DeclSteps.{step_path, step_link, step_star}

no_definitions : (start : SearchStart) (root : RootView) (missing : Option UnresolvedEntry) (x : _)
    → Contains (definitions_of_forest (forest_of_unresolved missing)) x → ⊥
no_definitions start root None x has = omega (arith, has.1)
no_definitions start root (Some missing) x has = omega (arith, has.1)

module _ (start : SearchStart) {old mid : RootView} (grown : HasGrown old mid) (running : List AliasDecl) (visited : List UniqueSymbolId)
    (frames : List Frame) (here : Expansion) (valid : IsSearchOfNeededModules start old running visited frames (Expand here)) (named_import : NamedImport)
    (is_read : IsTargetOfDeclAtIndex old.rules old.graph (symbol_of_unique_id old here.symbol) here.index (read.Import named_import))
    (fits : here.index + 1 < 2 ^ 32) where
  abbrev aliases_in : RootView → List DeclBySpecifier
  aliases_in later = decls_of_aliases later (aliases_with_frames start.running frames)

  abbrev target_in : RootView → Option (List ℕ)
  target_in root = resolve_specifier root.graph (specifier_in root here.symbol.module_id) named_import.specifier_text.now

  declared : IsImportDeclared old.graph (symbol_of_unique_id old here.symbol) named_import.name.now named_import.specifier_text.now
  declared = record { decl = is_read.decl; occurs = occurs_among is_read; imports = is_read.imports }

  -- ---- the modules needed

  pub target_needed : (v : List ℕ) → target_in old ≡ Some v → IsNeededBySearchFromStart start old v
  target_needed v target = needed_on valid.step_valid.needed (needed_import old.rules old.graph (symbol_of_unique_id old here.symbol) named_import.name.now
      named_import.specifier_text.now v v declared target imported_module)

  pub target_stored : StoresOnlyResolvedModule old mid here.symbol.module_id named_import.specifier_text.now
      → AreNewlyStoredAmong old mid (IsNeededBySearchFromStart start old)
  target_stored stores = newly_stored_among_more stores target_needed

  -- ---- the steps

  within : here.symbol.module_id.0 < length mid.stored
  within = stored_id_remains_stored grown here.symbol.module_id.0 valid.step_valid.stored

  abbrev LinkingImport : RootView → (PathForest → List SymbolBySpecifier → Type 0) → ForwardTarget → PathForest → List SymbolBySpecifier → Type 0
  LinkingImport later go forward = HoldsAfterLinkAndLaterDecls (search_targets_of_root later) go (aliases_in later) (symbol_of_unique_id later here.symbol)
      here.index (forest_found_before_current_decl later here) (link_head_of_forward (symbol_of_unique_id later here.symbol) here.index forward)

  abbrev TryingImport : RootView → (PathForest → List SymbolBySpecifier → Type 0) → ForwardTarget → Type 0
  TryingImport later go forward = HoldsAfterCandidateSearch (search_targets_of_root later) (LinkingImport later go forward) (aliases_in later)
      (symbols_of_unique_ids later visited)
      forward.candidates forward.otherwise

  -- what comes of the import, from its forward in a later root
  decl_forwards : (later : RootView) (on : HasGrown mid later) (go : PathForest → List SymbolBySpecifier → Type 0) (forward : ForwardTarget)
      → forward_later on here.symbol within named_import.name.now named_import.specifier_text.now ≡ forward → TryingImport later go forward
      → HoldsAfterDeclListSearch (search_targets_of_root later) go (aliases_in later) (symbols_of_unique_ids later visited)
      (symbol_of_unique_id later here.symbol) here.index (forest_found_before_current_decl later here)
  decl_forwards later on go forward is y = came_tried (search_targets_of_root later) (aliases_in later) go {visited = symbols_of_unique_ids later visited}
      (forest_found_before_current_decl later here) (forward_later on here.symbol within named_import.name.now named_import.specifier_text.now)
      (target_read (has_grown_trans grown on) here.symbol valid.step_valid.stored here.index (read.Import named_import) is_read)
      (subst (TryingImport later go) (sym is) y)

  -- the specifier resolves to no module
  pub step_unresolved : (next : Expansion) → target_in mid ≡ None
      → IsExpansionAtNextDecl here next (λ root. forest_below_link_unless_empty (link_head_of_current_decl root here here.symbol)
      (forest_of_unresolved (Some (record {
        specifier = specifier_in root here.symbol.module_id;
        reason = no_module named_import.specifier_text.now;
        parts = [];
      })))) → AreModulesStored mid (modules_of_builders next.paths.items)
      → IsStepWithSameOutcomeAndLessWork start old visited frames (Expand here) mid running visited frames (Expand next)
  step_unresolved next unresolved is stored = step_path start grown running visited frames here valid next _ fits is stored
      (λ later on x has. absurd (no_definitions start later None x has))
      (λ later on go y. decl_forwards later on go (forward_target_of_import later.rules later.graph (symbol_of_unique_id later here.symbol)
      named_import.name.now
      named_import.specifier_text.now None) (forward_unresolved on here.symbol within named_import.name.now named_import.specifier_text.now unresolved)
      (came_no_candidate (search_targets_of_root later) (aliases_in later) _ _ y))

  module _ (id : ModuleId) (stored : IsStored mid id) (target : target_in mid ≡ Some (specifier_in mid id))
      (old_target : target_in old ≡ Some (specifier_in mid id)) where
    -- the module exports the name locally
    pub step_explicit : (explicit : SymbolId) (u : UniqueSymbolId) → explicit_export mid.graph (specifier_in mid id) named_import.name.now ≡ Some explicit
        → u.module_id ≡ id → u.symbol_id ≡ explicit
        → IsStepWithSameOutcomeAndLessWork start old visited frames (Expand here) mid running visited (frame.Link here here.symbol ∷ frames) (Search u)
    step_explicit explicit u exported in_module number =
        let same : u ≡ record { module_id = id; symbol_id = explicit } = (λ i. record { module_id = in_module i; symbol_id = number i }) in
        step_link start grown running visited frames here valid here.symbol u fits within (subst (IsStored mid) (sym in_module) stored)
        (needed_in_newer grown (needed_on valid.step_valid.needed (import_needs old mid here.symbol named_import.name.now named_import.specifier_text.now id
        u.module_id grown declared old_target in_module (specifier_in mid u.module_id) at_search_start)))
        (λ later on go y. decl_forwards later on go (forward_target_into_module later.rules later.graph (symbol_of_unique_id later here.symbol)
        named_import.name.now
        (specifier_in later id) (Some explicit))
        (forward_into on here.symbol within named_import.name.now named_import.specifier_text.now id (Some explicit) stored target exported)
        (came_only (search_targets_of_root later) (aliases_in later) _ (subst (λ (x : UniqueSymbolId). HoldsAfterSymbolSearch (search_targets_of_root later)
        (LinkingImport later go (forward_target_into_module later.rules later.graph (symbol_of_unique_id later here.symbol) named_import.name.now
        (specifier_in later id) (Some explicit))) (aliases_in later) (symbols_of_unique_ids later visited) (symbol_of_unique_id later x)) same y)))

    module _ (exported : explicit_export mid.graph (specifier_in mid id) named_import.name.now ≡ None) where
      -- the search goes on to its `export *` statements
      pub step_along : (w : Box StarSearch Global) → searches_stars_for mid.rules named_import.name.now ≡ true
          → w.value ≡ record { here = here; module_id = id; name = named_import.name; position = 0 }
          → IsStepWithSameOutcomeAndLessWork start old visited frames (Expand here) mid running visited frames (TryStar w)
      step_along w so is =
          step_star start grown running visited frames here valid w fits (ap (λ (x : StarSearch). x.here) is) (ap (λ (x : StarSearch). x.position) is)
          (subst (λ (x : StarSearch). IsStored mid x.module_id) (sym is) stored)
          (subst (λ (x : StarSearch). (v : List ℕ) → IsNeededAlongStarsOf mid x.module_id x.name.now v → IsNeededBySearchFromStart start mid v) (sym is)
          (λ v along. needed_in_newer grown (needed_on valid.step_valid.needed (stars_need old mid here.symbol named_import.name.now
          named_import.specifier_text.now id grown declared old_target exported so v along))))
          (λ later on go y. decl_forwards later on go (forward_target_into_module later.rules later.graph (symbol_of_unique_id later here.symbol)
          named_import.name.now (specifier_in later id) None)
          (forward_into on here.symbol within named_import.name.now named_import.specifier_text.now id None stored target exported)
          (subst (λ cs. HoldsAfterCandidateSearch (search_targets_of_root later) (LinkingImport later go (forward_target_into_module later.rules later.graph
          (symbol_of_unique_id later here.symbol) named_import.name.now (specifier_in later id) None)) (aliases_in later)
          (symbols_of_unique_ids later visited) cs (unresolved_entry_of_missing_export later id named_import.name.now))
          (sym (collected_later on here.symbol within named_import.name.now named_import.specifier_text.now id so))
          (subst (λ (x : StarSearch). HoldsAfterCandidateSearch (search_targets_of_root later)
          (HoldsAfterLinkAndLaterDecls (search_targets_of_root later) go (aliases_in later)
          (symbol_of_unique_id later here.symbol) here.index (forest_found_before_current_decl later here) (link_head_of_current_decl later here here.symbol))
          (aliases_in later)
          (symbols_of_unique_ids later visited) (remaining_star_candidates later x) (unresolved_entry_of_missing_export later x.module_id x.name.now)) is y)))

      -- it doesn't
      pub step_missing : (next : Expansion) → searches_stars_for mid.rules named_import.name.now ≡ false
          → IsExpansionAtNextDecl here next (λ root. forest_below_link_unless_empty (link_head_of_current_decl root here here.symbol)
          (forest_of_unresolved (unresolved_entry_of_missing_export root id named_import.name.now)))
          → AreModulesStored mid (modules_of_builders next.paths.items)
          → IsStepWithSameOutcomeAndLessWork start old visited frames (Expand here) mid running visited frames (Expand next)
      step_missing next so is next_stored = step_path start grown running visited frames here valid next _ fits is next_stored
          (λ later on x has. absurd (no_definitions start later None x has))
          (λ later on go y. decl_forwards later on go (forward_target_into_module later.rules later.graph (symbol_of_unique_id later here.symbol)
          named_import.name.now (specifier_in later id) None)
          (forward_into on here.symbol within named_import.name.now named_import.specifier_text.now id None stored target exported)
          (subst (λ cs. HoldsAfterCandidateSearch (search_targets_of_root later) (LinkingImport later go (forward_target_into_module later.rules later.graph
          (symbol_of_unique_id later here.symbol) named_import.name.now (specifier_in later id) None)) (aliases_in later)
          (symbols_of_unique_ids later visited) cs (unresolved_entry_of_missing_export later id named_import.name.now))
          (sym (not_collected_later on here.symbol within named_import.name.now named_import.specifier_text.now id so))
          (came_no_candidate (search_targets_of_root later) (aliases_in later) _ _ y)))
