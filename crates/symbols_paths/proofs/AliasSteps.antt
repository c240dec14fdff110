-- The steps at an alias, and after its search.
use Rattle.std.proofs.Common.{◌≡◌, ◌+◌, ◌-◌, ◌*◌, ◌<◌, ◌≤◌, ◌^◌, true, false, List, [], ◌∷◌, ◌++◌, length, Box, refl, sym, ap, subst, ◌∙◌, arith}
use Rattle.std.specs.Global.{Global}
use Rattle.std.specs.List.{IsDistinct, list_any}
use Rattle.std.specs.Str.{bytes_eq}
use Rattle.std.proofs.lemmas.List.{length-append, length-map}
use Rattle.symbols_ast.specs.declared.ids.SymbolId.{SymbolId}
use Rattle.symbols_ast.specs.declared.ids.UniqueSymbolId.{UniqueSymbolId}
use Rattle.symbols_root.specs.Roots.{RootView, specifier_in}
use Rattle.symbols_root.specs.Growing.{HasGrown}
use Rattle.symbols_root.specs.Calls.{IsStored}
use Rattle.symbols_root.specs.laws.Growing.{has_grown_refl, stored_id_remains_stored}
use Rattle.symbols_paths.specs.declared.alias_decl.AliasDecl.{AliasDecl}
use Rattle.symbols_paths.specs.declared.shared_parts.SharedParts.{SharedParts}
use Rattle.symbols_paths.specs.declared.decl_target.DeclTarget.TheVariants as read
use Rattle.symbols_paths.specs.declared.search_step.Expansion.{Expansion}
use Rattle.symbols_paths.specs.declared.search_step.AliasSearch.{AliasSearch}
use Rattle.symbols_paths.specs.declared.search_step.Frame.{Frame}
use Rattle.symbols_paths.specs.declared.search_step.Frame.TheVariants as frame
use Rattle.symbols_paths.specs.declared.search_step.Step.TheVariants.{Search, Expand}
use Rattle.symbols_paths.specs.PathTrees.{SymbolBySpecifier, DeclBySpecifier, QualifiedNameParts, no_trees}
use Rattle.symbols_paths.specs.PartTargets.{search_targets_of_root}
use Rattle.symbols_paths.specs.Derived.{decl_of_symbol_at_index, alias_link_head}
use Rattle.symbols_paths.specs.Choice.{is_alias_being_resolved}
use Rattle.symbols_paths.specs.Computed.{search_limit}
use Rattle.symbols_paths.specs.NeededModules.{part_of_declared_alias}
use Rattle.symbols_paths.specs.Views.{AreModulesStored}
use Rattle.symbols_paths.specs.inner.Views.{symbol_of_unique_id}
use Rattle.symbols_paths.specs.inner.PathBuilders.{remaining_parts, modules_of_builders}
use Rattle.symbols_paths.specs.inner.SearchSteps.{AreModulesOfSymbolsStored, AreModulesOfAliasesStored, symbols_of_unique_ids, decls_of_aliases, decl_of_alias}
use Rattle.symbols_paths.specs.inner.SearchSteps.{IsTargetOfDeclAtIndex}
use Rattle.symbols_paths.specs.inner.StillToCome.{HoldsAfterSymbolSearch, HoldsAfterLinkAndLaterDecls, HoldsAfterPartsInForest, aliases_with_frames}
use Rattle.symbols_paths.specs.inner.StillToCome.{alias_at_current_decl, forest_found_before_current_decl, FramesUnwindToResult}
use Rattle.symbols_paths.specs.inner.SearchWork.{levels_of_remaining_alias_searches, work_of_symbol_search, work_of_parts_search, work_of_decl_search}
use Rattle.symbols_paths.specs.inner.SearchWork.{work_of_decls_from_index, work_of_frames, remaining_search_work}
use Rattle.symbols_paths.specs.inner.SearchInvariants.{SearchStart, AreVisitedSymbolsFewEnoughForSet, IsNeededBySearchFromStart, ArePartsResolvedBySearch}
use Rattle.symbols_paths.specs.inner.SearchInvariants.{IsExpansionWhoseNextIndexFits, IsSearchOfNeededModules, IsStepWithSameOutcomeAndLessWork}
use Rattle.symbols_paths.specs.inner.SearchInvariants.{IsExpansionAtNextDecl}
use Rattle.symbols_paths.proofs.SearchSteps.{is_alias_decl, running_by_name, running_with, aliases_with, still_aliases}
use Rattle.symbols_paths.proofs.SharedParts.{short_parts}
use Rattle.symbols_paths.proofs.DeclReads.{target_read, occurs_among}
use Rattle.symbols_paths.proofs.ComingPaths.{came_running, came_alias}
use Rattle.symbols_paths.proofs.SearchWork.{two_below, one_of, one_alias_below}
use Rattle.symbols_paths.proofs.DeclSteps.{step_path}

module _ (start : SearchStart) (root : RootView) (running : List AliasDecl) (visited : List UniqueSymbolId) (frames : List Frame) (here : Expansion)
    (valid : IsSearchOfNeededModules start root running visited frames (Expand here)) (once : IsDistinct bytes_eq root.stored) (t : SymbolId)
    (parts : SharedParts) (is_read : IsTargetOfDeclAtIndex root.rules root.graph (symbol_of_unique_id root here.symbol) here.index (read.Alias t parts))
    (fits : here.index + 1 < 2 ^ 32) where
  running_later : (later : RootView) → HasGrown root later → list_any (is_alias_decl (alias_at_current_decl here)) running
      ≡ is_alias_being_resolved (decls_of_aliases later (aliases_with_frames start.running frames))
      (decl_of_symbol_at_index (symbol_of_unique_id later here.symbol) here.index)
  running_later later on = running_by_name later (on.has_no_duplicates once) running (alias_at_current_decl here) (still_aliases on running valid.aliases)
      (stored_id_remains_stored on here.symbol.module_id.0 valid.step_valid.stored)
      ∙ ap (λ aliases. is_alias_being_resolved (decls_of_aliases later aliases) (decl_of_symbol_at_index (symbol_of_unique_id later here.symbol) here.index))
      valid.running_so

  -- it is being resolved, and has no path
  pub step_running : (next : Expansion) → IsExpansionAtNextDecl here next (λ later. no_trees) → AreModulesStored root (modules_of_builders next.paths.items)
      → list_any (is_alias_decl (alias_at_current_decl here)) running ≡ true → IsStepWithSameOutcomeAndLessWork start root visited frames (Expand here) root
      running visited frames (Expand next)
  step_running next is stored open_now = step_path start (has_grown_refl root) running visited frames here valid next (λ later. no_trees) fits is stored
      (λ later on x has. absurd (omega (arith, has.1)))
      (λ later on go y. came_running (search_targets_of_root later) (decls_of_aliases later (aliases_with_frames start.running frames)) go
      (forest_found_before_current_decl later here)
      (target_read on here.symbol valid.step_valid.stored here.index (read.Alias t parts) is_read) (sym (running_later later on) ∙ open_now) y)

  pub alias_parts_needed : ArePartsResolvedBySearch start root (remaining_parts parts)
  alias_parts_needed part has = part_of_declared_alias (symbol_of_unique_id root here.symbol) is_read.decl is_read.imports.0 (remaining_parts parts)
      valid.step_valid.needed (occurs_among is_read) is_read.imports.1 has

  -- it is searched, with visited symbols of its own
  pub step_alias : (w : AliasSearch) (inner : SharedParts) (target : UniqueSymbolId) (now : List AliasDecl) (fresh : List UniqueSymbolId)
      → w.here ≡ here → remaining_parts w.parts ≡ remaining_parts parts → w.visited.keys ≡ visited → remaining_parts inner ≡ remaining_parts parts
      → target.module_id ≡ here.symbol.module_id → target.symbol_id ≡ t → now ≡ running ++ alias_at_current_decl here ∷ [] → fresh ≡ []
      → list_any (is_alias_decl (alias_at_current_decl here)) running ≡ false → length running < 2 ^ 64 → (b : Box AliasSearch Global) → b.value ≡ w
      → IsStepWithSameOutcomeAndLessWork start root visited frames (Expand here) root now fresh (frame.Parts inner ∷ frame.Alias b ∷ frames) (Search target)
  step_alias w inner target now fresh e_here e_parts e_visited e_inner in_module number e_now e_fresh closed few b boxed =
      let n = length (aliases_with_frames start.running frames) in
      let p = length (remaining_parts parts) in
      let v = length visited in
      let here_is : b.value.here ≡ here = ap (λ (x : AliasSearch). x.here) boxed ∙ e_here in
      let parts_are : remaining_parts b.value.parts ≡ remaining_parts parts = ap (λ (x : AliasSearch). remaining_parts x.parts) boxed ∙ e_parts in
      let outer_is : b.value.visited.keys ≡ visited = ap (λ (x : AliasSearch). x.visited.keys) boxed ∙ e_visited in
      let same : target ≡ record { module_id = here.symbol.module_id; symbol_id = t } =
      (λ i. record { module_id = in_module i; symbol_id = number i }) in
      let running_n : length running ≡ n = ap length valid.running_so in
      let one_more : length (aliases_with_frames start.running frames ++ alias_at_current_decl b.value.here ∷ []) ≡ n + 1 =
      length-append (aliases_with_frames start.running frames) (alias_at_current_decl b.value.here ∷ []) in
      let none_visited : length fresh ≡ 0 = ap length e_fresh in
      let each = work_of_decl_search n v in
      let first : work_of_symbol_search (length (aliases_with_frames start.running frames ++ alias_at_current_decl b.value.here ∷ [])) (length fresh)
      ≡ work_of_symbol_search (n + 1) 0 =
      (λ j. work_of_symbol_search (one_more j) (none_visited j)) in
      let then : work_of_parts_search (length (aliases_with_frames start.running frames ++ alias_at_current_decl b.value.here ∷ []))
      (length (remaining_parts inner))
      ≡ work_of_parts_search (n + 1) p = (λ j. work_of_parts_search (one_more j) (length (e_inner j))) in
      let last : work_of_decls_from_index n (length b.value.visited.keys) (b.value.here.index + 1) ≡ work_of_decls_from_index n v (here.index + 1) =
      (λ j. work_of_decls_from_index n (length (outer_is j)) ((here_is j).index + 1)) in
      let besides : work_of_frames start.running frames (length b.value.visited.keys) ≡ work_of_frames start.running frames v =
      (λ j. work_of_frames start.running frames (length (outer_is j))) in
      let after : remaining_search_work start.running fresh (frame.Parts inner ∷ frame.Alias b ∷ frames) (Search target)
      ≡ work_of_symbol_search (length (aliases_with_frames start.running frames ++ alias_at_current_decl b.value.here ∷ [])) (length fresh)
      + (work_of_parts_search (length (aliases_with_frames start.running frames ++ alias_at_current_decl b.value.here ∷ [])) (length (remaining_parts inner))
      + (work_of_decls_from_index n (length b.value.visited.keys) (b.value.here.index + 1) + 2
      + work_of_frames start.running frames (length b.value.visited.keys))) = refl in
      let much = two_below (levels_of_remaining_alias_searches (n + 1) + 3 * (2 ^ 64 - 0))
      (levels_of_remaining_alias_searches (n + 1) + (3 * 2 ^ 64 + (2 * p + 1))) (levels_of_remaining_alias_searches n + (3 * (2 ^ 64 - v) + 2)) 1
      (omega (arith, one_alias_below n p (omega (arith, few, running_n)) (short_parts parts)))
      (omega (arith, one_alias_below n p (omega (arith, few, running_n)) (short_parts parts))) (omega arith) in
      let waits : IsExpansionWhoseNextIndexFits start root here = record { expansion = valid.step_valid; fits = fits } in
      record {
        valid = record {
          running_so = e_now ∙ (λ j. valid.running_so j ++ alias_at_current_decl (sym here_is j) ∷ []);
          aliases = subst (AreModulesOfAliasesStored root) (sym e_now)
              (aliases_with root running (alias_at_current_decl here) valid.aliases valid.step_valid.stored);
          symbols = subst (AreModulesOfSymbolsStored root) (sym e_fresh) (λ k d h. absurd (omega (arith, h)));
          few = omega (arith, none_visited);
          frames_valid = (
            subst (ArePartsResolvedBySearch start root) (sym e_inner) alias_parts_needed,
            (
              subst (IsExpansionWhoseNextIndexFits start root) (sym here_is) waits,
              subst (AreModulesOfSymbolsStored root) (sym outer_is) valid.symbols,
              subst (λ vs. AreVisitedSymbolsFewEnoughForSet start frames (length vs)) (sym outer_is) valid.few,
              valid.frames_valid,
            ),
          );
          step_valid = (
            subst (λ (u : UniqueSymbolId). IsStored root u.module_id) (sym same) valid.step_valid.stored,
            subst (λ (u : UniqueSymbolId). IsNeededBySearchFromStart start root (specifier_in root u.module_id)) (sym same) valid.step_valid.needed,
          );
        };
        comes = λ later on F A y.
            let go = FramesUnwindToResult later start.running F A frames in
            let aliases = decls_of_aliases later (aliases_with_frames start.running frames) in
            let all : decls_of_aliases later (aliases_with_frames start.running frames ++ alias_at_current_decl b.value.here ∷ [])
            ≡ aliases ++ decl_of_symbol_at_index (symbol_of_unique_id later here.symbol) here.index ∷ [] =
            (λ j. decls_of_aliases later (aliases_with_frames start.running frames ++ alias_at_current_decl (here_is j) ∷ []))
            ∙ running_with later (aliases_with_frames start.running frames) (alias_at_current_decl here) in
            came_alias (search_targets_of_root later) aliases go (remaining_parts parts) (forest_found_before_current_decl later here)
            (target_read on here.symbol valid.step_valid.stored here.index (read.Alias t parts) is_read) (sym (running_later later on) ∙ closed)
            (omega (arith, few, running_n, length-map (aliases_with_frames start.running frames) (decl_of_alias later)))
            (subst (λ (x : Expansion × List UniqueSymbolId × QualifiedNameParts × QualifiedNameParts × List DeclBySpecifier × List SymbolBySpecifier
            × UniqueSymbolId). HoldsAfterSymbolSearch (search_targets_of_root later) (HoldsAfterPartsInForest (search_targets_of_root later)
            (λ f last_visited. (length last_visited ≤ search_limit)
            × HoldsAfterLinkAndLaterDecls (search_targets_of_root later) go aliases (symbol_of_unique_id later x.0.symbol) x.0.index
            (forest_found_before_current_decl later x.0)
            (alias_link_head (symbol_of_unique_id later x.0.symbol) x.0.index x.2) f (symbols_of_unique_ids later x.1)) x.4 x.3) x.4 x.5
            (symbol_of_unique_id later x.6))
            (λ j. (here_is j, outer_is j, parts_are j, e_inner j, all j, symbols_of_unique_ids later (e_fresh j), same j)) y);
        less = omega (arith, after, first, then, last, besides, much, one_of (2 ^ 32) here.index each (omega (arith, fits)));
      }

  -- without parts no frame waits to resolve them
  pub alias_without_parts : (inner : SharedParts) (target : UniqueSymbolId) (now : List AliasDecl) (fresh : List UniqueSymbolId) (b : Box AliasSearch Global)
      → remaining_parts inner ≡ []
      → IsStepWithSameOutcomeAndLessWork start root visited frames (Expand here) root now fresh (frame.Parts inner ∷ frame.Alias b ∷ frames) (Search target)
      → IsStepWithSameOutcomeAndLessWork start root visited frames (Expand here) root now fresh (frame.Alias b ∷ frames) (Search target)
  alias_without_parts inner target now fresh b none is =
      let n = length (aliases_with_frames start.running frames ++ alias_at_current_decl b.value.here ∷ []) in
      let more : remaining_search_work start.running fresh (frame.Parts inner ∷ frame.Alias b ∷ frames) (Search target)
      ≡ work_of_symbol_search n (length fresh)
      + (work_of_parts_search n (length (remaining_parts inner)) + work_of_frames start.running (frame.Alias b ∷ frames) (length fresh)) = refl in
      let left : remaining_search_work start.running fresh (frame.Alias b ∷ frames) (Search target)
      ≡ work_of_symbol_search n (length fresh) + work_of_frames start.running (frame.Alias b ∷ frames) (length fresh) = refl in
      record {
        valid = record {
          running_so = is.valid.running_so;
          aliases = is.valid.aliases;
          symbols = is.valid.symbols;
          few = is.valid.few;
          frames_valid = is.valid.frames_valid.1;
          step_valid = is.valid.step_valid;
        };
        comes = λ later on F A y.
            let waiting : List Frame = frame.Alias b ∷ frames in
            let aliases = decls_of_aliases later (aliases_with_frames start.running waiting) in
            is.comes later on F A (subst (λ qs. HoldsAfterSymbolSearch (search_targets_of_root later)
            (HoldsAfterPartsInForest (search_targets_of_root later) (FramesUnwindToResult later start.running F A waiting) aliases qs) aliases
            (symbols_of_unique_ids later fresh) (symbol_of_unique_id later target)) (sym none) y);
        less = omega (arith, more, left, is.less);
      }
