-- The steps at an `export *` statement.
use Rattle.std.proofs.Common.{◌≡◌, ℕ, ◌+◌, ◌-◌, ◌*◌, ◌<◌, ◌^◌, List, ◌∷◌, length, None, Some, Box, refl, sym, subst, arith}
use Rattle.std.proofs.Common.{slice_get, option_map}
use Rattle.std.specs.Global.{Global}
use Rattle.symbols_ast.specs.declared.ids.UniqueSymbolId.{UniqueSymbolId}
use Rattle.symbols_root.specs.Roots.{RootView, specifier_in}
use Rattle.symbols_root.specs.Growing.{HasGrown}
use Rattle.symbols_root.specs.Calls.{IsStored}
use Rattle.symbols_root.specs.laws.Growing.{has_grown_refl}
use Rattle.symbols_exports.specs.StarStatements.{star_specifiers, resolve_specifier}
use Rattle.symbols_paths.specs.declared.alias_decl.AliasDecl.{AliasDecl}
use Rattle.symbols_paths.specs.declared.search_step.Expansion.{Expansion}
use Rattle.symbols_paths.specs.declared.search_step.StarSearch.{StarSearch}
use Rattle.symbols_paths.specs.declared.search_step.Frame.{Frame}
use Rattle.symbols_paths.specs.declared.search_step.Frame.TheVariants as frame
use Rattle.symbols_paths.specs.declared.search_step.Step.TheVariants.{Search, Expand, TryStar}
use Rattle.symbols_paths.specs.PathTrees.{SymbolBySpecifier, DeclBySpecifier, PathForest, forest_below_link_unless_empty}
use Rattle.symbols_paths.specs.DeclTargets.{re_exported_symbol}
use Rattle.symbols_paths.specs.PartTargets.{search_targets_of_root}
use Rattle.symbols_paths.specs.Choice.{forest_of_unresolved}
use Rattle.symbols_paths.specs.NeededModules.{at_search_start}
use Rattle.symbols_paths.specs.Views.{AreModulesStored}
use Rattle.symbols_paths.specs.inner.Views.{symbol_of_unique_id}
use Rattle.symbols_paths.specs.inner.PathBuilders.{modules_of_builders}
use Rattle.symbols_paths.specs.inner.Needed.{IsSearchedAlongStarsOf}
use Rattle.symbols_paths.specs.inner.SearchSteps.{symbols_of_unique_ids, decls_of_aliases}
use Rattle.symbols_paths.specs.inner.StillToCome.{HoldsAfterSymbolSearch, HoldsAfterLinkAndLaterDecls, HoldsAfterCandidateSearch, HoldsAfterFirstCandidatePaths}
use Rattle.symbols_paths.specs.inner.StillToCome.{aliases_with_frames, link_head_of_current_decl, unresolved_entry_of_missing_export, remaining_star_candidates}
use Rattle.symbols_paths.specs.inner.StillToCome.{forest_found_before_current_decl, FramesUnwindToResult}
use Rattle.symbols_paths.specs.inner.SearchWork.{levels_of_remaining_alias_searches, work_of_decl_search, work_of_candidate_search}
use Rattle.symbols_paths.specs.inner.SearchInvariants.{SearchStart, IsNeededBySearchFromStart, IsStarSearchOfNeededModules, IsSearchOfNeededModules}
use Rattle.symbols_paths.specs.inner.SearchInvariants.{IsStepWithSameOutcomeAndLessWork, IsExpansionAtNextDecl}
use Rattle.symbols_paths.proofs.GrownRoots.{still_numbered}
use Rattle.symbols_paths.proofs.SearchSteps.{still_aliases}
use Rattle.symbols_paths.proofs.Needing.{needed_in_newer}
use Rattle.symbols_paths.proofs.StoredNeeded.{candidate_needs, searched_is_needed}
use Rattle.symbols_paths.proofs.StarReads.{no_candidates_left, candidates_next}
use Rattle.symbols_paths.proofs.NextDecls.{next_valid}
use Rattle.symbols_paths.proofs.ComingPaths.{came_candidate, came_no_candidate}
use Rattle.symbols_paths.proofs.SearchWork.{some_worth, next_level, one_of}
use Rattle.symbols_paths.proofs.GrownSearches.{star_still_valid, frames_still_valid}
use Rattle.symbols_paths.proofs.DeclSteps.{next_on, next_left}

module _ (start : SearchStart) {old mid : RootView} (grown : HasGrown old mid) (running : List AliasDecl) (visited : List UniqueSymbolId)
    (frames : List Frame) (w : Box StarSearch Global) (valid : IsSearchOfNeededModules start old running visited frames (TryStar w)) where
  abbrev aliases_in : RootView → List DeclBySpecifier
  aliases_in later = decls_of_aliases later (aliases_with_frames start.running frames)

  abbrev LinkingIt : RootView → (PathForest → List SymbolBySpecifier → Type 0) → PathForest → List SymbolBySpecifier → Type 0
  LinkingIt later go = HoldsAfterLinkAndLaterDecls (search_targets_of_root later) go (aliases_in later) (symbol_of_unique_id later w.value.here.symbol)
      w.value.here.index (forest_found_before_current_decl later w.value.here) (link_head_of_current_decl later w.value.here w.value.here.symbol)

  -- the search may need what it comes to along the statements
  pub searched_needed : (v : List ℕ) → IsSearchedAlongStarsOf old w.value.module_id w.value.name.now v → IsNeededBySearchFromStart start old v
  searched_needed v searched = valid.step_valid.needed v (searched_is_needed old w.value.module_id w.value.name.now v searched)

  -- there is no further statement
  pub step_no_star : (next : Expansion) → slice_get (star_specifiers old.graph (specifier_in old w.value.module_id)) w.value.position ≡ None
      → IsExpansionAtNextDecl w.value.here next (λ root. forest_below_link_unless_empty (link_head_of_current_decl root w.value.here w.value.here.symbol)
      (forest_of_unresolved (unresolved_entry_of_missing_export root w.value.module_id w.value.name.now)))
      → AreModulesStored old (modules_of_builders next.paths.items)
      → IsStepWithSameOutcomeAndLessWork start old visited frames (TryStar w) old running visited frames (Expand next)
  step_no_star next past is stored =
      let n = length (aliases_with_frames start.running frames) in
      record {
        valid = record {
          running_so = valid.running_so;
          aliases = valid.aliases;
          symbols = valid.symbols;
          few = valid.few;
          frames_valid = valid.frames_valid;
          step_valid = next_valid valid.step_valid.here.expansion is stored (λ later on x has. absurd (omega (arith, has.1)));
        };
        comes = λ later on F A y.
            let go = FramesUnwindToResult later start.running F A frames in
            subst (λ cs. HoldsAfterCandidateSearch (search_targets_of_root later) (LinkingIt later go) (aliases_in later) (symbols_of_unique_ids later visited)
            cs
            (unresolved_entry_of_missing_export later w.value.module_id w.value.name.now))
            (sym (no_candidates_left old w.value.module_id valid.step_valid.stored w.value.position w.value.name.now past later on))
            (came_no_candidate (search_targets_of_root later) (aliases_in later) (LinkingIt later go)
            (unresolved_entry_of_missing_export later w.value.module_id w.value.name.now)
            (next_on later go (aliases_in later) (symbols_of_unique_ids later visited) w.value.here next _ is y));
        less = omega (arith, next_left w.value.here next _ (work_of_decl_search n (length visited)) is);
      }

  module _ (specifier_text : List ℕ) (at : slice_get (star_specifiers old.graph (specifier_in old w.value.module_id)) w.value.position ≡ Some specifier_text)
      (within : w.value.position < 2 ^ 63) (after : Box StarSearch Global)
      (is_next : after.value ≡ record w.value { position = w.value.position + 1 }) where
    after_valid : IsStarSearchOfNeededModules start mid after.value
    after_valid = subst (IsStarSearchOfNeededModules start mid) (sym is_next)
        (let before = star_still_valid start grown w.value valid.step_valid in record { here = before.here; stored = before.stored; needed = before.needed })

    -- it has no candidate
    pub step_without : option_map (symbol_of_unique_id mid) None
        ≡ re_exported_symbol old.graph w.value.name.now (resolve_specifier old.graph (specifier_in old w.value.module_id) specifier_text)
        → IsStepWithSameOutcomeAndLessWork start old visited frames (TryStar w) mid running visited frames (TryStar after)
    step_without gives =
        let n = length (aliases_with_frames start.running frames) in
        let each = work_of_decl_search n (length visited) in
        let candidate = work_of_candidate_search n (length visited) in
        let decls : (2 ^ 32 - (after.value.here.index + 1)) * each ≡ (2 ^ 32 - (w.value.here.index + 1)) * each =
        (λ j. (2 ^ 32 - ((is_next j).here.index + 1)) * each) in
        let stars : (2 ^ 63 - after.value.position) * candidate ≡ (2 ^ 63 - (w.value.position + 1)) * candidate =
        (λ j. (2 ^ 63 - (is_next j).position) * candidate) in
        record {
          valid = record {
            running_so = valid.running_so;
            aliases = still_aliases grown running valid.aliases;
            symbols = still_numbered grown visited valid.symbols;
            few = valid.few;
            frames_valid = frames_still_valid start grown frames valid.frames_valid;
            step_valid = after_valid;
          };
          comes = λ later on F A y.
              let go = FramesUnwindToResult later start.running F A frames in
              subst (λ cs. HoldsAfterCandidateSearch (search_targets_of_root later) (LinkingIt later go) (aliases_in later)
              (symbols_of_unique_ids later visited) cs
              (unresolved_entry_of_missing_export later w.value.module_id w.value.name.now))
              (sym (candidates_next old w.value.module_id valid.step_valid.stored w.value.position w.value.name.now specifier_text None grown at gives
              tt later on))
              (subst (λ (x : StarSearch). HoldsAfterCandidateSearch (search_targets_of_root later)
              (HoldsAfterLinkAndLaterDecls (search_targets_of_root later) go (aliases_in later)
              (symbol_of_unique_id later x.here.symbol) x.here.index (forest_found_before_current_decl later x.here)
              (link_head_of_current_decl later x.here x.here.symbol)) (aliases_in later)
              (symbols_of_unique_ids later visited) (remaining_star_candidates later x) (unresolved_entry_of_missing_export later x.module_id x.name.now))
              is_next y);
          less = omega (
            arith,
            decls,
            stars,
            one_of (2 ^ 63) w.value.position candidate within,
            some_worth (levels_of_remaining_alias_searches n + (3 * (2 ^ 64 - length visited) + 1)),
          );
        }

    -- its candidate is searched
    pub step_with : (c : UniqueSymbolId) → IsStored mid c.module_id → option_map (symbol_of_unique_id mid) (Some c)
        ≡ re_exported_symbol old.graph w.value.name.now (resolve_specifier old.graph (specifier_in old w.value.module_id) specifier_text)
        → IsStepWithSameOutcomeAndLessWork start old visited frames (TryStar w) mid running visited (frame.Star after ∷ frames) (Search c)
    step_with c stored gives =
        let n = length (aliases_with_frames start.running frames) in
        let each = work_of_decl_search n (length visited) in
        let candidate = work_of_candidate_search n (length visited) in
        let a = levels_of_remaining_alias_searches n + 3 * (2 ^ 64 - length visited) in
        let decls : (2 ^ 32 - (after.value.here.index + 1)) * each ≡ (2 ^ 32 - (w.value.here.index + 1)) * each =
        (λ j. (2 ^ 32 - ((is_next j).here.index + 1)) * each) in
        let stars : (2 ^ 63 - after.value.position) * candidate ≡ (2 ^ 63 - (w.value.position + 1)) * candidate =
        (λ j. (2 ^ 63 - (is_next j).position) * candidate) in
        record {
          valid = record {
            running_so = valid.running_so;
            aliases = still_aliases grown running valid.aliases;
            symbols = still_numbered grown visited valid.symbols;
            few = valid.few;
            frames_valid = (after_valid, frames_still_valid start grown frames valid.frames_valid);
            step_valid = (
              stored,
              needed_in_newer grown (valid.step_valid.needed (specifier_in mid c.module_id) (candidate_needs old old mid w.value.module_id specifier_text
                  w.value.name.now (Some c) valid.step_valid.stored (has_grown_refl old) grown (w.value.position, at) gives (specifier_in mid c.module_id)
                  (c, refl, at_search_start))),
            );
          };
          comes = λ later on F A y.
              let go = FramesUnwindToResult later start.running F A frames in
              subst (λ cs. HoldsAfterCandidateSearch (search_targets_of_root later) (LinkingIt later go) (aliases_in later)
              (symbols_of_unique_ids later visited) cs
              (unresolved_entry_of_missing_export later w.value.module_id w.value.name.now))
              (sym (candidates_next old w.value.module_id valid.step_valid.stored w.value.position w.value.name.now specifier_text (Some c) grown at
              gives stored
              later on))
              (came_candidate (search_targets_of_root later) (aliases_in later) (LinkingIt later go)
              (subst (λ (x : StarSearch). HoldsAfterSymbolSearch (search_targets_of_root later)
              (HoldsAfterFirstCandidatePaths (search_targets_of_root later) (HoldsAfterLinkAndLaterDecls (search_targets_of_root later) go (aliases_in later)
              (symbol_of_unique_id later x.here.symbol) x.here.index (forest_found_before_current_decl later x.here)
              (link_head_of_current_decl later x.here x.here.symbol)) (aliases_in later)
              (remaining_star_candidates later x) (unresolved_entry_of_missing_export later x.module_id x.name.now)) (aliases_in later)
              (symbols_of_unique_ids later visited)
              (symbol_of_unique_id later c)) is_next y));
          less = omega (
            arith,
            decls,
            stars,
            one_of (2 ^ 63) w.value.position candidate within,
            next_level a (levels_of_remaining_alias_searches n + (3 * (2 ^ 64 - length visited) + 1)) (omega arith),
            some_worth a,
          );
        }
