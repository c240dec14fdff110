-- The steps at a declaration of a symbol.
use Rattle.std.proofs.Common.{◌≡◌, ℕ, ◌+◌, ◌-◌, ◌*◌, ◌<◌, ◌≤◌, ◌^◌, true, false, List, [], ◌∷◌, ◌++◌, length, Box, Vec, None, sym, ap, subst, ◌∙◌, arith}
use Rattle.std.proofs.Common.{slice_get}
use Rattle.std.specs.Global.{Global}
use Rattle.std.specs.List.{IsDistinct, list_any}
use Rattle.std.specs.Str.{bytes_eq}
use Rattle.std.proofs.lemmas.List.{length-append}
use Rattle.symbols_ast.specs.declared.ids.UniqueSymbolId.{UniqueSymbolId}
use Rattle.symbols_root.specs.Roots.{RootView, specifier_in}
use Rattle.symbols_root.specs.Growing.{HasGrown}
use Rattle.symbols_root.specs.Calls.{IsStored}
use Rattle.symbols_paths.specs.declared.alias_decl.AliasDecl.{AliasDecl}
use Rattle.symbols_paths.specs.declared.path_builder.PathBuilder.{PathBuilder}
use Rattle.symbols_paths.specs.declared.search_step.Expansion.{Expansion}
use Rattle.symbols_paths.specs.declared.search_step.StarSearch.{StarSearch}
use Rattle.symbols_paths.specs.declared.search_step.Frame.{Frame}
use Rattle.symbols_paths.specs.declared.search_step.Frame.TheVariants as frame
use Rattle.symbols_paths.specs.declared.search_step.Step.TheVariants.{Search, Expand, TryStar, Found}
use Rattle.symbols_paths.specs.PathTrees.{SymbolBySpecifier, DeclBySpecifier, PathForest, joined_forests}
use Rattle.symbols_paths.specs.DeclTargets.{declarations_of}
use Rattle.symbols_paths.specs.PartTargets.{search_targets_of_root}
use Rattle.symbols_paths.specs.Views.{AreModulesStored}
use Rattle.symbols_paths.specs.inner.Views.{symbol_of_unique_id}
use Rattle.symbols_paths.specs.inner.PathBuilders.{built_paths, modules_of_builders}
use Rattle.symbols_paths.specs.inner.ReplacedDefinitions.{definitions_of_forest}
use Rattle.symbols_paths.specs.inner.Needed.{IsNeededAlongStarsOf}
use Rattle.symbols_paths.specs.inner.SearchSteps.{symbols_of_unique_ids, decls_of_aliases}
use Rattle.symbols_paths.specs.inner.StillToCome.{HoldsAfterSymbolSearch, HoldsAfterDeclListSearch, HoldsAfterLinkAndLaterDecls, HoldsAfterCandidateSearch}
use Rattle.symbols_paths.specs.inner.StillToCome.{aliases_with_frames, link_head_of_current_decl, unresolved_entry_of_missing_export, remaining_star_candidates}
use Rattle.symbols_paths.specs.inner.StillToCome.{forest_found_before_current_decl, FramesUnwindToResult}
use Rattle.symbols_paths.specs.inner.SearchWork.{levels_of_remaining_alias_searches, work_of_decl_search}
use Rattle.symbols_paths.specs.inner.SearchInvariants.{SearchStart, AreVisitedSymbolsFewEnoughForSet, IsNeededBySearchFromStart, AreDefinitionsOfNeededModules}
use Rattle.symbols_paths.specs.inner.SearchInvariants.{IsExpansionWhoseNextIndexFits, IsSearchOfNeededModules, IsStepWithSameOutcomeAndLessWork}
use Rattle.symbols_paths.specs.inner.SearchInvariants.{IsExpansionAtNextDecl, ArePathsOfNeededModules}
use Rattle.symbols_paths.proofs.GrownRoots.{still_numbered}
use Rattle.symbols_paths.proofs.SearchSteps.{is_symbol, numbered_with, named_with, still_aliases}
use Rattle.symbols_paths.proofs.DeclReads.{later_visited, past_later}
use Rattle.symbols_paths.proofs.NextDecls.{next_valid}
use Rattle.symbols_paths.proofs.ComingPaths.{came_visited, came_new, came_last}
use Rattle.symbols_paths.proofs.SearchWork.{some_worth, next_level, many_below, one_of, fewer_left}
use Rattle.symbols_paths.proofs.GrownSearches.{expansion_still_valid, frames_still_valid}

-- what comes of the next declaration, from the one before it
pub next_on : (later : RootView) (go : PathForest → List SymbolBySpecifier → Type 0) (running : List DeclBySpecifier) (visited : List SymbolBySpecifier)
    (here next : Expansion) (more : RootView → PathForest) → IsExpansionAtNextDecl here next more
    → HoldsAfterDeclListSearch (search_targets_of_root later) go running visited (symbol_of_unique_id later next.symbol) next.index
    (forest_found_before_current_decl later next)
    → HoldsAfterDeclListSearch (search_targets_of_root later) go running visited (symbol_of_unique_id later here.symbol) (here.index + 1)
    (joined_forests (forest_found_before_current_decl later here) (more later))
next_on later go running visited here next more is y = subst (λ (v : UniqueSymbolId × ℕ × PathForest).
    HoldsAfterDeclListSearch (search_targets_of_root later) go running visited (symbol_of_unique_id later v.0) v.1 v.2)
    (λ j. (is.symbol j, is.index j, is.paths later j)) y

-- and what is left
pub next_left : (here next : Expansion) (more : RootView → PathForest) (x : ℕ) → IsExpansionAtNextDecl here next more
    → (2 ^ 32 - next.index) * x ≡ (2 ^ 32 - (here.index + 1)) * x
next_left here next more x is = ap (λ n. (2 ^ 32 - n) * x) is.index

no_paths_valid : (start : SearchStart) (root : RootView) (paths : List PathBuilder) → paths ≡ [] → ArePathsOfNeededModules start root paths
no_paths_valid start root paths empty = subst (ArePathsOfNeededModules start root) (sym empty)
    (record { stored = λ k d h. absurd (omega (arith, h)); needed = λ later grown x has. absurd (omega (arith, has.1)) })

few_symbols : (start : SearchStart) (frames : List Frame) (n : ℕ) → n ≤ 2 ^ 64 → AreVisitedSymbolsFewEnoughForSet start frames n
few_symbols start [] n le = λ h. le
few_symbols start (frame.Link here t ∷ frames) n le = few_symbols start frames n le
few_symbols start (frame.Star w ∷ frames) n le = few_symbols start frames n le
few_symbols start (frame.Alias w ∷ frames) n le = le
few_symbols start (frame.Parts ps ∷ frames) n le = few_symbols start frames n le
few_symbols start (frame.Replacement w ∷ frames) n le = few_symbols start frames n le

-- ---- a symbol

module _ (start : SearchStart) (root : RootView) (running : List AliasDecl) (visited : List UniqueSymbolId) (frames : List Frame) (s : UniqueSymbolId)
    (valid : IsSearchOfNeededModules start root running visited frames (Search s)) (once : IsDistinct bytes_eq root.stored) (paths : Vec PathBuilder Global)
    (empty : paths.items ≡ []) where
  pub step_visited : list_any (is_symbol s) visited ≡ true → IsStepWithSameOutcomeAndLessWork start root visited frames (Search s) root running visited frames
      (Found paths)
  step_visited old = record {
    valid = record {
      running_so = valid.running_so;
      aliases = valid.aliases;
      symbols = valid.symbols;
      few = valid.few;
      frames_valid = valid.frames_valid;
      step_valid = no_paths_valid start root paths.items empty;
    };
    comes = λ later grown F A y. came_visited (search_targets_of_root later) (decls_of_aliases later (aliases_with_frames start.running frames))
        (FramesUnwindToResult later start.running F A frames) (sym (later_visited once visited s valid.symbols valid.step_valid.0 grown) ∙ old)
        (subst (λ ps. FramesUnwindToResult later start.running F A frames (built_paths later ps) (symbols_of_unique_ids later visited)) empty y);
    less = omega (arith, some_worth (levels_of_remaining_alias_searches (length (aliases_with_frames start.running frames)) + 3 * (2 ^ 64 - length visited)));
  }

  pub step_new : (now : List UniqueSymbolId) → now ≡ visited ++ s ∷ [] → list_any (is_symbol s) visited ≡ false → length visited < 2 ^ 64
      → IsStepWithSameOutcomeAndLessWork start root visited frames (Search s) root running now frames (Expand (record { symbol = s; index = 0; paths = paths }))
  step_new now added fresh few =
      let n = length (aliases_with_frames start.running frames) in
      let longer : length now ≡ length visited + 1 = ap length added ∙ length-append visited (s ∷ []) in
      let much = many_below (2 ^ 32) (levels_of_remaining_alias_searches n + (3 * (2 ^ 64 - length now) + 2))
      (levels_of_remaining_alias_searches n + 3 * (2 ^ 64 - length visited)) 1 (omega arith)
      (omega (arith, longer, few)) (omega arith) in
      record {
        valid = record {
          running_so = valid.running_so;
          aliases = valid.aliases;
          symbols = rw added (numbered_with root visited s valid.symbols valid.step_valid.0);
          few = few_symbols start frames (length now) (omega (arith, longer, few));
          frames_valid = valid.frames_valid;
          step_valid = record { stored = valid.step_valid.0; needed = valid.step_valid.1; paths = no_paths_valid start root paths.items empty };
        };
        comes = λ later grown F A y. came_new (search_targets_of_root later) (decls_of_aliases later (aliases_with_frames start.running frames))
            (FramesUnwindToResult later start.running F A frames) (sym (later_visited once visited s valid.symbols valid.step_valid.0 grown) ∙ fresh)
            (subst (λ (v : List SymbolBySpecifier × List PathBuilder). HoldsAfterDeclListSearch (search_targets_of_root later)
            (FramesUnwindToResult later start.running F A frames)
            (decls_of_aliases later (aliases_with_frames start.running frames)) v.0 (symbol_of_unique_id later s) 0 (built_paths later v.1))
            (λ j. ((ap (symbols_of_unique_ids later) added ∙ named_with later visited s) j, empty j)) y);
        less = omega (arith, much, fewer_left start.running frames (length visited) (length now) (omega (arith, longer)));
      }

-- ---- a declaration

module _ (start : SearchStart) {old new : RootView} (grown : HasGrown old new) (running : List AliasDecl) (visited : List UniqueSymbolId) (frames : List Frame)
    (here : Expansion) (valid : IsSearchOfNeededModules start old running visited frames (Expand here)) where
  abbrev aliases_in : RootView → List DeclBySpecifier
  aliases_in later = decls_of_aliases later (aliases_with_frames start.running frames)

  -- what comes of the declaration at the index
  abbrev pub ComesHere : RootView → (PathForest → List SymbolBySpecifier → Type 0) → Type 0
  ComesHere later go = HoldsAfterDeclListSearch (search_targets_of_root later) go (aliases_in later) (symbols_of_unique_ids later visited)
      (symbol_of_unique_id later here.symbol)
      here.index (forest_found_before_current_decl later here)

  abbrev pub ComesNext : RootView → (PathForest → List SymbolBySpecifier → Type 0) → PathForest → Type 0
  ComesNext later go f = HoldsAfterDeclListSearch (search_targets_of_root later) go (aliases_in later) (symbols_of_unique_ids later visited)
      (symbol_of_unique_id later here.symbol)
      (here.index + 1) (joined_forests (forest_found_before_current_decl later here) f)

  -- it has these paths
  pub step_path : (next : Expansion) (more : RootView → PathForest) → here.index + 1 < 2 ^ 32 → IsExpansionAtNextDecl here next more
      → AreModulesStored new (modules_of_builders next.paths.items)
      → ((later : RootView) → HasGrown new later → AreDefinitionsOfNeededModules start later (definitions_of_forest (more later)))
      → ((later : RootView) → HasGrown new later → (go : PathForest → List SymbolBySpecifier → Type 0) → ComesNext later go (more later) → ComesHere later go)
      → IsStepWithSameOutcomeAndLessWork start old visited frames (Expand here) new running visited frames (Expand next)
  step_path next more fits is stored needed came =
      let n = length (aliases_with_frames start.running frames) in
      let each = work_of_decl_search n (length visited) in
      record {
        valid = record {
          running_so = valid.running_so;
          aliases = still_aliases grown running valid.aliases;
          symbols = still_numbered grown visited valid.symbols;
          few = valid.few;
          frames_valid = frames_still_valid start grown frames valid.frames_valid;
          step_valid = next_valid (expansion_still_valid start grown here valid.step_valid) is stored needed;
        };
        comes = λ later on F A y. came later on (FramesUnwindToResult later start.running F A frames)
            (next_on later (FramesUnwindToResult later start.running F A frames) (aliases_in later) (symbols_of_unique_ids later visited) here next more is y);
        less = omega (
          arith,
          next_left here next more each is,
          one_of (2 ^ 32) here.index each (omega (arith, fits)),
          some_worth (levels_of_remaining_alias_searches n + (3 * (2 ^ 64 - length visited) + 2)),
        );
      }

  -- it links to a symbol, which is searched
  pub step_link : (t u : UniqueSymbolId) → here.index + 1 < 2 ^ 32 → IsStored new t.module_id → IsStored new u.module_id
      → IsNeededBySearchFromStart start new (specifier_in new u.module_id)
      → ((later : RootView) → HasGrown new later → (go : PathForest → List SymbolBySpecifier → Type 0)
      → HoldsAfterSymbolSearch (search_targets_of_root later) (HoldsAfterLinkAndLaterDecls (search_targets_of_root later) go (aliases_in later)
      (symbol_of_unique_id later here.symbol) here.index
      (forest_found_before_current_decl later here) (link_head_of_current_decl later here t)) (aliases_in later) (symbols_of_unique_ids later visited)
      (symbol_of_unique_id later u)
      → ComesHere later go)
      → IsStepWithSameOutcomeAndLessWork start old visited frames (Expand here) new running visited (frame.Link here t ∷ frames) (Search u)
  step_link t u fits t_stored u_stored needed came =
      let n = length (aliases_with_frames start.running frames) in
      let each = work_of_decl_search n (length visited) in
      let a = levels_of_remaining_alias_searches n + 3 * (2 ^ 64 - length visited) in
      record {
        valid = record {
          running_so = valid.running_so;
          aliases = still_aliases grown running valid.aliases;
          symbols = still_numbered grown visited valid.symbols;
          few = valid.few;
          frames_valid = (
            record { expansion = expansion_still_valid start grown here valid.step_valid; fits = fits },
            t_stored,
            frames_still_valid start grown
                frames valid.frames_valid,
          );
          step_valid = (u_stored, needed);
        };
        comes = λ later on F A y. came later on (FramesUnwindToResult later start.running F A frames) y;
        less = omega (
          arith,
          one_of (2 ^ 32) here.index each (omega (arith, fits)),
          next_level a (levels_of_remaining_alias_searches n + (3 * (2 ^ 64 - length visited) + 2)) (omega arith),
          some_worth a,
        );
      }

  -- it is looked up along `export *` statements
  pub step_star : (w : Box StarSearch Global) → here.index + 1 < 2 ^ 32 → w.value.here ≡ here → w.value.position ≡ 0 → IsStored new w.value.module_id
      → ((v : List ℕ) → IsNeededAlongStarsOf new w.value.module_id w.value.name.now v → IsNeededBySearchFromStart start new v)
      → ((later : RootView) → HasGrown new later → (go : PathForest → List SymbolBySpecifier → Type 0)
      → HoldsAfterCandidateSearch (search_targets_of_root later) (HoldsAfterLinkAndLaterDecls (search_targets_of_root later) go (aliases_in later)
      (symbol_of_unique_id later here.symbol) here.index
      (forest_found_before_current_decl later here) (link_head_of_current_decl later here here.symbol)) (aliases_in later) (symbols_of_unique_ids later visited)
      (remaining_star_candidates later w.value) (unresolved_entry_of_missing_export later w.value.module_id w.value.name.now) → ComesHere later go)
      → IsStepWithSameOutcomeAndLessWork start old visited frames (Expand here) new running visited frames (TryStar w)
  step_star w fits same begins stored needed came =
      let n = length (aliases_with_frames start.running frames) in
      let each = work_of_decl_search n (length visited) in
      let a = levels_of_remaining_alias_searches n + (3 * (2 ^ 64 - length visited) + 1) in
      let waits : IsExpansionWhoseNextIndexFits start new here = record { expansion = expansion_still_valid start grown here valid.step_valid; fits = fits } in
      let index : w.value.here.index ≡ here.index = ap (λ (x : Expansion). x.index) same in
      let left : (2 ^ 32 - (w.value.here.index + 1)) * each ≡ (2 ^ 32 - (here.index + 1)) * each = ap (λ k. (2 ^ 32 - (k + 1)) * each) index in
      record {
        valid = record {
          running_so = valid.running_so;
          aliases = still_aliases grown running valid.aliases;
          symbols = still_numbered grown visited valid.symbols;
          few = valid.few;
          frames_valid = frames_still_valid start grown frames valid.frames_valid;
          step_valid = record { here = subst (IsExpansionWhoseNextIndexFits start new) (sym same) waits; stored = stored; needed = needed };
        };
        comes = λ later on F A y. came later on (FramesUnwindToResult later start.running F A frames) (subst (λ (x : Expansion).
            HoldsAfterCandidateSearch (search_targets_of_root later)
            (HoldsAfterLinkAndLaterDecls (search_targets_of_root later) (FramesUnwindToResult later start.running F A frames) (aliases_in later)
            (symbol_of_unique_id later x.symbol) x.index (forest_found_before_current_decl later x) (link_head_of_current_decl later x x.symbol))
            (aliases_in later)
            (symbols_of_unique_ids later visited) (remaining_star_candidates later w.value)
            (unresolved_entry_of_missing_export later w.value.module_id w.value.name.now)) same y);
        less = rw begins (omega (
          arith,
          left,
          one_of (2 ^ 32) here.index each (omega (arith, fits)),
          many_below (2 ^ 63) a (levels_of_remaining_alias_searches n + (3 * (2 ^ 64 - length visited) + 2)) 1 (omega arith) (omega arith) (omega arith),
        ));
      }

  -- there is no further declaration
  pub step_end : new ≡ old → slice_get (declarations_of old.graph (symbol_of_unique_id old here.symbol)) here.index ≡ None
      → IsStepWithSameOutcomeAndLessWork start old visited frames (Expand here) old running visited frames (Found here.paths)
  step_end unchanged past = record {
    valid = record {
      running_so = valid.running_so;
      aliases = valid.aliases;
      symbols = valid.symbols;
      few = valid.few;
      frames_valid = valid.frames_valid;
      step_valid = valid.step_valid.paths;
    };
    comes = λ later on F A y. came_last (search_targets_of_root later) (aliases_in later) (FramesUnwindToResult later start.running F A frames)
        (forest_found_before_current_decl later here) (past_later on here.symbol valid.step_valid.stored here.index past) y;
    less = omega arith;
  }
