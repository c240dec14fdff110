-- The steps after what a frame waits for was found.
use Rattle.std.proofs.Common.{◌≡◌, List, [], ◌∷◌, ◌++◌, length, zero, suc, Option, Box, Vec}
use Rattle.std.proofs.Common.{refl, sym, subst, arith}
use Rattle.std.specs.Global.{Global}
use Rattle.std.proofs.lemmas.List.{length-map}
use Rattle.symbols_root.specs.Roots.{RootView}
use Rattle.symbols_ast.specs.declared.ids.UniqueSymbolId.{UniqueSymbolId}
use Rattle.symbols_paths.specs.declared.alias_decl.AliasDecl.{AliasDecl}
use Rattle.symbols_paths.specs.declared.path_builder.PathBuilder.{PathBuilder}
use Rattle.symbols_paths.specs.declared.search_step.Expansion.{Expansion}
use Rattle.symbols_paths.specs.declared.search_step.StarSearch.{StarSearch}
use Rattle.symbols_paths.specs.declared.search_step.AliasSearch.{AliasSearch}
use Rattle.symbols_paths.specs.declared.search_step.Frame.{Frame}
use Rattle.symbols_paths.specs.declared.search_step.Frame.TheVariants as frame
use Rattle.symbols_paths.specs.declared.search_step.Step.TheVariants.{Expand, TryStar, Found}
use Rattle.symbols_paths.specs.PathTrees.{SymbolBySpecifier, DeclBySpecifier, UnresolvedEntry, PathForest, no_trees, more_trees, forest_below_link_unless_empty}
use Rattle.symbols_paths.specs.PartTargets.{SearchTargets, search_targets_of_root}
use Rattle.symbols_paths.specs.Derived.{alias_link_head}
use Rattle.symbols_paths.specs.Views.{AreModulesStored}
use Rattle.symbols_paths.specs.inner.Views.{symbol_of_unique_id}
use Rattle.symbols_paths.specs.inner.PathBuilders.{remaining_parts, built_paths, modules_of_builders}
use Rattle.symbols_paths.specs.inner.SearchSteps.{AreModulesOfAliasesStored, symbols_of_unique_ids, decls_of_aliases}
use Rattle.symbols_paths.specs.inner.StillToCome.{HoldsAfterFirstCandidatePaths, HoldsAfterLinkAndLaterDecls, aliases_with_frames, alias_at_current_decl}
use Rattle.symbols_paths.specs.inner.StillToCome.{link_head_of_current_decl, unresolved_entry_of_missing_export, remaining_star_candidates}
use Rattle.symbols_paths.specs.inner.StillToCome.{forest_found_before_current_decl, FramesUnwindToResult}
use Rattle.symbols_paths.specs.inner.SearchWork.{work_of_decl_search}
use Rattle.symbols_paths.specs.inner.SearchInvariants.{SearchStart, IsSearchOfNeededModules, IsStepWithSameOutcomeAndLessWork, IsExpansionAtNextDecl}
use Rattle.symbols_paths.proofs.NextDecls.{next_valid, needed_linked}
use Rattle.symbols_paths.proofs.DeclSteps.{next_on, next_left}

tried_some : (routes : SearchTargets) (go : PathForest → List SymbolBySpecifier → Type 0) (running : List DeclBySpecifier) (cs : List SymbolBySpecifier)
    (otherwise : Option UnresolvedEntry) (f : PathForest) (visited : List SymbolBySpecifier) → (f ≡ no_trees → ⊥) → go f visited
    → HoldsAfterFirstCandidatePaths routes go running cs otherwise f visited
tried_some routes go running cs otherwise no_trees visited some y = absurd (some refl)
tried_some routes go running cs otherwise (more_trees t f) visited some y = y

module _ (start : SearchStart) (root : RootView) (running : List AliasDecl) (visited : List UniqueSymbolId) (frames : List Frame)
    (paths : Vec PathBuilder Global) where
  abbrev aliases_in : RootView → List DeclBySpecifier
  aliases_in later = decls_of_aliases later (aliases_with_frames start.running frames)

  -- a link
  pub resumed_link : (here : Expansion) (t : UniqueSymbolId) (next : Expansion)
      → IsSearchOfNeededModules start root running visited (frame.Link here t ∷ frames) (Found paths)
      → IsExpansionAtNextDecl here next (λ later. forest_below_link_unless_empty (link_head_of_current_decl later here t) (built_paths later paths.items))
      → AreModulesStored root (modules_of_builders next.paths.items)
      → IsStepWithSameOutcomeAndLessWork start root visited (frame.Link here t ∷ frames) (Found paths) root running visited frames (Expand next)
  resumed_link here t next valid is stored =
      let n = length (aliases_with_frames start.running frames) in
      record {
        valid = record {
          running_so = valid.running_so;
          aliases = valid.aliases;
          symbols = valid.symbols;
          few = valid.few;
          frames_valid = valid.frames_valid.2;
          step_valid = next_valid valid.frames_valid.0.expansion is stored
              (λ later on. needed_linked (link_head_of_current_decl later here t) (built_paths later paths.items) (valid.step_valid.needed later on));
        };
        comes = λ later on F A y. next_on later (FramesUnwindToResult later start.running F A frames) (aliases_in later) (symbols_of_unique_ids later visited)
            here next (λ later. forest_below_link_unless_empty (link_head_of_current_decl later here t) (built_paths later paths.items)) is y;
        less = omega (arith, next_left here next _ (work_of_decl_search n (length visited)) is);
      }

  -- a candidate without paths
  pub resumed_star_none : (w : Box StarSearch Global) → IsSearchOfNeededModules start root running visited (frame.Star w ∷ frames) (Found paths)
      → ((later : RootView) → built_paths later paths.items ≡ no_trees)
      → IsStepWithSameOutcomeAndLessWork start root visited (frame.Star w ∷ frames) (Found paths) root running visited frames (TryStar w)
  resumed_star_none w valid empty = record {
    valid = record {
      running_so = valid.running_so;
      aliases = valid.aliases;
      symbols = valid.symbols;
      few = valid.few;
      frames_valid = valid.frames_valid.1;
      step_valid = valid.frames_valid.0;
    };
    comes = λ later on F A y. subst (λ f. FramesUnwindToResult later start.running F A (frame.Star w ∷ frames) f (symbols_of_unique_ids later visited))
        (sym (empty later)) y;
    less = omega arith;
  }

  -- a candidate with paths
  pub resumed_star_some : (w : Box StarSearch Global) (next : Expansion)
      → IsSearchOfNeededModules start root running visited (frame.Star w ∷ frames) (Found paths)
      → ((later : RootView) → built_paths later paths.items ≡ no_trees → ⊥)
      → IsExpansionAtNextDecl w.value.here next (λ later. forest_below_link_unless_empty (link_head_of_current_decl later w.value.here w.value.here.symbol)
      (built_paths later paths.items))
      → AreModulesStored root (modules_of_builders next.paths.items)
      → IsStepWithSameOutcomeAndLessWork start root visited (frame.Star w ∷ frames) (Found paths) root running visited frames (Expand next)
  resumed_star_some w next valid some is stored =
      let n = length (aliases_with_frames start.running frames) in
      let here = w.value.here in
      record {
        valid = record {
          running_so = valid.running_so;
          aliases = valid.aliases;
          symbols = valid.symbols;
          few = valid.few;
          frames_valid = valid.frames_valid.1;
          step_valid = next_valid valid.frames_valid.0.here.expansion is stored (λ later on.
              needed_linked (link_head_of_current_decl later here here.symbol) (built_paths later paths.items) (valid.step_valid.needed later on));
        };
        comes = λ later on F A y.
            let go = FramesUnwindToResult later start.running F A frames in
            tried_some (search_targets_of_root later) (HoldsAfterLinkAndLaterDecls (search_targets_of_root later) go (aliases_in later)
            (symbol_of_unique_id later here.symbol) here.index
            (forest_found_before_current_decl later here) (link_head_of_current_decl later here here.symbol)) (aliases_in later)
            (remaining_star_candidates later w.value)
            (unresolved_entry_of_missing_export later w.value.module_id w.value.name.now) (built_paths later paths.items) (symbols_of_unique_ids later visited)
            (some later)
            (next_on later go (aliases_in later) (symbols_of_unique_ids later visited) here next
            (λ later. forest_below_link_unless_empty (link_head_of_current_decl later here here.symbol) (built_paths later paths.items)) is y);
        less = omega (arith, next_left here next _ (work_of_decl_search n (length visited)) is);
      }

aliases_before : (root : RootView) (running : List AliasDecl) (x : AliasDecl) → AreModulesOfAliasesStored root (running ++ x ∷ [])
    → AreModulesOfAliasesStored root running
aliases_before root [] x stored k d h = absurd (omega (arith, h))
aliases_before root (y ∷ running) x stored zero d h = stored 0 d (omega arith)
aliases_before root (y ∷ running) x stored (suc k) d h =
    aliases_before root running x (λ j e g. stored (suc j) e (omega (arith, g))) k d (omega (arith, h))

-- an alias
pub resumed_alias : (start : SearchStart) (root : RootView) (running : List AliasDecl) (visited : List UniqueSymbolId) (frames : List Frame)
    (paths : Vec PathBuilder Global) (w : Box AliasSearch Global) (next : Expansion) (now : List AliasDecl) (outer : List UniqueSymbolId)
    → IsSearchOfNeededModules start root running visited (frame.Alias w ∷ frames) (Found paths)
    → now ≡ aliases_with_frames start.running frames → outer ≡ w.value.visited.keys
    → IsExpansionAtNextDecl w.value.here next (λ later. forest_below_link_unless_empty
    (alias_link_head (symbol_of_unique_id later w.value.here.symbol) w.value.here.index
    (remaining_parts w.value.parts)) (built_paths later paths.items)) → AreModulesStored root (modules_of_builders next.paths.items)
    → IsStepWithSameOutcomeAndLessWork start root visited (frame.Alias w ∷ frames) (Found paths) root now outer frames (Expand next)
resumed_alias start root running visited frames paths w next now outer valid now_is outer_is is stored =
    let n = length (aliases_with_frames start.running frames) in
    let here = w.value.here in
    let back = λ (later : RootView). forest_below_link_unless_empty (alias_link_head (symbol_of_unique_id later here.symbol) here.index
    (remaining_parts w.value.parts)) (built_paths later paths.items) in
    let stored_aliases = subst (AreModulesOfAliasesStored root) valid.running_so valid.aliases in
    rw (outer_is) (record {
      valid = record {
        running_so = now_is;
        aliases = subst (AreModulesOfAliasesStored root) (sym now_is)
            (aliases_before root (aliases_with_frames start.running frames) (alias_at_current_decl here) stored_aliases);
        symbols = valid.frames_valid.1;
        few = valid.frames_valid.2;
        frames_valid = valid.frames_valid.3;
        step_valid = next_valid valid.frames_valid.0.expansion is stored (λ later on.
            needed_linked (alias_link_head (symbol_of_unique_id later here.symbol) here.index (remaining_parts w.value.parts)) (built_paths later paths.items)
            (valid.step_valid.needed later on));
      };
      comes = λ later on F A y. (
        omega (arith, valid.few, length-map visited (symbol_of_unique_id later)),
        next_on later (FramesUnwindToResult later start.running F A frames) (decls_of_aliases later (aliases_with_frames start.running frames))
            (symbols_of_unique_ids later w.value.visited.keys) here next back is y,
      );
      less = omega (arith, next_left here next back (work_of_decl_search n (length w.value.visited.keys)) is);
    })
