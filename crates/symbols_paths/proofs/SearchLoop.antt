-- The loop of steps, from the first to the last.
use Rattle.std.proofs.Common.{◌≡◌, ◌≤◌, ◌^◌, ℕ, true, List, [], ◌∷◌, length, Vec, refl, sym, subst, arith}
use Rattle.std.proofs.lemmas.List.{length-map}
use Rattle.std.specs.Global.{Global}
use Rattle.symbols_ast.specs.declared.ids.UniqueSymbolId.{UniqueSymbolId}
use Rattle.symbols_root.specs.Roots.{RootView}
use Rattle.symbols_root.specs.Growing.{HasGrown}
use Rattle.symbols_root.specs.laws.Growing.{has_grown_refl, has_grown_trans}
use Rattle.symbols_paths.specs.declared.alias_decl.AliasDecl.{AliasDecl}
use Rattle.symbols_paths.specs.declared.path_builder.PathBuilder.{PathBuilder}
use Rattle.symbols_paths.specs.declared.search_step.Frame.{Frame}
use Rattle.symbols_paths.specs.declared.search_step.Step.{Step}
use Rattle.symbols_paths.specs.declared.search_step.Step.TheVariants.{Search, Found}
use Rattle.symbols_paths.specs.declared.search_step.Frame.TheVariants as frame
use Rattle.symbols_paths.specs.declared.shared_parts.SharedParts.{SharedParts}
use Rattle.symbols_paths.specs.PathTrees.{SymbolBySpecifier, PathForest, QualifiedNameParts}
use Rattle.symbols_paths.specs.PartTargets.{search_targets_of_root}
use Rattle.symbols_paths.specs.Choice.{IsOutcomeOfSymbolSearch, IsOutcomeOfSearchWithParts, no_parts, under}
use Rattle.symbols_paths.specs.Computed.{search_limit}
use Rattle.symbols_paths.specs.inner.Views.{symbol_of_unique_id}
use Rattle.symbols_paths.specs.NeededModules.{AreNewlyStoredAmong, at_search_start, part_of_query}
use Rattle.symbols_root.specs.Calls.{IsStored}
use Rattle.symbols_paths.specs.laws.Storing.{newly_stored_by_two_calls}
use Rattle.symbols_paths.specs.inner.PathBuilders.{remaining_parts, built_paths, modules_of_builders}
use Rattle.symbols_paths.specs.inner.SearchSteps.{symbols_of_unique_ids, decls_of_aliases, AreVisitedGrownAndModulesStored, ArePathsFoundForSymbol}
use Rattle.symbols_paths.specs.inner.SearchSteps.{ArePathsFoundWithParts, ArePathsFoundByNewSearch}
use Rattle.symbols_paths.specs.inner.StillToCome.{HoldsAfterSymbolSearch, HoldsAfterPartsInForest, StepLeadsToResult}
use Rattle.symbols_paths.specs.inner.SearchInvariants.{SearchStart, AreVisitedSymbolsFewEnoughForSet, IsNeededBySearchFromStart, IsSearchOfNeededModules}
use Rattle.symbols_paths.specs.inner.SearchInvariants.{IsStepWithSameOutcomeAndLessWork, IsFinalResultOfSearch, is_search_over, search_start_at_symbol}
use Rattle.symbols_paths.proofs.ChosenComputed.{finds_longer, walks_longer}
use Rattle.symbols_paths.proofs.Needing.{needed_in_older}

-- before each step: what comes of it, in every later root, comes of the first one
pub record AreSteps (start : SearchStart) (old : RootView) (at_search_start : List UniqueSymbolId) (waiting : List Frame) (first : Step) (root : RootView)
    (running : List AliasDecl) (visited : List UniqueSymbolId) (frames : List Frame) (step : Step) : Type 0 where
  pub valid : IsSearchOfNeededModules start root running visited frames step
  pub grown : HasGrown old root
  pub stores : AreNewlyStoredAmong old root (IsNeededBySearchFromStart start old)
  pub comes : (later : RootView) → HasGrown root later → (F : PathForest) (A : List SymbolBySpecifier)
      → StepLeadsToResult later start.running F A visited frames step → StepLeadsToResult later start.running F A at_search_start waiting first

module _ {start : SearchStart} {old : RootView} {at_search_start : List UniqueSymbolId} {waiting : List Frame} {first : Step} {root : RootView}
    {running : List AliasDecl} {visited : List UniqueSymbolId} {frames : List Frame} {step : Step}
    (is : AreSteps start old at_search_start waiting first root running visited frames step) where
  pub still_needed_before : (v : List ℕ) → IsNeededBySearchFromStart start root v → IsNeededBySearchFromStart start old v
  still_needed_before v needed = needed_in_older is.grown needed

  pub stores_on : {new : RootView} → AreNewlyStoredAmong root new (IsNeededBySearchFromStart start root)
      → AreNewlyStoredAmong old new (IsNeededBySearchFromStart start old)
  stores_on more = newly_stored_by_two_calls is.stores more still_needed_before

  pub next_steps : {new : RootView} {running_then : List AliasDecl} {visited_then : List UniqueSymbolId} {frames_then : List Frame} {step_then : Step}
      → HasGrown root new → AreNewlyStoredAmong root new (IsNeededBySearchFromStart start root)
      → IsStepWithSameOutcomeAndLessWork start root visited frames step new running_then visited_then frames_then step_then
      → AreSteps start old at_search_start waiting first new running_then visited_then frames_then step_then
  next_steps grown more is_step = record {
    valid = is_step.valid;
    grown = has_grown_trans is.grown grown;
    stores = stores_on more;
    comes = λ later on F A y. is.comes later (has_grown_trans grown on) F A (is_step.comes later on F A y);
  }

  over_comes : (paths : Vec PathBuilder Global) → is_search_over frames step ≡ true → step ≡ Found paths → (later : RootView)
      → StepLeadsToResult later start.running (built_paths later paths.items) (symbols_of_unique_ids later visited) visited frames step
  over_comes paths over found later = subst (λ t. StepLeadsToResult later start.running (built_paths later paths.items) (symbols_of_unique_ids later visited)
      visited frames t) (sym found) (by frames (subst (λ t. is_search_over frames t ≡ true) found over))
    where
      by : (fs : List Frame) → is_search_over fs (Found paths) ≡ true
          → StepLeadsToResult later start.running (built_paths later paths.items) (symbols_of_unique_ids later visited) visited fs (Found paths)
      by [] h = (refl, refl)
      by (f ∷ fs) h = cc

  pub found_at_last : (paths : Vec PathBuilder Global) → is_search_over frames step ≡ true → step ≡ Found paths
      → IsFinalResultOfSearch start old at_search_start waiting first root visited paths.items
  found_at_last paths over found =
      let valid = subst (λ t. IsSearchOfNeededModules start root running visited frames t) found is.valid in
      record {
        symbols = is.valid.symbols;
        few = by frames (subst (λ t. is_search_over frames t ≡ true) found over) is.valid.few;
        stored = valid.step_valid.stored;
        came = λ later on. is.comes later on (built_paths later paths.items) (symbols_of_unique_ids later visited) (over_comes paths over found later);
      }
    where
      by : (fs : List Frame) → is_search_over fs (Found paths) ≡ true → AreVisitedSymbolsFewEnoughForSet start fs (length visited) → start.visited ≤ 2 ^ 64
          → length visited ≤ 2 ^ 64
      by [] h few = few
      by (f ∷ fs) h few = cc

-- ---- what was found at last

module _ {start : SearchStart} {root : RootView} {visited : List UniqueSymbolId} {s : UniqueSymbolId} {new : RootView} {after : List UniqueSymbolId}
    {paths : List PathBuilder} where
  pub symbol_found : IsFinalResultOfSearch start root visited [] (Search s) new after paths
      → ArePathsFoundForSymbol new start.running visited s paths after
  symbol_found is later grown =
      let y = is.came later grown in
      subst (λ (v : PathForest × List SymbolBySpecifier). IsOutcomeOfSymbolSearch (search_targets_of_root later) search_limit
      (decls_of_aliases later start.running)
      (symbols_of_unique_ids later visited) (symbol_of_unique_id later s) v.0 v.1) (λ i. (y.3.0 i, y.3.1 i)) y.2

  pub symbol_searched : start.visited ≡ length visited → IsFinalResultOfSearch start root visited [] (Search s) new after paths
      → AreVisitedGrownAndModulesStored new visited after (modules_of_builders paths)
  symbol_searched count is = record {
    numbered = is.symbols;
    longer = omega (
      arith,
      finds_longer (search_targets_of_root new) search_limit (symbol_found is new (has_grown_refl new)),
      length-map visited (symbol_of_unique_id new),
      length-map after (symbol_of_unique_id new),
    );
    few = λ h. is.few (omega (arith, h, count));
    stored = is.stored;
  }

  pub parts_found : (ps : SharedParts) → IsFinalResultOfSearch start root visited (frame.Parts ps ∷ []) (Search s) new after paths
      → ArePathsFoundWithParts new start.running visited s (remaining_parts ps) paths after
  parts_found ps is later grown = by (remaining_parts ps) (is.came later grown)
    where
      by : (qs : QualifiedNameParts) → HoldsAfterSymbolSearch (search_targets_of_root later) (HoldsAfterPartsInForest (search_targets_of_root later)
          (λ f last. (f ≡ built_paths later paths) × (last ≡ symbols_of_unique_ids later after)) (decls_of_aliases later start.running) qs)
          (decls_of_aliases later start.running) (symbols_of_unique_ids later visited) (symbol_of_unique_id later s)
          → IsOutcomeOfSearchWithParts (search_targets_of_root later) search_limit (decls_of_aliases later start.running) (symbols_of_unique_ids later visited)
          (symbol_of_unique_id later s) qs (built_paths later paths) (symbols_of_unique_ids later after)
      by [] y = subst (λ (v : PathForest × List SymbolBySpecifier). IsOutcomeOfSearchWithParts (search_targets_of_root later) search_limit
          (decls_of_aliases later start.running) (symbols_of_unique_ids later visited) (symbol_of_unique_id later s) [] v.0 v.1)
          (λ i. (y.3.0 i, y.3.1 i)) (no_parts y.2)
      by (q ∷ qs) y = subst (λ (v : PathForest × List SymbolBySpecifier). IsOutcomeOfSearchWithParts (search_targets_of_root later) search_limit
          (decls_of_aliases later start.running) (symbols_of_unique_ids later visited) (symbol_of_unique_id later s) (q ∷ qs) v.0 v.1)
          (λ i. (y.3.3.0 i, y.3.3.1 i)) (under y.2 y.3.2)

  pub parts_searched : (ps : SharedParts) → start.visited ≡ length visited → IsFinalResultOfSearch start root visited (frame.Parts ps ∷ []) (Search s) new after
      paths
      → AreVisitedGrownAndModulesStored new visited after (modules_of_builders paths)
  parts_searched ps count is = record {
    numbered = is.symbols;
    longer = omega (
      arith,
      walks_longer (search_targets_of_root new) search_limit (parts_found ps is new (has_grown_refl new)),
      length-map visited (symbol_of_unique_id new),
      length-map after (symbol_of_unique_id new),
    );
    few = λ h. is.few (omega (arith, h, count));
    stored = is.stored;
  }

-- ---- what a search found that began with no visited symbol

module _ (old : RootView) (s : UniqueSymbolId) where
  pub search_can_begin : IsStored old s.module_id → IsSearchOfNeededModules (search_start_at_symbol old [] [] [] s) old [] [] [] (Search s)
  search_can_begin known = record {
    running_so = refl;
    aliases = λ k d h. absurd (omega (arith, h));
    symbols = λ k d h. absurd (omega (arith, h));
    few = λ h. h;
    frames_valid = tt;
    step_valid = (known, at_search_start);
  }

  pub search_can_begin_with_parts : (ps : SharedParts) → IsStored old s.module_id
      → IsSearchOfNeededModules (search_start_at_symbol old [] [] (frame.Parts ps ∷ []) s) old [] [] (frame.Parts ps ∷ []) (Search s)
  search_can_begin_with_parts ps known = record {
    running_so = refl;
    aliases = λ k d h. absurd (omega (arith, h));
    symbols = λ k d h. absurd (omega (arith, h));
    few = λ h. h;
    frames_valid = (λ part has. part_of_query has, tt);
    step_valid = (known, at_search_start);
  }

module _ (old : RootView) {new : RootView} (s : UniqueSymbolId) {after : List UniqueSymbolId} {paths : List PathBuilder} where
  pub paths_of_new_search : IsFinalResultOfSearch (search_start_at_symbol old [] [] [] s) old [] [] (Search s) new after paths
      → ArePathsFoundByNewSearch new s [] paths
  paths_of_new_search is = record { after = after; found = λ later on. no_parts (symbol_found is later on); searched = symbol_searched refl is }

  pub paths_of_new_search_with_parts : (ps : SharedParts)
      → IsFinalResultOfSearch (search_start_at_symbol old [] [] (frame.Parts ps ∷ []) s) old [] (frame.Parts ps ∷ []) (Search s) new after paths
      → ArePathsFoundByNewSearch new s (remaining_parts ps) paths
  paths_of_new_search_with_parts ps is = record { after = after; found = parts_found ps is; searched = parts_searched ps refl is }
