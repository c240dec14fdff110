-- The walk of `exports` over a root that stores what it reaches.
use Rattle.std.proofs.Common.{◌≡◌, ℕ, zero, suc, true, false, Bool, ◌+◌, ◌-◌, ◌<◌, ◌≤◌, ◌^◌, ◌⊎◌, inl, inr, List, [], ◌∷◌, ◌++◌, length, map, get_or}
use Rattle.std.proofs.Common.{slice_get, Option, None, Some, Result, Ok, Err, IfSome, IfOk, OnOk, option_and_then, refl, sym, ap, subst, ◌∙◌, arith, sum_by}
use Rattle.std.specs.Prelude.{Contains}
use Rattle.std.specs.Option.{option_map}
use Rattle.std.proofs.lemmas.List.{length-map}
use Rattle.std.proofs.lemmas.Option.{get_or_from_slice_get, slice_get-map, same_Some}
use Rattle.symbols_ast.specs.declared.ids.ModuleId.{ModuleId}
use Rattle.symbols_ast.specs.Graph.{GraphView, ModuleView, resolved_dependency}
use Rattle.symbols_root.specs.Specifiers.{module_with_specifier}
use Rattle.symbols_root.specs.Roots.{RootView, root_with_stored_module, specifier_in, root_with_stored_modules}
use Rattle.symbols_root.specs.TypesChains.{get_prefer_types, resolved_module_specifier}
use Rattle.symbols_exports.specs.declared.frame.Frame.{Frame}
use Rattle.symbols_exports.specs.declared.name_filter.NameFilter.{NameFilter}
use Rattle.symbols_exports.specs.Chains.{StarTargets, star_target_at, IsChainBefore}
use Rattle.symbols_exports.specs.Exports.{ExportEntry, StarPosition}
use Rattle.symbols_exports.specs.StarStatements.{star_specifiers, resolve_specifier, star_targets_of, explicit_exports_of}
use Rattle.symbols_exports.specs.CollectedNames.{ResolvedExportView}
use Rattle.symbols_exports.specs.inner.Collecting.{CollectedView, nothing_collected, frame_view, names_with_exports, groups_with_exporters}
use Rattle.symbols_exports.specs.ExportViews.{star_statement_view, chain_statements, export_view_of_entry, star_statement_by_specifier, export_by_specifier}
use Rattle.symbols_exports.specs.ExportViews.{AreReferrersOfStarsStored, AreModulesOfExportsStored}
use Rattle.symbols_exports.specs.inner.NameFilter.{accepted_exports_of, is_name_search_done, is_filter_for_default, collects_shared}
use Rattle.symbols_exports.proofs.Cursors.{Visit, start_alone}
use Rattle.symbols_exports.proofs.FirstOfEachName.{AreFound, nothing_found, module_done, found_here}
use Rattle.symbols_exports.proofs.UnresolvedSoFar.{IsThere, IsUnresolvedAt, AreSelected, retained_none}
use Rattle.symbols_exports.proofs.CandidatesOfWalk.{candidates_visited, candidates_more, candidates_numbered, candidates_for, graph_with_put_module}
use Rattle.symbols_exports.proofs.CollectedInOrder.{all_collected}
use Rattle.symbols_exports.proofs.ExportViewLemmas.{none_numbered, no_names_numbered, collected_numbered}
use Rattle.symbols_exports.proofs.WalkStates.{Fork, chain_of, cursor_of, IsAt, at_first}

abbrev pub fork_in : RootView → Frame → Fork
fork_in root frame = record { referrer = specifier_in root frame.referrer; position = frame.position }

abbrev pub forks_in : RootView → List Frame → List Fork
forks_in root stack = map (fork_in root) stack

-- the walk's numbers are those of stored modules
pub record AreStored (root : RootView) (here : ModuleId) (stack : List Frame) (ids : List ModuleId) (collected : CollectedView) : Type 0 where
  pub here_in : here.0 < length root.stored
  pub stack_in : AreReferrersOfStarsStored root (map frame_view stack)
  pub ids_in : (i : ℕ) (d : ModuleId) → i < length ids → (get_or ids i d).0 < length root.stored
  pub names_in : AreModulesOfExportsStored root collected.names
  pub unresolved_in : AreReferrersOfStarsStored root collected.unresolved

-- the number of statements after that of a fork in its module
abbrev pub left_at : StarTargets → Fork → ℕ
left_at statements fork = length (statements fork.referrer) - (fork.position + 1)

abbrev pub left : StarTargets → List ℕ → ℕ → List Fork → ℕ
left statements here next stack = sum_by (left_at statements) stack + (length (statements here) - next)

abbrev pub count_visited : StarTargets → List Visit → ℕ
count_visited statements visited = sum_by (λ (m : Visit). length (statements m.1)) visited

-- the walk can stop: it is at the first statement of a module, and all entries were found in this module; it is the first module for
-- `default`
pub record HasEnded (name_filter : NameFilter) (next : ℕ) (forks : List Fork) (found : List ExportEntry) : Type 0 where
  pub first_statement : next ≡ 0
  pub found_here : (entry : ExportEntry) → Contains found entry → entry.chain ≡ chain_of forks
  pub at_start : is_filter_for_default name_filter ≡ true → forks ≡ []

-- the state of a walk: what it has visited, found, left unresolved and collected as candidates, by the numbers of the root
pub record IsWalking (name_filter : NameFilter) (old : RootView) (start : ModuleId) (root : RootView) (here : ModuleId) (next : ℕ) (stack : List
    Frame) (ids : List ModuleId) (collected : CollectedView) (lookups : ℕ) : Type 0 where
  pub known : start.0 < length old.stored
  pub stored : root ≡ root_with_stored_modules old (map (specifier_in root) ids)
  pub inside : AreStored root here stack ids collected
  pub visited : List Visit
  pub visited_are : map (λ (m : Visit). m.1) visited ≡ map (specifier_in root) ids
  pub at : IsAt (star_targets_of old.graph) (specifier_in old start) (specifier_in root here) next (forks_in root stack) visited
  pub re_exports : chain_statements old.graph (specifier_in old start) (chain_of (forks_in root stack)) ≡ map (star_statement_by_specifier root)
      (map frame_view stack)
  pub found : List ExportEntry
  pub found_are : (now : Visit) → AreFound (accepted_exports_of name_filter old.graph) visited now 0 found
  pub found_views : map (export_view_of_entry old.graph (specifier_in old start)) found ≡ map (export_by_specifier root) collected.names
  pub unresolved : List StarPosition
  pub missed_are : AreSelected (IsUnresolvedAt (star_targets_of old.graph)) (cursor_of (forks_in root stack) next) visited unresolved
  pub missed_viewed : map (star_statement_view old.graph) unresolved ≡ map (star_statement_by_specifier root) collected.unresolved
  pub candidate : List ResolvedExportView
  pub candidate_are : collected.candidates ≡ groups_with_exporters [] candidate
  pub candidate_in : AreModulesOfExportsStored root candidate
  pub candidate_viewed : map (export_view_of_entry old.graph (specifier_in old start)) (candidates_visited (collects_shared name_filter old.rules)
      (explicit_exports_of old.graph) visited) ≡ map (export_by_specifier root) candidate
  pub following : List StarPosition
  pub after_are : AreSelected (IsThere (star_targets_of old.graph)) (cursor_of (forks_in root stack) next) visited following
  pub after_counted : lookups ≡ length following
  pub ends_here : is_name_search_done name_filter collected.names ≡ true → HasEnded name_filter next (forks_in root stack) found
  pub next_in : next ≤ length (star_targets_of old.graph (specifier_in root here))
  pub few : (c u : List ℕ) → Contains visited (c, u) → (u ≡ specifier_in root here) ⊎ (length (star_targets_of old.graph u) < 2 ^ 63)
  pub counted : lookups + left (star_targets_of old.graph) (specifier_in root here) next (forks_in root stack) ≡ count_visited (star_targets_of old.graph)
      visited

-- each visited module has fewer statements than the bound, if the module here has
pub all_few : {name_filter : NameFilter} {old : RootView} {start : ModuleId} {root : RootView} {here : ModuleId} {next : ℕ} {stack : List Frame} {ids : List
    ModuleId} {collected : CollectedView} {lookups : ℕ} (walk : IsWalking name_filter old start root here next stack ids collected lookups)
    → length (star_targets_of old.graph (specifier_in root here)) < 2 ^ 63 → (c u : List ℕ) → Contains walk.visited (c, u)
    → length (star_targets_of old.graph u) < 2 ^ 63
all_few {name_filter} {old} {start} {root} {here} walk few_here c u cu = elim (walk.few c u cu) [
  | inl is_here ↦ subst (λ w. length (star_targets_of old.graph w) < 2 ^ 63) (sym is_here) few_here
  | inr few ↦ few
]

-- ---- the module that a statement resolves to

pub statements_counted : (graph : GraphView) (specifier : List ℕ) → length (star_targets_of graph specifier) ≡ length (star_specifiers graph specifier)
statements_counted graph specifier = length-map (star_specifiers graph specifier) (resolve_specifier graph specifier)

pub target_is : (graph : GraphView) (specifier specifier_text : List ℕ) (k : ℕ) → slice_get (star_specifiers graph specifier) k ≡ Some specifier_text
    → star_target_at (star_targets_of graph) specifier k ≡ resolve_specifier graph specifier specifier_text
target_is graph specifier specifier_text k at = get_or_from_slice_get (star_targets_of graph specifier) k (resolve_specifier graph specifier specifier_text)
    None
    (slice_get-map (resolve_specifier graph specifier) (star_specifiers graph specifier) k ∙ ap (option_map (resolve_specifier graph specifier)) at)

pub viewed_at : (graph : GraphView) (specifier specifier_text : List ℕ) (k : ℕ) → slice_get (star_specifiers graph specifier) k ≡ Some specifier_text
    → ◌≡◌ {A = List ℕ × List ℕ} (star_statement_view graph (specifier, k)) (specifier, specifier_text)
viewed_at graph specifier specifier_text k at = λ i. (specifier, get_or_from_slice_get (star_specifiers graph specifier) k specifier_text [] at i)

-- a module that a specifier resolves to is one of the graph
occurs_there : (graph : GraphView) (specifier v : List ℕ) → IfSome (get_prefer_types graph specifier) (λ m. module_with_specifier graph m.specifier ≡ Some m)
    → resolved_module_specifier graph specifier ≡ Some v → (m : ModuleView) × (module_with_specifier graph v ≡ Some m)
occurs_there graph specifier v under occurs = by (get_prefer_types graph specifier) under occurs
  where
    by : (found : Option ModuleView) → IfSome found (λ m. module_with_specifier graph m.specifier ≡ Some m)
        → option_map (λ (m : ModuleView). m.specifier) found ≡ Some v
        → (m : ModuleView) × (module_with_specifier graph v ≡ Some m)
    by None holds same = absurd cc
    by (Some m) holds same = (m, subst (λ q. module_with_specifier graph q ≡ Some m) (same_Some m.specifier v same) holds)

pub target_there : {A B : Type 0} (graph : GraphView) (referrer specifier_text specifier : List ℕ) → resolved_dependency graph referrer specifier_text
    ≡ Some specifier → (answer : Result A B)
    → IfOk answer (λ _. IfSome (get_prefer_types graph specifier) (λ m. module_with_specifier graph m.specifier ≡ Some m))
    → OnOk answer ((v : List ℕ) → resolve_specifier graph referrer specifier_text ≡ Some v → (m : ModuleView) × (module_with_specifier graph v ≡ Some m))
target_there graph referrer specifier_text specifier resolved (Ok x) under =
    λ v ends_at. occurs_there graph specifier v under (sym (ap (option_and_then (resolved_module_specifier graph)) resolved) ∙ ends_at)
target_there graph referrer specifier_text specifier resolved (Err e) under = tt

-- ---- the start

-- the names of the module visited at present, after those of the modules before it
pub names_collected : (name_filter : NameFilter) (old : RootView) (root : RootView) (start : List ℕ) (visited : List Visit) (now : Visit) (stack : List Frame)
    (here : ModuleId) (names : List ResolvedExportView) (found : List ExportEntry) → ((c u : List ℕ) → Contains visited (c, u) → IsChainBefore c now.0)
    → chain_statements old.graph start now.0 ≡ map (star_statement_by_specifier root) (map frame_view stack) → now.1 ≡ specifier_in root here
    → AreFound (accepted_exports_of name_filter old.graph) visited now 0 found
    → map (export_view_of_entry old.graph start) found ≡ map (export_by_specifier root) names
    → (more : List ExportEntry) × ((next : Visit) → AreFound (accepted_exports_of name_filter old.graph) (visited ++ now ∷ []) next 0 more)
    × (map (export_view_of_entry old.graph start) more ≡ map (export_by_specifier root) (names_with_exports (map frame_view stack) here
    (accepted_exports_of name_filter old.graph now.1) names)) × (found ≡ [] → (entry : ExportEntry) → Contains more entry → entry.chain ≡ now.0)
names_collected name_filter old root start visited now stack here names found following re_exports at_here are viewed =
    let exported = accepted_exports_of name_filter old.graph now.1 in
    let collected = all_collected old.graph root start (accepted_exports_of name_filter old.graph) visited now following (map frame_view stack) here re_exports
    at_here exported 0 names (λ j x at. let same : j ≡ 0 + j = omega arith in subst (λ n. slice_get exported n ≡ Some x) same at) (found, are, viewed) in (
      collected.0,
      λ next. module_done (accepted_exports_of name_filter old.graph) visited now next (0 + length exported) collected.0 (omega arith) collected.1,
      collected.2,
      λ none. found_here (accepted_exports_of name_filter old.graph) visited now (0 + length exported) collected.0
          (subst (AreFound (accepted_exports_of name_filter old.graph) visited now 0) none are) collected.1,
    )

-- before the first module
pub walking_first : (name_filter : NameFilter) (old : RootView) (start : ModuleId) → start.0 < length old.stored
    → root_with_stored_module old (Some (specifier_in old start)) ≡ old
    → IsWalking name_filter old start old start 0 [] (start ∷ []) (graph_with_put_module name_filter old [] start nothing_collected) 0
walking_first name_filter old start known is_stored =
    let s0 = specifier_in old start in
    let first = names_collected name_filter old old s0 [] ([], s0) [] start [] [] (λ c u cu. absurd (omega (arith, cu.1))) refl refl
    (nothing_found (accepted_exports_of name_filter old.graph) ([], s0)) refl in
    record {
      known = known;
      stored = sym is_stored;
      inside = record {
        here_in = known;
        stack_in = none_numbered old;
        ids_in = λ i d within. start_in i d within;
        names_in = collected_numbered old [] start (none_numbered old) known (accepted_exports_of name_filter old.graph s0) [] (no_names_numbered old);
        unresolved_in = none_numbered old;
      };
      visited = ([], s0) ∷ [];
      visited_are = refl;
      at = at_first (star_targets_of old.graph) s0;
      re_exports = refl;
      found = first.0;
      found_are = first.1;
      found_views = first.2;
      unresolved = [];
      missed_are = retained_none (IsUnresolvedAt (star_targets_of old.graph)) s0;
      missed_viewed = refl;
      candidate = candidates_for name_filter old [] start;
      candidate_are = refl;
      candidate_in = candidates_numbered old (collects_shared name_filter old.rules) [] start (explicit_exports_of old.graph s0) (none_numbered old) known;
      candidate_viewed = candidates_more old.graph old s0 ([], s0) [] start refl refl (collects_shared name_filter old.rules) (explicit_exports_of old.graph) []
          [] (none_candidate (collects_shared name_filter old.rules));
      following = [];
      after_are = retained_none (IsThere (star_targets_of old.graph)) s0;
      after_counted = refl;
      ends_here = λ done. record { first_statement = refl; found_here = first.3 refl; at_start = λ default. refl };
      next_in = omega arith;
      few = λ c u cu. inl (sym (start_alone s0 c u cu).1);
      counted = omega arith;
    }
  where
    start_in : (i : ℕ) (d : ModuleId) → i < 1 → (get_or (start ∷ []) i d).0 < length old.stored
    start_in zero d within = known
    start_in (suc i) d within = absurd (omega (arith, within))

    none_candidate : (keeps : Bool) → map (export_view_of_entry old.graph (specifier_in old start))
        (candidates_visited keeps (explicit_exports_of old.graph) [])
        ≡ map (export_by_specifier old) []
    none_candidate true = refl
    none_candidate false = refl
