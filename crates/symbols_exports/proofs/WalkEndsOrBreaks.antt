-- The walk after the last statement of the module where it began, and a walk that fails.
use Rattle.std.proofs.Common.{◌≡◌, ℕ, ◌+◌, ◌<◌, ◌≤◌, ◌^◌, Bool, true, false, inl, inr, Result, Ok, Err, IfOk, IfErr, List, []}
use Rattle.std.proofs.Common.{◌∷◌, ◌++◌, length, slice_get, Option, None, Some, refl, sym, ap, subst, ◌∙◌, arith, true≢false}
use Rattle.std.specs.Prelude.{Contains, map}
use Rattle.std.proofs.lemmas.List.Sums.{sum_by_push}
use Rattle.std.proofs.lemmas.Option.{none-some}
use Rattle.symbols_ast.specs.declared.ids.ModuleId.{ModuleId}
use Rattle.symbols_ast.specs.Graph.{GraphView}
use Rattle.symbols_table.specs.declared.info.fault.SymbolsFault.{SymbolsFault}
use Rattle.symbols_table.specs.declared.info.fault.SymbolsFault.TheVariants.{OutOfMemory}
use Rattle.symbols_root.specs.Roots.{RootView, root_with_stored_module, IsStoringFault, specifier_in, root_with_stored_modules}
use Rattle.symbols_root.specs.Specifiers.{contains_specifier}
use Rattle.symbols_root.specs.Growing.{HasGrown}
use Rattle.symbols_root.specs.laws.Growing.{has_grown_refl, has_grown_by_stored_modules}
use Rattle.symbols_exports.specs.declared.frame.Frame.{Frame}
use Rattle.symbols_exports.specs.declared.name_filter.NameFilter.{NameFilter}
use Rattle.symbols_exports.specs.declared.name_filter.NameFilter.TheVariants.{AllNames, OneName}
use Rattle.symbols_exports.specs.ExportAnswers.{IsExportsCallResult, IsExportsWalkFault}
use Rattle.symbols_exports.specs.Chains.{IsReachedByStars}
use Rattle.symbols_exports.specs.SharedNames.{NameWithExporters}
use Rattle.symbols_exports.specs.SharedNameLists.{groups_of_several_first_along_star, shared_name_view_of_resolved, AreExporterModulesStored}
use Rattle.symbols_exports.specs.inner.Collecting.{is_along_stars}
use Rattle.symbols_exports.specs.StarStatements.{star_specifiers, resolve_specifier, star_targets_of, explicit_exports_of}
use Rattle.symbols_exports.specs.CollectedNames.{ResolvedExportView}
use Rattle.symbols_exports.specs.inner.Collecting.{CollectedView}
use Rattle.symbols_exports.specs.ExportViews.{star_statement_view, export_view_of_entry}
use Rattle.symbols_exports.specs.ExportAnswers.{AreExportListsCorrectAndUnique, IsExportsCallFault}
use Rattle.symbols_exports.specs.inner.OneName.{IsExportWalkFault}
use Rattle.symbols_exports.proofs.DistinctNames.{exports_once}
use Rattle.symbols_exports.proofs.ExportLists.{exports_are_listed, exports_are_one}
use Rattle.symbols_exports.proofs.UnresolvedLists.{unresolved_are_listed, unresolved_are_one}
use Rattle.symbols_exports.proofs.FirstOfEachName.{are_exports}
use Rattle.symbols_exports.proofs.LeastChainsVisited.{visited_are_least}
use Rattle.symbols_exports.proofs.VisitedModules.{visited_modules, visited_is_among, among_is_visited, among_stored, stored_already}
use Rattle.symbols_exports.proofs.IdsInGrownRoots.{stored_one_more}
use Rattle.symbols_exports.proofs.Cursors.{Visit}
use Rattle.symbols_exports.proofs.SharedNameListsExact.{shared_are_listed, shared_are_one}
use Rattle.symbols_exports.proofs.SharedNamesOfWalk.{are_shared_names_by_rules, shared_numbered}
use Rattle.symbols_exports.proofs.StoringWalk.{IsWalking, forks_in, count_visited}
use Rattle.symbols_exports.proofs.StepStoresNothing.{is_one, target_specifier}
use Rattle.symbols_exports.proofs.WalkStates.{chain_of, cursor_of, at_entered, all_reached, all_unresolved}

visited_push : (visited : List Visit) (cursor v : List ℕ) → visited_modules (visited ++ (cursor, v) ∷ []) ≡ visited_modules visited ++ v ∷ []
visited_push [] cursor v = refl
visited_push (m ∷ visited) cursor v = ap (λ xs. m.1 ∷ xs) (visited_push visited cursor v)

module _ {name_filter : NameFilter} {old : RootView} {start : ModuleId} {root : RootView} {here : ModuleId} {next : ℕ} {stack : List Frame} {ids : List
    ModuleId} {collected : CollectedView} {lookups : ℕ} (walk : IsWalking name_filter old start root here next stack ids collected lookups) where
  pub stored_is : root ≡ root_with_stored_modules old (visited_modules walk.visited)
  stored_is = walk.stored ∙ ap (root_with_stored_modules old) (sym walk.visited_are)

  -- the walk fails at its cursor
  pub broken : (fault : SymbolsFault) (needed : Option (List ℕ)) (so_far : ℕ) → so_far ≤ count_visited (star_targets_of old.graph) walk.visited
      → ((v : List ℕ) → needed ≡ Some v → IsReachedByStars (star_targets_of old.graph) (specifier_in old start) v) → IsStoringFault root needed fault
      → IsExportsWalkFault old root start fault so_far
  broken fault needed so_far counted is_needed_module_reached refused = record {
    known = walk.known;
    reached = walk.visited;
    are_least = λ c u cu. ((visited_are_least (star_targets_of old.graph) (specifier_in old start) (cursor_of (forks_in root stack) next) walk.visited
        walk.at.occurs c u).0 cu).0;
    ordered = walk.at.occurs.ordered;
    stored = stored_is;
    lookups_counted = counted;
    needed = needed;
    is_needed_module_reached = is_needed_module_reached;
    refused = refused;
  }

  -- if an allocation failed
  pub broken_here : IsExportsWalkFault old root start OutOfMemory lookups
  broken_here = broken OutOfMemory None lookups (omega (arith, walk.counted)) (λ v some. absurd (none-some v some)) tt

-- after the last statement, if all names are collected
module _ {old : RootView} {start : ModuleId} {root : RootView} {here : ModuleId} {next : ℕ} {stack : List Frame} {ids : List
    ModuleId} {collected : CollectedView} {lookups : ℕ} (walk : IsWalking AllNames old start root here next stack ids collected lookups) where
  pub walking_end : stack ≡ [] → length (star_targets_of old.graph (specifier_in root here)) ≤ next
      → IsExportsCallResult old root start collected.names (groups_of_several_first_along_star is_along_stars collected.candidates) collected.unresolved lookups
  walking_end empty_stack ended =
      let no_frames : forks_in root stack ≡ [] = ap (forks_in root) empty_stack in
      let reached = all_reached walk.at ended no_frames in
      record {
        known = walk.known;
        are_exports_of_module = sym walk.found_views ∙ ap (map (export_view_of_entry old.graph (specifier_in old start)))
            (exports_are_one old.graph (specifier_in old start)
            walk.found (are_exports (star_targets_of old.graph) (explicit_exports_of old.graph) (specifier_in old start) walk.visited ([], []) walk.found
            (exports_once old.graph) reached (walk.found_are ([], []))));
        are_modules_of_exports_stored = walk.inside.names_in;
        are_shared_names_by_rules = ap (λ groups. map (shared_name_view_of_resolved root) (groups_of_several_first_along_star is_along_stars groups))
            walk.candidate_are
            ∙ are_shared_names_by_rules old.graph root (specifier_in old start) old.rules walk.visited reached walk.candidate walk.candidate_viewed;
        are_exporter_modules_stored = subst (λ groups. AreExporterModulesStored root (groups_of_several_first_along_star is_along_stars groups))
            (sym walk.candidate_are)
            (shared_numbered root walk.candidate walk.candidate_in);
        are_unresolved_stars = sym walk.missed_viewed
            ∙ ap (map (star_statement_view old.graph)) (unresolved_are_one old.graph (specifier_in old start) walk.unresolved
            (all_unresolved walk.at ended no_frames walk.unresolved walk.missed_are));
        are_referrers_of_stars_stored = walk.inside.unresolved_in;
        reached = walk.visited;
        are_reached = reached;
        stored = stored_is walk;
        lookups_counted = omega (arith, rw no_frames at walk.counted, ended);
      }

module _ {name_filter : NameFilter} {old : RootView} {start : ModuleId} {root : RootView} (frame : Frame) {stack : List Frame} {ids : List ModuleId}
    {collected : CollectedView} {lookups : ℕ} (walk : IsWalking name_filter old start root frame.referrer frame.position stack ids collected lookups)
    (specifier_is : slice_get (star_specifiers old.graph (specifier_in root frame.referrer)) frame.position
    ≡ Some frame.specifier_text.now) (few_here : length (star_targets_of old.graph (specifier_in root frame.referrer)) < 2 ^ 63) where
  one_more : lookups + 1 ≤ count_visited (star_targets_of old.graph) walk.visited
  one_more = omega (arith, walk.counted, is_one walk frame.specifier_text.now specifier_is)

  pub not_visited : (v : List ℕ) → contains_specifier (visited_modules walk.visited) v ≡ false → (c : List ℕ) → Contains walk.visited (c, v) → ⊥
  not_visited v is c cv = true≢false (sym (visited_is_among walk.visited c v cv) ∙ is)

  next_is_reached : (v : List ℕ) → resolve_specifier old.graph (specifier_in root frame.referrer) frame.specifier_text.now ≡ Some v
      → IsReachedByStars (star_targets_of old.graph) (specifier_in old start) v
  next_is_reached v ends_at = by (contains_specifier (visited_modules walk.visited) v) refl
    where
      by : (b : Bool) → contains_specifier (visited_modules walk.visited) v ≡ b → IsReachedByStars (star_targets_of old.graph) (specifier_in old start) v
      by true is = let visited = among_is_visited walk.visited v is in (visited.0, walk.at.occurs.are_chains visited.0 v visited.1)
      by false is =
          let at = at_entered walk.at v (target_specifier walk frame.specifier_text.now specifier_is ∙ ends_at) (not_visited v is) in (
            chain_of (forks_in root stack ++ record { referrer = specifier_in root frame.referrer; position = frame.position } ∷ []),
            at.occurs.are_chains
                (chain_of (forks_in root stack ++ record { referrer = specifier_in root frame.referrer; position = frame.position } ∷ [])) v at.here_visited,
          )

  pub stored_with : (v cursor : List ℕ) → root_with_stored_module root (Some v)
      ≡ root_with_stored_modules old (visited_modules (walk.visited ++ (cursor, v) ∷ []))
  stored_with v cursor = ap (λ (r : RootView). root_with_stored_module r (Some v)) (stored_is walk)
      ∙ (sym (stored_one_more old (visited_modules walk.visited) v) ∙ ap (root_with_stored_modules old) (sym (visited_push walk.visited cursor v)))

  -- if the module that the statement resolves to is refused
  pub broken_refused : (fault : SymbolsFault) → IsStoringFault root (resolve_specifier old.graph (specifier_in root frame.referrer) frame.specifier_text.now)
      fault
      → IsExportsWalkFault old root start fault (lookups + 1)
  broken_refused fault refused = broken walk fault (resolve_specifier old.graph (specifier_in root frame.referrer) frame.specifier_text.now) (lookups + 1)
      one_more next_is_reached refused

  -- if the statement is unresolved, and an allocation failed then
  pub broken_unresolved : IsExportsWalkFault old root start OutOfMemory (lookups + 1)
  broken_unresolved = broken walk OutOfMemory None (lookups + 1) one_more (λ v some. absurd (none-some v some)) tt

  -- if the module was stored, and an allocation failed then
  pub broken_stored : (v : List ℕ) → resolve_specifier old.graph (specifier_in root frame.referrer) frame.specifier_text.now ≡ Some v
      → IsExportsWalkFault old (root_with_stored_module root (Some v)) start OutOfMemory (lookups + 1)
  broken_stored v ends_at = by (contains_specifier (visited_modules walk.visited) v) refl
    where
      by : (b : Bool) → contains_specifier (visited_modules walk.visited) v ≡ b
          → IsExportsWalkFault old (root_with_stored_module root (Some v)) start OutOfMemory (lookups + 1)
      by true is = subst (λ r. IsExportsWalkFault old r start OutOfMemory (lookups + 1))
          (sym (stored_already root v (among_stored root ids v walk.inside.ids_in (subst (λ xs. contains_specifier xs v ≡ true) walk.visited_are is))))
          broken_unresolved
      by false is =
          let at = at_entered walk.at v (target_specifier walk frame.specifier_text.now specifier_is ∙ ends_at) (not_visited v is) in
          let cursor : List ℕ = cursor_of (forks_in root stack) frame.position in
          record {
            known = walk.known;
            reached = walk.visited ++ (cursor, v) ∷ [];
            are_least =
                λ c u cu. ((visited_are_least (star_targets_of old.graph) (specifier_in old start) (cursor_of (forks_in root stack
                ++ record { referrer = specifier_in root frame.referrer; position = frame.position } ∷ []) 0) (walk.visited ++ (cursor, v) ∷ []) at.occurs c
                u).0 cu).0;
            ordered = at.occurs.ordered;
            stored = stored_with v cursor;
            lookups_counted = omega (arith, one_more, sum_by_push (λ (m : Visit). length (star_targets_of old.graph m.1)) walk.visited (cursor, v));
            needed = None;
            is_needed_module_reached = λ w some. absurd (none-some w some);
            refused = tt;
          }

-- an allocation failed after the end of the walk: all reachable modules are stored, and each of their statements was looked up
pub answer_broken : {old new : RootView} {start : ModuleId} {names : List ResolvedExportView} {shared : List (NameWithExporters ResolvedExportView)}
    {unresolved : List (ModuleId
    × List ℕ)} {lookups : ℕ} → IsExportsCallResult old new start names shared unresolved lookups → IsExportsWalkFault old new start OutOfMemory lookups
answer_broken is = record {
  known = is.known;
  reached = is.reached;
  are_least = λ chain end has. (is.are_reached.all chain end).0 has;
  ordered = is.are_reached.ordered;
  stored = is.stored;
  lookups_counted = omega (arith, is.lookups_counted);
  needed = None;
  is_needed_module_reached = λ specifier some. absurd (none-some specifier some);
  refused = tt;
}

-- the lists are those of the definitions
pub are_listed : (graph : GraphView) (start : List ℕ) → AreExportListsCorrectAndUnique graph start
are_listed graph start = record {
  are_exports = exports_are_listed graph start;
  exports_are_unique = exports_are_one graph start;
  are_unresolved = unresolved_are_listed graph start;
  unresolved_are_unique = unresolved_are_one graph start;
  are_shared = shared_are_listed graph start;
  shared_are_unique = shared_are_one graph start;
}

-- the root grows by what the walk stores
pub grown_by : (old : RootView) (specifiers : List (List ℕ)) (new : RootView) → new ≡ root_with_stored_modules old specifiers → HasGrown old new
grown_by old specifiers new stored = subst (HasGrown old) (sym stored) (has_grown_by_stored_modules old specifiers)

pub grown_fault : (name_filter : NameFilter) (old new : RootView) (start : ModuleId) (fault : SymbolsFault) (lookups : ℕ)
    → IsExportWalkFault name_filter old new start fault lookups → HasGrown old new
grown_fault AllNames old new start fault lookups (inl unknown) = subst (HasGrown old) (sym unknown.unchanged) (has_grown_refl old)
grown_fault AllNames old new start fault lookups (inr broken) = grown_by old (visited_modules broken.reached) new broken.stored
grown_fault (OneName name) old new start fault lookups (inl unknown) = subst (HasGrown old) (sym unknown.unchanged) (has_grown_refl old)
grown_fault (OneName name) old new start fault lookups (inr broken) = grown_by old (visited_modules broken.reached) new broken.stored

pub all_grown : {A : Type 0} (r : Result A SymbolsFault) (old new : RootView) (start : ModuleId) (before now : ℕ) (names : A → List ResolvedExportView)
    (shared : A
    → List (NameWithExporters ResolvedExportView)) (unresolved : A → List (ModuleId × List ℕ)) → IfOk r (λ answer. (lookups : ℕ) × (now ≡ before + lookups)
    × IsExportsCallResult old new start (names answer) (shared answer) (unresolved answer) lookups)
    → IfErr r (λ fault. (lookups : ℕ) × (now ≡ before + lookups) × IsExportsCallFault old new start fault lookups) → HasGrown old new
all_grown (Ok answer) old new start before now names shared unresolved is none = grown_by old (visited_modules is.2.reached) new is.2.stored
all_grown (Err fault) old new start before now names shared unresolved none is = grown_fault AllNames old new start fault is.0 is.2
