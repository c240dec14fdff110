-- The step of the walk to a module that wasn't visited, which is stored then.
use Rattle.std.proofs.Common.{◌≡◌, ℕ, suc, ◌+◌, ◌<◌, ◌^◌, ◌⊎◌, inl, inr, List, [], ◌∷◌, ◌++◌, length, map, get_or}
use Rattle.std.proofs.Common.{slice_get, Option, Some, refl, sym, ap, ◌∙◌, arith, Bool, false, true, true≢false}
use Rattle.std.specs.Prelude.{Contains}
use Rattle.std.proofs.lemmas.List.{map-append, length_push, get_or_append_left, get_or_push}
use Rattle.std.proofs.lemmas.List.Elements.{Contains-push_cases}
use Rattle.std.proofs.lemmas.List.Sums.{sum_by_push}
use Rattle.std.proofs.lemmas.Option.{none-some, slice_get_within, get_or_from_slice_get}
use Rattle.symbols_ast.specs.declared.ids.ModuleId.{ModuleId}
use Rattle.symbols_ast.specs.Graph.{GraphView}
use Rattle.symbols_root.specs.declared.rules.Rules.{Rules}
use Rattle.symbols_root.specs.Roots.{RootView, root_with_stored_module, maybe_specifier, specifier_in, root_with_stored_modules}
use Rattle.symbols_exports.specs.declared.frame.Frame.{Frame}
use Rattle.symbols_exports.specs.declared.name_filter.NameFilter.{NameFilter}
use Rattle.symbols_exports.specs.Chains.{star_target_at}
use Rattle.symbols_exports.specs.Exports.{ExportEntry}
use Rattle.symbols_exports.specs.StarStatements.{star_specifiers, resolve_specifier, star_targets_of, explicit_exports_of}
use Rattle.symbols_exports.specs.CollectedNames.{ResolvedExportView}
use Rattle.symbols_exports.specs.inner.Collecting.{CollectedView, frame_view, names_with_exports, groups_with_exporters}
use Rattle.symbols_exports.specs.ExportViews.{star_statement_view, chain_statements, export_view_of_entry, star_statement_by_specifier, export_by_specifier}
use Rattle.symbols_exports.specs.ExportViews.{AreReferrersOfStarsStored, AreModulesOfExportsStored}
use Rattle.symbols_exports.specs.inner.NameFilter.{accepted_exports_of, is_name_search_done, collects_shared}
use Rattle.symbols_exports.proofs.FirstOfEachName.{AreFound}
use Rattle.symbols_exports.proofs.VisitedModules.{visited_modules}
use Rattle.symbols_exports.proofs.UnresolvedSoFar.{IsThere, IsUnresolvedAt, AreSelected, retained_next, retained_added, retained_entered}
use Rattle.symbols_exports.proofs.IdsInGrownRoots.{number_retained, still_within, same_under, stored_one_more}
use Rattle.symbols_exports.proofs.CandidatesOfWalk.{candidates_visited, candidates_now, candidates_more, exporters_after, names_both, candidates_numbered}
use Rattle.symbols_exports.proofs.Cursors.{Visit}
use Rattle.symbols_exports.proofs.ExportViewLemmas.{viewed_push, numbered_push, statements_retained, names_retained}
use Rattle.symbols_exports.proofs.ExportViewLemmas.{numbered_still, names_still, collected_numbered}
use Rattle.symbols_exports.proofs.NameFilterLemmas.{newly_done, nothing_viewed}
use Rattle.symbols_exports.proofs.StoringWalk.{IsWalking, HasEnded, all_few, names_collected, fork_in, forks_in, left, left_at, count_visited, viewed_at}
use Rattle.symbols_exports.proofs.StepStoresNothing.{is_one, target_specifier}
use Rattle.symbols_exports.proofs.WalkStates.{Fork, chain_of, cursor_of, IsAt, at_entered}
use Rattle.symbols_exports.proofs.SortedLists.{short_or_last}

-- the frames are those of the same modules in a root that stores more
forks_retained : (root : RootView) (needed : Option (List ℕ)) (stack : List Frame) → AreReferrersOfStarsStored root (map frame_view stack)
    → forks_in (root_with_stored_module root needed) stack ≡ forks_in root stack
forks_retained root needed [] are = refl
forks_retained root needed (frame ∷ stack) are =
    let first = number_retained root needed frame.referrer (are 0 (frame_view frame) (omega arith)) in
    let rest = forks_retained root needed stack (λ i d within. are (suc i) d (omega (arith, within))) in
    λ i. record { referrer = first i; position = frame.position } ∷ rest i

-- what is collected from a module of a graph
abbrev pub module_collected : NameFilter → Rules → GraphView → List ℕ → List (ModuleId × List ℕ) → ModuleId → CollectedView → CollectedView
module_collected name_filter rules graph specifier re_exports exporter collected = record {
  names = names_with_exports re_exports exporter (accepted_exports_of name_filter graph specifier) collected.names;
  candidates = groups_with_exporters collected.candidates
      (candidates_now (collects_shared name_filter rules) re_exports exporter (explicit_exports_of graph specifier));
  unresolved = collected.unresolved;
}

module _ {name_filter : NameFilter} {old : RootView} {start : ModuleId} {root : RootView} (frame : Frame) {stack : List Frame} {ids : List ModuleId}
    {collected : CollectedView} {lookups : ℕ} (walk : IsWalking name_filter old start root frame.referrer frame.position stack ids collected lookups)
    (specifier_is : slice_get (star_specifiers old.graph (specifier_in root frame.referrer)) frame.position ≡ Some frame.specifier_text.now)
    (few_here : length (star_targets_of old.graph (specifier_in root frame.referrer)) < 2 ^ 63) (v : List ℕ)
    (ends_at : resolve_specifier old.graph (specifier_in
    root frame.referrer) frame.specifier_text.now ≡ Some v) (fresh : (c : List ℕ) → Contains walk.visited (c, v)
    → ⊥) (entered : ModuleId) (entered_is : maybe_specifier (root_with_stored_module root (Some v)) entered ≡ Some v) where
  abbrev pub more : RootView
  more = root_with_stored_module root (Some v)

  -- the cursor of the statement, with the frames before it
  abbrev pub here_cursor : List ℕ
  here_cursor = cursor_of (forks_in root stack) frame.position

  abbrev pub visited_too : List Visit
  visited_too = walk.visited ++ (here_cursor, v) ∷ []

  pub ends_there : star_target_at (star_targets_of old.graph) (specifier_in root frame.referrer) frame.position ≡ Some v
  ends_there = target_specifier walk frame.specifier_text.now specifier_is ∙ ends_at

  pub at_module : IsAt (star_targets_of old.graph) (specifier_in old start) v 0 (forks_in root stack ++ fork_in root frame ∷ []) visited_too
  at_module = at_entered walk.at v ends_there fresh

  pub number_is : specifier_in more entered ≡ v
  number_is = get_or_from_slice_get more.stored entered.0 v [] entered_is

  pub entered_in : entered.0 < length more.stored
  entered_in = slice_get_within more.stored entered.0 v entered_is

  pub forks_are : forks_in more (stack ++ frame ∷ []) ≡ forks_in root stack ++ fork_in root frame ∷ []
  forks_are =
      let last : fork_in more frame ≡ fork_in root frame =
      (λ i. record { referrer = number_retained root (Some v) frame.referrer walk.inside.here_in i; position = frame.position }) in
      map-append (fork_in more) stack (frame ∷ []) ∙ (λ i. forks_retained root (Some v) stack walk.inside.stack_in i ++ last i ∷ [])

  pub chain_is : chain_of (forks_in root stack ++ fork_in root frame ∷ []) ≡ here_cursor
  chain_is = map-append (λ (fork : Fork). fork.position) (forks_in root stack) (fork_in root frame ∷ [])

  numbered_too : AreReferrersOfStarsStored more (map frame_view (stack ++ frame ∷ []))
  numbered_too = rw (map-append frame_view stack (frame ∷ [])) (numbered_push more (map frame_view stack) (frame_view frame)
      (numbered_still root (Some v) (map frame_view stack) walk.inside.stack_in) (still_within root (Some v) frame.referrer.0 walk.inside.here_in))

  trace_too : chain_statements old.graph (specifier_in old start) here_cursor ≡ map (star_statement_by_specifier more) (map frame_view (stack ++ frame ∷ []))
  trace_too =
      let pushed = viewed_push old.graph (specifier_in old start) (specifier_in root frame.referrer) (chain_of (forks_in root stack)) frame.position
      (walk.at.occurs.are_chains (chain_of (forks_in root stack)) (specifier_in root frame.referrer) walk.at.here_visited).ends_at in
      let last : star_statement_view old.graph (specifier_in root frame.referrer, frame.position) ≡ star_statement_by_specifier more (frame_view frame) =
      viewed_at old.graph (specifier_in root frame.referrer) frame.specifier_text.now frame.position specifier_is
      ∙ (λ i. (sym (number_retained root (Some v) frame.referrer walk.inside.here_in) i, frame.specifier_text.now)) in
      let before : chain_statements old.graph (specifier_in old start) (chain_of (forks_in root stack)) ≡ map (star_statement_by_specifier more)
      (map frame_view stack) =
      walk.re_exports ∙ sym (statements_retained root (Some v) (map frame_view stack) walk.inside.stack_in) in
      pushed ∙ ((λ i. before i ++ last i ∷ []) ∙ (sym (map-append (star_statement_by_specifier more) (map frame_view stack) (frame_view frame ∷ []))
      ∙ ap (map (star_statement_by_specifier more)) (sym (map-append frame_view stack (frame ∷ [])))))

  pub ids_are : map (specifier_in more) (ids ++ entered ∷ []) ≡ map (specifier_in root) ids ++ v ∷ []
  ids_are =
      let before : map (specifier_in more) ids ≡ map (specifier_in root) ids = same_under (specifier_in more) (specifier_in root) (λ (id : ModuleId). id.0
      < length root.stored) (λ id within. number_retained root (Some v) id within) ids walk.inside.ids_in in
      map-append (specifier_in more) ids (entered ∷ []) ∙ (λ i. before i ++ number_is i ∷ [])

  stored_too : more ≡ root_with_stored_modules old (map (specifier_in more) (ids ++ entered ∷ []))
  stored_too = ap (λ (r : RootView). root_with_stored_module r (Some v)) walk.stored
      ∙ (sym (stored_one_more old (map (specifier_in root) ids) v) ∙ ap (root_with_stored_modules old) (sym ids_are))

  ids_in_too : (i : ℕ) (d : ModuleId) → i < length (ids ++ entered ∷ []) → (get_or (ids ++ entered ∷ []) i d).0 < length more.stored
  ids_in_too i d within = elim (short_or_last ids entered i within) [
    | inl short ↦ rw (get_or_append_left ids (entered ∷ []) d i short) (still_within root (Some v) (get_or ids i d).0 (walk.inside.ids_in i d short))
    | inr last ↦ rw (get_or_push ids entered d i last) entered_in
  ]

  visited_are_too : visited_modules visited_too ≡ map (specifier_in more) (ids ++ entered ∷ [])
  visited_are_too = map-append (λ (m : Visit). m.1) walk.visited ((here_cursor, v) ∷ []) ∙ (ap (λ xs. xs ++ v ∷ []) walk.visited_are ∙ sym ids_are)

  names_too : (more_found : List ExportEntry) × ((next : Visit) → AreFound (accepted_exports_of name_filter old.graph) visited_too next 0 more_found)
      × (map (export_view_of_entry old.graph (specifier_in old start)) more_found ≡ map (export_by_specifier more)
      (names_with_exports (map frame_view (stack ++ frame ∷ [])) entered
      (accepted_exports_of name_filter old.graph v) collected.names))
      × (walk.found ≡ [] → (entry : ExportEntry) → Contains more_found entry → entry.chain ≡ here_cursor)
  names_too = names_collected name_filter old more (specifier_in old start) walk.visited (here_cursor, v) (stack ++ frame ∷ []) entered collected.names
      walk.found walk.at.occurs.before trace_too (sym number_is) (walk.found_are (here_cursor, v)) (walk.found_views
      ∙ sym (names_retained root (Some v) collected.names walk.inside.names_in))

  counted_too : (lookups + 1) + left (star_targets_of old.graph) v 0 (forks_in root stack ++ fork_in root frame ∷ [])
      ≡ count_visited (star_targets_of old.graph) visited_too
  counted_too = omega (
    arith,
    walk.counted,
    is_one walk frame.specifier_text.now specifier_is,
    sum_by_push (left_at (star_targets_of old.graph))
        (forks_in root stack) (fork_in root frame),
    sum_by_push (λ (m : Visit). length (star_targets_of old.graph m.1)) walk.visited (here_cursor, v),
  )

  few_too : (c u : List ℕ) → Contains visited_too (c, u) → (u ≡ specifier_in more entered) ⊎ (length (star_targets_of old.graph u) < 2 ^ 63)
  few_too c u cu = elim (Contains-push_cases walk.visited (here_cursor, v) (c, u) cu) [
    | inl was ↦ inr (all_few walk few_here c u was)
    | inr is ↦ inl (sym (ap (λ (m : Visit). m.1) is) ∙ sym number_is)
  ]

  missed_next : AreSelected (IsUnresolvedAt (star_targets_of old.graph)) (cursor_of (forks_in root stack) (frame.position + 1)) walk.visited walk.unresolved
  missed_next = retained_next (IsUnresolvedAt (star_targets_of old.graph)) (star_targets_of old.graph) (specifier_in old start) (chain_of (forks_in root stack))
      (specifier_in root frame.referrer) frame.position walk.visited walk.unresolved walk.at.occurs walk.at.here_visited walk.missed_are
      (λ none. none-some v (sym none.1 ∙ ends_there))

  missed_too : AreSelected (IsUnresolvedAt (star_targets_of old.graph)) (here_cursor ++ 0 ∷ []) visited_too walk.unresolved
  missed_too = retained_entered (IsUnresolvedAt (star_targets_of old.graph)) (star_targets_of old.graph) (specifier_in old start)
      (chain_of (forks_in root stack))
      (specifier_in root frame.referrer) frame.position walk.visited walk.unresolved walk.at.occurs walk.at.here_visited walk.missed_are v walk.unresolved
      missed_next

  -- the statement is one more of those before the cursor
  after_next : AreSelected (IsThere (star_targets_of old.graph)) (cursor_of (forks_in root stack) (frame.position + 1)) walk.visited
      (walk.following ++ (specifier_in root frame.referrer, frame.position) ∷ [])
  after_next = retained_added (IsThere (star_targets_of old.graph)) (star_targets_of old.graph) (specifier_in old start) (chain_of (forks_in root stack))
      (specifier_in root frame.referrer) frame.position walk.visited walk.following walk.at.occurs walk.at.here_visited walk.after_are
      (is_one walk frame.specifier_text.now specifier_is)

  after_too : AreSelected (IsThere (star_targets_of old.graph)) (here_cursor ++ 0 ∷ []) visited_too
      (walk.following ++ (specifier_in root frame.referrer, frame.position) ∷ [])
  after_too = retained_entered (IsThere (star_targets_of old.graph)) (star_targets_of old.graph) (specifier_in old start) (chain_of (forks_in root stack))
      (specifier_in root frame.referrer) frame.position walk.visited walk.following walk.at.occurs walk.at.here_visited walk.after_are v
      (walk.following ++ (specifier_in root frame.referrer, frame.position) ∷ []) after_next

  -- the module's candidates, after the others
  abbrev pub keeps : Bool
  keeps = collects_shared name_filter old.rules

  abbrev pub candidates_here : List ResolvedExportView
  candidates_here = candidates_now keeps (map frame_view (stack ++ frame ∷ [])) entered (explicit_exports_of old.graph v)

  candidate_in_too : AreModulesOfExportsStored more (walk.candidate ++ candidates_here)
  candidate_in_too = names_both more walk.candidate candidates_here (names_still root (Some v) walk.candidate walk.candidate_in)
      (candidates_numbered more keeps (map frame_view (stack ++ frame ∷ [])) entered (explicit_exports_of old.graph v) numbered_too entered_in)

  candidate_too : map (export_view_of_entry old.graph (specifier_in old start)) (candidates_visited keeps (explicit_exports_of old.graph) visited_too)
      ≡ map (export_by_specifier more) (walk.candidate ++ candidates_here)
  candidate_too = candidates_more old.graph more (specifier_in old start) (here_cursor, v) (map frame_view (stack ++ frame ∷ [])) entered trace_too
      (sym number_is) keeps (explicit_exports_of old.graph) walk.visited walk.candidate (walk.candidate_viewed
      ∙ sym (names_retained root (Some v) walk.candidate walk.candidate_in))

  -- if the one name was found here, nothing was found before
  breaks_off_here : is_name_search_done name_filter collected.names ≡ false
      → is_name_search_done name_filter (names_with_exports (map frame_view (stack ++ frame ∷ [])) entered
      (accepted_exports_of name_filter old.graph v) collected.names) ≡ true
      → HasEnded name_filter 0 (forks_in root stack ++ fork_in root frame ∷ []) names_too.0
  breaks_off_here goes done =
      let new = newly_done name_filter collected.names
      (names_with_exports (map frame_view (stack ++ frame ∷ [])) entered (accepted_exports_of name_filter old.graph v) collected.names) goes done in
      record {
        first_statement = refl;
        found_here =
            λ entry at. names_too.3 (nothing_viewed (export_view_of_entry old.graph (specifier_in old start))
            (export_by_specifier root) walk.found collected.names
            walk.found_views new.0) entry at ∙ sym chain_is;
        at_start = λ default. absurd (true≢false (sym default ∙ new.1));
      }

  pub walking_entered : is_name_search_done name_filter collected.names ≡ false
      → IsWalking name_filter old start more entered 0 (stack ++ frame ∷ []) (ids ++ entered
      ∷ []) (module_collected name_filter old.rules old.graph v (map frame_view (stack ++ frame ∷ [])) entered collected) (lookups + 1)
  walking_entered goes = record {
    known = walk.known;
    stored = stored_too;
    inside = record {
      here_in = entered_in;
      stack_in = numbered_too;
      ids_in = ids_in_too;
      names_in = collected_numbered more (map frame_view (stack ++ frame ∷ [])) entered numbered_too entered_in (accepted_exports_of name_filter old.graph v)
          collected.names (names_still root (Some v) collected.names walk.inside.names_in);
      unresolved_in = numbered_still root (Some v) collected.unresolved walk.inside.unresolved_in;
    };
    visited = visited_too;
    visited_are = visited_are_too;
    at = rw (forks_are, number_is) at_module;
    re_exports = rw (forks_are, chain_is) trace_too;
    found = names_too.0;
    found_are = names_too.1;
    found_views = names_too.2;
    unresolved = walk.unresolved;
    missed_are = rw (forks_are, chain_is) missed_too;
    missed_viewed = walk.missed_viewed ∙ sym (statements_retained root (Some v) collected.unresolved walk.inside.unresolved_in);
    candidate = walk.candidate ++ candidates_here;
    candidate_are = ap (λ groups. groups_with_exporters groups candidates_here) walk.candidate_are ∙ sym (exporters_after [] walk.candidate candidates_here);
    candidate_in = candidate_in_too;
    candidate_viewed = candidate_too;
    following = walk.following ++ (specifier_in root frame.referrer, frame.position) ∷ [];
    after_are = rw (forks_are, chain_is) after_too;
    after_counted = omega (arith, walk.after_counted, length_push walk.following (specifier_in root frame.referrer, frame.position));
    ends_here = λ done. rw forks_are (breaks_off_here goes done);
    next_in = omega arith;
    few = few_too;
    counted = rw (forks_are, number_is) counted_too;
  }
