-- The walk after the last statement of a module: it goes back to the frame's module, or ends.
use Rattle.std.proofs.Common.{◌≡◌, ℕ, ◌+◌, ◌<◌, ◌≤◌, ◌^◌, inr, List, [], ◌∷◌, ◌++◌, length, map, Some, refl, sym, ◌∙◌, arith, false, true≢false}
use Rattle.std.proofs.lemmas.List.{map-append, length_push, get_or_append_left, get_or_push}
use Rattle.std.proofs.lemmas.List.Sums.{sum_by_push}
use Rattle.std.proofs.lemmas.Option.{same_Some}
use Rattle.symbols_ast.specs.declared.ids.ModuleId.{ModuleId}
use Rattle.symbols_root.specs.Roots.{RootView, specifier_in}
use Rattle.symbols_exports.specs.declared.frame.Frame.{Frame}
use Rattle.symbols_exports.specs.declared.name_filter.NameFilter.{NameFilter}
use Rattle.symbols_exports.specs.Chains.{chain_end_module}
use Rattle.symbols_exports.specs.StarStatements.{star_targets_of}
use Rattle.symbols_exports.specs.inner.Collecting.{CollectedView, frame_view}
use Rattle.symbols_exports.specs.ExportViews.{chain_statements, star_statement_by_specifier, AreReferrersOfStarsStored}
use Rattle.symbols_exports.specs.inner.NameFilter.{is_name_search_done}
use Rattle.symbols_exports.proofs.ChainEnds.{ends_back, cursor_is_there}
use Rattle.symbols_exports.proofs.UnresolvedSoFar.{IsThere, IsUnresolvedAt}
use Rattle.symbols_exports.proofs.ExportViewLemmas.{viewed_pop}
use Rattle.symbols_exports.proofs.StoringWalk.{IsWalking, all_few, fork_in, forks_in, left, left_at, count_visited}
use Rattle.symbols_exports.proofs.WalkStates.{Fork, chain_of, IsAt, at_back, retained_at_back}

-- if the numbers of a longer list are those of stored modules, so are those of its front
numbered_front : (root : RootView) (statements : List (ModuleId × List ℕ)) (last : ModuleId × List ℕ) → AreReferrersOfStarsStored root (statements ++ last ∷ [])
    → AreReferrersOfStarsStored root statements
numbered_front root statements last are i d within =
    let longer : i < length (statements ++ last ∷ []) = omega (arith, within, length_push statements last) in
    rw (get_or_append_left statements (last ∷ []) d i within) at (are i d longer)

numbered_last : (root : RootView) (statements : List (ModuleId × List ℕ)) (last : ModuleId × List ℕ) → AreReferrersOfStarsStored root (statements ++ last ∷ [])
    → last.0.0 < length root.stored
numbered_last root statements last are =
    let there : length statements < length (statements ++ last ∷ []) = omega (arith, length_push statements last) in
    rw (get_or_push statements last last (length statements) refl) at (are (length statements) last there)

module _ {name_filter : NameFilter} {old : RootView} {start : ModuleId} {root : RootView} {here : ModuleId} {next : ℕ} (stack : List Frame) (frame : Frame)
    {ids : List ModuleId} {collected : CollectedView} {lookups : ℕ} (walk : IsWalking name_filter old start root here next (stack ++ frame ∷ []) ids collected
    lookups) (ended : length (star_targets_of old.graph (specifier_in root here)) ≤ next)
    (few_here : length (star_targets_of old.graph (specifier_in root here))
    < 2 ^ 63) where
  pub forks_are : forks_in root (stack ++ frame ∷ []) ≡ forks_in root stack ++ fork_in root frame ∷ []
  forks_are = map-append (fork_in root) stack (frame ∷ [])

  occurred_at : IsAt (star_targets_of old.graph) (specifier_in old start) (specifier_in root here) next (forks_in root stack ++ fork_in root frame ∷ [])
      walk.visited
  occurred_at = rw forks_are at walk.at

  is_back : IsAt (star_targets_of old.graph) (specifier_in old start) (specifier_in root frame.referrer) (frame.position + 1) (forks_in root stack) walk.visited
  is_back = at_back (forks_in root stack) (fork_in root frame) occurred_at ended

  chain_back : chain_end_module (star_targets_of old.graph) (specifier_in old start) (chain_of (forks_in root stack)) ≡ Some (specifier_in root frame.referrer)
  chain_back = (is_back.occurs.are_chains (chain_of (forks_in root stack)) (specifier_in root frame.referrer) is_back.here_visited).ends_at

  chain_was : chain_of (forks_in root stack ++ fork_in root frame ∷ []) ≡ chain_of (forks_in root stack) ++ frame.position ∷ []
  chain_was = map-append (λ (fork : Fork). fork.position) (forks_in root stack) (fork_in root frame ∷ [])

  numbered : AreReferrersOfStarsStored root (map frame_view stack ++ frame_view frame ∷ [])
  numbered = rw (map-append frame_view stack (frame ∷ [])) at walk.inside.stack_in

  trace_back : chain_statements old.graph (specifier_in old start) (chain_of (forks_in root stack)) ≡ map (star_statement_by_specifier root)
      (map frame_view stack)
  trace_back =
      let was : chain_statements old.graph (specifier_in old start) (chain_of (forks_in root stack) ++ frame.position ∷ [])
      ≡ map (star_statement_by_specifier root) (map frame_view stack) ++ star_statement_by_specifier root (frame_view frame) ∷ [] =
      rw (
        forks_are,
        chain_was,
        map-append frame_view stack (frame ∷ []),
        map-append (star_statement_by_specifier root) (map frame_view stack) (frame_view frame
            ∷ []),
      )
      at walk.re_exports in
      viewed_pop old.graph (specifier_in old start) (specifier_in root frame.referrer) (chain_of (forks_in root stack)) frame.position
      (map (star_statement_by_specifier root) (map frame_view stack)) (star_statement_by_specifier root (frame_view frame)) chain_back was

  -- the statement that was followed here is one of its module
  led_here : frame.position < length (star_targets_of old.graph (specifier_in root frame.referrer))
  led_here =
      let here_ends : chain_end_module (star_targets_of old.graph) (specifier_in old start) (chain_of (forks_in root stack) ++ frame.position ∷ [])
      ≡ Some (specifier_in root here) = rw chain_was at (occurred_at.occurs.are_chains (chain_of (forks_in root stack ++ fork_in root frame ∷ []))
      (specifier_in root here) occurred_at.here_visited).ends_at in
      let from = ends_back (star_targets_of old.graph) (specifier_in old start) (specifier_in root here) (chain_of (forks_in root stack)) frame.position
      here_ends in
      let same : from.0 ≡ specifier_in root frame.referrer = same_Some from.0 (specifier_in root frame.referrer) (sym from.1 ∙ chain_back) in
      cursor_is_there (star_targets_of old.graph) (specifier_in root frame.referrer) (specifier_in root here) frame.position (rw same at from.2)

  still_counted : lookups + left (star_targets_of old.graph) (specifier_in root frame.referrer) (frame.position + 1) (forks_in root stack)
      ≡ count_visited (star_targets_of old.graph) walk.visited
  still_counted =
      let was : lookups + left (star_targets_of old.graph) (specifier_in root here) next (forks_in root stack ++ fork_in root frame ∷ [])
      ≡ count_visited (star_targets_of old.graph) walk.visited = rw forks_are at walk.counted in
      omega (arith, was, ended, sum_by_push (left_at (star_targets_of old.graph)) (forks_in root stack) (fork_in root frame))

  pub frame_fits : frame.position + 1 < 2 ^ 64
  frame_fits = omega (arith, led_here, all_few walk few_here (chain_of (forks_in root stack)) (specifier_in root frame.referrer) is_back.here_visited)

  pub walking_back : is_name_search_done name_filter collected.names ≡ false
      → IsWalking name_filter old start root frame.referrer (frame.position + 1) stack ids collected lookups
  walking_back goes = record {
    known = walk.known;
    stored = walk.stored;
    inside = record {
      here_in = numbered_last root (map frame_view stack) (frame_view frame) numbered;
      stack_in = numbered_front root (map frame_view stack) (frame_view frame) numbered;
      ids_in = walk.inside.ids_in;
      names_in = walk.inside.names_in;
      unresolved_in = walk.inside.unresolved_in;
    };
    visited = walk.visited;
    visited_are = walk.visited_are;
    at = is_back;
    re_exports = trace_back;
    found = walk.found;
    found_are = walk.found_are;
    found_views = walk.found_views;
    unresolved = walk.unresolved;
    missed_are = retained_at_back (forks_in root stack) (fork_in root frame) occurred_at ended (IsUnresolvedAt (star_targets_of old.graph)) (λ u k none. none.0)
        walk.unresolved (rw forks_are at walk.missed_are);
    missed_viewed = walk.missed_viewed;
    candidate = walk.candidate;
    candidate_are = walk.candidate_are;
    candidate_in = walk.candidate_in;
    candidate_viewed = walk.candidate_viewed;
    following = walk.following;
    after_are = retained_at_back (forks_in root stack) (fork_in root frame) occurred_at ended (IsThere (star_targets_of old.graph)) (λ u k there. there)
        walk.following (rw forks_are at walk.after_are);
    after_counted = walk.after_counted;
    ends_here = λ done. absurd (true≢false (sym done ∙ goes));
    next_in = omega (arith, led_here);
    few = λ c u cu. inr (all_few walk few_here c u cu);
    counted = still_counted;
  }
