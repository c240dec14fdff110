-- The steps of the walk that store nothing.
use Rattle.std.proofs.Common.{◌≡◌, ℕ, ◌+◌, ◌<◌, List, [], ◌∷◌, ◌++◌, length, map, slice_get, None, Some, refl, sym, ap, subst, ◌∙◌, arith, false, true≢false}
use Rattle.std.specs.Prelude.{Contains}
use Rattle.std.proofs.lemmas.List.{map-append, length_push}
use Rattle.std.proofs.lemmas.Option.{slice_get_within, none-some, same_Some}
use Rattle.symbols_ast.specs.declared.ids.ModuleId.{ModuleId}
use Rattle.symbols_root.specs.Roots.{RootView, specifier_in}
use Rattle.symbols_exports.specs.declared.frame.Frame.{Frame}
use Rattle.symbols_exports.specs.declared.name_filter.NameFilter.{NameFilter}
use Rattle.symbols_exports.specs.Chains.{star_target_at}
use Rattle.symbols_exports.specs.StarStatements.{star_specifiers, resolve_specifier, star_targets_of}
use Rattle.symbols_exports.specs.inner.Collecting.{CollectedView}
use Rattle.symbols_exports.specs.ExportViews.{star_statement_view, star_statement_by_specifier}
use Rattle.symbols_exports.specs.inner.NameFilter.{is_name_search_done}
use Rattle.symbols_exports.proofs.UnresolvedSoFar.{IsThere, IsUnresolvedAt, AreSelected, retained_added, retained_next}
use Rattle.symbols_exports.proofs.IdsInGrownRoots.{graph_retained, rules_retained}
use Rattle.symbols_exports.proofs.ExportViewLemmas.{numbered_push}
use Rattle.symbols_exports.proofs.StoringWalk.{IsWalking, forks_in, left, count_visited, statements_counted, target_is, viewed_at}
use Rattle.symbols_exports.proofs.WalkStates.{chain_of, cursor_of, at_next}

module _ {name_filter : NameFilter} {old : RootView} {start : ModuleId} {root : RootView} {here : ModuleId} {next : ℕ} {stack : List Frame} {ids : List
    ModuleId} {collected : CollectedView} {lookups : ℕ} (walk : IsWalking name_filter old start root here next stack ids collected lookups) where
  pub walking_graph : root.graph ≡ old.graph
  walking_graph = ap (λ (r : RootView). r.graph) walk.stored ∙ (graph_retained old (map (specifier_in root) ids)).0

  pub walking_limits : root.limits ≡ old.limits
  walking_limits = ap (λ (r : RootView). r.limits) walk.stored ∙ (graph_retained old (map (specifier_in root) ids)).1

  pub walking_rules : root.rules ≡ old.rules
  walking_rules = ap (λ (r : RootView). r.rules) walk.stored ∙ rules_retained old (map (specifier_in root) ids)

  -- at a statement of the module here
  module _ (specifier_text : List ℕ) (at_next_specifier : slice_get (star_specifiers old.graph (specifier_in root here)) next ≡ Some specifier_text) where
    pub is_one : next < length (star_targets_of old.graph (specifier_in root here))
    is_one = rw (statements_counted old.graph (specifier_in root here))
        (slice_get_within (star_specifiers old.graph (specifier_in root here)) next specifier_text at_next_specifier)

    pub target_specifier : star_target_at (star_targets_of old.graph) (specifier_in root here) next
        ≡ resolve_specifier old.graph (specifier_in root here) specifier_text
    target_specifier = target_is old.graph (specifier_in root here) specifier_text next at_next_specifier

    looked_up_for : (lookups + 1) + left (star_targets_of old.graph) (specifier_in root here) (next + 1) (forks_in root stack)
        ≡ count_visited (star_targets_of old.graph) walk.visited
    looked_up_for = omega (arith, walk.counted, is_one)

    -- it is one more of the statements before the cursor
    pub after_next : AreSelected (IsThere (star_targets_of old.graph)) (cursor_of (forks_in root stack) (next + 1)) walk.visited
        (walk.following ++ (specifier_in root here, next) ∷ [])
    after_next = retained_added (IsThere (star_targets_of old.graph)) (star_targets_of old.graph) (specifier_in old start) (chain_of (forks_in root stack))
        (specifier_in root here) next walk.visited walk.following walk.at.occurs walk.at.here_visited walk.after_are is_one

    -- that is unresolved
    pub walking_unresolved : is_name_search_done name_filter collected.names ≡ false
        → resolve_specifier old.graph (specifier_in root here) specifier_text ≡ None
        → IsWalking name_filter old start root here (next
        + 1) stack ids (record collected { unresolved = collected.unresolved ++ (here, specifier_text) ∷ [] }) (lookups + 1)
    walking_unresolved goes unresolved_at = record {
      known = walk.known;
      stored = walk.stored;
      inside = record {
        here_in = walk.inside.here_in;
        stack_in = walk.inside.stack_in;
        ids_in = walk.inside.ids_in;
        names_in = walk.inside.names_in;
        unresolved_in = numbered_push root collected.unresolved (here, specifier_text) walk.inside.unresolved_in walk.inside.here_in;
      };
      visited = walk.visited;
      visited_are = walk.visited_are;
      at = at_next walk.at (λ v ends_at. absurd (none-some v (sym (target_specifier ∙ unresolved_at) ∙ ends_at)));
      re_exports = walk.re_exports;
      found = walk.found;
      found_are = walk.found_are;
      found_views = walk.found_views;
      unresolved = walk.unresolved ++ (specifier_in root here, next) ∷ [];
      missed_are = retained_added (IsUnresolvedAt (star_targets_of old.graph)) (star_targets_of old.graph) (specifier_in old start)
          (chain_of (forks_in root stack))
          (specifier_in root here) next walk.visited walk.unresolved walk.at.occurs walk.at.here_visited walk.missed_are
          (is_one, target_specifier ∙ unresolved_at);
      missed_viewed = missed_too;
      candidate = walk.candidate;
      candidate_are = walk.candidate_are;
      candidate_in = walk.candidate_in;
      candidate_viewed = walk.candidate_viewed;
      following = walk.following ++ (specifier_in root here, next) ∷ [];
      after_are = after_next;
      after_counted = omega (arith, walk.after_counted, length_push walk.following (specifier_in root here, next));
      ends_here = λ done. absurd (true≢false (sym done ∙ goes));
      next_in = omega (arith, is_one);
      few = walk.few;
      counted = looked_up_for;
    }
      where
        missed_too : map (star_statement_view old.graph) (walk.unresolved ++ (specifier_in root here, next) ∷ [])
            ≡ map (star_statement_by_specifier root) (collected.unresolved ++ (here, specifier_text) ∷ [])
        missed_too =
            let one = viewed_at old.graph (specifier_in root here) specifier_text next at_next_specifier in
            map-append (star_statement_view old.graph) walk.unresolved ((specifier_in root here, next) ∷ [])
            ∙ (rw (walk.missed_viewed, one) refl ∙ sym (map-append (star_statement_by_specifier root) collected.unresolved ((here, specifier_text) ∷ [])))

    -- that resolves to a visited module
    pub walking_visited : is_name_search_done name_filter collected.names ≡ false → (v : List ℕ)
        → resolve_specifier old.graph (specifier_in root here) specifier_text
        ≡ Some v → (c : List ℕ) → Contains walk.visited (c, v) → IsWalking name_filter old start root here (next + 1) stack ids collected (lookups + 1)
    walking_visited goes v ends_at c already_visited = record {
      known = walk.known;
      stored = walk.stored;
      inside = walk.inside;
      visited = walk.visited;
      visited_are = walk.visited_are;
      at = at_next walk.at (λ w to. (c, subst (λ x. Contains walk.visited (c, x)) (same_Some v w (sym (target_specifier ∙ ends_at) ∙ to)) already_visited));
      re_exports = walk.re_exports;
      found = walk.found;
      found_are = walk.found_are;
      found_views = walk.found_views;
      unresolved = walk.unresolved;
      missed_are = retained_next (IsUnresolvedAt (star_targets_of old.graph)) (star_targets_of old.graph) (specifier_in old start)
          (chain_of (forks_in root stack))
          (specifier_in root here) next walk.visited walk.unresolved walk.at.occurs walk.at.here_visited walk.missed_are
          (λ none. none-some v (sym none.1 ∙ (target_specifier ∙ ends_at)));
      missed_viewed = walk.missed_viewed;
      candidate = walk.candidate;
      candidate_are = walk.candidate_are;
      candidate_in = walk.candidate_in;
      candidate_viewed = walk.candidate_viewed;
      following = walk.following ++ (specifier_in root here, next) ∷ [];
      after_are = after_next;
      after_counted = omega (arith, walk.after_counted, length_push walk.following (specifier_in root here, next));
      ends_here = λ done. absurd (true≢false (sym done ∙ goes));
      next_in = omega (arith, is_one);
      few = walk.few;
      counted = looked_up_for;
    }
