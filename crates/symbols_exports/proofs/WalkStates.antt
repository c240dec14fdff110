-- A walk along `export *` in chain order: its cursor, the statements that it followed there, and what it found.
use Rattle.std.proofs.Common.{◌≡◌, ℕ, ◌+◌, ◌<◌, ◌≤◌, inl, inr, List, [], ◌∷◌, ◌++◌, length, take, map, get_or, None, Some, refl, sym, ◌∙◌, subst, arith}
use Rattle.std.specs.Prelude.{Contains}
use Rattle.std.proofs.lemmas.List.{length-map, map-append, length_push, get_or_past, get_or_append_left, get_or_push, take-append-le, take_at}
use Rattle.std.proofs.lemmas.List.Elements.{Contains-push, Contains-append_left}
use Rattle.std.proofs.lemmas.Option.{same_Some}
use Rattle.symbols_exports.specs.Chains.{StarTargets, star_target_at, chain_end_module, IsChainBefore, AreReachedByStars}
use Rattle.symbols_exports.specs.Exports.{StarPosition, AreUnresolvedStars}
use Rattle.symbols_exports.specs.OneName.{AreStarsLookedUp}
use Rattle.symbols_exports.proofs.Cursors.{Visit, OccursAt, occurs_first, occurs_next, occurs_back, occurs_entered}
use Rattle.symbols_exports.proofs.LeastChainsVisited.{visited_all, all_before}
use Rattle.symbols_exports.proofs.UnresolvedSoFar.{Selection, IsThere, IsUnresolvedAt, AreSelected, retained_back, are_unresolved}
use Rattle.symbols_exports.proofs.UpToChain.{looked_up_all}
use Rattle.symbols_exports.proofs.SortedLists.{short_or_last}

-- a followed statement: its module and its index there
pub record Fork : Type 0 where
  pub referrer : List ℕ
  pub position : ℕ

abbrev pub chain_of : List Fork → List ℕ
chain_of stack = map (λ frame. frame.position) stack

abbrev pub cursor_of : List Fork → ℕ → List ℕ
cursor_of stack next = chain_of stack ++ next ∷ []

-- the walk is before a statement of the module here, which it reached by the frames
pub record IsAt (statements : StarTargets) (start here : List ℕ) (next : ℕ) (stack : List Fork) (visited : List Visit) : Type 0 where
  pub occurs : OccursAt statements start (cursor_of stack next) visited
  pub here_visited : Contains visited (chain_of stack, here)
  pub frames_visited : (j : ℕ) (d : Fork) → j < length stack → Contains visited (take j (chain_of stack), (get_or stack j d).referrer)

pub at_first : (statements : StarTargets) (start : List ℕ) → IsAt statements start start 0 [] (([], start) ∷ [])
at_first statements start = record {
  occurs = occurs_first statements start;
  here_visited = Contains-push [] ([], start);
  frames_visited = λ j d within. absurd (omega (arith, within));
}

module _ {statements : StarTargets} {start here : List ℕ} {next : ℕ} {stack : List Fork} {visited : List Visit} (at : IsAt statements start here next stack
    visited) where
  -- an unresolved statement, or one of a visited module
  pub at_next : ((v : List ℕ) → star_target_at statements here next ≡ Some v → (d : List ℕ) × Contains visited (d, v))
      → IsAt statements start here (next + 1) stack visited
  at_next ends_at = record {
    occurs = occurs_next statements start (chain_of stack) here next visited at.occurs at.here_visited ends_at;
    here_visited = at.here_visited;
    frames_visited = at.frames_visited;
  }

  module _ (v : List ℕ) (ends_at : star_target_at statements here next ≡ Some v) (fresh : (d : List ℕ) → Contains visited (d, v) → ⊥) where
    abbrev pub reversed : List Fork
    reversed = stack ++ record { referrer = here; position = next } ∷ []

    abbrev pub visited_too : List Visit
    visited_too = visited ++ (cursor_of stack next, v) ∷ []

    chain_is : chain_of reversed ≡ cursor_of stack next
    chain_is = map-append (λ (frame : Fork). frame.position) stack (record { referrer = here; position = next } ∷ [])

    frames_visited : (j : ℕ) (d : Fork) → j < length reversed → Contains visited_too (take j (chain_of reversed), (get_or reversed j d).referrer)
    frames_visited j d within = elim (short_or_last stack (record { referrer = here; position = next }) j within) [
      | inl short ↦
          let in_chain : j ≤ length (chain_of stack) = omega (arith, short, length-map stack (λ (frame : Fork). frame.position)) in
          rw (
            chain_is,
            take-append-le j (chain_of stack) (next ∷ []) in_chain,
            get_or_append_left stack (record { referrer = here; position = next } ∷ []) d j
                short,
          ) (Contains-append_left visited ((cursor_of stack next, v) ∷ []) (take j (chain_of stack), (get_or stack j d).referrer)
          (at.frames_visited j d short))
      | inr last ↦
          let whole : length (chain_of stack) ≡ j = length-map stack (λ (frame : Fork). frame.position) ∙ last in
          rw (chain_is, take_at (chain_of stack) (next ∷ []) j whole, get_or_push stack (record { referrer = here; position = next }) d j last)
          (Contains-append_left visited ((cursor_of stack next, v) ∷ []) (chain_of stack, here) at.here_visited)
    ]

    -- one that resolves to a module that wasn't visited
    pub at_entered : IsAt statements start v 0 reversed visited_too
    at_entered = record {
      occurs = rw chain_is (occurs_entered statements start (chain_of stack) here v next visited at.occurs at.here_visited ends_at fresh);
      here_visited = rw chain_is (Contains-push visited (cursor_of stack next, v));
      frames_visited = frames_visited;
    }

  -- no statement is left, and the stack is empty
  module _ (ended : length (statements here) ≤ next) (empty_stack : stack ≡ []) where
    occurs_at_end : OccursAt statements start (next ∷ []) visited
    occurs_at_end = subst (λ frames. OccursAt statements start (cursor_of frames next) visited) empty_stack at.occurs

    start_is : start ≡ here
    start_is = same_Some start here (occurs_at_end.are_chains [] here
        (subst (λ frames. Contains visited (chain_of frames, here)) empty_stack at.here_visited)).ends_at

    start_ended : length (statements start) ≤ next
    start_ended = subst (λ u. length (statements u) ≤ next) (sym start_is) ended

    pub all_reached : AreReachedByStars statements start visited
    all_reached = visited_all statements start visited next occurs_at_end start_ended

    pub all_unresolved : (unresolved : List StarPosition) → AreSelected (IsUnresolvedAt statements) (cursor_of stack next) visited unresolved
        → AreUnresolvedStars statements start unresolved
    all_unresolved unresolved are = are_unresolved statements start next visited unresolved all_reached occurs_at_end start_ended
        (subst (λ frames. AreSelected (IsUnresolvedAt statements) (cursor_of frames next) visited unresolved) empty_stack are)

    pub all_looked_up : (retained : List StarPosition) → AreSelected (IsThere statements) (cursor_of stack next) visited retained
        → AreStarsLookedUp statements start None retained
    all_looked_up retained they = looked_up_all statements start next visited retained all_reached occurs_at_end start_ended
        (subst (λ frames. AreSelected (IsThere statements) (cursor_of frames next) visited retained) empty_stack they)

    -- each chain with an end comes before the cursor
    pub ends_after : (chain end : List ℕ) → chain_end_module statements start chain ≡ Some end → IsChainBefore chain (cursor_of stack next)
    ends_after chain end ends_at = subst (λ frames. IsChainBefore chain (cursor_of frames next)) (sym empty_stack)
        (all_before statements start chain end next start_ended ends_at)

-- no statement is left: the walk goes on after the statement that was followed here
module _ {statements : StarTargets} {start here : List ℕ} {next : ℕ} (stack : List Fork) (frame : Fork) {visited : List Visit} (at : IsAt statements start here
    next (stack ++ frame ∷ []) visited) (ended : length (statements here) ≤ next) where
  back_chain : chain_of (stack ++ frame ∷ []) ≡ cursor_of stack frame.position
  back_chain = map-append (λ (t : Fork). t.position) stack (frame ∷ [])

  occurred : OccursAt statements start (cursor_of stack frame.position ++ next ∷ []) visited
  occurred = rw back_chain at at.occurs

  visited_there : Contains visited (cursor_of stack frame.position, here)
  visited_there = rw back_chain at at.here_visited

  last_frame : length stack < length (stack ++ frame ∷ [])
  last_frame = omega (arith, length_push stack frame)

  pub at_back : IsAt statements start frame.referrer (frame.position + 1) stack visited
  at_back = record {
    occurs = occurs_back statements start (chain_of stack) here frame.position next visited occurred visited_there
        (λ k from. get_or_past (statements here) k None (omega (arith, from, ended)));
    here_visited = rw (
      back_chain,
      take_at (chain_of stack) (frame.position ∷ []) (length stack) (length-map stack (λ (t : Fork). t.position)),
      get_or_push stack frame frame (length stack) refl,
    ) at (at.frames_visited (length stack) frame last_frame);
    frames_visited = frames_back;
  }
    where
      frames_back : (j : ℕ) (d : Fork) → j < length stack → Contains visited (take j (chain_of stack), (get_or stack j d).referrer)
      frames_back j d within =
          let in_chain : j ≤ length (chain_of stack) = omega (arith, within, length-map stack (λ (t : Fork). t.position)) in
          let longer : j < length (stack ++ frame ∷ []) = omega (arith, within, last_frame) in
          rw (back_chain, take-append-le j (chain_of stack) (frame.position ∷ []) in_chain, get_or_append_left stack (frame ∷ []) d j within) at
          (at.frames_visited j d longer)

  pub retained_at_back : (Selects : Selection) → ((u : List ℕ) (k : ℕ) → Selects u k → k < length (statements u)) → (retained : List StarPosition)
      → AreSelected Selects (cursor_of (stack ++ frame ∷ []) next) visited retained
      → AreSelected Selects (cursor_of stack (frame.position + 1)) visited retained
  retained_at_back Selects there retained they = retained_back Selects statements start there (chain_of stack) here frame.position next visited retained
      occurred visited_there ended (rw back_chain at they)
