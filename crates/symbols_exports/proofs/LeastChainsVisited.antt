-- A walk in chain order visits each module by its least chain.
use Rattle.std.proofs.Common.{◌≡◌, ℕ, zero, suc, ◌+◌, ◌≤◌, ◌↔◌, inl, inr, List, [], ◌∷◌, ◌++◌}
use Rattle.std.proofs.Common.{length, take, get_or, Some, refl, sym, ◌∙◌, ap, subst, arith, add-one}
use Rattle.std.specs.Prelude.{Contains}
use Rattle.std.proofs.lemmas.List.{take-take, take_at, length-take-le, length-append, take_more, take_all}
use Rattle.std.proofs.lemmas.Option.{same_Some}
use Rattle.symbols_exports.specs.Chains.{StarTargets, star_target_at, chain_end_module, IsSimpleChain, IsChainBefore, IsChainBeforeOrEqual, IsLeastChain}
use Rattle.symbols_exports.specs.Chains.{AreReachedByStars}
use Rattle.symbols_exports.proofs.ChainOrder.{with_one_more, before_then_before, up_to_then_before}
use Rattle.symbols_exports.proofs.ChainOrder.{up_to_then_up_to, same_both_traces, up_to_or_after, beginning_up_to}
use Rattle.symbols_exports.proofs.ChainEnds.{ends_back, beginning_ends, first_is_there}
use Rattle.symbols_exports.proofs.Cursors.{Visit, IsVisitedUpTo, OccursAt}

-- the module at the end of the chain was visited, by this chain or an earlier one
abbrev IsVisitedAlong : StarTargets → List ℕ → List Visit → List ℕ → Type 0
IsVisitedAlong statements start visited chain = (u : List ℕ) × (chain_end_module statements start chain ≡ Some u) × IsVisitedUpTo visited u chain

-- no two prefixes of a simple chain end at the same module
no_return : (statements : StarTargets) (start chain end : List ℕ) (k : ℕ) → IsSimpleChain statements start chain end → k ≤ length chain
    → (front rest u : List ℕ) (x : ℕ) → take k chain ≡ front ++ x ∷ rest → chain_end_module statements start front ≡ Some u
    → chain_end_module statements start (take k chain) ≡ Some u → ⊥
no_return statements start chain end k simple within front rest u x split to_front to_all =
    let counted : k ≡ length front + suc (length rest) = sym (length-take-le k chain within) ∙ (ap length split ∙ length-append front (x ∷ rest)) in
    let fewer : length front ≤ k = omega arith in
    let begins : take (length front) chain ≡ front =
    sym (take-take (length front) k chain fewer) ∙ (ap (take (length front)) split ∙ take_at front (x ∷ rest) (length front) refl) in
    let equal : length front ≡ k = simple.has_no_duplicates (length front) k (omega arith) within (ap (chain_end_module statements start) begins ∙
    (to_front ∙ sym to_all))
    in
    omega arith

-- at a cursor, the end of each simple chain before it was visited, by this chain or an earlier one
module _ (statements : StarTargets) (start cursor : List ℕ) (visited : List Visit) (occurs : OccursAt statements start cursor visited) (chain end : List
    ℕ) (simple : IsSimpleChain statements start chain end) (earlier : IsChainBefore chain cursor) where
  pushed : (k x : ℕ) → k ≤ length chain → (u c : List ℕ) → chain_end_module statements start (take k chain) ≡ Some u → Contains visited (c, u)
      → IsChainBeforeOrEqual c (take k chain) → IsChainBeforeOrEqual (c ++ x ∷ []) (take k chain ++ x ∷ [])
  pushed k x within u c ends_at cu (inl same) = inl (ap (λ d. d ++ x ∷ []) same)
  pushed k x within u c ends_at cu (inr before) = elim (with_one_more c (take k chain) x before) [
    | inl still ↦ inr still
    | inr begins ↦ absurd (no_return statements start chain end k simple within c begins.1 u begins.0 begins.2 (occurs.are_chains c u cu).ends_at ends_at)
  ]

  one_further : (k x : ℕ) (v : List ℕ) → k ≤ length chain → IsChainBeforeOrEqual (take k chain ++ x ∷ []) chain → IsVisitedAlong statements start visited
      (take k chain)
      → chain_end_module statements start (take k chain ++ x ∷ []) ≡ Some v → IsVisitedAlong statements start visited (take k chain ++ x ∷ [])
  one_further k x v within begins so_far ends_at =
      let from = ends_back statements start v (take k chain) x ends_at in
      let same : so_far.0 ≡ from.0 = same_Some so_far.0 from.0 (sym so_far.1 ∙ from.1) in
      let next : star_target_at statements so_far.0 x ≡ Some v = ap (λ w. star_target_at statements w x) same ∙ from.2 in
      let c = so_far.2.0 in
      let up_to = pushed k x within so_far.0 c so_far.1 so_far.2.1 so_far.2.2 in
      let before = up_to_then_before (c ++ x ∷ []) chain cursor (up_to_then_up_to (c ++ x ∷ []) (take k chain ++ x ∷ []) chain up_to begins) earlier in
      let by = occurs.followed c so_far.0 v x so_far.2.1 before next in
      (v, ends_at, (by.0, by.1, up_to_then_up_to by.0 (c ++ x ∷ []) (take k chain ++ x ∷ []) by.2 up_to))

  visited_along : (k : ℕ) → k ≤ length chain → IsVisitedAlong statements start visited (take k chain)
  visited_along zero within = (start, refl, ([], occurs.begun, inl refl))
  visited_along (suc k) within =
      let more : take (suc k) chain ≡ take k chain ++ get_or chain k 0 ∷ [] = rw (← add-one) (take_more chain k 0 within) in
      let there = beginning_ends statements start end chain (suc k) simple.ends_at in
      rw more (one_further k (get_or chain k 0) there.0 (omega arith) (rw more at (beginning_up_to (suc k) chain)) (visited_along k (omega arith))
      (rw (← more) there.1))

  pub visited_so_far : IsVisitedUpTo visited end chain
  visited_so_far =
      let all : take (length chain) chain ≡ chain = take_all (length chain) chain (omega arith) in
      let at_end = visited_along (length chain) (omega arith) in
      let same : at_end.0 ≡ end = same_Some at_end.0 end (sym at_end.1 ∙ (ap (chain_end_module statements start) all ∙ simple.ends_at)) in
      rw (same, all) at at_end.2

-- a module has one least chain
pub least_is_one : (statements : StarTargets) (start : List ℕ) (c d u : List ℕ) → IsLeastChain statements start c u → IsLeastChain statements start d u → c ≡ d
least_is_one statements start c d u least other = same_both_traces c d (least.least d other.is_chain) (other.least c least.is_chain)

-- the visited modules are exactly those whose least chain comes before the cursor, each by that chain
pub visited_are_least : (statements : StarTargets) (start cursor : List ℕ) (visited : List Visit) → OccursAt statements start cursor visited → (c u : List ℕ)
    → Contains visited (c, u) ↔ (IsLeastChain statements start c u × IsChainBefore c cursor)
visited_are_least statements start cursor visited occurs c u = (is_least, is_visited)
  where
    is_least : Contains visited (c, u) → IsLeastChain statements start c u × IsChainBefore c cursor
    is_least cu = (record { is_chain = occurs.are_chains c u cu; least = least }, occurs.before c u cu)
      where
        least : (other : List ℕ) → IsSimpleChain statements start other u → IsChainBeforeOrEqual c other
        least other simple = elim (up_to_or_after c other) [
          | inl up_to ↦ up_to
          | inr following ↦
              let by = visited_so_far statements start cursor visited occurs other u simple
              (before_then_before other c cursor following (occurs.before c u cu)) in
              subst (λ d. IsChainBeforeOrEqual d other) (occurs.visited_once by.0 c u by.1 cu) by.2
        ]

    is_visited : IsLeastChain statements start c u × IsChainBefore c cursor → Contains visited (c, u)
    is_visited least =
        let by = visited_so_far statements start cursor visited occurs c u least.0.is_chain least.1 in
        subst (λ d. Contains visited (d, u)) (same_both_traces by.0 c by.2 (least.0.least by.0 (occurs.are_chains by.0 u by.1))) by.1

-- after the last statement of the start every chain comes before the cursor
pub all_before : (statements : StarTargets) (start chain end : List ℕ) (i : ℕ) → length (statements start) ≤ i
    → chain_end_module statements start chain ≡ Some end
    → IsChainBefore chain (i ∷ [])
all_before statements start [] end i ended ends_at = tt
all_before statements start (k ∷ chain) end i ended ends_at = inl (omega (arith, ended, first_is_there statements start end k chain ends_at))

-- there the walk has visited each reachable module
pub visited_all : (statements : StarTargets) (start : List ℕ) (visited : List Visit) (i : ℕ) → OccursAt statements start (i ∷ []) visited
    → length (statements start) ≤ i → AreReachedByStars statements start visited
visited_all statements start visited i occurs ended = record {
  all = λ chain end. (
    λ cu. ((visited_are_least statements start (i ∷ []) visited occurs chain end).0 cu).0,
    λ least.
        (visited_are_least statements start (i ∷ []) visited occurs chain end).1 (least, all_before statements start chain end i ended least.is_chain.ends_at),
  );
  reached = λ end by. let found = visited_so_far statements start (i ∷ []) visited occurs by.0 end by.1
      (all_before statements start by.0 end i ended by.1.ends_at) in (found.0, found.1);
  ordered = occurs.ordered;
}
