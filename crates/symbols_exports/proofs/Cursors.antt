-- A walk in chain order at a cursor: a chain whose last index is that of the next statement.
use Rattle.std.proofs.Common.{◌≡◌, ℕ, zero, suc, ◌+◌, ◌≤◌, ◌⊎◌, inl, inr, List, [], ◌∷◌, ◌++◌, length}
use Rattle.std.proofs.Common.{take, get_or, None, Some, refl, sym, ◌∙◌, ap, subst, arith, append_assoc}
use Rattle.std.specs.Prelude.{Contains, AllPairs}
use Rattle.std.proofs.lemmas.List.{take_all, length_push, take-append-le}
use Rattle.std.proofs.lemmas.List.Elements.{Contains-push, Contains-push_cases, Contains-append_left, Contains-get_or}
use Rattle.std.proofs.lemmas.List.Quantifiers.{all_pairs_push}
use Rattle.std.proofs.lemmas.Option.{same_Some}
use Rattle.symbols_exports.specs.Chains.{StarTargets, star_target_at, chain_end_module, IsSimpleChain, IsChainBefore, IsChainBeforeOrEqual}
use Rattle.symbols_exports.proofs.ChainOrder.{before_then_before, before_after, between_neighbours, between_module_and_next}
use Rattle.symbols_exports.proofs.ChainEnds.{goes_further}

-- a visit: a chain and the module that was visited by it
abbrev pub Visit : Type 0
Visit = List ℕ × List ℕ

abbrev pub VisitsInOrder : Visit → Visit → Type 0
VisitsInOrder x y = IsChainBefore x.0 y.0

-- the module was visited by this chain or an earlier one
abbrev pub IsVisitedUpTo : List Visit → List ℕ → List ℕ → Type 0
IsVisitedUpTo visited u chain = (c : List ℕ) × Contains visited (c, u) × IsChainBeforeOrEqual c chain

-- all before the cursor is done: each visited module has its statements before the cursor followed, and no visit is after it
pub record OccursAt (statements : StarTargets) (start : List ℕ) (cursor : List ℕ) (visited : List Visit) : Type 0 where
  pub begun : Contains visited ([], start)
  pub before : (c u : List ℕ) → Contains visited (c, u) → IsChainBefore c cursor
  pub are_chains : (c u : List ℕ) → Contains visited (c, u) → IsSimpleChain statements start c u
  pub visited_once : (c d u : List ℕ) → Contains visited (c, u) → Contains visited (d, u) → c ≡ d
  pub along : (c u : List ℕ) → Contains visited (c, u) → (k : ℕ) → k ≤ length c → (w : List ℕ) × Contains visited (take k c, w)
  pub followed : (c u v : List ℕ) (k : ℕ) → Contains visited (c, u) → IsChainBefore (c ++ k ∷ []) cursor → star_target_at statements u k ≡ Some v
      → IsVisitedUpTo visited v (c ++ k ∷ [])
  pub ordered : AllPairs VisitsInOrder visited

-- equal chains visited the same module
pub visited_by_one : (statements : StarTargets) (start cursor : List ℕ) (visited : List Visit) → OccursAt statements start cursor visited → (c d u v : List ℕ)
    → Contains visited (c, u) → Contains visited (d, v) → c ≡ d → u ≡ v
visited_by_one statements start cursor visited occurs c d u v cu dv same =
    same_Some u v (sym (occurs.are_chains c u cu).ends_at ∙ (ap (chain_end_module statements start) same ∙ (occurs.are_chains d v dv).ends_at))

-- a walk with the same visits may go on to a later cursor, if all statements between were followed
pub moved_on : (statements : StarTargets) (start cursor next : List ℕ) (visited : List Visit) → OccursAt statements start cursor visited
    → IsChainBefore cursor next
    → ((c u v : List ℕ) (k : ℕ) → Contains visited (c, u) → IsChainBefore (c ++ k ∷ []) next → star_target_at statements u k ≡ Some v
    → IsVisitedUpTo visited v (c ++ k ∷ [])) → OccursAt statements start next visited
moved_on statements start cursor next visited occurs later followed = record {
  begun = occurs.begun;
  before = λ c u cu. before_then_before c cursor next (occurs.before c u cu) later;
  are_chains = occurs.are_chains;
  visited_once = occurs.visited_once;
  along = occurs.along;
  followed = followed;
  ordered = occurs.ordered;
}

pub next_is_later : (q : List ℕ) (i : ℕ) → IsChainBefore (q ++ i ∷ []) (q ++ (i + 1) ∷ [])
next_is_later q i = before_after q (i ∷ []) ((i + 1) ∷ []) (inl (omega arith))

-- after an unresolved statement, or one of a visited module, the next statement follows
pub occurs_next : (statements : StarTargets) (start q u : List ℕ) (i : ℕ) (visited : List Visit) → OccursAt statements start (q ++ i ∷ []) visited
    → Contains visited (q, u) → ((v : List ℕ) → star_target_at statements u i ≡ Some v → (d : List ℕ) × Contains visited (d, v))
    → OccursAt statements start (q ++ (i + 1) ∷ []) visited
occurs_next statements start q u i visited occurs here ends_at =
    moved_on statements start (q ++ i ∷ []) (q ++ (i + 1) ∷ []) visited occurs (next_is_later q i) followed
  where
    this_one : (c w v : List ℕ) (k : ℕ) → Contains visited (c, w) → c ≡ q → k ≡ i → star_target_at statements w k ≡ Some v
        → IsVisitedUpTo visited v (c ++ k ∷ [])
    this_one c w v k cw same at next =
        let to = ends_at v (rw (← visited_by_one statements start (q ++ i ∷ []) visited occurs c q w u cw here same, ← at) next) in
        let cursor : q ++ i ∷ [] ≡ c ++ k ∷ [] = cc in
        (to.0, to.1, inr (subst (IsChainBefore to.0) cursor (occurs.before to.0 v to.1)))

    followed : (c w v : List ℕ) (k : ℕ) → Contains visited (c, w) → IsChainBefore (c ++ k ∷ []) (q ++ (i + 1) ∷ []) → star_target_at statements w k ≡ Some v
        → IsVisitedUpTo visited v (c ++ k ∷ [])
    followed c w v k cw before next = elim (between_neighbours c q i k (occurs.before c w cw) before) [
      | inl earlier ↦ occurs.followed c w v k cw earlier next
      | inr equal ↦ this_one c w v k cw equal.0 equal.1 next
    ]

pub back_is_later : (q : List ℕ) (j i : ℕ) → IsChainBefore (q ++ j ∷ i ∷ []) (q ++ (j + 1) ∷ [])
back_is_later q j i = before_after q (j ∷ i ∷ []) ((j + 1) ∷ []) (inl (omega arith))

-- after the last statement of a module the walk goes on after the statement that was followed to it
pub occurs_back : (statements : StarTargets) (start q u : List ℕ) (j i : ℕ) (visited : List Visit) → OccursAt statements start ((q ++ j ∷ []) ++ i ∷ []) visited
    → Contains visited (q ++ j ∷ [], u) → ((k : ℕ) → i ≤ k → star_target_at statements u k ≡ None) → OccursAt statements start (q ++ (j + 1) ∷ []) visited
occurs_back statements start q u j i visited occurs here ended =
    moved_on statements start ((q ++ j ∷ []) ++ i ∷ []) (q ++ (j + 1) ∷ []) visited occurs (rw append_assoc (back_is_later q j i)) followed
  where
    none_left : (c w v : List ℕ) (k : ℕ) → Contains visited (c, w) → c ≡ q ++ j ∷ [] → i ≤ k → star_target_at statements w k ≡ Some v → ⊥
    none_left c w v k cw same from next =
        let there : star_target_at statements u k ≡ Some v =
        rw (← visited_by_one statements start ((q ++ j ∷ []) ++ i ∷ []) visited occurs c (q ++ j ∷ []) w u cw here same) next in
        let none : None ≡ Some v = sym (ended k from) ∙ there in
        cc

    followed : (c w v : List ℕ) (k : ℕ) → Contains visited (c, w) → IsChainBefore (c ++ k ∷ []) (q ++ (j + 1) ∷ []) → star_target_at statements w k ≡ Some v
        → IsVisitedUpTo visited v (c ++ k ∷ [])
    followed c w v k cw before next = elim (between_module_and_next c q j i k (rw append_assoc at (occurs.before c w cw)) before) [
      | inl earlier ↦ occurs.followed c w v k cw (rw append_assoc earlier) next
      | inr exported ↦ absurd (none_left c w v k cw exported.0 exported.1 next)
    ]

pub start_alone : (start c u : List ℕ) → Contains {X = Visit} (([], start) ∷ []) (c, u) → ([] ≡ c) × (start ≡ u)
start_alone start c u cu = go (Contains-push_cases [] ([], start) (c, u) cu)
  where
    go : Contains {X = Visit} [] (c, u) ⊎ ◌≡◌ {A = Visit} ([], start) (c, u) → ([] ≡ c) × (start ≡ u)
    go (inl unresolved_at) = absurd (omega (arith, unresolved_at.1))
    go (inr same) = (ap (λ x. x.0) same, ap (λ x. x.1) same)

pub not_before_first : (c : List ℕ) (k : ℕ) → IsChainBefore (c ++ k ∷ []) (c ++ 0 ∷ []) → ⊥
not_before_first [] k (inl less) = omega arith
not_before_first [] k (inr rest) = rest.1
not_before_first (i ∷ c) k (inl less) = omega arith
not_before_first (i ∷ c) k (inr rest) = not_before_first c k rest.1

-- at first only the start is visited, and its first statement follows
pub occurs_first : (statements : StarTargets) (start : List ℕ) → OccursAt statements start (0 ∷ []) (([], start) ∷ [])
occurs_first statements start = record {
  begun = Contains-push [] ([], start);
  before = λ c u cu. rw (← (start_alone start c u cu).0) tt;
  are_chains = λ c u cu. let same = start_alone start c u cu in rw (← same.0, ← same.1)
      (record { ends_at = refl; has_no_duplicates = λ j k j_in k_in e. omega arith });
  visited_once = λ c d u cu du. sym (start_alone start c u cu).0 ∙ (start_alone start d u du).0;
  along = λ c u cu k k_in. (start, rw (← (start_alone start c u cu).0) (rw (nothing_collected k) (Contains-push [] ([], start))));
  followed = λ c u v k cu before next. absurd (not_before_first [] k (rw (← (start_alone start c u cu).0) at before));
  ordered = λ i j d less within. absurd (omega (arith, less, within));
}
  where
    nothing_collected : (k : ℕ) → take {A = ℕ} k [] ≡ []
    nothing_collected zero = refl
    nothing_collected (suc k) = refl

pub entered_is_later : (q : List ℕ) (i : ℕ) → IsChainBefore (q ++ i ∷ []) ((q ++ i ∷ []) ++ 0 ∷ [])
entered_is_later q i = rw append_assoc (before_after q (i ∷ []) (i ∷ 0 ∷ []) (inr (refl, tt)))

pub entered_before_next : (q : List ℕ) (i : ℕ) → IsChainBefore ((q ++ i ∷ []) ++ 0 ∷ []) (q ++ (i + 1) ∷ [])
entered_before_next q i = rw append_assoc (before_after q (i ∷ 0 ∷ []) ((i + 1) ∷ []) (inl (omega arith)))

-- a prefix of a chain with one more index: one of the chain itself, or all of it
abbrev IsPart : List ℕ → ℕ → ℕ → Type 0
IsPart q i k = ((k ≤ length q) × (take k (q ++ i ∷ []) ≡ take k q)) ⊎ ((k ≡ length (q ++ i ∷ [])) × (take k (q ++ i ∷ []) ≡ q ++ i ∷ []))

part_of : (q : List ℕ) (i k : ℕ) → k ≤ length (q ++ i ∷ []) → IsPart q i k
part_of q i k within = go (shorter_or_all k (length q) (omega (arith, within, length_push q i)))
  where
    shorter_or_all : (a b : ℕ) → a ≤ b + 1 → (a ≤ b) ⊎ (a ≡ b + 1)
    shorter_or_all a b le = grind arith

    go : (k ≤ length q) ⊎ (k ≡ length q + 1) → IsPart q i k
    go (inl le) = inl (le, take-append-le k q (i ∷ []) le)
    go (inr equal) = inr (omega (arith, equal, length_push q i), take_all k (q ++ i ∷ []) (omega (arith, equal, length_push q i)))

-- a statement of a module that wasn't visited: the walk visits it, and goes on at its first statement
module _ (statements : StarTargets) (start q u v : List ℕ) (i : ℕ) (visited : List Visit) (occurs : OccursAt statements start (q ++ i ∷ [])
    visited) (here : Contains visited (q, u)) (ends_at : star_target_at statements u i ≡ Some v) (fresh : (d : List ℕ) → Contains visited (d, v) → ⊥) where
  abbrev pub more : List Visit
  more = visited ++ (q ++ i ∷ [], v) ∷ []

  was_or_is : (c w : List ℕ) → Contains more (c, w) → Contains visited (c, w) ⊎ ((q ++ i ∷ [] ≡ c) × (v ≡ w))
  was_or_is c w cw = elim (Contains-push_cases visited (q ++ i ∷ [], v) (c, w) cw) [
    | inl was ↦ inl was
    | inr is ↦ inr (ap (λ x. x.0) is, ap (λ x. x.1) is)
  ]

  still : (c w : List ℕ) → Contains visited (c, w) → Contains more (c, w)
  still c w cw = Contains-append_left visited ((q ++ i ∷ [], v) ∷ []) (c, w) cw

  entered : Contains more (q ++ i ∷ [], v)
  entered = Contains-push visited (q ++ i ∷ [], v)

  it_ends : chain_end_module statements start (q ++ i ∷ []) ≡ Some v
  it_ends = goes_further statements start u v q i (occurs.are_chains q u here).ends_at ends_at

  -- no prefix of the chain here ends at the entered module
  comes_by_no : (k : ℕ) → k ≤ length q → chain_end_module statements start (take k q) ≡ Some v → ⊥
  comes_by_no k within same =
      let w = occurs.along q u here k within in
      let equal : w.0 ≡ v = same_Some w.0 v (sym (occurs.are_chains (take k q) w.0 w.1).ends_at ∙ same) in
      fresh (take k q) (subst (λ x. Contains visited (take k q, x)) equal w.1)

  it_comes_once : (j k : ℕ) → j ≤ length (q ++ i ∷ []) → k ≤ length (q ++ i ∷ [])
      → chain_end_module statements start (take j (q ++ i ∷ [])) ≡ chain_end_module statements start (take k (q ++ i ∷ [])) → j ≡ k
  it_comes_once j k j_in k_in same = by_parts (part_of q i j j_in) (part_of q i k k_in)
    where
      by_parts : IsPart q i j → IsPart q i k → j ≡ k
      by_parts (inl a) (inl b) = (occurs.are_chains q u here).has_no_duplicates j k a.0 b.0 (rw (a.1, b.1) at same)
      by_parts (inl a) (inr b) = absurd (comes_by_no j a.0 (rw (a.1, b.1) at same ∙ it_ends))
      by_parts (inr a) (inl b) = absurd (comes_by_no k b.0 (sym (rw (a.1, b.1) at same) ∙ it_ends))
      by_parts (inr a) (inr b) = a.0 ∙ sym b.0

  before_entered : (c w : List ℕ) → Contains more (c, w) → IsChainBefore c ((q ++ i ∷ []) ++ 0 ∷ [])
  before_entered c w cw = elim (was_or_is c w cw) [
    | inl was ↦ before_then_before c (q ++ i ∷ []) ((q ++ i ∷ []) ++ 0 ∷ []) (occurs.before c w was) (entered_is_later q i)
    | inr is ↦ subst (λ x. IsChainBefore x ((q ++ i ∷ []) ++ 0 ∷ [])) is.0 (entered_is_later q i)
  ]

  are_chains_entered : (c w : List ℕ) → Contains more (c, w) → IsSimpleChain statements start c w
  are_chains_entered c w cw = elim (was_or_is c w cw) [
    | inl was ↦ occurs.are_chains c w was
    | inr is ↦ subst (IsSimpleChain statements start c) is.1 (subst (λ x. IsSimpleChain statements start x v) is.0
        (record { ends_at = it_ends; has_no_duplicates = it_comes_once }))
  ]

  visited_once_entered : (c d w : List ℕ) → Contains more (c, w) → Contains more (d, w) → c ≡ d
  visited_once_entered c d w cw dw = by_both (was_or_is c w cw) (was_or_is d w dw)
    where
      by_both : Contains visited (c, w) ⊎ ((q ++ i ∷ [] ≡ c) × (v ≡ w)) → Contains visited (d, w) ⊎ ((q ++ i ∷ [] ≡ d) × (v ≡ w)) → c ≡ d
      by_both (inl was_c) (inl was_d) = occurs.visited_once c d w was_c was_d
      by_both (inl was_c) (inr is_d) = absurd (fresh c (subst (λ x. Contains visited (c, x)) (sym is_d.1) was_c))
      by_both (inr is_c) (inl was_d) = absurd (fresh d (subst (λ x. Contains visited (d, x)) (sym is_c.1) was_d))
      by_both (inr is_c) (inr is_d) = sym is_c.0 ∙ is_d.0

  along_entered : (c w : List ℕ) → Contains more (c, w) → (k : ℕ) → k ≤ length c → (x : List ℕ) × Contains more (take k c, x)
  along_entered c w cw k within = by_case (was_or_is c w cw)
    where
      on_this : k ≤ length (q ++ i ∷ []) → (x : List ℕ) × Contains more (take k (q ++ i ∷ []), x)
      on_this le = elim (part_of q i k le) [
        | inl part ↦ let x = occurs.along q u here k part.0 in (x.0, subst (λ y. Contains more (y, x.0)) (sym part.1) (still (take k q) x.0 x.1))
        | inr all ↦ (v, subst (λ y. Contains more (y, v)) (sym all.1) entered)
      ]

      by_case : Contains visited (c, w) ⊎ ((q ++ i ∷ [] ≡ c) × (v ≡ w)) → (x : List ℕ) × Contains more (take k c, x)
      by_case (inl was) = let x = occurs.along c w was k within in (x.0, still (take k c) x.0 x.1)
      by_case (inr is) = subst (λ d. (x : List ℕ) × Contains more (take k d, x)) is.0 (on_this (subst (λ d. k ≤ length d) (sym is.0) within))

  followed_entered : (c w x : List ℕ) (k : ℕ) → Contains more (c, w) → IsChainBefore (c ++ k ∷ []) ((q ++ i ∷ []) ++ 0 ∷ [])
      → star_target_at statements w k ≡ Some x → IsVisitedUpTo more x (c ++ k ∷ [])
  followed_entered c w x k cw before next = by_case (was_or_is c w cw)
    where
      this_one : Contains visited (c, w) → c ≡ q → k ≡ i → IsVisitedUpTo more x (c ++ k ∷ [])
      this_one was same at =
          let to : v ≡ x = same_Some v x (sym ends_at ∙ rw (visited_by_one statements start (q ++ i ∷ []) visited occurs c q w u was here same, at) at next) in
          let cursor : q ++ i ∷ [] ≡ c ++ k ∷ [] = cc in
          (q ++ i ∷ [], subst (λ y. Contains more (q ++ i ∷ [], y)) to entered, inl cursor)

      by_case : Contains visited (c, w) ⊎ ((q ++ i ∷ [] ≡ c) × (v ≡ w)) → IsVisitedUpTo more x (c ++ k ∷ [])
      by_case (inl was) = elim (between_neighbours c q i k (occurs.before c w was)
          (before_then_before (c ++ k ∷ []) ((q ++ i ∷ []) ++ 0 ∷ []) (q ++ (i + 1) ∷ []) before (entered_before_next q i))) [
            | inl earlier ↦ let by = occurs.followed c w x k was earlier next in (by.0, still by.0 x by.1, by.2)
            | inr equal ↦ this_one was equal.0 equal.1
          ]
      by_case (inr is) = absurd (not_before_first (q ++ i ∷ []) k (subst (λ d. IsChainBefore (d ++ k ∷ []) ((q ++ i ∷ []) ++ 0 ∷ [])) (sym is.0) before))

  pub occurs_entered : OccursAt statements start ((q ++ i ∷ []) ++ 0 ∷ []) more
  occurs_entered = record {
    begun = still [] start occurs.begun;
    before = before_entered;
    are_chains = are_chains_entered;
    visited_once = visited_once_entered;
    along = along_entered;
    followed = followed_entered;
    ordered = all_pairs_push VisitsInOrder visited (q ++ i ∷ [], v) occurs.ordered
        (λ k d lt. occurs.before (get_or visited k d).0 (get_or visited k d).1 (Contains-get_or visited k d lt));
  }
