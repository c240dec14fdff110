-- The statements before the cursor of a walk in chain order: all of them, or the unresolved ones.
use Rattle.std.proofs.Common.{◌≡◌, ℕ, ◌+◌, ◌<◌, ◌≤◌, ◌⊎◌, inl, inr, List, [], ◌∷◌, ◌++◌, length, get_or, None, refl, sym, ap, subst, arith, append_assoc}
use Rattle.std.specs.Prelude.{Contains, AllPairs}
use Rattle.std.proofs.lemmas.List.Elements.{Contains-push, Contains-push_cases, Contains-append_left, Contains-get_or}
use Rattle.std.proofs.lemmas.List.Quantifiers.{all_pairs_push}
use Rattle.symbols_exports.specs.Chains.{StarTargets, star_target_at, IsChainBefore, IsLeastChain, AreReachedByStars}
use Rattle.symbols_exports.specs.Exports.{StarPosition, IsUnresolvedStar, IsStarStatementBefore, AreUnresolvedStars}
use Rattle.symbols_exports.proofs.LeastChainsVisited.{visited_are_least, least_is_one}
use Rattle.symbols_exports.proofs.ChainOrder.{before_then_before, between_neighbours, between_module_and_next}
use Rattle.symbols_exports.proofs.Cursors.{Visit, OccursAt, visited_by_one, start_alone, not_before_first}
use Rattle.symbols_exports.proofs.Cursors.{next_is_later, back_is_later, entered_is_later, entered_before_next}

-- the statements of a module that are selected: all, or the unresolved ones
abbrev pub Selection : Type 1
Selection = List ℕ → ℕ → Type 0

abbrev pub IsThere : StarTargets → Selection
IsThere statements u k = k < length (statements u)

abbrev pub IsUnresolvedAt : StarTargets → Selection
IsUnresolvedAt statements u k = (k < length (statements u)) × (star_target_at statements u k ≡ None)

-- the statement is one of a visited module, and before the cursor
abbrev pub IsAfter : List ℕ → List Visit → List ℕ → ℕ → Type 0
IsAfter cursor visited u k = (c : List ℕ) × Contains visited (c, u) × IsChainBefore (c ++ k ∷ []) cursor

-- in the order of chains by which their modules were visited
abbrev pub MissedInOrder : List Visit → StarPosition → StarPosition → Type 0
MissedInOrder visited x y = (c : List ℕ) × (d : List ℕ) × Contains visited (c, x.0) × Contains visited (d, y.0) × IsChainBefore (c ++ x.1 ∷ []) (d ++ y.1 ∷ [])

pub record AreSelected (Selects : Selection) (cursor : List ℕ) (visited : List Visit) (retained : List StarPosition) : Type 0 where
  pub following : (u : List ℕ) (k : ℕ) → Contains retained (u, k) → IsAfter cursor visited u k
  pub are : (u : List ℕ) (k : ℕ) → Contains retained (u, k) → Selects u k
  pub all : (c u : List ℕ) (k : ℕ) → Contains visited (c, u) → IsChainBefore (c ++ k ∷ []) cursor → Selects u k → Contains retained (u, k)
  pub ordered : AllPairs (MissedInOrder visited) retained

pub retained_none : (Selects : Selection) (start : List ℕ) → AreSelected Selects (0 ∷ []) (([], start) ∷ []) []
retained_none Selects start = record {
  following = λ u k at. absurd (omega (arith, at.1));
  are = λ u k at. absurd (omega (arith, at.1));
  all = λ c u k cu before retain. absurd (not_before_first [] k (subst (λ d. IsChainBefore (d ++ k ∷ []) (0 ∷ [])) (sym (start_alone start c u cu).0) before));
  ordered = λ i j d less within. absurd (omega (arith, less, within));
}

-- at a later cursor, if no other statement between is selected
retained_on : (Selects : Selection) (cursor next : List ℕ) (visited : List Visit) (retained : List StarPosition) → AreSelected Selects cursor visited retained
    → IsChainBefore cursor next → ((c u : List ℕ) (k : ℕ) → Contains visited (c, u) → IsChainBefore (c ++ k ∷ []) next → Selects u k → Contains retained (u, k))
    → AreSelected Selects next visited retained
retained_on Selects cursor next visited retained they later all = record {
  following = λ u k at. let by = they.following u k at in (by.0, by.1, before_then_before (by.0 ++ k ∷ []) cursor next by.2 later);
  are = they.are;
  all = all;
  ordered = they.ordered;
}

module _ (Selects : Selection) (statements : StarTargets) (start : List ℕ) where
  -- after the last statement of a module
  pub retained_back : ((u : List ℕ) (k : ℕ) → Selects u k → k < length (statements u)) → (q u : List ℕ) (j i : ℕ) (visited : List Visit) (retained : List
      StarPosition) → OccursAt statements start ((q ++ j ∷ []) ++ i ∷ []) visited → Contains visited (q ++ j ∷ [], u) → length (statements u) ≤ i
      → AreSelected Selects ((q ++ j ∷ []) ++ i ∷ []) visited retained → AreSelected Selects (q ++ (j + 1) ∷ []) visited retained
  retained_back there q u j i visited retained occurs here ended they =
      retained_on Selects ((q ++ j ∷ []) ++ i ∷ []) (q ++ (j + 1) ∷ []) visited retained they (rw append_assoc (back_is_later q j i)) all
    where
      all : (c w : List ℕ) (k : ℕ) → Contains visited (c, w) → IsChainBefore (c ++ k ∷ []) (q ++ (j + 1) ∷ []) → Selects w k → Contains retained (w, k)
      all c w k cw before retain = elim (between_module_and_next c q j i k (rw append_assoc at (occurs.before c w cw)) before) [
        | inl earlier ↦ they.all c w k cw (rw append_assoc earlier) retain
        | inr exported ↦
            let same : w ≡ u = visited_by_one statements start ((q ++ j ∷ []) ++ i ∷ []) visited occurs c (q ++ j ∷ []) w u cw here exported.0 in
            let within : k < length (statements u) = rw (← same) (there w k retain) in
            absurd (omega (arith, within, ended, exported.1))
      ]

  -- at a statement of a visited module
  module _ (q u : List ℕ) (i : ℕ) (visited : List Visit) (retained : List StarPosition) (occurs : OccursAt statements start (q ++ i ∷ []) visited)
      (here : Contains
      visited (q, u)) (they : AreSelected Selects (q ++ i ∷ []) visited retained) where
    -- before the next statement there are those retained before, and this one
    before_or_this : (c w : List ℕ) (k : ℕ) → Contains visited (c, w) → IsChainBefore (c ++ k ∷ []) (q ++ (i + 1) ∷ []) → Selects w k
        → Contains retained (w, k) ⊎ ((u ≡ w) × (i ≡ k))
    before_or_this c w k cw before retain = elim (between_neighbours c q i k (occurs.before c w cw) before) [
      | inl earlier ↦ inl (they.all c w k cw earlier retain)
      | inr equal ↦ inr (sym (visited_by_one statements start (q ++ i ∷ []) visited occurs c q w u cw here equal.0), sym equal.1)
    ]

    -- it isn't selected, and the walk stays in the module
    pub retained_next : (Selects u i → ⊥) → AreSelected Selects (q ++ (i + 1) ∷ []) visited retained
    retained_next isnt = retained_on Selects (q ++ i ∷ []) (q ++ (i + 1) ∷ []) visited retained they (next_is_later q i) all
      where
        all : (c w : List ℕ) (k : ℕ) → Contains visited (c, w) → IsChainBefore (c ++ k ∷ []) (q ++ (i + 1) ∷ []) → Selects w k → Contains retained (w, k)
        all c w k cw before retain = elim (before_or_this c w k cw before retain) [
          | inl was ↦ was
          | inr this ↦ absurd (isnt (rw (this.0, this.1) retain))
        ]

    -- it is selected
    pub retained_added : Selects u i → AreSelected Selects (q ++ (i + 1) ∷ []) visited (retained ++ (u, i) ∷ [])
    retained_added this = record {
      following = λ w k at. following w k (Contains-push_cases retained (u, i) (w, k) at);
      are = λ w k at. are w k (Contains-push_cases retained (u, i) (w, k) at);
      all = λ c w k cw before retain. all w k (before_or_this c w k cw before retain);
      ordered = all_pairs_push (MissedInOrder visited) retained (u, i) they.ordered in_order;
    }
      where
        following : (w : List ℕ) (k : ℕ) → Contains retained (w, k) ⊎ ◌≡◌ {A = StarPosition} (u, i) (w, k) → IsAfter (q ++ (i + 1) ∷ []) visited w k
        following w k (inl was) = let by = they.following w k was in
            (by.0, by.1, before_then_before (by.0 ++ k ∷ []) (q ++ i ∷ []) (q ++ (i + 1) ∷ []) by.2 (next_is_later q i))
        following w k (inr same) = subst (λ (x : StarPosition). IsAfter (q ++ (i + 1) ∷ []) visited x.0 x.1) same (q, here, next_is_later q i)

        are : (w : List ℕ) (k : ℕ) → Contains retained (w, k) ⊎ ◌≡◌ {A = StarPosition} (u, i) (w, k) → Selects w k
        are w k (inl was) = they.are w k was
        are w k (inr same) = subst (λ (x : StarPosition). Selects x.0 x.1) same this

        all : (w : List ℕ) (k : ℕ) → Contains retained (w, k) ⊎ ((u ≡ w) × (i ≡ k)) → Contains (retained ++ (u, i) ∷ []) (w, k)
        all w k (inl was) = Contains-append_left retained ((u, i) ∷ []) (w, k) was
        all w k (inr same) = rw (← same.0, ← same.1) (Contains-push retained (u, i))

        in_order : (n : ℕ) (d : StarPosition) → n < length retained → MissedInOrder visited (get_or retained n d) (u, i)
        in_order n d within =
            let x = get_or retained n d in
            let by = they.following x.0 x.1 (Contains-get_or retained n d within) in
            (by.0, q, by.1, here, by.2)

    -- before the first statement of a module that is visited by this statement, which was added or isn't selected
    pub retained_entered : (v : List ℕ) (more : List StarPosition) → AreSelected Selects (q ++ (i + 1) ∷ []) visited more
        → AreSelected Selects ((q ++ i ∷ []) ++ 0 ∷ []) (visited ++ (q ++ i ∷ [], v) ∷ []) more
    retained_entered v more then = record {
      following = λ w k at. let by = then.following w k at in
          (by.0, Contains-append_left visited ((q ++ i ∷ [], v) ∷ []) (by.0, w) by.1, up_to_here by.0 k by.1 by.2);
      are = then.are;
      all = λ c w k cw before retain. all c w k before retain (Contains-push_cases visited (q ++ i ∷ [], v) (c, w) cw);
      ordered = λ n m d less within. grown (then.ordered n m d less within);
    }
      where
        up_to_here : (c : List ℕ) (k : ℕ) {w : List ℕ} → Contains visited (c, w) → IsChainBefore (c ++ k ∷ []) (q ++ (i + 1) ∷ [])
            → IsChainBefore (c ++ k ∷ []) ((q ++ i ∷ []) ++ 0 ∷ [])
        up_to_here c k {w} cw before = elim (between_neighbours c q i k (occurs.before c w cw) before) [
          | inl earlier ↦ before_then_before (c ++ k ∷ []) (q ++ i ∷ []) ((q ++ i ∷ []) ++ 0 ∷ []) earlier (entered_is_later q i)
          | inr equal ↦ rw (equal.0, equal.1) (entered_is_later q i)
        ]

        grown : {x y : StarPosition} → MissedInOrder visited x y → MissedInOrder (visited ++ (q ++ i ∷ [], v) ∷ []) x y
        grown {x} {y} by = (
          by.0,
          by.1,
          Contains-append_left visited ((q ++ i ∷ [], v) ∷ []) (by.0, x.0) by.2,
          Contains-append_left visited ((q ++ i ∷ [], v) ∷ []) (by.1, y.0) by.3,
          by.4,
        )

        all : (c w : List ℕ) (k : ℕ) → IsChainBefore (c ++ k ∷ []) ((q ++ i ∷ []) ++ 0 ∷ []) → Selects w k
            → Contains visited (c, w) ⊎ ◌≡◌ {A = Visit} (q ++ i ∷ [], v) (c, w) → Contains more (w, k)
        all c w k before retain (inl was) =
            then.all c w k was (before_then_before (c ++ k ∷ []) ((q ++ i ∷ []) ++ 0 ∷ []) (q ++ (i + 1) ∷ []) before (entered_before_next q i)) retain
        all c w k before retain (inr is) =
            absurd (not_before_first (q ++ i ∷ []) k (subst (λ d. IsChainBefore (d ++ k ∷ []) ((q ++ i ∷ []) ++ 0 ∷ [])) (sym (ap (λ x. x.0) is)) before))

  -- in chain order by the least chains
  pub retained_in_order : (cursor : List ℕ) (visited : List Visit) (retained : List StarPosition) → OccursAt statements start cursor visited
      → AllPairs (MissedInOrder visited) retained → AllPairs (IsStarStatementBefore statements start) retained
  retained_in_order cursor visited retained occurs ordered =
      λ n m d less within. in_order (get_or retained n d) (get_or retained m d) (ordered n m d less within)
    where
      in_order : (x y : StarPosition) → MissedInOrder visited x y → IsStarStatementBefore statements start x y
      in_order x y by c d least_x least_y = subst (λ e. IsChainBefore (e ++ x.1 ∷ []) (d ++ y.1 ∷ [])) (same_chain c by.0 x.0 least_x by.2)
          (subst (λ e. IsChainBefore (by.0 ++ x.1 ∷ []) (e ++ y.1 ∷ [])) (same_chain d by.1 y.0 least_y by.3) by.4)
        where
          same_chain : (c e u : List ℕ) → IsLeastChain statements start c u → Contains visited (e, u) → e ≡ c
          same_chain c e u least eu = least_is_one statements start e c u ((visited_are_least statements start cursor visited occurs e u).0 eu).0 least

  -- after the last statement of the start, each statement of a reachable module comes before the cursor
  pub last_before : (i : ℕ) (visited : List Visit) → OccursAt statements start (i ∷ []) visited → length (statements start) ≤ i → (c u : List ℕ) (k : ℕ)
      → Contains visited (c, u) → k < length (statements u) → IsChainBefore (c ++ k ∷ []) (i ∷ [])
  last_before i visited occurs ended [] u k cu within =
      let same : u ≡ start = visited_by_one statements start (i ∷ []) visited occurs [] [] u start cu occurs.begun refl in
      let short : k < length (statements start) = rw (← same) within in
      inl (omega (arith, short, ended))
  last_before i visited occurs ended (j ∷ c) u k cu within = first_decides (occurs.before (j ∷ c) u cu)
    where
      first_decides : (j < i) ⊎ ((j ≡ i) × IsChainBefore c []) → (j < i) ⊎ ((j ≡ i) × IsChainBefore (c ++ k ∷ []) [])
      first_decides (inl less) = inl less
      first_decides (inr rest) = absurd rest.1

-- so the unresolved ones among them are the unresolved statements
pub are_unresolved : (statements : StarTargets) (start : List ℕ) (i : ℕ) (visited : List Visit) (unresolved : List StarPosition)
    → AreReachedByStars statements start visited → OccursAt statements start (i ∷ []) visited → length (statements start) ≤ i
    → AreSelected (IsUnresolvedAt statements) (i ∷ []) visited unresolved → AreUnresolvedStars statements start unresolved
are_unresolved statements start i visited unresolved reached occurs ended they = record {
  all = λ at. (is_unresolved at, is_missed at);
  ordered = retained_in_order (IsUnresolvedAt statements) statements start (i ∷ []) visited unresolved occurs they.ordered;
}
  where
    is_unresolved : (at : StarPosition) → Contains unresolved at → IsUnresolvedStar statements start at
    is_unresolved at has =
        let by = they.following at.0 at.1 has in
        let none = they.are at.0 at.1 has in
        ((by.0, occurs.are_chains by.0 at.0 by.1), none.0, none.1)

    is_missed : (at : StarPosition) → IsUnresolvedStar statements start at → Contains unresolved at
    is_missed at none =
        let by = reached.reached at.0 none.0 in
        they.all by.0 at.0 at.1 by.1 (last_before (IsUnresolvedAt statements) statements start i visited occurs ended by.0 at.0 at.1 by.1 none.1)
        (none.1, none.2)
