-- The modules and statements up to a chain if a walk stops at that chain, and all of them if it comes to its end.
use Rattle.std.proofs.Common.{ℕ, ◌≤◌, inl, inr, List, [], ◌∷◌, ◌++◌, length, None, Some, refl, arith}
use Rattle.std.specs.Prelude.{Contains}
use Rattle.symbols_exports.specs.Chains.{StarTargets, IsChainBefore, IsChainBeforeOrEqual, AreReachedByStars}
use Rattle.symbols_exports.specs.Exports.{StarPosition}
use Rattle.symbols_exports.specs.OneName.{AreReachedUpToChain, IsStarLookedUp, AreStarsLookedUp}
use Rattle.symbols_exports.proofs.LeastChainsVisited.{visited_are_least}
use Rattle.symbols_exports.proofs.UnresolvedSoFar.{IsThere, AreSelected, retained_in_order, last_before}
use Rattle.symbols_exports.proofs.ChainOrder.{before_then_before, up_to_then_before}
use Rattle.symbols_exports.proofs.Cursors.{Visit, OccursAt}

-- a chain comes before its continuation
pub before_more : (q : List ℕ) (k : ℕ) → IsChainBefore q (q ++ k ∷ [])
before_more [] k = tt
before_more (j ∷ q) k = inr (refl, before_more q k)

-- a chain before the first statement after a chain isn't after that chain
pub up_to_first : (x q : List ℕ) → IsChainBefore x (q ++ 0 ∷ []) → IsChainBeforeOrEqual x q
up_to_first [] [] before = inl refl
up_to_first [] (j ∷ q) before = inr tt
up_to_first (i ∷ x) [] (inl less) = absurd (omega (arith, less))
up_to_first (i ∷ x) [] (inr rest) = absurd rest.1
up_to_first (i ∷ x) (j ∷ q) (inl less) = inr (inl less)
up_to_first (i ∷ x) (j ∷ q) (inr rest) = on (up_to_first x q rest.1)
  where
    on : IsChainBeforeOrEqual x q → IsChainBeforeOrEqual (i ∷ x) (j ∷ q)
    on (inl same) = inl (λ k. rest.0 k ∷ same k)
    on (inr before) = inr (inr (rest.0, before))

pub before_first : (x q : List ℕ) → IsChainBeforeOrEqual x q → IsChainBefore x (q ++ 0 ∷ [])
before_first x q up_to = up_to_then_before x q (q ++ 0 ∷ []) up_to (before_more q 0)

-- before the first statement of a module that was visited by the chain
module _ (statements : StarTargets) (start q : List ℕ) (visited : List Visit) (occurs : OccursAt statements start (q ++ 0 ∷ []) visited) where
  pub reached_up_to : AreReachedUpToChain statements start (Some q) visited
  reached_up_to = record {
    all = λ c u. (
      λ cu. let least = (visited_are_least statements start (q ++ 0 ∷ []) visited occurs c u).0 cu in (least.0, up_to_first c q least.1),
      λ least. (visited_are_least statements start (q ++ 0 ∷ []) visited occurs c u).1 (least.0, before_first c q least.1),
    );
    ordered = occurs.ordered;
  }

  pub looked_up_up_to : (retained : List StarPosition) → AreSelected (IsThere statements) (q ++ 0 ∷ []) visited retained
      → AreStarsLookedUp statements start (Some q) retained
  looked_up_up_to retained they = record {
    all = λ at. (is_looked_up at, is_retained at);
    ordered = retained_in_order (IsThere statements) statements start (q ++ 0 ∷ []) visited retained occurs they.ordered;
  }
    where
      is_looked_up : (at : StarPosition) → Contains retained at → IsStarLookedUp statements start (Some q) at
      is_looked_up at has =
          let by = they.following at.0 at.1 has in (
            by.0,
            ((visited_are_least statements start (q ++ 0 ∷ []) visited occurs by.0 at.0).0 by.1).0,
            they.are at.0 at.1 has,
            up_to_first (by.0 ++ at.1 ∷ []) q by.2,
          )

      is_retained : (at : StarPosition) → IsStarLookedUp statements start (Some q) at → Contains retained at
      is_retained at lookups =
          let before = before_first (lookups.0 ++ at.1 ∷ []) q lookups.3 in
          let visited_by = (visited_are_least statements start (q ++ 0 ∷ []) visited occurs lookups.0 at.0).1
          (lookups.1, before_then_before lookups.0 (lookups.0 ++ at.1 ∷ []) (q ++ 0 ∷ []) (before_more lookups.0 at.1) before) in
          they.all lookups.0 at.0 at.1 visited_by before lookups.2

-- after the last statement of the start
pub reached_all : (statements : StarTargets) (start : List ℕ) (visited : List Visit) → AreReachedByStars statements start visited
    → AreReachedUpToChain statements start None visited
reached_all statements start visited reached = record {
  all = λ c u. (λ cu. ((reached.all c u).0 cu, tt), λ least. (reached.all c u).1 least.0);
  ordered = reached.ordered;
}

pub looked_up_all : (statements : StarTargets) (start : List ℕ) (i : ℕ) (visited : List Visit) (retained : List StarPosition)
    → AreReachedByStars statements start visited
    → OccursAt statements start (i ∷ []) visited → length (statements start) ≤ i → AreSelected (IsThere statements) (i ∷ []) visited retained
    → AreStarsLookedUp statements start None retained
looked_up_all statements start i visited retained reached occurs ended they = record {
  all = λ at. (is_looked_up at, is_retained at);
  ordered = retained_in_order (IsThere statements) statements start (i ∷ []) visited retained occurs they.ordered;
}
  where
    is_looked_up : (at : StarPosition) → Contains retained at → IsStarLookedUp statements start None at
    is_looked_up at has = let by = they.following at.0 at.1 has in (by.0, (reached.all by.0 at.0).0 by.1, they.are at.0 at.1 has, tt)

    is_retained : (at : StarPosition) → IsStarLookedUp statements start None at → Contains retained at
    is_retained at lookups =
        let visited_by = (reached.all lookups.0 at.0).1 lookups.1 in
        they.all lookups.0 at.0 at.1 visited_by
        (last_before (IsThere statements) statements start i visited occurs ended lookups.0 at.0 at.1 visited_by lookups.2) lookups.2
