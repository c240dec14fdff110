-- The order of a tree's faults, position by position.
use Rattle.std.proofs.Common.{◌≡◌, ℕ, zero, suc, ◌+◌, ◌*◌, ◌^◌, ◌<◌, ◌≤◌, List, length, true, subst, arith}
use Rattle.std.proofs.lemmas.Option.{slice_get_within}
use Rattle.symbols_ast.specs.declared.tree.arena.Node.{Node}
use Rattle.symbols_ast.specs.declared.graph.faults.TreeFault.TheVariants.{NoProgram, TooManyNodes, BadChild, SharedChild, BadRange, BadShape, TooDeep}
use Rattle.symbols_ast.specs.Shapes.{has_misplaced_child_or_breaks_rule}
use Rattle.symbols_ast.specs.TreeFaults.{begins_with_program, HasBadChild, HasSharedChild, HasBadRange, IsTooDeep, HasNoTreeFaultBelowRank, IsFaultlessTree}
use Rattle.symbols_graph.proofs.NodeLemmas.{inside_where_child, inside_where_bad_shape}

-- Node n has the fault of position k at a node.
abbrev pub IsFaultAt : List ℕ → List Node → ℕ → ℕ → Type 0
IsFaultAt text nodes n zero = HasBadChild nodes n
IsFaultAt text nodes n (suc zero) = HasSharedChild nodes n
IsFaultAt text nodes n (suc (suc zero)) = HasBadRange text nodes n
IsFaultAt text nodes n (suc (suc (suc zero))) = has_misplaced_child_or_breaks_rule nodes n ≡ true
IsFaultAt text nodes n (suc (suc (suc (suc _)))) = IsTooDeep nodes n

module _ (text : List ℕ) (nodes : List Node) where
  module _ (n k index : ℕ) (small : k ≤ 4) (at : index ≡ 5 * n + 2 + k) (before : HasNoTreeFaultBelowRank text nodes index) (fine : IsFaultAt text nodes n k
      → ⊥) where
    -- No other fault of a node has this position in the order.
    no_other : (m j : ℕ) → j ≤ 4 → 5 * m + 2 + j < index + 1 → IsFaultAt text nodes m j → (5 * m + 2 + j < index → ⊥) → ⊥
    no_other m j few low occurs later =
        let here : 5 * m + 2 + j ≡ index = omega (arith, later) in
        let same : m ≡ n = omega arith in
        let alike : j ≡ k = omega arith in
        fine (subst (λ x. IsFaultAt text nodes x k) same (subst (λ y. IsFaultAt text nodes m y) alike occurs))

    -- If the tree doesn't have the fault at a position, it has none before the next position.
    pub none_before_next : (next : ℕ) → next ≡ index + 1 → HasNoTreeFaultBelowRank text nodes next
    none_before_next next e NoProgram low h = before NoProgram (omega arith) h
    none_before_next next e TooManyNodes low h = before TooManyNodes (omega arith) h
    none_before_next next e (BadChild m) low h = no_other m 0 (omega arith) (omega arith) h (λ l. before (BadChild m) (omega arith) h)
    none_before_next next e (SharedChild m) low h = no_other m 1 (omega arith) (omega arith) h (λ l. before (SharedChild m) (omega arith) h)
    none_before_next next e (BadRange m) low h = no_other m 2 (omega arith) (omega arith) h (λ l. before (BadRange m) (omega arith) h)
    none_before_next next e (BadShape m) low h = no_other m 3 (omega arith) (omega arith) h (λ l. before (BadShape m) (omega arith) h)
    none_before_next next e (TooDeep m) low h = no_other m 4 (omega arith) (omega arith) h (λ l. before (TooDeep m) (omega arith) h)

  -- If the tree passes the first two tests, it has no fault before those of its nodes.
  pub none_before_nodes : begins_with_program nodes ≡ true → length nodes < 2 ^ 32 → HasNoTreeFaultBelowRank text nodes 2
  none_before_nodes program few NoProgram low h = cc
  none_before_nodes program few TooManyNodes low h = omega arith
  none_before_nodes program few (BadChild m) low h = absurd (omega arith)
  none_before_nodes program few (SharedChild m) low h = absurd (omega arith)
  none_before_nodes program few (BadRange m) low h = absurd (omega arith)
  none_before_nodes program few (BadShape m) low h = absurd (omega arith)
  none_before_nodes program few (TooDeep m) low h = absurd (omega arith)

  -- If there is no fault up to the last node, the tree is faultless.
  pub faultless : (n : ℕ) → length nodes ≤ n → length nodes < 2 ^ 32 → HasNoTreeFaultBelowRank text nodes (5 * n + 2) → IsFaultlessTree text nodes
  faultless n end few before NoProgram h = before NoProgram (omega arith) h
  faultless n end few before TooManyNodes h = omega arith
  faultless n end few before (BadChild m) h = before (BadChild m) (omega (arith, inside_where_child nodes m h.0 h.1)) h
  faultless n end few before (SharedChild m) h = before (SharedChild m) (omega (arith, inside_where_child nodes m h.0 h.1)) h
  faultless n end few before (BadRange m) h = before (BadRange m) (omega (arith, slice_get_within nodes m h.0 h.1)) h
  faultless n end few before (BadShape m) h = before (BadShape m) (omega (arith, inside_where_bad_shape nodes m h)) h
  faultless n end few before (TooDeep m) h = before (TooDeep m) (omega (arith, h.0)) h
