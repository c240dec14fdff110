-- The result of each test at a node decides whether the node has that fault.
use Rattle.std.proofs.Common.{◌≡◌, ℕ, ◌+◌, ◌*◌, ◌<◌, ◌≤◌, List, length, get_or, true, false, IsTrue, ◌↔◌, refl, ◌∙◌, subst, arith}
use Rattle.std.specs.List.{SomeIndex, All}
use Rattle.std.proofs.lemmas.List.Elements.{All-from_get_or}
use Rattle.std.proofs.lemmas.Option.{slice_get-get_or, get_or_from_slice_get}
use Rattle.symbols_ast.specs.declared.tree.arena.Node.{Node}
use Rattle.symbols_ast.specs.Nodes.{children}
use Rattle.symbols_ast.specs.Shapes.{has_misplaced_child_or_breaks_rule}
use Rattle.symbols_ast.specs.TreeFaults.{IsBadChild, HasBadChild, HasSharedChild, IsRangeInText, HasBadRange, IsTooDeep, HasNoTreeFaultBelowRank}
use Rattle.symbols_graph.specs.inner.Depths.{AreDepthsAfterCheckedNodes, IsSharedChildByDepths}
use Rattle.symbols_graph.proofs.DepthLemmas.{child_is_there, shared_child_occurs, occurs_as_shared, too_deep_is_over}
use Rattle.symbols_graph.proofs.FaultOrder.{none_before_next}

-- If the test is false, its condition doesn't hold.
pub denied : {P : Type 0} → IsTrue false ↔ P → P → ⊥
denied depth_of_each p = let e : false ≡ true = depth_of_each.1 p in cc

-- A node whose range fails the test has a bad range.
pub has_bad_range : (text : List ℕ) (nodes : List Node) (n : ℕ) (node : Node) → n < length nodes → IsTrue false ↔ IsRangeInText text (get_or nodes n node).range
    → HasBadRange text nodes n
has_bad_range text nodes n node room depth_of_each = (get_or nodes n node, slice_get-get_or nodes n node room, denied depth_of_each)

has_good_range : (text : List ℕ) (nodes : List Node) (n : ℕ) (node : Node) → IsTrue true ↔ IsRangeInText text (get_or nodes n node).range
    → HasBadRange text nodes n
    → ⊥
has_good_range text nodes n node depth_of_each (other, at, bad) =
    let IsGood : Node → Type 0 = λ x. IsRangeInText text x.range in
    bad (subst IsGood (get_or_from_slice_get nodes n other node at) (depth_of_each.0 refl))

module _ (text : List ℕ) (nodes : List Node) (n : ℕ) (clear : HasNoTreeFaultBelowRank text nodes (5 * n + 2)) (ids : List ℕ) (listed : ids ≡ children nodes n)
    (bad : IsTrue false ↔ SomeIndex ids (λ i. IsBadChild (length nodes) n (get_or ids i 0))) where
  -- If the test of children is false, the node has no bad child.
  pub no_bad_child : HasBadChild nodes n → ⊥
  no_bad_child = denied (rw listed at bad)

  pub children_inside : (count : ℕ) → count ≡ length nodes → All (λ id. id < count) ids
  children_inside count same = rw listed
      (All-from_get_or (λ id. id < count) (children nodes n) 0 (λ i below. omega (arith, child_is_there nodes n i no_bad_child below)))

  pub clear_of_bad : HasNoTreeFaultBelowRank text nodes (5 * n + 3)
  clear_of_bad = none_before_next text nodes n 0 (5 * n + 2) (omega arith) (omega arith) clear no_bad_child (5 * n + 3) (omega arith)

  module _ (depths : List ℕ) (deep : AreDepthsAfterCheckedNodes nodes n depths) (room : n < length nodes) where
    pub has_shared_child : IsTrue true ↔ SomeIndex ids (IsSharedChildByDepths depths ids) → HasSharedChild nodes n
    has_shared_child shared_already = shared_child_occurs text nodes n depths clear deep room no_bad_child ((rw listed at shared_already).0 refl)

    module _ (shared_already : IsTrue false ↔ SomeIndex ids (IsSharedChildByDepths depths ids)) where
      -- If the test of shared children is false, the node has no shared child.
      pub no_shared_child : HasSharedChild nodes n → ⊥
      no_shared_child shared = denied (rw listed at shared_already) (occurs_as_shared text nodes n depths clear deep room no_bad_child shared)

      pub clear_of_shared : HasNoTreeFaultBelowRank text nodes (5 * n + 4)
      clear_of_shared = none_before_next text nodes n 1 (5 * n + 3) (omega arith) (omega arith) clear_of_bad no_shared_child (5 * n + 4) (omega arith)

      module _ (node : Node) (good : IsTrue true ↔ IsRangeInText text (get_or nodes n node).range) where
        pub clear_of_range : HasNoTreeFaultBelowRank text nodes (5 * n + 5)
        clear_of_range = none_before_next text nodes n 2 (5 * n + 4) (omega arith) (omega arith) clear_of_shared (has_good_range text nodes n node good)
            (5 * n + 5) (omega arith)

        pub clear_of_shape : false ≡ has_misplaced_child_or_breaks_rule nodes n → HasNoTreeFaultBelowRank text nodes (5 * n + 6)
        clear_of_shape shape = none_before_next text nodes n 3 (5 * n + 5) (omega arith) (omega arith) clear_of_range (λ h. let e : false ≡ true = shape
            ∙ h in cc) (5 * n + 6) (omega arith)

        pub clear_of_all : false ≡ has_misplaced_child_or_breaks_rule nodes n → get_or depths n 0 ≤ 4096 → HasNoTreeFaultBelowRank text nodes (5 * (n + 1) + 2)
        clear_of_all shape low =
            let fine : IsTooDeep nodes n → ⊥ = λ h. omega (arith, too_deep_is_over text nodes n depths clear deep room h) in
            none_before_next text nodes n 4 (5 * n + 6) (omega arith) (omega arith) (clear_of_shape shape) fine (5 * (n + 1) + 2) (omega arith)
