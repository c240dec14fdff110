-- The depths that the check computes are those of the tree.
use Rattle.std.proofs.Common.{◌≡◌, ℕ, zero, suc, ◌+◌, ◌*◌, ◌<◌, ◌≤◌, inl, inr, List, length, get_or, sym, ◌∙◌, ap, arith}
use Rattle.std.specs.List.{Contains, SomeIndex}
use Rattle.std.proofs.lemmas.Bool.Decides.{eqb_tells}
use Rattle.std.proofs.lemmas.List.{get_or_default}
use Rattle.std.proofs.lemmas.List.Elements.{Contains-get_or}
use Rattle.symbols_ast.specs.declared.tree.arena.Node.{Node}
use Rattle.symbols_ast.specs.declared.graph.faults.TreeFault.TheVariants.{BadChild, SharedChild, TooDeep}
use Rattle.symbols_ast.specs.Nodes.{children, HasAtLeastAncestors, no_ancestor, one_more}
use Rattle.symbols_ast.specs.TreeFaults.{HasBadChild, HasSharedChild, IsTooDeep, HasNoTreeFaultBelowRank}
use Rattle.symbols_graph.specs.inner.Depths.{AreDepthsAfterCheckedNodes, IsSharedChildByDepths, SetsDepth}

-- A contained element is the one at its index.
index_of_child : (ids : List ℕ) (c : ℕ) (h : Contains ids c) → get_or ids h.0 0 ≡ c
index_of_child ids c h = get_or_default ids h.0 0 c h.1 ∙ h.2

-- The children of a node without a bad child exist and have greater numbers.
pub child_order : (nodes : List Node) (n c : ℕ) → (HasBadChild nodes n → ⊥) → Contains (children nodes n) c → (n < c) × (c < length nodes)
child_order nodes n c fine child =
    let at = index_of_child (children nodes n) c child in
    let after : c ≤ n → ⊥ = λ low. fine (child.0, child.1, inl (rw at low)) in
    let inside : length nodes ≤ c → ⊥ = λ high. fine (child.0, child.1, inr (rw at high)) in
    (omega arith, omega arith)

pub child_is_there : (nodes : List Node) (n i : ℕ) → (HasBadChild nodes n → ⊥) → i < length (children nodes n) → get_or (children nodes n) i 0 < length nodes
child_is_there nodes n i fine below = (child_order nodes n _ fine (Contains-get_or (children nodes n) i 0 below)).1

-- A node without a shared child has no child in common with a node of a lower number.
pub no_lower_parent : (nodes : List Node) (m n c : ℕ) → (HasSharedChild nodes n → ⊥) → m < n → Contains (children nodes m) c → Contains (children nodes n) c → ⊥
no_lower_parent nodes m n c fine lower child here =
    let at = index_of_child (children nodes n) c here in
    fine (here.0, here.1, inl (m, lower, rw at child))

module _ (text : List ℕ) (nodes : List Node) (n : ℕ) (depths : List ℕ) (before : HasNoTreeFaultBelowRank text nodes (5 * n + 2))
    (d : AreDepthsAfterCheckedNodes nodes n depths) (room : n
    < length nodes) where
  lower_child : (m c : ℕ) → m < n → Contains (children nodes m) c → (m < c) × (c < length nodes)
  lower_child m c lower = child_order nodes m c (before (BadChild m) (omega arith))

  lower_alone : (m q c : ℕ) → m < n → q < n → Contains (children nodes m) c → Contains (children nodes q) c → m ≡ q
  lower_alone m q c lower lower' child child' =
      let not_below : m < q → ⊥ = λ l. no_lower_parent nodes m q c (before (SharedChild q) (omega arith)) l child child' in
      let not_ancestor : q < m → ⊥ = λ l. no_lower_parent nodes q m c (before (SharedChild m) (omega arith)) l child' child in
      omega arith

  -- A node has at least as many ancestors as its depth says.
  ancestors_to_depth : (k c : ℕ) → c < length nodes → k < get_or depths c 0 → HasAtLeastAncestors nodes c k
  ancestors_to_depth zero c inside deep = no_ancestor
  ancestors_to_depth (suc k) c inside deep = elim (d.depth_of_each c inside) [
    | inl h ↦ absurd (omega (arith, h.0))
    | inr (m, h) ↦
        let order = lower_child m c h.lower h.holds in
        one_more (record { lower = order.0; child = h.holds }) (ancestors_to_depth k m (omega (arith, h.lower)) (omega (arith, h.deeper)))
  ]

  at_least_one : (c : ℕ) → c < length nodes → 1 ≤ get_or depths c 0
  at_least_one c inside = elim (d.depth_of_each c inside) [ inl h ↦ omega (arith, h.0) | inr (m, h) ↦ omega (arith, h.deeper) ]

  -- A node has no more ancestors than its depth says.
  ancestors_below_depth : {c k : ℕ} → c ≤ n → HasAtLeastAncestors nodes c k → k < get_or depths c 0
  ancestors_below_depth {c} low no_ancestor = at_least_one c (omega arith)
  ancestors_below_depth {c} low (one_more {m} {n = c'} {count = k} parent rest) =
      let less = ancestors_below_depth {c = m} {k = k} (omega (arith, parent.lower)) rest in
      elim (d.depth_of_each c (omega arith)) [
        | inl h ↦ absurd (h.1 m (omega (arith, parent.lower)) parent.child)
        | inr (q, h) ↦
            let same = lower_alone m q c (omega (arith, parent.lower)) h.lower parent.child h.holds in
            let level : get_or depths c 0 ≡ get_or depths m 0 + 1 = rw same h.deeper in
            omega (arith, less, level)
      ]

  within_limit : (m : ℕ) → m < n → get_or depths m 0 ≤ 4096
  within_limit m lower =
      let deep : 4096 < get_or depths m 0 → ⊥ = λ h. before (TooDeep m) (omega arith) (omega arith, ancestors_to_depth 4096 m (omega arith) h) in
      omega arith

  -- The depth of the next node is in the range in which it can be increased by 1.
  pub depth_in_range : (1 ≤ get_or depths n 0) × (get_or depths n 0 ≤ 4097)
  depth_in_range = (
    at_least_one n room,
    elim (d.depth_of_each n room) [ inl h ↦ omega (arith, h.0) | inr (m, h) ↦ omega (arith, h.deeper, within_limit m h.lower) ],
  )

  pub over_is_too_deep : 4096 < get_or depths n 0 → IsTooDeep nodes n
  over_is_too_deep over = (room, ancestors_to_depth 4096 n room over)

  pub too_deep_is_over : IsTooDeep nodes n → 4096 < get_or depths n 0
  too_deep_is_over deep = ancestors_below_depth {c = n} {k = 4096} (omega arith) deep.1

  module _ (fine : HasBadChild nodes n → ⊥) where
    -- If a child is found with a depth already, it is shared.
    pub shared_child_occurs : SomeIndex (children nodes n) (IsSharedChildByDepths depths (children nodes n)) → HasSharedChild nodes n
    shared_child_occurs (i, below, inr twice) = (i, below, inr twice)
    shared_child_occurs (i, below, inl more) = elim (d.depth_of_each _ (child_is_there nodes n i fine below)) [
      | inl h ↦ absurd (more h.0)
      | inr (m, h) ↦ (i, below, inl (m, h.lower, h.holds))
    ]

    pub occurs_as_shared : HasSharedChild nodes n → SomeIndex (children nodes n) (IsSharedChildByDepths depths (children nodes n))
    occurs_as_shared (i, below, inr twice) = (i, below, inr twice)
    occurs_as_shared (i, below, inl (m, lower, child)) = elim (d.depth_of_each _ (child_is_there nodes n i fine below)) [
      | inl h ↦ absurd (h.1 m lower child)
      | inr (q, h) ↦
          let deep = at_least_one q (omega (arith, h.lower)) in
          (i, below, inl (λ one. omega (arith, h.deeper, deep, one)))
    ]

    module _ (new : List ℕ) (long : length new ≡ length depths) (given : SetsDepth depths new (children nodes n) (get_or depths n 0 + 1)) where
      -- The depth of a node up to n is unchanged.
      depth_stays : (m : ℕ) → m ≤ n → get_or new m 0 ≡ get_or depths m 0
      depth_stays m low = elim (given m) [ inl h ↦ absurd (omega (arith, (child_order nodes n m fine h.0).0)) | inr h ↦ h.1 ]

      -- The depths after the nodes up to n were checked.
      pub AreDepthsAfterCheckedNodes-next : AreDepthsAfterCheckedNodes nodes (n + 1) new
      AreDepthsAfterCheckedNodes-next = record {
        covers = long ∙ d.covers;
        depth_of_each = λ c inside. elim (given c) [
          | inl h ↦ inr (n, record { lower = omega arith; holds = h.0; deeper = h.1 ∙ ap (λ k. k + 1) (sym (depth_stays n (omega arith))) })
          | inr h ↦ elim (d.depth_of_each c inside) [
            | inl k ↦ inl (
              h.1 ∙ k.0,
              λ m lower child.
                  elim (eqb_tells m n) [ inl same ↦ h.0 (rw same.1 at child) | inr other ↦ k.1 m (omega (arith, other.1)) child ],
            )
            | inr (m, k) ↦
                let stays = depth_stays m (omega (arith, k.lower)) in
                inr (m, record { lower = omega (arith, k.lower); holds = k.holds; deeper = h.1 ∙ k.deeper ∙ ap (λ l. l + 1) (sym stays) })
          ]
        ];
      }
