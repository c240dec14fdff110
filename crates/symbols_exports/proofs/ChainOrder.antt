-- Chain order.
use Rattle.std.proofs.Common.{◌≡◌, ℕ, zero, suc, ◌+◌, ◌<◌, ◌≤◌, ◌⊎◌, inl, inr, List, [], ◌∷◌, ◌++◌, take, ap, refl, sym, subst, arith}
use Rattle.symbols_exports.specs.Chains.{IsChainBefore, IsChainBeforeOrEqual}

pub never_before_itself : (a : List ℕ) → IsChainBefore a a → ⊥
never_before_itself [] before = before
never_before_itself (i ∷ a) (inl less) = omega arith
never_before_itself (i ∷ a) (inr rest) = never_before_itself a rest.1

pub before_then_before : (a b c : List ℕ) → IsChainBefore a b → IsChainBefore b c → IsChainBefore a c
before_then_before a b [] ab bc = bc
before_then_before a [] (k ∷ c) ab bc = absurd ab
before_then_before [] (j ∷ b) (k ∷ c) ab bc = tt
before_then_before (i ∷ a) (j ∷ b) (k ∷ c) (inl ab) (inl bc) = inl (omega arith)
before_then_before (i ∷ a) (j ∷ b) (k ∷ c) (inl ab) (inr bc) = inl (omega arith)
before_then_before (i ∷ a) (j ∷ b) (k ∷ c) (inr ab) (inl bc) = inl (omega arith)
before_then_before (i ∷ a) (j ∷ b) (k ∷ c) (inr ab) (inr bc) = inr (omega arith, before_then_before a b c ab.1 bc.1)

pub before_then_up_to : (a b c : List ℕ) → IsChainBefore a b → IsChainBeforeOrEqual b c → IsChainBefore a c
before_then_up_to a b c ab (inl same) = subst (IsChainBefore a) same ab
before_then_up_to a b c ab (inr bc) = before_then_before a b c ab bc

pub up_to_then_before : (a b c : List ℕ) → IsChainBeforeOrEqual a b → IsChainBefore b c → IsChainBefore a c
up_to_then_before a b c (inl same) bc = subst (λ x. IsChainBefore x c) (sym same) bc
up_to_then_before a b c (inr ab) bc = before_then_before a b c ab bc

pub up_to_then_up_to : (a b c : List ℕ) → IsChainBeforeOrEqual a b → IsChainBeforeOrEqual b c → IsChainBeforeOrEqual a c
up_to_then_up_to a b c (inl same) bc = subst (λ x. IsChainBeforeOrEqual x c) (sym same) bc
up_to_then_up_to a b c (inr ab) bc = inr (before_then_up_to a b c ab bc)

pub same_both_traces : (a b : List ℕ) → IsChainBeforeOrEqual a b → IsChainBeforeOrEqual b a → a ≡ b
same_both_traces a b (inl same) ba = same
same_both_traces a b (inr ab) ba = absurd (never_before_itself a (before_then_up_to a b a ab ba))

pub up_to_nothing : (c : List ℕ) → IsChainBeforeOrEqual c [] → c ≡ []
up_to_nothing c (inl same) = same
up_to_nothing c (inr before) = absurd before

two_positions : (i j : ℕ) → (i < j) ⊎ ((i ≡ j) ⊎ (j < i))
two_positions i j = grind arith

-- of two chains the first isn't after the other, or the other comes before it
pub up_to_or_after : (a b : List ℕ) → IsChainBeforeOrEqual a b ⊎ IsChainBefore b a
up_to_or_after [] [] = inl (inl refl)
up_to_or_after [] (j ∷ b) = inl (inr tt)
up_to_or_after (i ∷ a) [] = inr tt
up_to_or_after (i ∷ a) (j ∷ b) = by_rest (up_to_or_after a b) (two_positions i j)
  where
    by_rest : IsChainBeforeOrEqual a b ⊎ IsChainBefore b a → (i < j) ⊎ ((i ≡ j) ⊎ (j < i)) → IsChainBeforeOrEqual (i ∷ a) (j ∷ b) ⊎ IsChainBefore (j ∷ b)
        (i ∷ a)
    by_rest rest (inl less) = inl (inr (inl less))
    by_rest rest (inr (inr more)) = inr (inl more)
    by_rest (inl (inl same)) (inr (inl equal)) = inl (inl cc)
    by_rest (inl (inr ab)) (inr (inl equal)) = inl (inr (inr (equal, ab)))
    by_rest (inr ba) (inr (inl equal)) = inr (inr (sym equal, ba))

-- chains after a common prefix keep their order
pub before_after : (front a b : List ℕ) → IsChainBefore a b → IsChainBefore (front ++ a) (front ++ b)
before_after [] a b ab = ab
before_after (i ∷ front) a b ab = inr (refl, before_after front a b ab)

pub beginning_up_to : (k : ℕ) (a : List ℕ) → IsChainBeforeOrEqual (take k a) a
beginning_up_to zero [] = inl refl
beginning_up_to zero (i ∷ a) = inr tt
beginning_up_to (suc k) [] = inl refl
beginning_up_to (suc k) (i ∷ a) = elim (beginning_up_to k a) [
  | inl same ↦ inl (ap (λ x. i ∷ x) same)
  | inr before ↦ inr (inr (refl, before))
]

-- two chains in order stay in order with the same index added to each, unless the first is a prefix of the second
pub with_one_more : (a b : List ℕ) (k : ℕ) → IsChainBefore a b → IsChainBefore (a ++ k ∷ []) (b ++ k ∷ []) ⊎ ((x : ℕ) × (rest : List ℕ) × (b ≡ a ++ x ∷ rest))
with_one_more a [] k ab = absurd ab
with_one_more [] (j ∷ b) k ab = inr (j, b, refl)
with_one_more (i ∷ a) (j ∷ b) k (inl less) = inl (inl less)
with_one_more (i ∷ a) (j ∷ b) k (inr ab) =
    elim (with_one_more a b k ab.1) [
      | inl before ↦ inl (inr (ab.0, before))
      | inr begins ↦ inr (begins.0, begins.1, cc)
    ]

nothing_before : (q rest : List ℕ) (k : ℕ) → IsChainBefore [] (q ++ k ∷ rest)
nothing_before [] rest k = tt
nothing_before (i ∷ q) rest k = tt

below_or_at : (k i : ℕ) → k < i + 1 → (k < i) ⊎ (k ≡ i)
below_or_at k i less = grind arith

below_or_from : (k i : ℕ) → (k < i) ⊎ (i ≤ k)
below_or_from k i = grind arith

-- between two neighbouring statements of a module, of the statements whose chains come before, there is only the first of the two
pub between_neighbours : (c q : List ℕ) (i k : ℕ) → IsChainBefore c (q ++ i ∷ []) → IsChainBefore (c ++ k ∷ []) (q ++ (i + 1) ∷ [])
    → IsChainBefore (c ++ k ∷ []) (q ++ i ∷ []) ⊎ ((c ≡ q) × (k ≡ i))
between_neighbours [] [] i k c_before (inl less) = elim (below_or_at k i less) [
  | inl below ↦ inl (inl below)
  | inr equal ↦ inr (refl, equal)
]
between_neighbours [] [] i k c_before (inr rest) = absurd rest.1
between_neighbours [] (j ∷ q) i k c_before (inl less) = inl (inl less)
between_neighbours [] (j ∷ q) i k c_before (inr rest) = inl (inr (rest.0, nothing_before q [] i))
between_neighbours (h ∷ c) [] i k (inl less) before = inl (inl less)
between_neighbours (h ∷ c) [] i k (inr rest) before = absurd rest.1
between_neighbours (h ∷ c) (j ∷ q) i k c_before (inl less) = inl (inl less)
between_neighbours (h ∷ c) (j ∷ q) i k (inl less) (inr rest) = inl (inl less)
between_neighbours (h ∷ c) (j ∷ q) i k (inr c_rest) (inr rest) =
    elim (between_neighbours c q i k c_rest.1 rest.1) [
      | inl before ↦ inl (inr (rest.0, before))
      | inr equal ↦ inr (cc, equal.1)
    ]

-- between the cursor in a module and the statement after the one that was followed to it, there are only the module's own statements from
-- the cursor on
pub between_module_and_next : (c q : List ℕ) (j i k : ℕ) → IsChainBefore c (q ++ j ∷ i ∷ []) → IsChainBefore (c ++ k ∷ []) (q ++ (j + 1) ∷ [])
    → IsChainBefore (c ++ k ∷ []) (q ++ j ∷ i ∷ []) ⊎ ((c ≡ q ++ j ∷ []) × (i ≤ k))
between_module_and_next [] [] j i k c_before (inl less) = elim (below_or_at k j less) [
  | inl below ↦ inl (inl below)
  | inr equal ↦ inl (inr (equal, tt))
]
between_module_and_next [] [] j i k c_before (inr rest) = absurd rest.1
between_module_and_next [] (x ∷ q) j i k c_before (inl less) = inl (inl less)
between_module_and_next [] (x ∷ q) j i k c_before (inr rest) = inl (inr (rest.0, nothing_before q (i ∷ []) j))
between_module_and_next (h ∷ c) [] j i k (inl less) before = inl (inl less)
between_module_and_next (h ∷ []) [] j i k (inr c_rest) before =
    elim (below_or_from k i) [
      | inl below ↦ inl (inr (c_rest.0, inl below))
      | inr from ↦ inr (cc, from)
    ]
between_module_and_next (h ∷ x ∷ c) [] j i k (inr (equal, inl less)) before = inl (inr (equal, inl less))
between_module_and_next (h ∷ x ∷ c) [] j i k (inr (equal, inr rest)) before = absurd rest.1
between_module_and_next (h ∷ c) (x ∷ q) j i k c_before (inl less) = inl (inl less)
between_module_and_next (h ∷ c) (x ∷ q) j i k (inl less) (inr rest) = inl (inl less)
between_module_and_next (h ∷ c) (x ∷ q) j i k (inr c_rest) (inr rest) =
    elim (between_module_and_next c q j i k c_rest.1 rest.1) [
      | inl before ↦ inl (inr (rest.0, before))
      | inr equal ↦ inr (cc, equal.1)
    ]
