-- Weights of nodes: a node weighs at least 1 and the weights of its children, and at most the number of nodes.
use Rattle.std.proofs.Common.{◌≡◌, ℕ, zero, suc, ◌+◌, ◌<◌, ◌≤◌, Bool, true, false, cond, eqb, inl, inr, List}
use Rattle.std.proofs.Common.{[], ◌∷◌, ◌++◌, Option, Some, None, Contains, refl, sym, ap, ◌∙◌, arith, ne_eqb}
use Rattle.std.specs.Option.{option_map_or}
use Rattle.std.proofs.lemmas.Bool.{true≢false}
use Rattle.std.proofs.lemmas.Bool.Decides.{eqb_tells}
use Rattle.std.proofs.lemmas.Option.{same_Some, none-some}
use Rattle.symbols_table.proofs.Sums.{sum_below}

-- ---- sums over lists, and over the numbers below a count

abbrev pub weights : (ℕ → ℕ) → List ℕ → ℕ
weights w [] = 0
weights w (x ∷ xs) = w x + weights w xs

pub weights-append : (w : ℕ → ℕ) (xs ys : List ℕ) → weights w (xs ++ ys) ≡ weights w xs + weights w ys
weights-append w [] ys = omega arith
weights-append w (x ∷ xs) ys = omega (arith, weights-append w xs ys)

pub here : (x : ℕ) (xs : List ℕ) → Contains (x ∷ xs) x
here x xs = (0, omega arith, refl)

pub there : (x : ℕ) (xs : List ℕ) (y : ℕ) → Contains xs y → Contains (x ∷ xs) y
there x xs y h = (suc h.0, omega (arith, h.1), h.2)

pub weights_up : (f g : ℕ → ℕ) (xs : List ℕ) → ((x : ℕ) → Contains xs x → f x ≤ g x) → weights f xs ≤ weights g xs
weights_up f g [] up = omega arith
weights_up f g (x ∷ xs) up = omega (arith, up x (here x xs), weights_up f g xs (λ y h. up y (there x xs y h)))

pub weights_none : (xs : List ℕ) → weights (λ _. 0) xs ≡ 0
weights_none [] = refl
weights_none (x ∷ xs) = omega (arith, weights_none xs)

pub sum_up : (f g : ℕ → ℕ) (k : ℕ) → ((m : ℕ) → m < k → f m ≤ g m) → sum_below f k ≤ sum_below g k
sum_up f g zero up = omega arith
sum_up f g (suc k) up = omega (arith, up k (omega arith), sum_up f g k (λ m below. up m (omega arith)))

pub sum_as : (f g : ℕ → ℕ) (k : ℕ) → ((m : ℕ) → f m ≡ g m) → sum_below f k ≡ sum_below g k
sum_as f g zero is = refl
sum_as f g (suc k) is = omega (arith, is k, sum_as f g k is)

-- A sum is its first term plus the rest.
pub sum-first : (f : ℕ → ℕ) (k : ℕ) → sum_below f (suc k) ≡ f 0 + sum_below (λ m. f (suc m)) k
sum-first f zero = omega arith
sum-first f (suc k) = omega (arith, sum-first f k)

pub sum_ones : (k : ℕ) → sum_below (λ _. 1) k ≡ k
sum_ones zero = refl
sum_ones (suc k) = omega (arith, sum_ones k)

pub sum_none : (k : ℕ) → sum_below (λ _. 0) k ≡ 0
sum_none zero = refl
sum_none (suc k) = omega (arith, sum_none k)

pub sum-plus : (f g : ℕ → ℕ) (k : ℕ) → sum_below (λ m. f m + g m) k ≡ sum_below f k + sum_below g k
sum-plus f g zero = refl
sum-plus f g (suc k) = omega (arith, sum-plus f g k)

-- The order of two nested sums can be exchanged.
pub sum-weights : (a : ℕ → ℕ → ℕ) (xs : List ℕ) (k : ℕ) → sum_below (λ m. weights (λ c. a c m) xs) k ≡ weights (λ c. sum_below (a c) k) xs
sum-weights a [] k = sum_none k
sum-weights a (x ∷ xs) k = sum-plus (a x) (λ m. weights (λ c. a c m) xs) k ∙ ap (λ n. sum_below (a x) k + n) (sum-weights a xs k)

-- ---- 1 for equal numbers, else 0

abbrev pub same : ℕ → ℕ → ℕ
same n m = cond (eqb n m) 1 0

pub same_yes : (n m : ℕ) → n ≡ m → same n m ≡ 1
same_yes n m is = elim (eqb_tells n m) [ inl h ↦ rw h.0 refl | inr h ↦ absurd (h.1 is) ]

pub same_no : (n m : ℕ) → (n ≡ m → ⊥) → same n m ≡ 0
same_no n m other = rw (ne_eqb n m other) refl

pub weights_zero : (f : ℕ → ℕ) (xs : List ℕ) → ((x : ℕ) → Contains xs x → f x ≡ 0) → weights f xs ≡ 0
weights_zero f xs is = omega (arith, weights_none xs, weights_up f (λ _. 0) xs (λ x h. omega (arith, is x h)))

-- ---- the last number below a count for which a test holds

abbrev pub last_below : (ℕ → Bool) → ℕ → Option ℕ
last_below test zero = None
last_below test (suc k) = cond (test k) (Some k) (last_below test k)

pub last_passes : (test : ℕ → Bool) (k p : ℕ) → last_below test k ≡ Some p → (p < k) × (test p ≡ true)
last_passes test zero p is = absurd (none-some p is)
last_passes test (suc k) p is = by (test k) refl is (last_passes test k p)
  where
    by : (b : Bool) → test k ≡ b → cond b (Some k) (last_below test k) ≡ Some p → (last_below test k ≡ Some p → (p < k) × (test p ≡ true))
        → (p < suc k) × (test p ≡ true)
    by true at is rest = let e : k ≡ p = same_Some k p is in (omega arith, rw e at at)
    by false at is rest = let below = rest is in (omega (arith, below.0), below.1)

pub last_found : (test : ℕ → Bool) (k n : ℕ) → n < k → test n ≡ true → (p : ℕ) × (last_below test k ≡ Some p)
last_found test zero n below at = absurd (omega arith)
last_found test (suc k) n below at = by (test k) refl (last_found test k n)
  where
    by : (b : Bool) → test k ≡ b → (n < k → test n ≡ true → (p : ℕ) × (last_below test k ≡ Some p)) → (p : ℕ) × (cond b (Some k) (last_below test k) ≡ Some p)
    by true is rest = (k, refl)
    by false is rest =
        let other : n ≡ k → ⊥ = λ e. true≢false (sym at ∙ ap test e ∙ is) in
        rest (omega arith) at

-- ---- ancestors, by the parents of nodes

-- 1 if n is m or an ancestor of m within this many steps, else 0.
abbrev pub greater : (ℕ → Option ℕ) → ℕ → ℕ → ℕ → ℕ
greater parent zero n m = same n m
greater parent (suc steps) n m = cond (eqb n m) 1 (option_map_or (greater parent steps n) (parent m) 0)

module _ (parent : ℕ → Option ℕ) (lower : (m p : ℕ) → parent m ≡ Some p → p < m) where
  greater_self : (steps n m : ℕ) → n ≡ m → greater parent steps n m ≡ 1
  greater_self zero n m is = same_yes n m is
  greater_self (suc steps) n m is = elim (eqb_tells n m) [ inl h ↦ rw h.0 refl | inr h ↦ absurd (h.1 is) ]

  greater_root : (steps n m : ℕ) → (n ≡ m → ⊥) → parent m ≡ None → greater parent (suc steps) n m ≡ 0
  greater_root steps n m other is = rw (ne_eqb n m other, is) refl

  greater_parent : (steps n m p : ℕ) → (n ≡ m → ⊥) → parent m ≡ Some p → greater parent (suc steps) n m ≡ greater parent steps n p
  greater_parent steps n m p other is = rw (ne_eqb n m other, is) refl

  -- A node is no ancestor of a node of a lower number.
  greater_lower : (steps n m : ℕ) → m < n → greater parent steps n m ≡ 0
  greater_lower zero n m below = same_no n m (λ e. omega arith)
  greater_lower (suc steps) n m below = by (parent m) refl (λ p. greater_lower steps n p)
    where
      by : (o : Option ℕ) → parent m ≡ o → ((p : ℕ) → p < n → greater parent steps n p ≡ 0) → greater parent (suc steps) n m ≡ 0
      by None is rest = greater_root steps n m (λ e. omega arith) is
      by (Some p) is rest = greater_parent steps n m p (λ e. omega arith) is ∙ rest p (omega (arith, lower m p is))

  greater_one : (steps n m : ℕ) → greater parent steps n m ≤ 1
  greater_one zero n m = elim (eqb_tells n m) [ inl h ↦ rw h.0 (omega arith) | inr h ↦ rw h.0 (omega arith) ]
  greater_one (suc steps) n m = elim (eqb_tells n m) [ inl h ↦ rw h.0 (omega arith) | inr h ↦ rw h.0 (by (parent m) (greater_one steps n)) ]
    where
      by : (o : Option ℕ) → ((p : ℕ) → greater parent steps n p ≤ 1) → option_map_or (greater parent steps n) o 0 ≤ 1
      by None rest = omega arith
      by (Some p) rest = rest p

  module _ (n : ℕ) (children : List ℕ) (local_name_bytes : (c : ℕ) → Contains children c → (n < c) × (parent c ≡ Some n)) (once : (m : ℕ)
      → weights (λ c. same c m) children ≤ 1) where
    all_zero : (steps m : ℕ) → m ≤ n → weights (λ c. greater parent steps c m) children ≡ 0
    all_zero steps m low = weights_zero (λ c. greater parent steps c m) children (λ c h. greater_lower steps c m (omega (arith, (local_name_bytes c h).0)))

    -- At most one of these holds: m is n, or one child of n is m or an ancestor of m. If one does, n is m or an ancestor of m.
    greater_children : (steps m : ℕ) → m ≤ steps → same n m + weights (λ c. greater parent steps c m) children ≤ greater parent steps n m
    greater_children zero m low = omega (arith, all_zero zero m (omega arith))
    greater_children (suc steps) m low = elim (eqb_tells n m) [
      | inl h ↦ omega (arith, same_yes n m h.1, greater_self (suc steps) n m h.1, all_zero (suc steps) m (omega (arith, h.1)))
      | inr h ↦ by (parent m) refl h.1 (λ p. greater_children steps p)
    ]
      where
        by : (o : Option ℕ) → parent m ≡ o → (n ≡ m → ⊥)
            → ((p : ℕ) → p ≤ steps → same n p + weights (λ c. greater parent steps c p) children ≤ greater parent steps n p)
            → same n m + weights (λ c. greater parent (suc steps) c m) children ≤ greater parent (suc steps) n m
        by None is other rest =
            let none : weights (λ c. greater parent (suc steps) c m) children ≡ 0 =
            weights_zero (λ c. greater parent (suc steps) c m) children
            (λ c h. greater_root steps c m (λ e. none-some n (sym is ∙ ap parent (sym e) ∙ (local_name_bytes c h).1)) is) in
            omega (arith, none, same_no n m other)
        by (Some p) is other rest = elim (eqb_tells n p) [
          | inl h ↦
              let each : (c : ℕ) → Contains children c → greater parent (suc steps) c m ≤ same c m = λ c k. elim (eqb_tells c m) [
                | inl e ↦ omega (arith, greater_one (suc steps) c m, same_yes c m e.1)
                | inr e ↦ omega (arith, greater_parent steps c m p e.1 is, greater_lower steps c p (omega (arith, h.1, (local_name_bytes c k).0)))
              ] in
              omega (
                arith,
                same_no n m other,
                greater_parent steps n m p other is,
                greater_self steps n p h.1,
                once m,
                weights_up (λ c. greater parent (suc steps) c m) (λ c. same c m) children each,
              )
          | inr h ↦
              let each : (c : ℕ) → Contains children c → greater parent (suc steps) c m ≤ greater parent steps c p = λ c k.
              omega (arith, greater_parent steps c m p (λ e. h.1 (same_Some n p (sym (local_name_bytes c k).1 ∙ ap parent e ∙ is))) is) in
              omega (
                arith,
                same_no n m other,
                same_no n p h.1,
                greater_parent steps n m p other is,
                rest p (omega (arith, lower m p is)),
                weights_up (λ c. greater parent (suc steps) c m) (λ c. greater parent steps c p) children each,
              )
        ]

-- The weight of n: how many numbers below the count are n or descendants of n.
abbrev pub weight : (ℕ → Option ℕ) → ℕ → ℕ → ℕ
weight parent count n = sum_below (greater parent count n) count

pub weight_few : (parent : ℕ → Option ℕ) (lower : (m p : ℕ) → parent m ≡ Some p → p < m) (count n : ℕ) → weight parent count n ≤ count
weight_few parent lower count n = omega (arith, sum_ones count, sum_up (greater parent count n) (λ _. 1) count (λ m _. greater_one parent lower count n m))

sum_past : (n k : ℕ) → k ≤ n → sum_below (same n) k ≡ 0
sum_past n zero le = refl
sum_past n (suc k) le = omega (arith, same_no n k (λ e. omega arith), sum_past n k (omega arith))

pub sum_same : (n k : ℕ) → n < k → sum_below (same n) k ≡ 1
sum_same n zero below = absurd (omega arith)
sum_same n (suc k) below = elim (eqb_tells n k) [
  | inl h ↦ omega (arith, same_yes n k h.1, sum_past n k (omega (arith, h.1)))
  | inr h ↦ omega (arith, same_no n k h.1, sum_same n k (omega (arith, h.1)))
]

pub weight_heavy : (parent : ℕ → Option ℕ) (lower : (m p : ℕ) → parent m ≡ Some p → p < m) (count n : ℕ) (children : List ℕ)
    → n < count → ((c : ℕ) → Contains children c → (n < c) × (parent c ≡ Some n)) → ((m : ℕ) → weights (λ c. same c m) children ≤ 1)
    → suc (weights (weight parent count) children) ≤ weight parent count n
weight_heavy parent lower count n children below local_name_bytes once =
    let up = sum_up (λ m. same n m + weights (λ c. greater parent count c m) children) (greater parent count n) count
    (λ m inside. greater_children parent lower n children local_name_bytes once count m (omega arith)) in
    let parts = sum-plus (same n) (λ m. weights (λ c. greater parent count c m) children) count in
    let swapped = sum-weights (greater parent count) children count in
    omega (arith, up, parts, swapped, sum_same n count below)
