-- Lists that are sorted by a relation, and the first element of each key in them.
use Rattle.std.proofs.Common.{◌≡◌, ℕ, zero, suc, ◌<◌, ◌⊎◌, ◌↔◌, inl, inr, Bool, true, false, not, List, [], ◌∷◌, ◌++◌}
use Rattle.std.proofs.Common.{length, map, get_or, refl, sym, ap, subst, ◌∙◌, arith, true≢false, cond, find, Some}
use Rattle.std.specs.Prelude.{Contains, AllPairs, filter, if◌then◌else◌}
use Rattle.std.specs.Bool.{Decides}
use Rattle.std.proofs.lemmas.List.Elements.{Contains-append_cases, Contains-get_or}
use Rattle.std.proofs.lemmas.Option.{none-some, same_Some}
use Rattle.std.proofs.lemmas.List.{length_push}
use Rattle.symbols_exports.specs.Traces.{first_distinct_by}

-- ---- what a list contains

pub first_or_later : {A : Type 0} (x : A) (xs : List A) (y : A) → Contains (x ∷ xs) y → (x ≡ y) ⊎ Contains xs y
first_or_later x xs y has = by has.0 has.1 has.2
  where
    by : (k : ℕ) → k < length (x ∷ xs) → get_or (x ∷ xs) k y ≡ y → (x ≡ y) ⊎ Contains xs y
    by zero within same = inl same
    by (suc k) within same = inr (k, omega (arith, within), same)

pub contains_first : {A : Type 0} (x : A) (xs : List A) → Contains (x ∷ xs) x
contains_first x xs = (0, omega arith, refl)

pub contains_later : {A : Type 0} (x : A) (xs : List A) (y : A) → Contains xs y → Contains (x ∷ xs) y
contains_later x xs y has = (suc has.0, omega (arith, has.1), has.2)

pub contains_nothing : {A : Type 0} (y : A) → Contains {X = A} [] y → ⊥
contains_nothing y has = omega (arith, has.1)

pub only_one : {A : Type 0} (x y : A) → Contains (x ∷ []) y → x ≡ y
only_one x y (zero, within, same) = same
only_one x y (suc i, within, same) = absurd (omega (arith, within))

pub contains_mapped : {A B : Type 0} (f : A → B) (xs : List A) (x : A) → Contains xs x → Contains (map f xs) (f x)
contains_mapped f [] x has = absurd (contains_nothing x has)
contains_mapped f (y ∷ xs) x has = elim (first_or_later y xs x has) [
  | inl same ↦ subst (λ z. Contains (f y ∷ map f xs) (f z)) same (contains_first (f y) (map f xs))
  | inr later ↦ contains_later (f y) (map f xs) (f x) (contains_mapped f xs x later)
]

pub mapped_from : {A B : Type 0} (f : A → B) (xs : List A) (y : B) → Contains (map f xs) y → (x : A) × Contains xs x × (f x ≡ y)
mapped_from f [] y has = absurd (contains_nothing y has)
mapped_from f (x ∷ xs) y has = elim (first_or_later (f x) (map f xs) y has) [
  | inl same ↦ (x, contains_first x xs, same)
  | inr later ↦ let from = mapped_from f xs y later in (from.0, contains_later x xs from.0 from.1, from.2)
]

pub filtered_from : {A : Type 0} (p : A → Bool) (xs : List A) (y : A) → Contains (filter p xs) y → Contains xs y × (p y ≡ true)
filtered_from p [] y has = absurd (contains_nothing y has)
filtered_from p (x ∷ xs) y has = by (p x) refl has (filtered_from p xs y)
  where
    by : (b : Bool) → p x ≡ b → Contains (if b then x ∷ filter p xs else filter p xs) y → (Contains (filter p xs) y → Contains xs y × (p y ≡ true))
        → Contains (x ∷ xs) y × (p y ≡ true)
    by true is has rest = elim (first_or_later x (filter p xs) y has) [
      | inl same ↦ (subst (Contains (x ∷ xs)) same (contains_first x xs), subst (λ z. p z ≡ true) same is)
      | inr later ↦ let from = rest later in (contains_later x xs y from.0, from.1)
    ]
    by false is has rest = let from = rest has in (contains_later x xs y from.0, from.1)

pub contains_filtered : {A : Type 0} (p : A → Bool) (xs : List A) (y : A) → Contains xs y → p y ≡ true → Contains (filter p xs) y
contains_filtered p [] y has passes = absurd (contains_nothing y has)
contains_filtered p (x ∷ xs) y has passes = by (p x) refl (first_or_later x xs y has) (λ later. contains_filtered p xs y later passes)
  where
    by : (b : Bool) → p x ≡ b → (x ≡ y) ⊎ Contains xs y → (Contains xs y → Contains (filter p xs) y) → Contains (if b then x ∷ filter p xs else filter p xs) y
    by true is (inl same) rest = subst (Contains (x ∷ filter p xs)) same (contains_first x (filter p xs))
    by true is (inr later) rest = contains_later x (filter p xs) y (rest later)
    by false is (inl same) rest = absurd (true≢false (sym passes ∙ (ap p (sym same) ∙ is)))
    by false is (inr later) rest = rest later

pub found_there : {A : Type 0} (p : A → Bool) (xs : List A) (x : A) → find p xs ≡ Some x → Contains xs x × (p x ≡ true)
found_there p [] x none = absurd (none-some x none)
found_there p (y ∷ xs) x found = by (p y) refl found (found_there p xs x)
  where
    by : (b : Bool) → p y ≡ b → cond b (Some y) (find p xs) ≡ Some x → (find p xs ≡ Some x → Contains xs x × (p x ≡ true)) → Contains (y ∷ xs) x × (p x ≡ true)
    by true is same rest = ((0, omega arith, same_Some y x same), subst (λ z. p z ≡ true) (same_Some y x same) is)
    by false is same rest = let later = rest same in (contains_later y xs x later.0, later.1)

-- an index of a list with one more element is below its length, or the last
pub short_or_last : {A : Type 0} (xs : List A) (y : A) (k : ℕ) → k < length (xs ++ y ∷ []) → (k < length xs) ⊎ (length xs ≡ k)
short_or_last xs y k within = let counted = length_push xs y in grind (arith, counted)

-- ---- sorted lists

abbrev pub IsSorted : {A : Type 0} → (A → A → Type 0) → List A → Type 0
IsSorted R [] = Unit {0}
IsSorted {A} R (x ∷ xs) = ((y : A) → Contains xs y → R x y) × IsSorted R xs

pub sorted_pairs : {A : Type 0} (R : A → A → Type 0) (xs : List A) → IsSorted R xs → AllPairs R xs
sorted_pairs R [] sorted i j d less within = absurd (omega (arith, within))
sorted_pairs R (x ∷ xs) sorted zero zero d less within = absurd (omega (arith, less))
sorted_pairs R (x ∷ xs) sorted zero (suc j) d less within = sorted.0 (get_or xs j d) (Contains-get_or xs j d (omega (arith, within)))
sorted_pairs R (x ∷ xs) sorted (suc i) zero d less within = absurd (omega (arith, less))
sorted_pairs R (x ∷ xs) sorted (suc i) (suc j) d less within = sorted_pairs R xs sorted.1 i j d (omega (arith, less)) (omega (arith, within))

pub pairs_sorted : {A : Type 0} (R : A → A → Type 0) (xs : List A) → AllPairs R xs → IsSorted R xs
pairs_sorted R [] pairs = tt
pairs_sorted R (x ∷ xs) pairs = (
  λ y has. subst (R x) has.2 (pairs 0 (suc has.0) y (omega arith) (omega (arith, has.1))),
  pairs_sorted R xs (λ i j d less within. pairs (suc i) (suc j) d (omega (arith, less)) (omega (arith, within))),
)

pub sorted_both : {A : Type 0} (R : A → A → Type 0) (xs ys : List A) → IsSorted R xs → IsSorted R ys → ((x y : A) → Contains xs x → Contains ys y → R x y)
    → IsSorted R (xs ++ ys)
sorted_both R [] ys left right across = right
sorted_both {A} R (x ∷ xs) ys left right across = (first, sorted_both R xs ys left.1 right (λ a b has_a has_b. across a b (contains_later x xs a has_a) has_b))
  where
    first : (z : A) → Contains (xs ++ ys) z → R x z
    first z has = elim (Contains-append_cases xs ys z has) [
      | inl in_xs ↦ left.0 z in_xs
      | inr in_ys ↦ across x z (contains_first x xs) in_ys
    ]

pub sorted_map : {A B : Type 0} (R : A → A → Type 0) (S : B → B → Type 0) (f : A → B) → ((x y : A) → R x y → S (f x) (f y)) → (xs : List A) → IsSorted R xs
    → IsSorted S (map f xs)
sorted_map R S f keeps [] sorted = tt
sorted_map R S f keeps (x ∷ xs) sorted =
    (λ y has. let from = mapped_from f xs y has in subst (S (f x)) from.2 (keeps x from.0 (sorted.0 from.0 from.1)), sorted_map R S f keeps xs sorted.1)

pub sorted_mapped : {A B : Type 0} (S : B → B → Type 0) (f : A → B) (xs : List A) → IsSorted S (map f xs) → IsSorted (λ x y. S (f x) (f y)) xs
sorted_mapped S f [] sorted = tt
sorted_mapped S f (x ∷ xs) sorted = (λ y has. sorted.0 (f y) (contains_mapped f xs y has), sorted_mapped S f xs sorted.1)

pub sorted_filter : {A : Type 0} (R : A → A → Type 0) (p : A → Bool) (xs : List A) → IsSorted R xs → IsSorted R (filter p xs)
sorted_filter R p [] sorted = tt
sorted_filter R p (x ∷ xs) sorted = by (p x) (sorted_filter R p xs sorted.1)
  where
    by : (b : Bool) → IsSorted R (filter p xs) → IsSorted R (if b then x ∷ filter p xs else filter p xs)
    by true rest = (λ y has. sorted.0 y (filtered_from p xs y has).0, rest)
    by false rest = rest

-- two sorted lists of the same elements are equal, if no two elements are related both ways
pub same_sorted : {A : Type 0} (R : A → A → Type 0) (xs ys : List A) → ((x y : A) → Contains xs x → Contains xs y → R x y → R y x → ⊥) → IsSorted R xs
    → IsSorted R ys → ((z : A) → Contains xs z ↔ Contains ys z) → xs ≡ ys
same_sorted R [] [] apart left right same = refl
same_sorted R [] (y ∷ ys) apart left right same = absurd (contains_nothing y ((same y).1 (contains_first y ys)))
same_sorted R (x ∷ xs) [] apart left right same = absurd (contains_nothing x ((same x).0 (contains_first x xs)))
same_sorted {A} R (x ∷ xs) (y ∷ ys) apart left right same =
    let suffixes = same_sorted R xs ys (λ a b has_a has_b. apart a b (contains_later x xs a has_a) (contains_later x xs b has_b)) left.1 right.1
    (λ z. (to_right z, to_left z)) in
    λ i. firsts i ∷ suffixes i
  where
    not_itself : (z : A) → Contains (x ∷ xs) z → R z z → ⊥
    not_itself z has before = apart z z has has before before

    firsts : x ≡ y
    firsts = elim (first_or_later y ys x ((same x).0 (contains_first x xs))) [
      | inl is ↦ sym is
      | inr later ↦ elim (first_or_later x xs y ((same y).1 (contains_first y ys))) [
        | inl is ↦ is
        | inr following ↦ absurd (apart x y (contains_first x xs) (contains_later x xs y following) (left.0 y following) (right.0 x later))
      ]
    ]

    to_right : (z : A) → Contains xs z → Contains ys z
    to_right z has = elim (first_or_later y ys z ((same z).0 (contains_later x xs z has))) [
      | inl is ↦ absurd (not_itself x (contains_first x xs) (subst (R x) (sym is ∙ sym firsts) (left.0 z has)))
      | inr later ↦ later
    ]

    to_left : (z : A) → Contains ys z → Contains xs z
    to_left z has = elim (first_or_later x xs z ((same z).1 (contains_later y ys z has))) [
      | inl is ↦ absurd (not_itself x (contains_first x xs) (subst (λ w. R w x) (sym firsts) (subst (R y) (sym is) (right.0 z has))))
      | inr later ↦ later
    ]

-- ---- the first element of each key

module _ {A K : Type 0} (same : A → A → Bool) (key : A → K) (decides : (x y : A) → Decides (same x y) (key x ≡ key y)) where
  not_same : (x y : A) → not (same x y) ≡ true → key x ≡ key y → ⊥
  not_same x y other equal = true≢false (sym other ∙ ap not ((decides x y).1 equal))

  pub first_is_one : (xs : List A) (y : A) → Contains (first_distinct_by same xs) y → Contains xs y
  first_is_one [] y has = absurd (contains_nothing y has)
  first_is_one (x ∷ xs) y has = elim (first_or_later x (filter (λ z. not (same x z)) (first_distinct_by same xs)) y has) [
    | inl is ↦ subst (Contains (x ∷ xs)) is (contains_first x xs)
    | inr later ↦ contains_later x xs y (first_is_one xs y (filtered_from (λ z. not (same x z)) (first_distinct_by same xs) y later).0)
  ]

  pub first_sorted : (R : A → A → Type 0) (xs : List A) → IsSorted R xs → IsSorted R (first_distinct_by same xs)
  first_sorted R [] sorted = tt
  first_sorted R (x ∷ xs) sorted = (
    λ y has. sorted.0 y (first_is_one xs y (filtered_from (λ z. not (same x z)) (first_distinct_by same xs) y has).0),
    sorted_filter R (λ z. not (same x z)) (first_distinct_by same xs) (first_sorted R xs sorted.1),
  )

  pub first_once : (xs : List A) (x y : A) → Contains (first_distinct_by same xs) x → Contains (first_distinct_by same xs) y → key x ≡ key y → x ≡ y
  first_once [] x y has_x has_y equal = absurd (contains_nothing x has_x)
  first_once (w ∷ xs) x y has_x has_y equal = by (first_or_later w rest x has_x) (first_or_later w rest y has_y) (first_once xs x y)
    where
      rest : List A
      rest = filter (λ z. not (same w z)) (first_distinct_by same xs)

      by : (w ≡ x) ⊎ Contains rest x → (w ≡ y) ⊎ Contains rest y
          → (Contains (first_distinct_by same xs) x → Contains (first_distinct_by same xs) y → key x ≡ key y → x ≡ y) → x ≡ y
      by (inl is_x) (inl is_y) later = sym is_x ∙ is_y
      by (inl is_x) (inr in_y) later = absurd (not_same w y (filtered_from (λ z. not (same w z)) (first_distinct_by same xs) y in_y).1 (ap key is_x ∙ equal))
      by (inr in_x) (inl is_y) later =
          absurd (not_same w x (filtered_from (λ z. not (same w z)) (first_distinct_by same xs) x in_x).1 (ap key is_y ∙ sym equal))
      by (inr in_x) (inr in_y) later = later (filtered_from (λ z. not (same w z)) (first_distinct_by same xs) x in_x).0
          (filtered_from (λ z. not (same w z)) (first_distinct_by same xs) y in_y).0 equal

  -- no two of them have the same key
  pub first_apart : (xs : List A) → IsSorted (λ x y. key x ≡ key y → ⊥) (first_distinct_by same xs)
  first_apart [] = tt
  first_apart (x ∷ xs) = (
    λ y has. not_same x y (filtered_from (λ z. not (same x z)) (first_distinct_by same xs) y has).1,
    sorted_filter (λ a b. key a ≡ key b → ⊥) (λ z. not (same x z)) (first_distinct_by same xs) (first_apart xs),
  )

  pub first_covers : (R : A → A → Type 0) (xs : List A) → IsSorted R xs → (z : A) → Contains xs z
      → (f : A) × Contains (first_distinct_by same xs) f × (key f ≡ key z) × ((f ≡ z) ⊎ R f z)
  first_covers R [] sorted z has = absurd (contains_nothing z has)
  first_covers R (x ∷ xs) sorted z has = by (first_or_later x xs z has) (first_covers R xs sorted.1 z)
    where
      by : (x ≡ z) ⊎ Contains xs z → (Contains xs z → (f : A) × Contains (first_distinct_by same xs) f × (key f ≡ key z) × ((f ≡ z) ⊎ R f z))
          → (f : A) × Contains (first_distinct_by same (x ∷ xs)) f × (key f ≡ key z) × ((f ≡ z) ⊎ R f z)
      by (inl is) rest = (x, contains_first x (filter (λ w. not (same x w)) (first_distinct_by same xs)), ap key is, inl is)
      by (inr later) rest = retained (rest later) (same x (rest later).0) refl
        where
          retained : (found : (f : A) × Contains (first_distinct_by same xs) f × (key f ≡ key z) × ((f ≡ z) ⊎ R f z)) → (b : Bool) → same x found.0 ≡ b
              → (f : A) × Contains (first_distinct_by same (x ∷ xs)) f × (key f ≡ key z) × ((f ≡ z) ⊎ R f z)
          retained found true is =
              (x, contains_first x (filter (λ w. not (same x w)) (first_distinct_by same xs)), (decides x found.0).0 is ∙ found.2, inr (sorted.0 z later))
          retained found false is = (
            found.0,
            contains_later x (filter (λ w. not (same x w)) (first_distinct_by same xs)) found.0
                (contains_filtered (λ w. not (same x w)) (first_distinct_by same xs) found.0 found.1 (ap not is)),
            found.2,
            found.3,
          )
