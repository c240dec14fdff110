-- Lists and their elements.
use Rattle.std.proofs.Common.{◌≡◌, ℕ, zero, suc, ◌<◌, ◌⊎◌, inl, inr, Bool, true, false, cond, List, [], ◌∷◌, ◌++◌, length, map, reverse, find, get_or, Option}
use Rattle.std.proofs.Common.{None, Some, refl, sym, ap, subst, ◌∙◌, arith, ◌-◌}
use Rattle.std.proofs.lemmas.List.{length-reverse, get_or-reverse}
use Rattle.std.specs.Prelude.{Contains, flat_map}
use Rattle.std.specs.List.{filter_map, cons_option}
use Rattle.std.proofs.lemmas.Option.{none-some, same_Some}

pub first_or_later : {A : Type 0} (x : A) (xs : List A) (y : A) → Contains (x ∷ xs) y → (x ≡ y) ⊎ Contains xs y
first_or_later x xs y has = by has.0 has.1 has.2
  where
    by : (k : ℕ) → k < length (x ∷ xs) → get_or (x ∷ xs) k y ≡ y → (x ≡ y) ⊎ Contains xs y
    by zero within same = inl same
    by (suc k) within same = inr (k, omega (arith, within), same)

pub contains_first : {A : Type 0} (x : A) (xs : List A) → Contains (x ∷ xs) x
contains_first x xs = (0, omega arith, refl)

pub contains_later : {A : Type 0} (x : A) (xs : List A) (y : A) → Contains xs y → Contains (x ∷ xs) y
contains_later x xs y has = (suc has.0, omega (arith, has.1), has.2)

pub contains_nothing : {A : Type 0} (y : A) → Contains {X = A} [] y → ⊥
contains_nothing y has = omega (arith, has.1)

-- functions that agree on each element make the same list
pub same_map : {A B : Type 0} (f g : A → B) (xs : List A) → ((x : A) → Contains xs x → f x ≡ g x) → map f xs ≡ map g xs
same_map f g [] same = refl
same_map f g (x ∷ xs) same =
    let head : f x ≡ g x = same x (contains_first x xs) in
    let remaining : map f xs ≡ map g xs = same_map f g xs (λ y has. same y (contains_later x xs y has)) in
    cc

pub same_flat : {A B : Type 0} (f g : A → List B) (xs : List A) → ((x : A) → Contains xs x → f x ≡ g x) → flat_map f xs ≡ flat_map g xs
same_flat f g [] same = refl
same_flat f g (x ∷ xs) same =
    let head : f x ≡ g x = same x (contains_first x xs) in
    let remaining : flat_map f xs ≡ flat_map g xs = same_flat f g xs (λ y has. same y (contains_later x xs y has)) in
    ap (λ a. a ++ flat_map f xs) head ∙ ap (λ b. g x ++ b) remaining

-- an element that `find` returns is in the list
pub found_there : {A : Type 0} (p : A → Bool) (xs : List A) (x : A) → find p xs ≡ Some x → Contains xs x
found_there p [] x found = absurd (none-some x found)
found_there {A} p (y ∷ xs) x found = by (p y) found (found_there p xs x)
  where
    by : (b : Bool) → cond b (Some y) (find p xs) ≡ Some x → (find p xs ≡ Some x → Contains xs x) → Contains (y ∷ xs) x
    by true e remaining = subst (Contains (y ∷ xs)) (same_Some y x e) (contains_first y xs)
    by false e remaining = contains_later y xs x (remaining e)

-- an element of a mapped list, at its index, is the image of an element
pub mapped_at : {A B : Type 0} (f : A → B) (xs : List A) (k : ℕ) (d y : B) → get_or (map f xs) k d ≡ y → (y ≡ d → ⊥) → (x : A) × Contains xs x × (f x ≡ y)
mapped_at f [] k d y is other = absurd (other (sym is))
mapped_at f (x ∷ xs) zero d y is other = (x, contains_first x xs, is)
mapped_at f (x ∷ xs) (suc k) d y is other = let at = mapped_at f xs k d y is other in (at.0, contains_later x xs at.0 at.1, at.2)

-- the elements of a reversed list are those of the list
pub reversed_there : {A : Type 0} (xs : List A) (x : A) → Contains (reverse xs) x → Contains xs x
reversed_there xs x has =
    let within : has.0 < length xs = omega (arith, has.1, length-reverse xs) in
    (length xs - 1 - has.0, omega (arith, within), sym (get_or-reverse xs has.0 x within) ∙ has.2)

pub mapped_from : {A B : Type 0} (f : A → B) (xs : List A) (y : B) → Contains (map f xs) y → (x : A) × Contains xs x × (f x ≡ y)
mapped_from f [] y has = absurd (contains_nothing y has)
mapped_from f (x ∷ xs) y has = elim (first_or_later (f x) (map f xs) y has) [
  | inl same ↦ (x, contains_first x xs, same)
  | inr later ↦ let from = mapped_from f xs y later in (from.0, contains_later x xs from.0 from.1, from.2)
]

-- an element of a filtered list is the image of an element
pub filtered_from : {A B : Type 0} (f : A → Option B) (xs : List A) (y : B) → Contains (filter_map f xs) y → (x : A) × Contains xs x × (f x ≡ Some y)
filtered_from f [] y has = absurd (contains_nothing y has)
filtered_from {A} {B} f (x ∷ xs) y has = by (f x) refl has (λ later. filtered_from f xs y later)
  where
    by : (found : Option B) → f x ≡ found → Contains (cons_option found (filter_map f xs)) y
        → (Contains (filter_map f xs) y → (w : A) × Contains xs w × (f w ≡ Some y)) → (w : A) × Contains (x ∷ xs) w × (f w ≡ Some y)
    by None is here later = let from = later here in (from.0, contains_later x xs from.0 from.1, from.2)
    by (Some z) is here later = elim (first_or_later z (filter_map f xs) y here) [
      | inl same ↦ (x, contains_first x xs, is ∙ ap Some same)
      | inr after_first ↦ let from = later after_first in (from.0, contains_later x xs from.0 from.1, from.2)
    ]

pub same_filtered : {A B : Type 0} (f g : A → Option B) (xs : List A) → ((x : A) → Contains xs x → f x ≡ g x) → filter_map f xs ≡ filter_map g xs
same_filtered f g [] same = refl
same_filtered f g (x ∷ xs) same =
    let head : f x ≡ g x = same x (contains_first x xs) in
    let remaining : filter_map f xs ≡ filter_map g xs = same_filtered f g xs (λ y has. same y (contains_later x xs y has)) in
    ap (λ found. cons_option found (filter_map f xs)) head ∙ ap (cons_option (g x)) remaining

pub only_one : {A : Type 0} (x y : A) → Contains (x ∷ []) y → x ≡ y
only_one x y has = elim (first_or_later x [] y has) [
  | inl same ↦ same
  | inr later ↦ absurd (contains_nothing y later)
]
