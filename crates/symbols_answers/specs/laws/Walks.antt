-- Laws on lists of specifiers that grow at their ends, and on walks over such lists. They are proved.
use Rattle.std.proofs.Common.{◌≡◌, ℕ, zero, suc, ◌+◌, ◌<◌, ◌≤◌, ◌⊎◌, inl, inr, Bool, true, false, List, [], ◌∷◌, ◌++◌, length, get_or, slice_get}
use Rattle.std.proofs.Common.{Option, None, Some, refl, sym, ap, subst, ◌∙◌, arith, append-nil, append_assoc}
use Rattle.std.specs.Prelude.{Contains, fold, if◌then◌else◌}
use Rattle.std.specs.List.{IsDistinct}
use Rattle.std.specs.Option.{option_map_or}
use Rattle.std.specs.Str.{bytes_eq}
use Rattle.std.proofs.lemmas.List.{get_or_append_left, length-append}
use Rattle.std.proofs.lemmas.List.Elements.{Contains-append_left, Contains-push, Contains-push_cases, Contains-get_or}
use Rattle.std.proofs.lemmas.Map.Keys.{IsDistinct-push}
use Rattle.std.proofs.lemmas.Option.{slice_get_cases, get_or_from_slice_get}
use Rattle.symbols_root.specs.Specifiers.{contains_specifier}
use Rattle.symbols_root.specs.laws.Specifiers.{bytes_eq_is_equivalence, specifier_index_if_contained}
use Rattle.symbols_answers.specs.Questions.{append_specifier_if_absent, list_grown_by_walk_from_index}

-- ---- one more

-- a specifier that the test finds is in the list
pub contains_if_contains_specifier : (xs : List (List ℕ)) (k : List ℕ) → contains_specifier xs k ≡ true → Contains xs k
contains_if_contains_specifier xs k is = let at = specifier_index_if_contained xs k is in
    elim (slice_get_cases xs at.0).1 [
      | inl found ↦ (at.0, found.1, get_or_from_slice_get xs at.0 k k at.1)
      | inr past ↦ absurd (let no : None ≡ Some k = sym past.1 ∙ at.1 in cc)
    ]

one_from : (xs : List (List ℕ)) (k x : List ℕ) → Contains (append_specifier_if_absent xs k) x → Contains xs x ⊎ (k ≡ x)
one_from xs k x has = by (contains_specifier xs k) has
  where
    by : (b : Bool) → Contains (if b then xs else xs ++ k ∷ []) x → Contains xs x ⊎ (k ≡ x)
    by true here = inl here
    by false here = Contains-push_cases xs k x here

one_left : (xs : List (List ℕ)) (k x : List ℕ) → Contains xs x → Contains (append_specifier_if_absent xs k) x
one_left xs k x has = by (contains_specifier xs k)
  where
    by : (b : Bool) → Contains (if b then xs else xs ++ k ∷ []) x
    by true = has
    by false = Contains-append_left xs (k ∷ []) x has

one_right : (xs : List (List ℕ)) (k : List ℕ) → Contains (append_specifier_if_absent xs k) k
one_right xs k = by (contains_specifier xs k) refl
  where
    by : (b : Bool) → contains_specifier xs k ≡ b → Contains (if b then xs else xs ++ k ∷ []) k
    by true is = contains_if_contains_specifier xs k is
    by false is = Contains-push xs k

one_distinct : (xs : List (List ℕ)) (k : List ℕ) → IsDistinct bytes_eq xs → IsDistinct bytes_eq (append_specifier_if_absent xs k)
one_distinct xs k once = by (contains_specifier xs k) refl
  where
    by : (b : Bool) → contains_specifier xs k ≡ b → IsDistinct bytes_eq (if b then xs else xs ++ k ∷ [])
    by true is = once
    by false is = IsDistinct-push bytes_eq_is_equivalence xs k once is

-- the list begins with the other
pub record BeginsWith (front list : List (List ℕ)) : Type 0 where
  pub added : List (List ℕ)
  pub is : list ≡ front ++ added

pub begins_with_refl : (xs : List (List ℕ)) → BeginsWith xs xs
begins_with_refl xs = record { added = []; is = sym (append-nil xs) }

pub begins_with_trans : (xs ys zs : List (List ℕ)) → BeginsWith xs ys → BeginsWith ys zs → BeginsWith xs zs
begins_with_trans xs ys zs one two = record {
  added = one.added ++ two.added;
  is = two.is
      ∙ (ap (λ (list : List (List ℕ)). list ++ two.added) one.is ∙ append_assoc xs one.added two.added);
}

one_begins : (xs : List (List ℕ)) (k : List ℕ) → BeginsWith xs (append_specifier_if_absent xs k)
one_begins xs k = by (contains_specifier xs k)
  where
    by : (b : Bool) → BeginsWith xs (if b then xs else xs ++ k ∷ [])
    by true = begins_with_refl xs
    by false = record { added = k ∷ []; is = refl }

pub beginning_is_not_longer : (xs ys : List (List ℕ)) → BeginsWith xs ys → length xs ≤ length ys
beginning_is_not_longer xs ys begins = omega (arith, ap length begins.is, length-append xs begins.added)

pub beginning_agrees_at_index : (xs ys : List (List ℕ)) (i : ℕ) (d : List ℕ) → BeginsWith xs ys → i < length xs → get_or ys i d ≡ get_or xs i d
beginning_agrees_at_index xs ys i d begins within = ap (λ (list : List (List ℕ)). get_or list i d) begins.is ∙ get_or_append_left xs begins.added d i within

pub elements_of_beginning_are_contained : (xs ys : List (List ℕ)) (x : List ℕ) → BeginsWith xs ys → Contains xs x → Contains ys x
elements_of_beginning_are_contained xs ys x begins has = subst (λ (list : List (List ℕ)). Contains list x) (sym begins.is)
    (Contains-append_left xs begins.added x has)

-- ---- several more

-- the list with each of these at its end, unless it has that already
abbrev pub append_specifiers_if_absent : List (List ℕ) → List (List ℕ) → List (List ℕ)
append_specifiers_if_absent xs ks = fold append_specifier_if_absent xs ks

first_of_list : (k : List ℕ) (ks : List (List ℕ)) (x : List ℕ) → Contains (k ∷ ks) x → (k ≡ x) ⊎ Contains ks x
first_of_list k ks x (zero, within, same) = inl same
first_of_list k ks x (suc i, within, same) = inr (i, omega (arith, within), same)

pub element_is_old_or_appended : (ks xs : List (List ℕ)) (x : List ℕ) → Contains (append_specifiers_if_absent xs ks) x → Contains xs x ⊎ Contains ks x
element_is_old_or_appended [] xs x has = inl has
element_is_old_or_appended (k ∷ ks) xs x has = elim (element_is_old_or_appended ks (append_specifier_if_absent xs k) x has) [
  | inl before ↦ elim (one_from xs k x before) [
    | inl old ↦ inl old
    | inr same ↦ inr (0, omega arith, same)
  ]
  | inr later ↦ inr (suc later.0, omega (arith, later.1), later.2)
]

pub appended_list_begins_with_old : (ks xs : List (List ℕ)) → BeginsWith xs (append_specifiers_if_absent xs ks)
appended_list_begins_with_old [] xs = begins_with_refl xs
appended_list_begins_with_old (k ∷ ks) xs =
    begins_with_trans xs (append_specifier_if_absent xs k) (append_specifiers_if_absent (append_specifier_if_absent xs k) ks) (one_begins xs k)
    (appended_list_begins_with_old ks (append_specifier_if_absent xs k))

pub appended_list_contains_each_new : (ks xs : List (List ℕ)) (x : List ℕ) → Contains ks x → Contains (append_specifiers_if_absent xs ks) x
appended_list_contains_each_new [] xs x has = absurd (omega (arith, has.1))
appended_list_contains_each_new (k ∷ ks) xs x has = elim (first_of_list k ks x has) as
    (λ _. Contains (append_specifiers_if_absent (append_specifier_if_absent xs k) ks) x) [
      | inl same ↦ elements_of_beginning_are_contained (append_specifier_if_absent xs k) (append_specifiers_if_absent (append_specifier_if_absent xs k) ks) x
          (appended_list_begins_with_old ks (append_specifier_if_absent xs k)) (subst (Contains (append_specifier_if_absent xs k)) same (one_right xs k))
      | inr later ↦ appended_list_contains_each_new ks (append_specifier_if_absent xs k) x later
    ]

pub appended_list_is_distinct_if_old_was : (ks xs : List (List ℕ)) → IsDistinct bytes_eq xs → IsDistinct bytes_eq (append_specifiers_if_absent xs ks)
appended_list_is_distinct_if_old_was [] xs once = once
appended_list_is_distinct_if_old_was (k ∷ ks) xs once = appended_list_is_distinct_if_old_was ks (append_specifier_if_absent xs k) (one_distinct xs k once)

same_or_less : (a b : ℕ) → a ≤ b → (a ≡ b) ⊎ (suc a ≤ b)
same_or_less a b le = grind (arith, le)

-- ---- walks

-- the step at a specifier adds these
pub record IsStepThatAppends (step : List ℕ → List (List ℕ) → List (List ℕ)) (nexts : List ℕ → List (List ℕ)) : Type 0 where
  pub is : (key : List ℕ) (xs : List (List ℕ)) → step key xs ≡ append_specifiers_if_absent xs (nexts key)

module _ (step : List ℕ → List (List ℕ) → List (List ℕ)) where
  pub walk_past_end_adds_nothing : (n position : ℕ) (xs : List (List ℕ)) → slice_get xs position ≡ None → list_grown_by_walk_from_index step n position xs ≡ xs
  unfolding list_grown_by_walk_from_index
  walk_past_end_adds_nothing zero position xs past = refl
  walk_past_end_adds_nothing (suc n) position xs past =
      ap (λ (found : Option (List ℕ)). option_map_or (λ key. list_grown_by_walk_from_index step n (suc position) (step key xs)) found xs) past

  pub walk_takes_step_at_index : (n position : ℕ) (xs : List (List ℕ)) (key : List ℕ) → slice_get xs position ≡ Some key
      → list_grown_by_walk_from_index step (suc n) position xs ≡ list_grown_by_walk_from_index step n (suc position) (step key xs)
  unfolding list_grown_by_walk_from_index
  walk_takes_step_at_index n position xs key at = ap (λ (found : Option (List ℕ)). option_map_or
      (λ k. list_grown_by_walk_from_index step n (suc position) (step k xs)) found xs) at

  pub walk_of_no_steps_adds_nothing : (position : ℕ) (xs : List (List ℕ)) → list_grown_by_walk_from_index step zero position xs ≡ xs
  unfolding list_grown_by_walk_from_index
  walk_of_no_steps_adds_nothing position xs = refl

  module _ (nexts : List ℕ → List (List ℕ)) (adds : IsStepThatAppends step nexts) where
    step_begins : (key : List ℕ) (xs : List (List ℕ)) → BeginsWith xs (step key xs)
    step_begins key xs = subst (BeginsWith xs) (sym (adds.is key xs)) (appended_list_begins_with_old (nexts key) xs)

    -- the walk adds at the end
    pub walked_list_begins_with_start : (n position : ℕ) (xs : List (List ℕ)) → BeginsWith xs (list_grown_by_walk_from_index step n position xs)
    walked_list_begins_with_start zero position xs = subst (BeginsWith xs) (sym (walk_of_no_steps_adds_nothing position xs)) (begins_with_refl xs)
    walked_list_begins_with_start (suc n) position xs = elim (slice_get_cases xs position).1 [
      | inl found ↦ subst (BeginsWith xs) (sym (walk_takes_step_at_index n position xs found.0 found.2))
          (begins_with_trans xs (step found.0 xs) (list_grown_by_walk_from_index step n (suc position) (step found.0 xs)) (step_begins found.0 xs)
          (walked_list_begins_with_start n (suc position) (step found.0 xs)))
      | inr past ↦ subst (BeginsWith xs) (sym (walk_past_end_adds_nothing (suc n) position xs past.1)) (begins_with_refl xs)
    ]

    -- none twice
    pub walked_list_is_distinct : (n position : ℕ) (xs : List (List ℕ)) → IsDistinct bytes_eq xs
        → IsDistinct bytes_eq (list_grown_by_walk_from_index step n position xs)
    walked_list_is_distinct zero position xs once = subst (IsDistinct bytes_eq) (sym (walk_of_no_steps_adds_nothing position xs)) once
    walked_list_is_distinct (suc n) position xs once = elim (slice_get_cases xs position).1 [
      | inl found ↦ subst (IsDistinct bytes_eq) (sym (walk_takes_step_at_index n position xs found.0 found.2))
          (walked_list_is_distinct n (suc position) (step found.0 xs) (subst (IsDistinct bytes_eq) (sym (adds.is found.0 xs))
          (appended_list_is_distinct_if_old_was (nexts found.0) xs once)))
      | inr past ↦ subst (IsDistinct bytes_eq) (sym (walk_past_end_adds_nothing (suc n) position xs past.1)) once
    ]

    -- a property of what the walk begins with, which each specifier passes on to those it adds, holds of all
    module _ (P : List ℕ → Type 0) (passes : (key x : List ℕ) → P key → Contains (nexts key) x → P x) where
      pub step_holds : (key : List ℕ) (xs : List (List ℕ)) → P key → ((x : List ℕ) → Contains xs x → P x) → (x : List ℕ) → Contains (step key xs) x → P x
      step_holds key xs here each x has = elim (element_is_old_or_appended (nexts key) xs x
          (subst (λ (list : List (List ℕ)). Contains list x) (adds.is key xs) has)) [
            | inl old ↦ each x old
            | inr new ↦ passes key x here new
          ]

      pub predicate_holds_in_walked_list : (n position : ℕ) (xs : List (List ℕ)) → ((x : List ℕ) → Contains xs x → P x) → (x : List ℕ)
          → Contains (list_grown_by_walk_from_index step n position xs) x → P x
      predicate_holds_in_walked_list zero position xs each x has = each x
          (subst (λ (list : List (List ℕ)). Contains list x) (walk_of_no_steps_adds_nothing position xs) has)
      predicate_holds_in_walked_list (suc n) position xs each x has = elim (slice_get_cases xs position).1 [
        | inl found ↦ predicate_holds_in_walked_list n (suc position) (step found.0 xs) (step_holds found.0 xs
            (each found.0 (subst (Contains xs) found.3 (Contains-get_or xs position found.0 found.1))) each) x
            (subst (λ (list : List (List ℕ)). Contains list x) (walk_takes_step_at_index n position xs found.0 found.2) has)
        | inr past ↦ each x (subst (λ (list : List (List ℕ)). Contains list x) (walk_past_end_adds_nothing (suc n) position xs past.1) has)
      ]

      -- steps that agree on these specifiers make the same list
      pub agreeing_steps_walk_alike : (other : List ℕ → List (List ℕ) → List (List ℕ))
          → ((key : List ℕ) (xs : List (List ℕ)) → P key → step key xs ≡ other key xs)
          → (n position : ℕ) (xs : List (List ℕ)) → ((x : List ℕ) → Contains xs x → P x) → list_grown_by_walk_from_index step n position xs
          ≡ list_grown_by_walk_from_index other n position xs
      unfolding list_grown_by_walk_from_index
      agreeing_steps_walk_alike other agree zero position xs each = refl
      agreeing_steps_walk_alike other agree (suc n) position xs each =
          by (slice_get xs position) refl (λ key each_later. agreeing_steps_walk_alike other agree n (suc position) (step key xs) each_later)
        where
          by : (found : Option (List ℕ)) → slice_get xs position ≡ found
              → ((key : List ℕ) → ((x : List ℕ) → Contains (step key xs) x → P x)
              → list_grown_by_walk_from_index step n (suc position) (step key xs) ≡ list_grown_by_walk_from_index other n (suc position) (step key xs))
              → option_map_or (λ key. list_grown_by_walk_from_index step n (suc position) (step key xs)) found xs
              ≡ option_map_or (λ key. list_grown_by_walk_from_index other n (suc position) (other key xs)) found xs
          by None at later = refl
          by (Some key) at later =
              let here : P key = each key (elim (slice_get_cases xs position).1 [
                | inl found ↦ (position, found.1, get_or_from_slice_get xs position key key at)
                | inr past ↦ absurd (let no : None ≡ Some key = sym past.1 ∙ at in cc)
              ]) in
              later key (step_holds key xs here each) ∙ ap (list_grown_by_walk_from_index other n (suc position)) (agree key xs here)

    -- with enough steps the list has what each of its specifiers adds
    pub walked_list_has_what_each_appends : (n position : ℕ) (xs : List (List ℕ)) → length (list_grown_by_walk_from_index step n position xs) ≤ position + n
        → (i : ℕ) (d : List ℕ) → position ≤ i
        → i < length (list_grown_by_walk_from_index step n position xs) → (x : List ℕ)
        → Contains (nexts (get_or (list_grown_by_walk_from_index step n position xs) i d)) x
        → Contains (list_grown_by_walk_from_index step n position xs) x
    walked_list_has_what_each_appends zero position xs enough i d after within x has =
        absurd (omega (arith, enough, after, within))
    walked_list_has_what_each_appends (suc n) position xs enough i d after within x has = elim (slice_get_cases xs position).1 [
      | inl found ↦ by found.0 found.1 found.2 (walk_takes_step_at_index n position xs found.0 found.2)
          (λ enough_later after_later within_later has_later.
          walked_list_has_what_each_appends n (suc position) (step found.0 xs) enough_later i d after_later within_later x has_later)
      | inr past ↦ absurd (omega (arith, ap length (walk_past_end_adds_nothing (suc n) position xs past.1), past.0, after, within))
    ]
      where
        list : List (List ℕ)
        list = list_grown_by_walk_from_index step (suc n) position xs

        -- the remaining walk has what is added later
        HoldsLater : List (List ℕ) → Type 0
        HoldsLater next = length next ≤ suc position + n → suc position ≤ i → i < length next → Contains (nexts (get_or next i d)) x → Contains next x

        at_here : (key : List ℕ) → position < length xs → slice_get xs position ≡ Some key → get_or list position d ≡ key
        at_here key inside at = beginning_agrees_at_index xs list position d (walked_list_begins_with_start (suc n) position xs) inside
            ∙ get_or_from_slice_get xs position key d at

        here : (key : List ℕ) → position < length xs → slice_get xs position ≡ Some key → list ≡ list_grown_by_walk_from_index step n (suc position)
            (step key xs)
            → position ≡ i → Contains list x
        here key inside at on same =
            let added : Contains (nexts key) x =
            subst (λ (k : List ℕ). Contains (nexts k) x) (ap (λ j. get_or list j d) (sym same) ∙ at_here key inside at) has in
            subst (λ (l : List (List ℕ)). Contains l x) (sym on) (elements_of_beginning_are_contained (step key xs)
            (list_grown_by_walk_from_index step n (suc position) (step key xs)) x
            (walked_list_begins_with_start n (suc position) (step key xs)) (subst (λ (l : List (List ℕ)). Contains l x) (sym (adds.is key xs))
            (appended_list_contains_each_new (nexts key) xs x added)))

        by : (key : List ℕ) → position < length xs → slice_get xs position ≡ Some key → list ≡ list_grown_by_walk_from_index step n (suc position) (step key xs)
            → HoldsLater (list_grown_by_walk_from_index step n (suc position) (step key xs)) → Contains list x
        by key inside at on later = elim (same_or_less position i after) [
          | inl same ↦ here key inside at on same
          | inr less ↦ subst (λ (l : List (List ℕ)). Contains l x) (sym on) (later (omega (arith, enough, ap length on)) less
              (omega (arith, within, ap length on)) (subst (λ (l : List (List ℕ)). Contains (nexts (get_or l i d)) x) on has))
        ]
