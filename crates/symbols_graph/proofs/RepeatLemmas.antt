-- Finding repeated entries by the set of entries seen so far.
use Rattle.std.proofs.Common.{◌≡◌, ℕ, zero, suc, ◌+◌, ◌<◌, ◌≤◌, Bool, true, false, true≢false, ◌||◌, ◌&&◌, Decides, List, [], ◌∷◌, Option}
use Rattle.std.proofs.Common.{Some, None, length, get_or, take, take_all, map, slice_get, refl, sym, ap, ◌∙◌, subst, ⊎_elim, arith}
use Rattle.std.specs.List.{list_any}
use Rattle.std.specs.Option.{option_map}
use Rattle.std.specs.Str.{bytes_eq}
use Rattle.std.proofs.lemmas.Bool.{cases_lt, false≢true}
use Rattle.std.proofs.lemmas.Bool.Decides.{Decides-and}
use Rattle.std.proofs.lemmas.Slice.Eq.{bytes_eq-Decides}
use Rattle.std.proofs.lemmas.Option.{slice_get_read, slice_get_within, slice_get-map, same_Some, none-some}
use Rattle.symbols_graph.specs.Repeats.{IsRepeatedEntryAt}
use Rattle.symbols_graph.specs.inner.CheckSteps.{IsFirstWhere, IsRepeatBy}

-- P holds for no entry before n.
abbrev pub NoneBelow : {A : Type 0} → (ℕ → A → Type 0) → ℕ → Type 0
NoneBelow {A} P n = (j : ℕ) (y : A) → j < n → P j y → ⊥

-- If P holds for no entry before i and not for entry i, it holds for none before i + 1.
pub none_below_more : {A : Type 0} (P : ℕ → A → Type 0) (i : ℕ) → NoneBelow P i → ((y : A) → P i y → ⊥) → NoneBelow P (i + 1)
none_below_more {A} P i none here j y below is = ⊎_elim (λ under. none j y under is) (λ over. here y (subst (λ n. P n y) (at over) is)) (cases_lt j i)
  where
    at : i ≤ j → j ≡ i
    at over = omega arith

module _ {A : Type 0} (eq : A → A → Bool) (xs : List A) where
  -- No entry before n repeats an earlier one.
  abbrev pub NoRepeatBelow : ℕ → Type 0
  NoRepeatBelow n = NoneBelow (IsRepeatBy eq xs) n

  -- Entry i repeats an earlier one.
  pub repeat_at : (i : ℕ) (x : A) → i < length xs → x ≡ get_or xs i x → list_any (λ y. eq y x) (take i xs) ≡ true → IsRepeatBy eq xs i x
  repeat_at i x inside is found = (slice_get_read xs (length xs) i x refl inside is, found)

  -- If entry i is new, no entry before i + 1 repeats an earlier one.
  pub none_more : (i : ℕ) (x : A) → i < length xs → x ≡ get_or xs i x → list_any (λ y. eq y x) (take i xs) ≡ false → NoRepeatBelow i → NoRepeatBelow (i + 1)
  none_more i x inside is new none = none_below_more (IsRepeatBy eq xs) i none (λ y repeat. here y repeat)
    where
      here : (y : A) → IsRepeatBy eq xs i y → ⊥
      here y repeat =
          let same : y ≡ x = same_Some y x (sym repeat.0 ∙ slice_get_read xs (length xs) i x refl inside is) in
          true≢false (sym repeat.1 ∙ ap (λ w. list_any (λ z. eq z w) (take i xs)) same ∙ new)

  -- If no entry before the end repeats an earlier one, none does.
  pub none_all : (n : ℕ) → length xs ≤ n → NoRepeatBelow n → (i : ℕ) (x : A) → IsRepeatBy eq xs i x → ⊥
  none_all n past none i x repeat = none i x (omega (arith, slice_get_within xs i x repeat.0)) repeat

-- If the test holds for some of the first i entries, there is such an entry.
pub passed_below : {A : Type 0} (p : A → Bool) (xs : List A) (i : ℕ) → list_any p (take i xs) ≡ true
    → (j : ℕ) × (y : A) × (j < i) × (slice_get xs j ≡ Some y) × (p y ≡ true)
passed_below p xs zero found = absurd (false≢true found)
passed_below p [] (suc i) found = absurd (false≢true found)
passed_below {A} p (x ∷ xs) (suc i) found = by (p x) refl (passed_below p xs i)
  where
    by : (b : Bool) → p x ≡ b → (list_any p (take i xs) ≡ true → (j : ℕ) × (y : A) × (j < i) × (slice_get xs j ≡ Some y) × (p y ≡ true))
        → (j : ℕ) × (y : A) × (j < suc i) × (slice_get (x ∷ xs) j ≡ Some y) × (p y ≡ true)
    by true is rest = (0, x, omega arith, refl, is)
    by false is rest =
        let later = rest (sym (ap (λ b. b || list_any p (take i xs)) is) ∙ found) in
        (suc later.0, later.1, omega (arith, later.2), later.3, later.4)

or_true : (b : Bool) {c : Bool} → c ≡ true → (b || c) ≡ true
or_true true is = refl
or_true false is = is

-- If the test holds for an entry before i, it holds for some of the first i.
pub passes_below : {A : Type 0} (p : A → Bool) (xs : List A) (i j : ℕ) (y : A) → j < i → slice_get xs j ≡ Some y → p y ≡ true → list_any p (take i xs) ≡ true
passes_below p xs zero j y below at is = absurd (omega (arith, below))
passes_below p [] (suc i) j y below at is = absurd (none-some y at)
passes_below p (x ∷ xs) (suc i) zero y below at is = ap (λ b. b || list_any p (take i xs)) (ap p (same_Some x y at) ∙ is)
passes_below p (x ∷ xs) (suc i) (suc j) y below at is = or_true (p x) (passes_below p xs i j y (omega (arith, below)) at is)

-- If a mapped `Option` is `Some`, the `Option` was `Some`.
pub option_map_some : {A B : Type 0} (f : A → B) (o : Option A) (z : B) → option_map f o ≡ Some z → (x : A) × (o ≡ Some x) × (f x ≡ z)
option_map_some f None z is = absurd (none-some z is)
option_map_some f (Some x) z is = (x, refl, same_Some (f x) z is)

-- An entry of a mapped list is the image of an entry of the list.
pub read_entry : {A B : Type 0} (f : A → B) (xs : List A) (i : ℕ) (z : B) → slice_get (map f xs) i ≡ Some z → (x : A) × (slice_get xs i ≡ Some x) × (f x ≡ z)
read_entry f xs i z at = option_map_some f (slice_get xs i) z (sym (slice_get-map f xs i) ∙ at)

module _ {A B : Type 0} (eq : A → A → Bool) (f : A → B) (decides : (x y : A) → Decides (eq x y) (f x ≡ f y)) where
  -- A repeat by eq is a repeat in the mapped list.
  pub repeat_read : (xs : List A) (i : ℕ) (x : A) → IsRepeatBy eq xs i x → IsRepeatedEntryAt (map f xs) i (f x)
  repeat_read xs i x repeat =
      let earlier = passed_below (λ y. eq y x) xs i repeat.1 in (
        slice_get-map f xs i ∙ ap (option_map f) repeat.0,
        (earlier.0, earlier.2, slice_get-map f xs earlier.0 ∙ ap (option_map f) earlier.3 ∙ ap Some ((decides earlier.1 x).0 earlier.4)),
      )

  -- A repeat in the mapped list is a repeat by eq of some entry.
  pub repeat_unread : (xs : List A) (i : ℕ) (z : B) → IsRepeatedEntryAt (map f xs) i z → (x : A) × IsRepeatBy eq xs i x
  repeat_unread xs i z repeat =
      let here = read_entry f xs i z repeat.0 in
      let there = read_entry f xs repeat.1.0 z repeat.1.2 in
      (here.0, (here.1, passes_below (λ y. eq y here.0) xs i repeat.1.0 there.0 repeat.1.1 there.1 ((decides there.0 here.0).1 (there.2 ∙ sym here.2))))

  -- The image of the first repeat by eq is the first repeat in the mapped list.
  pub first_repeat_read : (xs : List A) (ys : List B) → map f xs ≡ ys → (found : Option A) → IsFirstWhere (IsRepeatBy eq xs) found
      → IsFirstWhere (IsRepeatedEntryAt ys) (option_map f found)
  first_repeat_read xs ys is None first =
      subst (λ zs. (i : ℕ) (z : B) → IsRepeatedEntryAt zs i z → ⊥) is (λ i z repeat. let found = repeat_unread xs i z repeat in first i found.0 found.1)
  first_repeat_read xs ys is (Some x) first =
      subst (λ zs. IsFirstWhere (IsRepeatedEntryAt zs) (Some (f x))) is
      (first.0, repeat_read xs first.0 x first.1, λ j z below repeat. let found = repeat_unread xs j z repeat in first.2 j found.0 below found.1)

-- Two pairs of texts are equal if and only if both parts are.
pub pair_eq-Decides : (a b c d : List ℕ) → Decides (bytes_eq a c && bytes_eq b d) (◌≡◌ {A = List ℕ × List ℕ} (a, b) (c, d))
pair_eq-Decides a b c d =
    let both = Decides-and (bytes_eq a c) (bytes_eq b d) (bytes_eq-Decides a c) (bytes_eq-Decides b d) in (
      λ is. let parts = both.0 is in ap {B = List ℕ × List ℕ} (λ x. (x, b)) parts.0 ∙ ap {B = List ℕ × List ℕ} (λ y. (c, y)) parts.1,
      λ same. both.1 (ap (λ (p : List ℕ × List ℕ). p.0) same, ap (λ (p : List ℕ × List ℕ). p.1) same),
    )

-- The test for an equal entry decides whether the list contains the text.
pub occurs-Decides : (xs : List (List ℕ)) (t : List ℕ) → Decides (list_any (λ x. bytes_eq x t) xs) ((j : ℕ) × (slice_get xs j ≡ Some t))
occurs-Decides xs t =
    let whole : take (length xs) xs ≡ xs = take_all (length xs) xs (omega arith) in (
      λ found. let at = passed_below (λ x. bytes_eq x t) xs (length xs) (ap (list_any (λ x. bytes_eq x t)) whole ∙ found) in
          (at.0, at.3 ∙ ap Some ((bytes_eq-Decides at.1 t).0 at.4)),
      λ at. sym (ap (list_any (λ x. bytes_eq x t)) whole)
          ∙ passes_below (λ x. bytes_eq x t) xs (length xs) at.0 t (slice_get_within xs at.0 t at.1) at.1 ((bytes_eq-Decides t t).1 refl),
    )

-- The first entry of an equal list with an equal result.
pub first_viewed : {A B : Type 0} (P : List A → ℕ → B → Type 0) {xs ys : List A} → xs ≡ ys → {o r : Option B} → o ≡ r → IsFirstWhere (P xs) o
    → IsFirstWhere (P ys) r
first_viewed P {xs} {ys} same {o} {r} is first = subst (λ zs. IsFirstWhere (P zs) r) same (subst (IsFirstWhere (P xs)) is first)
