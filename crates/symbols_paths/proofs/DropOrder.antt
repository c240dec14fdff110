-- The measure of the loops that drop nodes one after another. The nodes that are still to be dropped are a list, whose first counts less than
-- the others: it may be a link above all that was there before.
use Rattle.std.proofs.Common.{◌≡◌, ℕ, ◌+◌, ◌<◌, List, [], ◌∷◌, ◌++◌, length, map, reverse, Vec, refl, ap, subst, ◌∙◌, arith, true, false}
use Rattle.std.specs.Prelude.{vec_len, ◌==◌, slice_set, slice_index_or}
use Rattle.std.specs.Global.{Global}
use Rattle.std.proofs.lemmas.List.{reverse-append, reverse-reverse}
use Rattle.symbols_paths.proofs.NamedPathLemmas.{none_at, some_at}

-- of weights, where the second number is that of a node in full
abbrev pub whole_in : List (ℕ × ℕ) → ℕ
whole_in [] = 0
whole_in (w ∷ ws) = 1 + w.1 + whole_in ws

-- of weights, where the first node counts less
abbrev pub ahead_in : List (ℕ × ℕ) → ℕ
ahead_in [] = 0
ahead_in (w ∷ ws) = w.0 + whole_in ws

abbrev pub whole : {A : Type 0} → (A → ℕ × ℕ) → List A → ℕ
whole weigh ns = whole_in (map weigh ns)

abbrev pub left : {A : Type 0} → (A → ℕ × ℕ) → List A → ℕ
left weigh ns = ahead_in (map weigh ns)

pub whole_more : {A : Type 0} (weigh : A → ℕ × ℕ) (ns : List A) (n : A) → whole weigh (ns ++ n ∷ []) ≡ whole weigh ns + (1 + (weigh n).1)
whole_more weigh [] n = omega arith
whole_more weigh (m ∷ ns) n = omega (arith, whole_more weigh ns n)

pub left_more : {A : Type 0} (weigh : A → ℕ × ℕ) (m : A) (ns : List A) (n : A) → left weigh ((m ∷ ns) ++ n ∷ []) ≡ left weigh (m ∷ ns) + (1 + (weigh n).1)
left_more weigh m ns n = omega (arith, whole_more weigh ns n)

-- the node at hand is dropped, and the last of the others is taken
pub dropped : {A : Type 0} (weigh : A → ℕ × ℕ) (work new : List A) (hand self : A) → work ≡ new ++ hand ∷ []
    → left weigh (new ++ hand ∷ []) < left weigh (work ++ self ∷ [])
dropped weigh [] [] hand self is = absurd (omega (arith, ap length is))
dropped weigh [] (n ∷ new) hand self is = absurd (omega (arith, ap length is))
dropped weigh (m ∷ ms) new hand self is = subst (λ ns. left weigh ns < left weigh ((m ∷ ms) ++ self ∷ [])) is (omega (arith, left_more weigh m ms self))

-- the node at hand is the only one, and its next nodes come instead
pub opened : {A : Type 0} (weigh : A → ℕ × ℕ) (work next : List A) (self : A) → length work ≡ 0 → (weigh self).0 ≡ 1 + left weigh next
    → left weigh next < left weigh (work ++ self ∷ [])
opened weigh [] next self none here = omega (arith, here)
opened weigh (m ∷ ms) next self none here = absurd (omega (arith, none))

-- the next nodes of the one at hand come instead, and a link above the others takes the place of the first of them
pub spliced : {A : Type 0} (weigh : A → ℕ × ℕ) (work next : List A) (first self spliced_in : A) → (length work ≡ 0 → ⊥) → (length next ≡ 0 → ⊥)
    → (weigh self).1 ≡ 1 + whole weigh next → (weigh spliced_in).0 ≡ 1 + left weigh work → first ≡ slice_index_or next 0 first
    → left weigh (slice_set next 0 spliced_in ++ first ∷ []) < left weigh (work ++ self ∷ [])
spliced weigh [] next first self spliced_in some _ _ _ _ = absurd (some refl)
spliced weigh (m ∷ ms) [] first self spliced_in _ some _ _ _ = absurd (some refl)
spliced weigh (m ∷ ms) (n ∷ ns) first self spliced_in _ _ here ahead is =
    omega (arith, left_more weigh spliced_in ns first, left_more weigh m ms self, here, ahead, ap (λ x. (weigh x).1) is)

pub is_none : {A : Type 0} (xs : Vec A Global) → true ≡ (vec_len xs == 0) → length xs.items ≡ 0
is_none xs said = omega (arith, xs.ok.0, none_at (vec_len xs) said)

pub is_some : {A : Type 0} (xs : Vec A Global) → false ≡ (vec_len xs == 0) → length xs.items ≡ 0 → ⊥
is_some xs said empty = omega (arith, some_at (vec_len xs) said, xs.ok.0, empty)

-- ---- a stack of nodes that are still to be visited

pub whole_append : {A : Type 0} (weigh : A → ℕ × ℕ) (xs ys : List A) → whole weigh (xs ++ ys) ≡ whole weigh xs + whole weigh ys
whole_append weigh [] ys = omega arith
whole_append weigh (x ∷ xs) ys = omega (arith, whole_append weigh xs ys)

pub whole_reverse : {A : Type 0} (weigh : A → ℕ × ℕ) (xs : List A) → whole weigh (reverse xs) ≡ whole weigh xs
whole_reverse weigh [] = refl
whole_reverse weigh (x ∷ xs) = ap (whole weigh) (reverse-append (x ∷ []) xs) ∙ omega (arith, whole_append weigh (reverse xs) (x ∷ []), whole_reverse weigh xs)

-- the last node of the stack is taken off
pub popped : {A : Type 0} (weigh : A → ℕ × ℕ) (stack new : List A) (x : A) → stack ≡ new ++ x ∷ [] → whole weigh new < whole weigh stack
popped weigh stack new x is = omega (arith, ap (whole weigh) is, whole_append weigh new (x ∷ []))

-- and its next nodes are put on
pub replaced : {A : Type 0} (weigh : A → ℕ × ℕ) (stack new next more : List A) (x : A) → stack ≡ new ++ x ∷ [] → more ≡ new ++ reverse next
    → (weigh x).1 ≡ 1 + whole weigh next → whole weigh more < whole weigh stack
replaced weigh stack new next more x is put here =
    omega (
      arith,
      ap (whole weigh) is,
      ap (whole weigh) put,
      whole_append weigh new (x ∷ []),
      whole_append weigh new (reverse next),
      whole_reverse weigh next,
      here,
    )

-- in the order in which they are visited
pub popped_first : {A : Type 0} (stack new : List A) (x : A) → stack ≡ new ++ x ∷ [] → reverse stack ≡ x ∷ reverse new
popped_first stack new x is = ap reverse is ∙ reverse-append new (x ∷ [])

pub put_first : {A : Type 0} (new next more : List A) → more ≡ new ++ reverse next → reverse more ≡ next ++ reverse new
put_first new next more put = ap reverse put ∙ (reverse-append new (reverse next) ∙ ap (λ xs. xs ++ reverse new) (reverse-reverse next))
