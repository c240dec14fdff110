-- The parts of bytes between line ends: at the first line end, and after two slices are joined.
use Rattle.std.proofs.Common.{◌≡◌, ◌<◌, ◌+◌, ℕ, List, [], ◌∷◌, ◌++◌, Bool, true, false, cond, length}
use Rattle.std.proofs.Common.{take, drop, eqb, get_or, refl, sym, ap, ◌∙◌, subst, append-nil, arith}
use Rattle.std.specs.List.{onto_first, position_or_len}
use Rattle.std.proofs.lemmas.List.Elements.{All-from_get_or}
use Rattle.std.proofs.lemmas.List.Splits.{slice_split_none, slice_split_first, length-slice_split}
use Rattle.std.proofs.lemmas.List.Sums.{position_or_len_is}
use Rattle.memchr.specs.Find.{Nowhere, NoneBefore, Passes, is_byte}
use Rattle.std.proofs.lemmas.Grind.{flat_map-append}
use Rattle.symq_core.specs.Lines.{split_at_newlines, all_but_last, last_or_empty, nonempty_line, terminated_lines, answer_lines}
use Rattle.symq_core.specs.inner.Sessions.{prepend_to_first, split_with_partial_line}

not_true : (b : Bool) → ¬ (b ≡ true) → b ≡ false
not_true true h = absurd (h refl)
not_true false h = refl

-- bytes without a line end are one part
pub parts_unended : (bytes : List ℕ) → Nowhere (Passes (is_byte 10) bytes) 0 (length bytes) → split_at_newlines bytes ≡ bytes ∷ []
parts_unended bytes none =
    slice_split_none (λ b. eqb b 10) bytes
    (All-from_get_or (λ b. eqb b 10 ≡ false) bytes 0 (λ k h. not_true (eqb (get_or bytes k 0) 10) (none k (omega arith) h)))

-- the first part ends at the first line end
pub parts_at_end : (bytes : List ℕ) (k : ℕ) → NoneBefore (Passes (is_byte 10) bytes) 0 (length bytes) k → Passes (is_byte 10) bytes k
    → split_at_newlines bytes ≡ take k bytes ∷ split_at_newlines (drop (k + 1) bytes)
parts_at_end bytes k first is =
    let at : position_or_len (λ b. eqb b 10) bytes ≡ k =
    position_or_len_is (λ b. eqb b 10) bytes k 0 (omega (arith, first.high)) (λ j h. not_true (eqb (get_or bytes j 0) 10) (first.before j (omega arith) h))
    (λ h. is) in
    subst (λ n. split_at_newlines bytes ≡ take n bytes
    ∷ split_at_newlines (drop (n + 1) bytes)) at (slice_split_first (λ b. eqb b 10) bytes 0 (omega (arith, at, first.high)))

pub some_parts : (bytes : List ℕ) → 0 < length (split_at_newlines bytes)
some_parts bytes = omega (arith, length-slice_split (λ b. eqb b 10) bytes)

pub prepend_to_first-nil : (parts : List (List ℕ)) → 0 < length parts → prepend_to_first [] parts ≡ parts
prepend_to_first-nil [] h = absurd (omega arith)
prepend_to_first-nil (part ∷ parts) h = refl

pub some_joined : (line : List ℕ) (parts : List (List ℕ)) → 0 < length (prepend_to_first line parts)
some_joined line [] = omega arith
some_joined line (part ∷ parts) = omega arith

pub all_but_last-append : (xs ys : List (List ℕ)) → 0 < length ys → all_but_last (xs ++ ys) ≡ xs ++ all_but_last ys
all_but_last-append [] ys h = refl
all_but_last-append (x ∷ []) [] h = absurd (omega arith)
all_but_last-append (x ∷ []) (y ∷ ys) h = refl
all_but_last-append (x ∷ z ∷ xs) ys h = ap (λ t. x ∷ t) (all_but_last-append (z ∷ xs) ys h)

pub last_or_empty-append : (xs ys : List (List ℕ)) → 0 < length ys → last_or_empty (xs ++ ys) ≡ last_or_empty ys
last_or_empty-append [] ys h = refl
last_or_empty-append (x ∷ []) [] h = absurd (omega arith)
last_or_empty-append (x ∷ []) (y ∷ ys) h = refl
last_or_empty-append (x ∷ z ∷ xs) ys h = last_or_empty-append (z ∷ xs) ys h

-- the parts of two slices after each other: the last of the first parts is joined to the first of the second parts
abbrev joined : List (List ℕ) → List (List ℕ) → List (List ℕ)
joined parts more = all_but_last parts ++ prepend_to_first (last_or_empty parts) more

joined_ended : (parts more : List (List ℕ)) → 0 < length parts → joined ([] ∷ parts) more ≡ [] ∷ joined parts more
joined_ended [] more h = absurd (omega arith)
joined_ended (part ∷ parts) more h = refl

joined_onto : (x : ℕ) (parts more : List (List ℕ)) → 0 < length parts → joined (onto_first x parts) more ≡ onto_first x (joined parts more)
joined_onto x [] more h = absurd (omega arith)
joined_onto x (part ∷ []) [] h = refl
joined_onto x (part ∷ []) (next ∷ more) h = refl
joined_onto x (part ∷ other ∷ parts) more h = refl

joined_byte : (is_end : Bool) (x : ℕ) (parts more both : List (List ℕ)) → 0 < length parts → both ≡ joined parts more
    → cond is_end ([] ∷ both) (onto_first x both) ≡ joined (cond is_end ([] ∷ parts) (onto_first x parts)) more
joined_byte true x parts more both h e = ap (λ t. [] ∷ t) e ∙ sym (joined_ended parts more h)
joined_byte false x parts more both h e = ap (onto_first x) e ∙ sym (joined_onto x parts more h)

-- the parts of two slices after each other
pub split_at_newlines-append : (xs ys : List ℕ) → split_at_newlines (xs ++ ys) ≡ all_but_last (split_at_newlines xs)
    ++ split_with_partial_line (last_or_empty (split_at_newlines xs)) ys
split_at_newlines-append [] ys = sym (prepend_to_first-nil (split_at_newlines ys) (some_parts ys))
split_at_newlines-append (x ∷ xs) ys = joined_byte (eqb x 10) x (split_at_newlines xs) (split_at_newlines ys) (split_at_newlines (xs ++ ys)) (some_parts xs)
    (split_at_newlines-append xs ys)

pub terminated_lines-append : (xs ys : List ℕ) → terminated_lines (xs ++ ys) ≡ terminated_lines xs
    ++ all_but_last (split_with_partial_line (last_or_empty (split_at_newlines xs)) ys)
terminated_lines-append xs ys =
    ap all_but_last (split_at_newlines-append xs ys)
    ∙ all_but_last-append (terminated_lines xs) (split_with_partial_line (last_or_empty (split_at_newlines xs)) ys)
    (some_joined (last_or_empty (split_at_newlines xs)) (split_at_newlines ys))

pub last_part_of-append : (xs ys : List ℕ)
    → last_or_empty (split_at_newlines (xs ++ ys)) ≡ last_or_empty (split_with_partial_line (last_or_empty (split_at_newlines xs)) ys)
last_part_of-append xs ys =
    ap last_or_empty (split_at_newlines-append xs ys)
    ∙ last_or_empty-append (terminated_lines xs) (split_with_partial_line (last_or_empty (split_at_newlines xs)) ys)
    (some_joined (last_or_empty (split_at_newlines xs)) (split_at_newlines ys))

pub answer_lines-append : (answer : List ℕ → List ℕ) (xs ys : List (List ℕ)) → answer_lines answer (xs ++ ys) ≡ answer_lines answer xs ++ answer_lines answer ys
answer_lines-append answer xs ys = flat_map-append (λ line. answer line ++ 10 ∷ []) xs ys

-- the parts after a line that ends at the next line end
pub parts_after_line : (line rest tail more : List ℕ) → split_at_newlines rest ≡ tail ∷ split_at_newlines more
    → split_with_partial_line line rest ≡ (line ++ tail) ∷ split_with_partial_line [] more
parts_after_line line rest tail more e = ap (prepend_to_first line) e
    ∙ ap (λ t. (line ++ tail) ∷ t) (sym (prepend_to_first-nil (split_at_newlines more) (some_parts more)))

pub parts_after_unended : (line rest : List ℕ) → split_at_newlines rest ≡ rest ∷ [] → split_with_partial_line line rest ≡ (line ++ rest) ∷ []
parts_after_unended line rest e = ap (prepend_to_first line) e

-- bytes that aren't empty are one line
pub nonempty_line-some : (line : List ℕ) → 0 < length line → nonempty_line line ≡ (line ++ []) ∷ []
nonempty_line-some [] h = absurd (omega arith)
nonempty_line-some (b ∷ bytes) h = ap (λ t. t ∷ []) (sym (append-nil (b ∷ bytes)))
