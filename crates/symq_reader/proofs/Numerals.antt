-- Numerals that are no whole numbers.
use Rattle.std.proofs.Common.{◌≡◌, ◌^◌, ◌<◌, ◌++◌, [], ◌∷◌, length, arith, decimal, append-nil, sym, ap, ◌∙◌, ◌&&◌, ◌==◌}
use Rattle.std.proofs.Common.{ℕ, List, Bool, true, false, cond, Float, None, Some, refl, nat_lt, nat_le, get_or, drop}
use Rattle.std.proofs.lemmas.Bool.{eqb-true}
use Rattle.std.specs.Float.{binary64, float_is_finite}
use Rattle.fast_float.specs.Text.{Parts, scan, nearest, digits_of, with_sign}
use Rattle.serde_json.specs.Data.{negative, float}
use Rattle.serde_json.specs.Read.{number_of, number_from, float_of, is_integer}
use Rattle.serde_json.specs.Find.{as_u64}
use Rattle.serde_json.proofs.Numbers.{number_of-decimal}
use Rattle.symq_reader.specs.JsonData.{number_or_minus_one}

either_float : (b : Bool) (x : Float) → as_u64 (number_or_minus_one (cond b (Some (float x)) None)) ≡ None
either_float true x = refl
either_float false x = refl

pub no_float : (sign : Bool) (p : Parts) → as_u64 (number_or_minus_one (float_of sign p)) ≡ None
no_float sign p = either_float (float_is_finite (nearest binary64 sign p)) (nearest binary64 sign p)

either_negative : (b : Bool) (p : Parts) → as_u64 (number_or_minus_one (cond b (Some (negative (with_sign true (digits_of p)))) (float_of true p))) ≡ None
either_negative true p = refl
either_negative false p = no_float true p

pub no_negative : (p : Parts) → as_u64 (number_or_minus_one (number_from true p)) ≡ None
no_negative p = either_negative (is_integer p && nat_lt 0 (digits_of p) && nat_le (digits_of p) (2 ^ 63)) p

pub of_minus : (s : List ℕ) → (get_or s 0 0 == 45) ≡ true → as_u64 (number_or_minus_one (number_of s)) ≡ None
unfolding number_of
of_minus s e = rw e (no_negative (scan (drop 1 s)))

pub of_digits : (s : List ℕ) → (get_or s 0 0 == 45) ≡ false → number_of s ≡ number_from false (scan s)
unfolding number_of
of_digits s e = rw e

-- a decimal text is read as its number
pub of_decimal : (s rest : List ℕ) (n : ℕ) → s ≡ decimal n ++ rest → (length rest == 0) ≡ true → n < 2 ^ 64
    → Some n ≡ as_u64 (number_or_minus_one (number_of s))
of_decimal s [] n is none fits = sym (ap (λ x. as_u64 (number_or_minus_one (number_of x))) (is ∙ append-nil (decimal n))
    ∙ ap (λ o. as_u64 (number_or_minus_one o)) (number_of-decimal n fits))
of_decimal s (b ∷ rest) n is none fits = absurd (omega (arith, eqb-true (length (b ∷ rest)) 0 none))
