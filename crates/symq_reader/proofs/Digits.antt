-- Numbers that are read digit by digit.
use Rattle.std.proofs.Common.{◌≡◌, ℕ, ◌+◌, ◌*◌, ◌/◌, ◌%◌, ◌<◌, List, [], ◌∷◌, ◌++◌, length, take, drop, get_or, decimal, sym, ap, ap₂, ◌∙◌, arith}
use Rattle.std.proofs.lemmas.List.{take_more, take-append-drop}
use Rattle.std.proofs.lemmas.Fmt.{decimal_digit, decimal_step}

-- one digit is the decimal text of its number
pub digit_first : (bytes : List ℕ) (d : ℕ) → 0 < length bytes → get_or bytes 0 0 ≡ 48 + d → d < 10 → take 1 bytes ≡ decimal d
digit_first bytes d within is small =
    take_more bytes 0 0 within ∙ (ap (λ x. x ∷ []) is ∙ sym (decimal_digit d small))

-- one more digit extends the decimal text
pub digit_more : (bytes : List ℕ) (index n d : ℕ) → 0 < n → n < 100000000 → d < 10 → index < length bytes → get_or bytes index 0 ≡ 48 + d
    → take index bytes ≡ decimal n → take (index + 1) bytes ≡ decimal (n * 10 + d)
digit_more bytes index n d positive few small within is front =
    let next = n * 10 + d in
    let high : next / 10 ≡ n = omega arith in
    let low : next % 10 ≡ d = omega arith in
    take_more bytes index 0 within
    ∙ (ap₂ (λ (xs : List ℕ) (x : ℕ). xs ++ x ∷ []) front is
    ∙ (ap₂ (λ (q r : ℕ). decimal q ++ (48 + r) ∷ []) (sym high) (sym low) ∙ sym (decimal_step next (omega arith) (omega arith))))

-- the bytes are the digits and what follows them
pub digits_then : (bytes : List ℕ) (index n : ℕ) → take index bytes ≡ decimal n → bytes ≡ decimal n ++ drop index bytes
digits_then bytes index n front = sym (take-append-drop index bytes) ∙ ap (λ xs. xs ++ drop index bytes) front
