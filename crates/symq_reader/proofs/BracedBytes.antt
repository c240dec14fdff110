-- The word at the front of a text is the same if a brace and any bytes follow the text.
use Rattle.std.proofs.Common.{◌≡◌, ℕ, zero, suc, ◌+◌, ◌-◌, ◌≤◌, Bool, true, false, cond, ◌&&◌, ◌||◌, ◌==◌, List, [], ◌∷◌, ◌++◌, length, take}
use Rattle.std.proofs.Common.{drop, Option, Some, None, option_and_then, inl, inr, ◌⊎◌, refl, sym, ap, ap₂, ◌∙◌, subst, arith, length-append}
use Rattle.std.proofs.lemmas.Bool.{true≢false, false≢true, or_cases}
use Rattle.std.specs.List.{prefix_len}
use Rattle.std.specs.Prelude.{nat_eq}
use Rattle.std.specs.List.{starts_with}
use Rattle.std.specs.Char.{is_ascii_digit}
use Rattle.json.specs.Token.{Token, number, boolean, null, bad}
use Rattle.json.specs.Word.{head, ends_word, after_digits, after_minus, after_sign, after_whole}
use Rattle.json.specs.Word.{after_fraction, after_exponent, after_number, number_before, literal, word}

under : (b p e q f : Bool) → (p && e) ≡ (q && f) → ((b && p) && e) ≡ ((b && q) && f)
under true p e q f h = h
under false p e q f h = refl

chosen : {b c : Bool} {x y p q : Token} → b ≡ c → x ≡ y → p ≡ q → cond b x p ≡ cond c y q
chosen e f g = λ i. cond (e i) (f i) (g i)

module _ (v : List ℕ) where
  -- the text, a closing brace, and any bytes
  abbrev braced : List ℕ → List ℕ
  braced t = t ++ 125 ∷ v

  -- both are None, or the second is the first with the brace and the bytes after it
  abbrev Same : Option (List ℕ) → Option (List ℕ) → Type 0
  Same None p = p ≡ None
  Same (Some r) p = p ≡ Some (braced r)

  same_test : (c : ℕ) (t : List ℕ) → (125 == c) ≡ false → (32 == c) ≡ false → (head (braced t) == c) ≡ (head t == c)
  same_test c [] h k = h ∙ sym k
  same_test c (x ∷ xs) h k = refl

  one : (c : ℕ) (t : List ℕ) → (32 == c) ≡ false → (head t == c) ≡ true → drop 1 (braced t) ≡ braced (drop 1 t)
  one c [] h e = absurd (false≢true (sym h ∙ e))
  one c (x ∷ xs) h e = refl

  either : (a b : ℕ) (t : List ℕ) → (32 == a) ≡ false → (32 == b) ≡ false → ((head t == a) ≡ true) ⊎ ((head t == b) ≡ true)
      → drop 1 (braced t) ≡ braced (drop 1 t)
  either a b t p q (inl e) = one a t p e
  either a b t p q (inr e) = one b t q e

  digits_at : (d : Bool) (x : ℕ) (xs : List ℕ) (n m : ℕ) → (m ≡ n) × (drop n (braced xs) ≡ braced (drop n xs))
      → (cond d (1 + m) 0 ≡ cond d (1 + n) 0) × (drop (cond d (1 + n) 0) (braced (x ∷ xs)) ≡ braced (drop (cond d (1 + n) 0) (x ∷ xs)))
  digits_at false x xs n m ih = (refl, refl)
  digits_at true x xs n m ih =
      let e : suc n ≡ 1 + n = omega arith in
      (ap (λ k. 1 + k) ih.0, subst (λ j. drop j (braced (x ∷ xs)) ≡ braced (drop j (x ∷ xs))) e ih.1)

  digit_run : (t : List ℕ) → (prefix_len is_ascii_digit (braced t) ≡ prefix_len is_ascii_digit t)
      × (drop (prefix_len is_ascii_digit t) (braced t) ≡ braced (drop (prefix_len is_ascii_digit t) t))
  digit_run [] = (refl, refl)
  digit_run (x ∷ xs) = digits_at (is_ascii_digit x) x xs _ _ (digit_run xs)

  by_test : (b c : Bool) (x y p q : Option (List ℕ)) → c ≡ b → (b ≡ true → Same x p) → Same y q → Same (cond b x y) (cond c p q)
  by_test true true x y p q e f g = f refl
  by_test false false x y p q e f g = g
  by_test true false x y p q e f g = absurd (false≢true e)
  by_test false true x y p q e f g = absurd (true≢false e)

  -- the comparison for an equal text
  after : (u w : List ℕ) (f : List ℕ → Option (List ℕ)) → w ≡ braced u → Same (f u) (f (braced u)) → Same (f u) (f w)
  after u w f e h = subst (λ t. Same (f u) (f t)) (sym e) h

  optional : (t : List ℕ) (b c : Bool) → c ≡ b → (b ≡ true → drop 1 (braced t) ≡ braced (drop 1 t))
      → cond c (drop 1 (braced t)) (braced t) ≡ braced (cond b (drop 1 t) t)
  optional t true true e f = f refl
  optional t false false e f = refl
  optional t true false e f = absurd (false≢true e)
  optional t false true e f = absurd (true≢false e)

  digits : (t : List ℕ) → Same (after_digits t) (after_digits (braced t))
  digits t =
      let d = digit_run t in
      by_test (prefix_len is_ascii_digit t == 0) (prefix_len is_ascii_digit (braced t) == 0) None _ None _ (ap (λ n. n == 0) d.0) (λ e. refl)
      (ap Some (ap (λ n. drop n (braced t)) d.0 ∙ d.1))

  whole : (t : List ℕ) → Same (after_whole t) (after_whole (braced t))
  whole t = by_test (head t == 48) _ (Some (drop 1 t)) _ _ _ (same_test 48 t refl refl) (λ e. ap Some (one 48 t refl e)) (digits t)

  fraction : (t : List ℕ) → Same (after_fraction t) (after_fraction (braced t))
  fraction t =
      by_test (head t == 46) _ _ (Some t) _ _ (same_test 46 t refl refl) (λ e. after (drop 1 t) _ after_digits (one 46 t refl e) (digits (drop 1 t))) refl

  signed : (t : List ℕ) → Same (after_digits (after_sign t)) (after_digits (after_sign (braced t)))
  signed t =
      after (after_sign t) _ after_digits
      (optional t _ _ (ap₂ (λ a b. a || b) (same_test 45 t refl refl) (same_test 43 t refl refl)) (λ e. either 45 43 t refl refl (or_cases _ _ e)))
      (digits (after_sign t))

  exponent : (t : List ℕ) → Same (after_exponent t) (after_exponent (braced t))
  exponent t =
      by_test ((head t == 101) || (head t == 69)) _ _ (Some t) _ _ (ap₂ (λ a b. a || b) (same_test 101 t refl refl) (same_test 69 t refl refl))
      (λ e. after (drop 1 t) _ (λ u. after_digits (after_sign u)) (either 101 69 t refl refl (or_cases _ _ e)) (signed (drop 1 t))) refl

  then : (f : List ℕ → Option (List ℕ)) → ((u : List ℕ) → Same (f u) (f (braced u))) → (o p : Option (List ℕ)) → Same o p
      → Same (option_and_then f o) (option_and_then f p)
  then f g None p h = ap (option_and_then f) h
  then f g (Some r) p h = subst (λ q. Same (f r) (option_and_then f q)) (sym h) (g r)

  same_number : (t : List ℕ) → Same (after_number t) (after_number (braced t))
  unfolding after_number
  same_number t =
      then after_exponent exponent _ _ (then after_fraction fraction _ _
      (after (after_minus t) _ after_whole (optional t _ _ (same_test 45 t refl refl) (one 45 t refl)) (whole (after_minus t))))

  same_end : (t : List ℕ) → ends_word (braced t) ≡ ends_word t
  same_end [] = refl
  same_end (x ∷ xs) = refl

  same_front : (k : ℕ) (t : List ℕ) → k ≤ length t → take k (braced t) ≡ take k t
  same_front zero t h = refl
  same_front (suc k) [] h = let never : ⊥ = omega arith in absurd never
  same_front (suc k) (x ∷ xs) h = ap (λ s. x ∷ s) (same_front k xs (omega arith))

  same_cut : (t : List ℕ) (o p : Option (List ℕ)) → Same o p → number_before (braced t) p ≡ number_before t o
  same_cut t None p h = ap (number_before (braced t)) h
  same_cut t (Some r) p h =
      let size : length (braced t) - length (braced r) ≡ length t - length r = omega (arith, length-append t (125 ∷ v), length-append r (125 ∷ v)) in
      let front = ap (λ k. take k (braced t)) size ∙ same_front (length t - length r) t (omega arith) in
      ap (number_before (braced t)) h ∙ ap₂ (λ b s. cond b (number s) bad) (same_end r) front

  -- the name has no closing brace
  abbrev HasNoBrace : List ℕ → Type 0
  HasNoBrace [] = Unit {0}
  HasNoBrace (n ∷ ns) = ((n == 125) ≡ false) × HasNoBrace ns

  same_name : (ns t : List ℕ) → HasNoBrace ns
      → (starts_with nat_eq (braced t) ns && ends_word (drop (length ns) (braced t))) ≡ (starts_with nat_eq t ns && ends_word (drop (length ns) t))
  same_name [] t h = same_end t
  same_name (n ∷ ns) [] h = ap (λ b. (b && starts_with nat_eq v ns) && ends_word (drop (length ns) v)) h.0
  same_name (n ∷ ns) (x ∷ xs) h = under (n == x) _ _ _ _ (same_name ns xs h.1)

  same_literal : (name : List ℕ) (k : Token) (t : List ℕ) → HasNoBrace name → literal name k (braced t) ≡ literal name k t
  same_literal name k t h = ap (λ b. cond b k bad) (same_name name t h)

  -- the word at the front of a text is that of the text with a brace after it
  pub keyword_braced : (t : List ℕ) → word (braced t) ≡ word t
  unfolding word
  keyword_braced t =
      chosen (same_test 116 t refl refl) (same_literal (116 ∷ 114 ∷ 117 ∷ 101 ∷ []) (boolean true) t (refl, (refl, (refl, (refl, tt)))))
      (chosen (same_test 102 t refl refl) (same_literal (102 ∷ 97 ∷ 108 ∷ 115 ∷ 101 ∷ []) (boolean false) t (refl, (refl, (refl, (refl, (refl, tt))))))
      (chosen (same_test 110 t refl refl) (same_literal (110 ∷ 117 ∷ 108 ∷ 108 ∷ []) null t (refl, (refl, (refl, (refl, tt)))))
      (same_cut t _ _ (same_number t))))
