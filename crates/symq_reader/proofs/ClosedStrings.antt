-- A string ends at its closing quote, whatever follows.
use Rattle.std.proofs.Common.{◌≡◌, ℕ, Bool, true, false, cond, ◌&&◌, ◌==◌, nat_lt, List, [], ◌∷◌, ◌++◌}
use Rattle.std.proofs.Common.{Option, Some, None, option_and_then, refl, sym, ap, ◌∙◌, subst, append_assoc}
use Rattle.std.proofs.lemmas.Bool.{false≢true, eqb-true, and_parts}
use Rattle.std.specs.Prelude.{⊤}
use Rattle.std.specs.Char.{is_digit, encode_utf8}
use Rattle.json.specs.Text.{code_unit, short_escape, is_high_surrogate, is_low_surrogate, surrogate_pair}
use Rattle.json.specs.Text.{Within, plain, after_backslash, after_u, after_high, prepend, content}
use Rattle.json.specs.Word.{is_operator, is_space}
use Rattle.json.specs.Lex.{Lexeme, quote, backslash, operator, space, other, Mode, between, in_string, in_escape, lex_byte, lex}

abbrev mode : Within → Mode
mode plain = in_string
mode after_backslash = in_escape
mode after_u = in_string
mode (after_high h) = in_string

-- a text within a string has a closing quote; the string and the lexer's state after the quote don't depend on what follows
pub record Closed (w : Within) (text s : List ℕ) : Type 0 where
  pub front : List ℕ
  pub back : List ℕ
  pub split : text ≡ front ++ 34 ∷ back
  pub read : (v : List ℕ) → content w (front ++ 34 ∷ v) ≡ Some s
  pub lexed : (v : List ℕ) → lex (mode w) (front ++ 34 ∷ v) ≡ lex between v

abbrev IsClosed : Within → List ℕ → Option (List ℕ) → Type 0
IsClosed w text None = ⊤
IsClosed w text (Some s) = Closed w text s

by_test : (w : Within) (text : List ℕ) (b : Bool) (o p : Option (List ℕ)) → (b ≡ true → IsClosed w text o) → (b ≡ false → IsClosed w text p)
    → IsClosed w text (cond b o p)
by_test w text true o p f g = f refl
by_test w text false o p f g = g refl

if_found : {A : Type 0} (w : Within) (text : List ℕ) (f : A → Option (List ℕ)) (o : Option A) → ((c : A) → o ≡ Some c → IsClosed w text (f c))
    → IsClosed w text (option_and_then f o)
if_found w text f None g = tt
if_found w text f (Some c) g = g c refl

-- what is read of the first bytes precedes what is read of the rest
module _ (w then : Within) (bytes rest : List ℕ) (lexes : (r : List ℕ) → lex (mode w) (bytes ++ r) ≡ lex (mode then) r) where
  passed : ((r : List ℕ) → content w (bytes ++ r) ≡ content then r) → (o : Option (List ℕ)) → IsClosed then rest o → IsClosed w (bytes ++ rest) o
  passed reads None h = tt
  passed reads (Some s) h = record {
    front = bytes ++ h.front;
    back = h.back;
    split = ap (λ t. bytes ++ t) h.split ∙ sym (append_assoc bytes h.front (34 ∷ h.back));
    read = λ v. ap (content w) (append_assoc bytes h.front (34 ∷ v)) ∙ reads (h.front ++ 34 ∷ v) ∙ h.read v;
    lexed = λ v. ap (lex (mode w)) (append_assoc bytes h.front (34 ∷ v)) ∙ lexes (h.front ++ 34 ∷ v) ∙ h.lexed v;
  }

  read_first : (a : List ℕ) → ((r : List ℕ) → content w (bytes ++ r) ≡ prepend a (content then r)) → (o : Option (List ℕ)) → IsClosed then rest o
      → IsClosed w (bytes ++ rest) (prepend a o)
  read_first a reads None h = tt
  read_first a reads (Some s) h = record {
    front = bytes ++ h.front;
    back = h.back;
    split = ap (λ t. bytes ++ t) h.split ∙ sym (append_assoc bytes h.front (34 ∷ h.back));
    read = λ v. ap (content w) (append_assoc bytes h.front (34 ∷ v)) ∙ reads (h.front ++ 34 ∷ v) ∙ ap (prepend a) (h.read v);
    lexed = λ v. ap (lex (mode w)) (append_assoc bytes h.front (34 ∷ v)) ∙ lexes (h.front ++ 34 ∷ v) ∙ h.lexed v;
  }

abbrev is_found : Option ℕ → Bool
is_found None = false
is_found (Some u) = true

all_hex : (b : Bool) (u : ℕ) → is_found (cond b (Some u) None) ≡ true → b ≡ true
all_hex true u h = refl
all_hex false u h = h

-- ---- how the lexer passes a byte within a string

stays : (o s : Bool) (x : ℕ) (r : List ℕ) (k : Mode → List Lexeme) → lex_byte in_string (cond o operator (cond s space other)) x r k ≡ k in_string
stays true s x r k = refl
stays false true x r k = refl
stays false false x r k = refl

lex_unescaped : (x : ℕ) (r : List ℕ) → (x == 34) ≡ false → (x == 92) ≡ false → lex in_string (x ∷ r) ≡ lex in_string r
unfolding lex
lex_unescaped x r q b =
    (λ i. lex_byte in_string (cond (q i) quote (cond (b i) backslash (cond (is_operator x) operator (cond (is_space x) space other)))) x r (λ n. lex n r))
    ∙ stays (is_operator x) (is_space x) x r (λ n. lex n r)

lex_backslash : (x : ℕ) (r : List ℕ) → (x == 92) ≡ true → lex in_string (x ∷ r) ≡ lex in_escape r
unfolding lex
lex_backslash x r b = ap (λ y. lex in_string (y ∷ r)) (eqb-true x 92 b)

lex_escape : (x : ℕ) (r : List ℕ) → lex in_escape (x ∷ r) ≡ lex in_string r
unfolding lex
lex_escape x r = refl

not_this : (c x : ℕ) (t : Bool) → (t ≡ true → x ≡ c) → is_digit c 16 ≡ false → is_digit x 16 ≡ true → t ≡ false
not_this c x false e never h = refl
not_this c x true e never h = absurd (false≢true (sym never ∙ ap (λ y. is_digit y 16) (sym (e refl)) ∙ h))

lex_hex : (x : ℕ) (r : List ℕ) → is_digit x 16 ≡ true → lex in_string (x ∷ r) ≡ lex in_string r
lex_hex x r h = lex_unescaped x r (not_this 34 x (x == 34) (eqb-true x 34) refl h) (not_this 92 x (x == 92) (eqb-true x 92) refl h)

lex_unit : (a b c d : ℕ) (r : List ℕ) → is_found (code_unit a b c d) ≡ true → lex in_string (a ∷ b ∷ c ∷ d ∷ r) ≡ lex in_string r
unfolding code_unit
lex_unit a b c d r h =
    let p = and_parts (is_digit a 16 && is_digit b 16 && is_digit c 16) (is_digit d 16) (all_hex _ _ h) in
    let q = and_parts (is_digit a 16 && is_digit b 16) (is_digit c 16) p.0 in
    let s = and_parts (is_digit a 16) (is_digit b 16) q.0 in
    lex_hex a (b ∷ c ∷ d ∷ r) s.0 ∙ lex_hex b (c ∷ d ∷ r) s.1 ∙ lex_hex c (d ∷ r) q.1 ∙ lex_hex d r p.1

-- ---- where a string closes

closing : (w : Within) (text : List ℕ) → IsClosed w text (content w text)
unfolding content lex
closing plain [] = tt
closing plain (x ∷ xs) =
    by_test plain (x ∷ xs) (x == 34) _ _
    (λ q. record { front = []; back = xs; split = ap (λ y. y ∷ xs) (eqb-true x 34 q); read = λ v. refl; lexed = λ v. refl })
    (λ q. by_test plain (x ∷ xs) (x == 92) _ _
    (λ b. passed plain after_backslash (x ∷ []) xs (λ r. lex_backslash x r b) (λ r. rw (q, b) refl) _ (closing after_backslash xs))
    (λ b. by_test plain (x ∷ xs) (nat_lt x 32) _ _ (λ l. tt)
    (λ l. read_first plain plain (x ∷ []) xs (λ r. lex_unescaped x r q b) (x ∷ []) (λ r. rw (q, b, l) refl) _ (closing plain xs))))
closing after_backslash [] = tt
closing after_backslash (x ∷ xs) =
    by_test after_backslash (x ∷ xs) (x == 117) _ _
    (λ u. passed after_backslash after_u (x ∷ []) xs (λ r. lex_escape x r) (λ r. rw u refl) _ (closing after_u xs))
    (λ u. if_found after_backslash (x ∷ xs) _ (short_escape x)
    (λ c f. read_first after_backslash plain (x ∷ []) xs (λ r. lex_escape x r) (c ∷ []) (λ r. rw (u, f) refl) _ (closing plain xs)))
closing after_u [] = tt
closing after_u (a ∷ []) = tt
closing after_u (a ∷ b ∷ []) = tt
closing after_u (a ∷ b ∷ c ∷ []) = tt
closing after_u (a ∷ b ∷ c ∷ d ∷ xs) =
    let text = a ∷ b ∷ c ∷ d ∷ xs in
    let unit = a ∷ b ∷ c ∷ d ∷ [] in
    if_found after_u text _ (code_unit a b c d) (λ u f. by_test after_u text (is_high_surrogate u) _ _
    (λ h. passed after_u (after_high u) unit xs (λ r. lex_unit a b c d r (ap is_found f)) (λ r. rw (f, h) refl) _ (closing (after_high u) xs))
    (λ h. by_test after_u text (is_low_surrogate u) _ _ (λ l. tt)
    (λ l. read_first after_u plain unit xs (λ r. lex_unit a b c d r (ap is_found f)) (encode_utf8 u) (λ r. rw (f, h, l) refl) _ (closing plain xs))))
closing (after_high h) [] = tt
closing (after_high h) (s ∷ []) = tt
closing (after_high h) (s ∷ u ∷ []) = tt
closing (after_high h) (s ∷ u ∷ a ∷ []) = tt
closing (after_high h) (s ∷ u ∷ a ∷ b ∷ []) = tt
closing (after_high h) (s ∷ u ∷ a ∷ b ∷ c ∷ []) = tt
closing (after_high h) (s ∷ u ∷ a ∷ b ∷ c ∷ d ∷ xs) =
    let text = s ∷ u ∷ a ∷ b ∷ c ∷ d ∷ xs in
    by_test (after_high h) text ((s == 92) && (u == 117)) _ _
    (λ e. if_found (after_high h) text _ (code_unit a b c d) (λ l f. by_test (after_high h) text (is_low_surrogate l) _ _
    (λ y. read_first (after_high h) plain (s ∷ u ∷ a ∷ b ∷ c ∷ d ∷ []) xs
    (λ r. lex_backslash s (u ∷ a ∷ b ∷ c ∷ d ∷ r) (and_parts _ _ e).0 ∙ lex_escape u (a ∷ b ∷ c ∷ d ∷ r) ∙ lex_unit a b c d r (ap is_found f))
    (encode_utf8 (surrogate_pair h l)) (λ r. rw (e, f, y) refl) _ (closing plain xs)) (λ y. tt))) (λ e. tt)

pub closed : (text s : List ℕ) → content plain text ≡ Some s → Closed plain text s
closed text s e = subst (IsClosed plain text) e (closing plain text)
