-- A text that is cut at a comma after an object has the tokens of its parts.
use Rattle.std.proofs.Common.{◌≡◌, ℕ, zero, suc, ◌≤◌, Bool, true, false, List, [], ◌∷◌, ◌++◌, length, Option}
use Rattle.std.proofs.Common.{Some, None, refl, sym, ap, ap₂, ◌∙◌, subst, arith, append_assoc, length-append}
use Rattle.std.proofs.lemmas.Bool.{false≢true}
use Rattle.std.specs.Prelude.{⊤}
use Rattle.json.specs.Align.{is_good}
use Rattle.json.specs.Token.{Token, begin_object, end_object, begin_array, end_array, key, string, number, boolean, null, bad}
use Rattle.json.specs.Text.{content, plain}
use Rattle.json.specs.Word.{word}
use Rattle.json.specs.Lex.{Lexeme, token, comma, colon, Class, quote, backslash, operator, space, other, class}
use Rattle.json.specs.Lex.{operator_lexeme, string_token, Mode, between, in_word, in_string, in_escape, lex_byte, lex}
use Rattle.json.specs.Lex.{Place, fresh, after_value, after_comma, after_key, begins_colon, may_begin, may_close, if_allowed, place_token, punctuate, tokens}
use Rattle.symq_reader.proofs.BracedBytes.{keyword_braced}
use Rattle.symq_reader.proofs.ClosedStrings.{Closed, closed}

-- ---- lexemes

abbrev Good : List Lexeme → Type 0
Good [] = ⊤
Good (token t ∷ ls) = (is_good t ≡ true) × Good ls
Good (comma ∷ ls) = Good ls
Good (colon ∷ ls) = Good ls

good_rest : (l : Lexeme) (ls : List Lexeme) → Good (l ∷ ls) → Good ls
good_rest (token t) ls h = h.1
good_rest comma ls h = h
good_rest colon ls h = h

-- no string is open
abbrev Outside : Mode → Type 0
Outside between = ⊤
Outside in_word = ⊤
Outside in_string = ⊥
Outside in_escape = ⊥

-- the lexemes before a brace don't depend on what follows the brace
record Cut (m : Mode) (xs : List ℕ) : Type 0 where
  front : List Lexeme
  cut : (v : List ℕ) → lex m (xs ++ 125 ∷ v) ≡ front ++ token end_object ∷ lex between v

-- the same for a text that begins with a byte of a class
record CutAt (m : Mode) (c : Class) (x : ℕ) (xs : List ℕ) : Type 0 where
  front : List Lexeme
  cut : (v : List ℕ) → lex_byte m c x (xs ++ 125 ∷ v) (λ n. lex n (xs ++ 125 ∷ v)) ≡ front ++ token end_object ∷ lex between v

record Before (xs front : List ℕ) (back : List ℕ) : Type 0 where
  rest : List ℕ
  is : xs ≡ front ++ 34 ∷ rest
  ends : back ≡ rest ++ 125 ∷ []

head_or : List ℕ → ℕ
head_or [] = 0
head_or (x ∷ xs) = x

tail_of : List ℕ → List ℕ
tail_of [] = []
tail_of (x ∷ xs) = xs

-- if a text with a brace after it has a closing quote, the quote precedes the brace
quote_before : (xs front back : List ℕ) → xs ++ 125 ∷ [] ≡ front ++ 34 ∷ back → Before xs front back
unfolding head_or tail_of
quote_before [] [] back e = let never : 125 ≡ 34 = ap head_or e in absurd (omega (arith, never))
quote_before [] (f ∷ fs) back e = absurd (omega (arith, ap (λ l. length (tail_of l)) e, length-append fs (34 ∷ back)))
quote_before (x ∷ xs) [] back e = record { rest = xs; is = ap (λ y. y ∷ xs) (ap head_or e); ends = sym (ap tail_of e) }
quote_before (x ∷ xs) (f ∷ fs) back e =
    let h = quote_before xs fs back (ap tail_of e) in
    record { rest = h.rest; is = ap₂ (λ y ys. y ∷ ys) (ap head_or e) h.is; ends = h.ends }

good_string : (o : Option (List ℕ)) → is_good (string_token o) ≡ true → (s : List ℕ) × (o ≡ Some s)
good_string None h = absurd (false≢true h)
good_string (Some s) h = (s, refl)

-- a string and the text after it up to the brace
string_cut : (x : ℕ) (xs s : List ℕ) (c : Closed plain (xs ++ 125 ∷ []) s) (b : Before xs c.front c.back) → Cut between b.rest → CutAt between quote x xs
string_cut x xs s c b h = record {
  front = token (string s) ∷ h.front;
  cut = λ v.
      (let text : xs ++ 125 ∷ v ≡ c.front ++ 34 ∷ (b.rest ++ 125 ∷ v) = ap (λ l. l ++ 125 ∷ v) b.is ∙ append_assoc c.front (34 ∷ b.rest) (125 ∷ v) in
      let read = ap (content plain) text ∙ c.read (b.rest ++ 125 ∷ v) in
      let lexed = ap (lex in_string) text ∙ c.lexed (b.rest ++ 125 ∷ v) ∙ h.cut v in
      ap₂ (λ o ls. token (string_token o) ∷ ls) read lexed);
}

at_byte : (m : Mode) (x : ℕ) (xs : List ℕ) → CutAt m (class x) x xs → Cut m (x ∷ xs)
unfolding lex
at_byte m x xs h = record { front = h.front; cut = h.cut }

module _ (n : ℕ) (again : (m : Mode) (ys : List ℕ) → Outside m → length ys ≤ n → Good (lex m (ys ++ 125 ∷ [])) → Cut m ys) where
  shorter : (x : ℕ) (xs s : List ℕ) → length xs ≤ n → Closed plain (xs ++ 125 ∷ []) s → Good (lex in_string (xs ++ 125 ∷ [])) → CutAt between quote x xs
  shorter x xs s le c good =
      let b = quote_before xs c.front c.back c.split in
      let less : length b.rest ≤ n = omega (arith, ap length b.is, length-append c.front (34 ∷ b.rest)) in
      let same = ap (lex in_string) c.split ∙ c.lexed c.back ∙ ap (lex between) b.ends in
      string_cut x xs s c b (again between b.rest tt less (subst Good same good))

  cut_at : (m : Mode) (c : Class) (x : ℕ) (xs : List ℕ) → Outside m → length xs ≤ n → Good (lex_byte m c x (xs ++ 125 ∷ []) (λ k. lex k (xs ++ 125 ∷ [])))
      → CutAt m c x xs
  cut_at between quote x xs o le good = let s = good_string (content plain (xs ++ 125 ∷ [])) good.0 in
      shorter x xs s.0 le (closed (xs ++ 125 ∷ []) s.0 s.1) good.1
  cut_at between backslash x xs o le good = absurd (false≢true good.0)
  cut_at between operator x xs o le good = let h = again between xs tt le (good_rest (operator_lexeme x) _ good) in
      record { front = operator_lexeme x ∷ h.front; cut = λ v. ap (λ ls. operator_lexeme x ∷ ls) (h.cut v) }
  cut_at between space x xs o le good = let h = again between xs tt le good in record { front = h.front; cut = h.cut }
  cut_at between other x xs o le good =
      let h = again in_word xs tt le good.1 in
      record { front = token (word (x ∷ xs)) ∷ h.front; cut = λ v. ap₂ (λ w ls. token w ∷ ls) (keyword_braced v (x ∷ xs)) (h.cut v) }
  cut_at in_word quote x xs o le good = let h = again in_word xs tt le good in record { front = h.front; cut = h.cut }
  cut_at in_word backslash x xs o le good = let h = again in_word xs tt le good in record { front = h.front; cut = h.cut }
  cut_at in_word operator x xs o le good = let h = again between xs tt le (good_rest (operator_lexeme x) _ good) in
      record { front = operator_lexeme x ∷ h.front; cut = λ v. ap (λ ls. operator_lexeme x ∷ ls) (h.cut v) }
  cut_at in_word space x xs o le good = let h = again between xs tt le good in record { front = h.front; cut = h.cut }
  cut_at in_word other x xs o le good = let h = again in_word xs tt le good in record { front = h.front; cut = h.cut }
  cut_at in_string c x xs o le good = absurd o
  cut_at in_escape c x xs o le good = absurd o

nothing_before : (m : Mode) → Outside m → Cut m []
unfolding lex
nothing_before between o = record { front = []; cut = λ v. refl }
nothing_before in_word o = record { front = []; cut = λ v. refl }
nothing_before in_string o = absurd o
nothing_before in_escape o = absurd o

lex_cut : (n : ℕ) (m : Mode) (xs : List ℕ) → Outside m → length xs ≤ n → Good (lex m (xs ++ 125 ∷ [])) → Cut m xs
unfolding lex
lex_cut n m [] o le good = nothing_before m o
lex_cut zero m (x ∷ xs) o le good = let never : ⊥ = omega arith in absurd never
lex_cut (suc n) m (x ∷ xs) o le good = at_byte m x xs (cut_at n (lex_cut n) m (class x) x xs o (omega arith) good)

-- ---- tokens

abbrev pub NoBad : List Token → Type 0
NoBad [] = ⊤
NoBad (t ∷ ts) = (is_good t ≡ true) × NoBad ts

allowed : (b : Bool) (t : Token) (k : Place → List Token) (next : Place) → NoBad (if_allowed b t k next) → (is_good t ≡ true) × NoBad (k next)
allowed true t k next h = h
allowed false t k next h = absurd (false≢true h.0)

placed : (p : Place) (t : Token) (b : Bool) (k : Place → List Token) (P : Type 0) → NoBad (place_token p t b k) → ((n : Place) → NoBad (k n) → P)
    → (is_good t ≡ true) × P
placed p begin_object b k P h f = (refl, f fresh (allowed (may_begin p) begin_object k fresh h).1)
placed p end_object b k P h f = (refl, f after_value (allowed (may_close p) end_object k after_value h).1)
placed p begin_array b k P h f = (refl, f fresh (allowed (may_begin p) begin_array k fresh h).1)
placed p end_array b k P h f = (refl, f after_value (allowed (may_close p) end_array k after_value h).1)
placed p (key s) b k P h f = absurd (false≢true h.0)
placed p (string s) true k P h f = (refl, f after_key (allowed (may_begin p) (key s) k after_key h).1)
placed p (string s) false k P h f = (refl, f after_value (allowed (may_begin p) (string s) k after_value h).1)
placed p (number s) b k P h f = (refl, f after_value (allowed (may_begin p) (number s) k after_value h).1)
placed p (boolean v) b k P h f = (refl, f after_value (allowed (may_begin p) (boolean v) k after_value h).1)
placed p null b k P h f = (refl, f after_value (allowed (may_begin p) null k after_value h).1)
placed p bad b k P h f = absurd (false≢true h.0)

good_lexemes : (ls : List Lexeme) (p : Place) → NoBad (punctuate p ls) → Good ls
unfolding punctuate
good_lexemes [] p h = tt
good_lexemes (token t ∷ ls) p h = placed p t (begins_colon ls) (λ n. punctuate n ls) (Good ls) h (λ n. good_lexemes ls n)
good_lexemes (comma ∷ ls) fresh h = absurd (false≢true h.0)
good_lexemes (comma ∷ ls) after_value h = good_lexemes ls after_comma h
good_lexemes (comma ∷ ls) after_comma h = absurd (false≢true h.0)
good_lexemes (comma ∷ ls) after_key h = absurd (false≢true h.0)
good_lexemes (colon ∷ ls) fresh h = absurd (false≢true h.0)
good_lexemes (colon ∷ ls) after_value h = absurd (false≢true h.0)
good_lexemes (colon ∷ ls) after_comma h = absurd (false≢true h.0)
good_lexemes (colon ∷ ls) after_key h = good_lexemes ls fresh h

module _ (more : List Token) where
  allowed_on : (b : Bool) (t : Token) (k l : Place → List Token) (next : Place) → NoBad (if_allowed b t k next)
      → ((n : Place) → NoBad (k n) → l n ≡ k n ++ more) → if_allowed b t l next ≡ if_allowed b t k next ++ more
  allowed_on true t k l next h f = ap (λ ts. t ∷ ts) (f next h.1)
  allowed_on false t k l next h f = absurd (false≢true h.0)

  placed_on : (p : Place) (t : Token) (b : Bool) (k l : Place → List Token) → NoBad (place_token p t b k) → ((n : Place) → NoBad (k n) → l n ≡ k n ++ more)
      → place_token p t b l ≡ place_token p t b k ++ more
  placed_on p begin_object b k l = allowed_on (may_begin p) begin_object k l fresh
  placed_on p end_object b k l = allowed_on (may_close p) end_object k l after_value
  placed_on p begin_array b k l = allowed_on (may_begin p) begin_array k l fresh
  placed_on p end_array b k l = allowed_on (may_close p) end_array k l after_value
  placed_on p (key s) b k l = λ h f. absurd (false≢true h.0)
  placed_on p (string s) true k l = allowed_on (may_begin p) (key s) k l after_key
  placed_on p (string s) false k l = allowed_on (may_begin p) (string s) k l after_value
  placed_on p (number s) b k l = allowed_on (may_begin p) (number s) k l after_value
  placed_on p (boolean v) b k l = allowed_on (may_begin p) (boolean v) k l after_value
  placed_on p null b k l = allowed_on (may_begin p) null k l after_value
  placed_on p bad b k l = λ h f. absurd (false≢true h.0)

-- an object and then a comma
abbrev with_comma : List Lexeme → List Lexeme → List Lexeme
with_comma front ls = front ++ token end_object ∷ comma ∷ ls

abbrev alone : List Lexeme → List Lexeme
alone front = front ++ token end_object ∷ []

same_colon : (front ls : List Lexeme) → begins_colon (with_comma front ls) ≡ begins_colon (alone front)
same_colon [] ls = refl
same_colon (token t ∷ front) ls = refl
same_colon (comma ∷ front) ls = refl
same_colon (colon ∷ front) ls = refl

ended_on : (b : Bool) (ls : List Lexeme) → NoBad (if_allowed b end_object (λ n. punctuate n []) after_value)
    → if_allowed b end_object (λ n. punctuate n (comma ∷ ls)) after_value
    ≡ if_allowed b end_object (λ n. punctuate n []) after_value ++ punctuate after_comma ls
unfolding punctuate
ended_on true ls h = refl
ended_on false ls h = absurd (false≢true h.0)

punctuate_cut : (front ls : List Lexeme) (p : Place) → NoBad (punctuate p (alone front))
    → punctuate p (with_comma front ls) ≡ punctuate p (alone front) ++ punctuate after_comma ls
unfolding punctuate
punctuate_cut [] ls p h = ended_on (may_close p) ls h
punctuate_cut (token t ∷ front) ls p h =
    ap (λ b. place_token p t b (λ n. punctuate n (with_comma front ls))) (same_colon front ls)
    ∙ placed_on (punctuate after_comma ls) p t (begins_colon (alone front)) (λ n. punctuate n (alone front)) (λ n. punctuate n (with_comma front ls)) h (λ n.
    punctuate_cut front ls n)
punctuate_cut (comma ∷ front) ls fresh h = absurd (false≢true h.0)
punctuate_cut (comma ∷ front) ls after_value h = punctuate_cut front ls after_comma h
punctuate_cut (comma ∷ front) ls after_comma h = absurd (false≢true h.0)
punctuate_cut (comma ∷ front) ls after_key h = absurd (false≢true h.0)
punctuate_cut (colon ∷ front) ls fresh h = absurd (false≢true h.0)
punctuate_cut (colon ∷ front) ls after_value h = absurd (false≢true h.0)
punctuate_cut (colon ∷ front) ls after_comma h = absurd (false≢true h.0)
punctuate_cut (colon ∷ front) ls after_key h = punctuate_cut front ls fresh h

-- the tokens of a text after a comma
abbrev pub tokens_later : List ℕ → List Token
tokens_later text = punctuate after_comma (lex between text)

comma_lexed : (text : List ℕ) → lex between (44 ∷ text) ≡ comma ∷ lex between text
unfolding lex
comma_lexed text = refl

nothing_lexed : lex between [] ≡ []
unfolding lex
nothing_lexed = refl

pub tokens_cut : (xs text : List ℕ) → NoBad (tokens (xs ++ 125 ∷ [])) → tokens (xs ++ 125 ∷ 44 ∷ text) ≡ tokens (xs ++ 125 ∷ []) ++ tokens_later text
tokens_cut xs text h =
    let c = lex_cut (length xs) between xs tt (omega arith) (good_lexemes _ fresh h) in
    let one : tokens (xs ++ 125 ∷ []) ≡ punctuate fresh (alone c.front) =
    ap (punctuate fresh) (c.cut [] ∙ ap (λ ls. c.front ++ token end_object ∷ ls) nothing_lexed) in
    let two = ap (punctuate fresh) (c.cut (44 ∷ text) ∙ ap (λ ls. c.front ++ token end_object ∷ ls) (comma_lexed text)) in
    two ∙ punctuate_cut c.front (lex between text) fresh (subst NoBad one h) ∙ ap (λ ts. ts ++ tokens_later text) (sym one)

begins_object : List Token → Bool
begins_object [] = false
begins_object (begin_object ∷ ts) = true
begins_object (t ∷ ts) = false

same_text : (t : List ℕ) (b : Bool) (k : Place → List Token) → place_token after_comma (string t) b k ≡ place_token fresh (string t) b k
same_text t true k = refl
same_text t false k = refl

same_position : (ls : List Lexeme) → begins_object (punctuate fresh ls) ≡ true → punctuate after_comma ls ≡ punctuate fresh ls
unfolding punctuate begins_object
same_position [] h = absurd (false≢true h)
same_position (token begin_object ∷ ls) h = refl
same_position (token end_object ∷ ls) h = absurd (false≢true h)
same_position (token begin_array ∷ ls) h = refl
same_position (token end_array ∷ ls) h = absurd (false≢true h)
same_position (token (key s) ∷ ls) h = refl
same_position (token (string s) ∷ ls) h = same_text s (begins_colon ls) (λ n. punctuate n ls)
same_position (token (number s) ∷ ls) h = refl
same_position (token (boolean b) ∷ ls) h = refl
same_position (token null ∷ ls) h = refl
same_position (token bad ∷ ls) h = refl
same_position (comma ∷ ls) h = refl
same_position (colon ∷ ls) h = refl

-- a text that begins with an object has the same tokens after a comma
pub later_same : (text : List ℕ) (ts : List Token) → tokens text ≡ begin_object ∷ ts → tokens_later text ≡ tokens text
unfolding begins_object
later_same text ts e = same_position (lex between text) (ap begins_object e)
