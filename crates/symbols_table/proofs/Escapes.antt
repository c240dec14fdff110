-- Escaping of names: `\` before each `"`.
use Rattle.std.proofs.Common.{◌≡◌, ℕ, Bool, true, false, ◌==◌, ◌||◌, List, [], ◌∷◌, ◌++◌, encode_utf8, encode_utf8_all}
use Rattle.std.proofs.Common.{IsUtf8, ◌<◌, length, arith, refl, sym, ap, ap₂, ◌∙◌, append_assoc, append-nil}
use Rattle.std.specs.List.{list_any, flat_map}
use Rattle.std.specs.Str.{chars}
use Rattle.std.proofs.lemmas.Bool.{eqb-true, false≢true}
use Rattle.std.proofs.lemmas.List.Folds.{list_any-append}
use Rattle.std.proofs.lemmas.Grind.{flat_map-append}
use Rattle.std.proofs.lemmas.Str.{chars-append, chars-nil, encodes-append, encodes-chars}
use Rattle.std.specs.Global.{Global}
use Rattle.std.specs.declared.borrow.CowStr.{CowStr}
use Rattle.std.specs.Cow.{cow_str_bytes}
use Rattle.symbols_table.specs.QualifiedNames.{char_with_quote_escaped, text_with_quotes_escaped}
use Rattle.symbols_table.specs.inner.NamePaths.{reversed_pieces_text}
use Rattle.symbols_table.proofs.NamePaths.{piece_first}

abbrev is_quote : ℕ → Bool
is_quote b = b == 34

second_false : (a b : Bool) → (a || b) ≡ false → b ≡ false
second_false false b is = is
second_false true b is = absurd (false≢true (sym is))

first_false : (a b : Bool) → (a || b) ≡ false → a ≡ false
first_false false b is = refl
first_false true b is = absurd (false≢true (sym is))

-- A character other than `"` is unchanged.
other_char : (c : ℕ) (b : Bool) → (c == 34) ≡ b → list_any is_quote (encode_utf8 c) ≡ false → char_with_quote_escaped c ≡ c ∷ []
unfolding lib.Utf8.encode
other_char c false is none = rw is refl
other_char c true is none = absurd (false≢true (sym none ∙ ap (λ x. list_any is_quote (encode_utf8 x)) (eqb-true c 34 is)))

-- Characters without `"` are unchanged.
unescaped_chars : (cs : List ℕ) → list_any is_quote (encode_utf8_all cs) ≡ false → flat_map char_with_quote_escaped cs ≡ cs
unescaped_chars [] none = refl
unescaped_chars (c ∷ cs) none =
    let parts : (list_any is_quote (encode_utf8 c) || list_any is_quote (encode_utf8_all cs)) ≡ false =
    sym (list_any-append is_quote (encode_utf8 c) (encode_utf8_all cs)) ∙ none in
    ap₂ (λ (x y : List ℕ). x ++ y) (other_char c (c == 34) refl (first_false _ _ parts)) (unescaped_chars cs (second_false _ _ parts))

pub unescaped : (text : List ℕ) → IsUtf8 text → list_any (λ b. b == 34) text ≡ false → text ≡ text_with_quotes_escaped text
unescaped text utf8 none =
    let is = encodes-chars text utf8 in
    sym is ∙ sym (ap encode_utf8_all (unescaped_chars (chars text) (ap (list_any is_quote) is ∙ none)))

-- The escape of a concatenation is the concatenation of the escapes.
escaped_after : (xs ys : List ℕ) → IsUtf8 xs → text_with_quotes_escaped (xs ++ ys) ≡ text_with_quotes_escaped xs ++ text_with_quotes_escaped ys
escaped_after xs ys utf8 = rw (chars-append xs ys utf8, flat_map-append, encodes-append) refl

-- Escaping the first piece and appending it leaves the escaped text of the remaining pieces to append.
pub one_escaped : (made first : List ℕ) (pieces rest : List (CowStr Global)) (piece : CowStr Global) (whole : List ℕ) → pieces ≡ rest ++ piece ∷ []
    → first ≡ cow_str_bytes piece → IsUtf8 first
    → made ++ text_with_quotes_escaped (reversed_pieces_text pieces) ≡ whole → (made ++ text_with_quotes_escaped first)
    ++ text_with_quotes_escaped (reversed_pieces_text rest) ≡ whole
one_escaped made first pieces rest piece whole is first_is utf8 so =
    let viewed = sym (escaped_after first (reversed_pieces_text rest) utf8)
    ∙ ap text_with_quotes_escaped (ap (λ t. t ++ reversed_pieces_text rest) first_is ∙ (sym (piece_first rest piece) ∙ sym (ap reversed_pieces_text is))) in
    append_assoc made (text_with_quotes_escaped first) (text_with_quotes_escaped (reversed_pieces_text rest)) ∙ (ap (λ t. made ++ t) viewed ∙ so)

-- If no piece remains, the whole text is written.
pub all_viewed : (made whole : List ℕ) (pieces : List (CowStr Global)) → (0 < length pieces → ⊥) → made
    ++ text_with_quotes_escaped (reversed_pieces_text pieces) ≡ whole
    → made ≡ whole
all_viewed made whole [] none is = sym (ap (λ (t : List ℕ). made ++ t) nothing ∙ append-nil made) ∙ is
  where
    nothing : text_with_quotes_escaped [] ≡ []
    nothing = rw chars-nil refl
all_viewed made whole (piece ∷ pieces) none is = absurd (none (omega arith))
