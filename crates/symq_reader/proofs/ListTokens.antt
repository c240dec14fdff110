-- From the text of a query list on the fast path to its JSON value.
use Rattle.std.proofs.Common.{◌≡◌, ℕ, ◌<◌, ◌^◌, Bool, true, false, List, [], ◌∷◌, ◌++◌, map, decimal, IsUtf8, Option, Some, None, refl, sym, ap, ◌∙◌, subst}
use Rattle.std.specs.Option.{IfSome}
use Rattle.std.proofs.lemmas.Str.{IsUtf8-append, IsUtf8-from_ascii}
use Rattle.std.proofs.lemmas.Fmt.{IsAscii-decimal}
use Rattle.json.specs.Token as token
use Rattle.json.specs.Token.{Token}
use Rattle.json.specs.Lex.{tokens}
use Rattle.json.specs.Json as json
use Rattle.json.specs.Json.{value, items}
use Rattle.json.specs.Print.{quoted, ArePrintable}
use Rattle.json.specs.Spaced.{AreGaps, print_spaced}
use Rattle.json.proofs.Printed.Decimals.{IsNumber-decimal}
use Rattle.json.proofs.Printed.Tokens.{tokens-print_spaced}
use Rattle.json.proofs.Printed.Utf8.{IsUtf8-are_ascii, IsUtf8-quoted, IsUtf8-IsGap}
use Rattle.serde_json.specs.Data.{number, string, array, no_items, item}
use Rattle.serde_json.proofs.Numbers.{number_of-decimal}
use Rattle.symq_reader.specs.GraphText.{json_of_bytes}
use Rattle.symq_reader.specs.inner.ListTexts.{IsAfterComma, IsTextAfterTwoStrings, IsQueryArrayText, HasU64NumberAndUtf8Text}
use Rattle.symq_reader.specs.JsonData.{number_or_minus_one, json_data, json_items_data}
use Rattle.symq_reader.specs.inner.JsonData.{json_has_whole_numbers, json_items_have_whole_numbers}
use Rattle.symq_reader.specs.QueryLists.{items_after_two_strings, query_array_json}
use Rattle.symq_reader.specs.declared.query_list.ListTail.{ListTail}
use Rattle.symq_reader.specs.declared.query_list.ListTail.TheVariants.{Nothing, Number, NumberAndText, TextAndNumber}
use Rattle.symq_reader.specs.declared.query_list.QueryList.{QueryList}
use Rattle.symq_reader.proofs.Texts.{fitting_value}

abbrev after_tokens : ListTail → List Token
after_tokens Nothing = token.end_array ∷ []
after_tokens (Number n) = token.number (decimal n) ∷ token.end_array ∷ []
after_tokens (NumberAndText n text) = token.number (decimal n) ∷ token.string text.now ∷ token.end_array ∷ []
after_tokens (TextAndNumber text n) = token.string text.now ∷ token.number (decimal n) ∷ token.end_array ∷ []

abbrev list_tokens : QueryList → List Token
list_tokens l = token.begin_array ∷ token.string l.first.now ∷ token.string l.second.now ∷ after_tokens l.tail

abbrev after_values : ListTail → json.Items
after_values Nothing = json.no_items
after_values (Number n) = json.item (json.number (decimal n)) json.no_items
after_values (NumberAndText n text) = json.item (json.number (decimal n)) (json.item (json.string text.now) json.no_items)
after_values (TextAndNumber text n) = json.item (json.string text.now) (json.item (json.number (decimal n)) json.no_items)

abbrev list_value : QueryList → json.Json
list_value l = json.array (json.item (json.string l.first.now) (json.item (json.string l.second.now) (after_values l.tail)))

-- ---- the text is printed from its tokens, with gaps

record Spaced (after_value : Bool) (bytes : List ℕ) (ts : List Token) : Type 0 where
  pairs : List (List ℕ × Token)
  gaps : AreGaps pairs
  viewed : map (λ p. p.1) pairs ≡ ts
  text : bytes ≡ print_spaced after_value pairs

after_spaced : (bytes : List ℕ) (b : ListTail) → IsTextAfterTwoStrings bytes b → Spaced true bytes (after_tokens b)
unfolding print_spaced
after_spaced bytes Nothing is = record { pairs = ([], token.end_array) ∷ []; gaps = (tt, tt); viewed = refl; text = is }
after_spaced bytes (Number n) is =
    record { pairs = (is.gap, token.number (decimal n)) ∷ ([], token.end_array) ∷ []; gaps = (is.is_gap, (tt, tt)); viewed = refl; text = is.text }
after_spaced bytes (NumberAndText n text) (rest, is, more) = record {
  pairs = (is.gap, token.number (decimal n)) ∷ (more.gap, token.string text.now) ∷ ([], token.end_array) ∷ [];
  gaps = (is.is_gap, (more.is_gap, (tt, tt)));
  viewed = refl;
  text = is.text ∙ ap (λ r. 44 ∷ (is.gap ++ (decimal n ++ r))) more.text;
}
after_spaced bytes (TextAndNumber text n) (rest, is, more) = record {
  pairs = (is.gap, token.string text.now) ∷ (more.gap, token.number (decimal n)) ∷ ([], token.end_array) ∷ [];
  gaps = (is.is_gap, (more.is_gap, (tt, tt)));
  viewed = refl;
  text = is.text ∙ ap (λ r. 44 ∷ (is.gap ++ (quoted text.now ++ r))) more.text;
}

list_spaced : (bytes : List ℕ) (l : QueryList) → IsQueryArrayText bytes l → Spaced false bytes (list_tokens l)
unfolding print_spaced
list_spaced bytes l is =
    let s = after_spaced is.tail l.tail is.end in
    record {
      pairs = ([], token.begin_array) ∷ ([], token.string l.first.now) ∷ (is.second.gap, token.string l.second.now) ∷ s.pairs;
      gaps = (tt, (tt, (is.second.is_gap, s.gaps)));
      viewed = ap (λ ts. token.begin_array ∷ token.string l.first.now ∷ token.string l.second.now ∷ ts) s.viewed;
      text = is.first
          ∙ (ap (λ r. 91 ∷ (quoted l.first.now ++ r)) is.second.text
          ∙ ap (λ r. 91 ∷ (quoted l.first.now ++ 44 ∷ (is.second.gap ++ (quoted l.second.now ++ r)))) s.text);
    }

after_printable : (b : ListTail) → HasU64NumberAndUtf8Text b → ArePrintable (after_tokens b)
unfolding ArePrintable
after_printable Nothing h = (tt, tt)
after_printable (Number n) h = (IsNumber-decimal n h, (tt, tt))
after_printable (NumberAndText n text) h = (IsNumber-decimal n h.0, (tt, (tt, tt)))
after_printable (TextAndNumber text n) h = (tt, (IsNumber-decimal n h.0, (tt, tt)))

list_printable : (l : QueryList) → HasU64NumberAndUtf8Text l.tail → ArePrintable (list_tokens l)
unfolding ArePrintable
list_printable l h = (tt, (tt, (tt, after_printable l.tail h)))

list_viewed : (bytes : List ℕ) (l : QueryList) → HasU64NumberAndUtf8Text l.tail → IsQueryArrayText bytes l → tokens bytes ≡ list_tokens l
list_viewed bytes l h is =
    let s = list_spaced bytes l is in
    ap tokens s.text ∙ (tokens-print_spaced s.pairs s.gaps (subst ArePrintable (sym s.viewed) (list_printable l h)) ∙ s.viewed)

-- ---- the value of these tokens

after_read : (first second : List ℕ) (b : ListTail) → value 127 (token.begin_array ∷ token.string first ∷ token.string second ∷ after_tokens b)
    ≡ Some (json.array (json.item (json.string first) (json.item (json.string second) (after_values b))), [])
unfolding value items
after_read first second Nothing = refl
after_read first second (Number n) = refl
after_read first second (NumberAndText n text) = refl
after_read first second (TextAndNumber text n) = refl

after_fit : (b : ListTail) → HasU64NumberAndUtf8Text b → json_items_have_whole_numbers (after_values b) ≡ true
after_fit Nothing h = refl
after_fit (Number n) h = rw (number_of-decimal n h) refl
after_fit (NumberAndText n text) h = rw (number_of-decimal n h.0) refl
after_fit (TextAndNumber text n) h = rw (number_of-decimal n h.0) refl

after_unescaped : (b : ListTail) → HasU64NumberAndUtf8Text b → json_items_data (after_values b) ≡ items_after_two_strings b
after_unescaped Nothing h = refl
after_unescaped (Number n) h = ap (λ o. item (number (number_or_minus_one o)) no_items) (number_of-decimal n h)
after_unescaped (NumberAndText n text) h = ap (λ o. item (number (number_or_minus_one o)) (item (string text.now) no_items)) (number_of-decimal n h.0)
after_unescaped (TextAndNumber text n) h = ap (λ o. item (string text.now) (item (number (number_or_minus_one o)) no_items)) (number_of-decimal n h.0)

-- ---- the text is UTF-8

utf8_decimal : (n : ℕ) → n < 2 ^ 64 → IsUtf8 (decimal n)
utf8_decimal n h = IsUtf8-from_ascii (decimal n) (IsAscii-decimal n h)

utf8_bracket : IsUtf8 (93 ∷ [])
utf8_bracket = IsUtf8-are_ascii (93 ∷ []) refl

utf8_comma : (bytes rest : List ℕ) → IsAfterComma bytes rest → IsUtf8 rest → IsUtf8 bytes
utf8_comma bytes rest is h =
    subst IsUtf8 (sym is.text) (IsUtf8-append (44 ∷ []) _ (IsUtf8-are_ascii (44 ∷ []) refl) (IsUtf8-append is.gap rest (IsUtf8-IsGap is.gap is.is_gap) h))

utf8_after : (bytes : List ℕ) (b : ListTail) → HasU64NumberAndUtf8Text b → IsTextAfterTwoStrings bytes b → IsUtf8 bytes
utf8_after bytes Nothing h is = subst IsUtf8 (sym is) utf8_bracket
utf8_after bytes (Number n) h is = utf8_comma bytes _ is (IsUtf8-append (decimal n) (93 ∷ []) (utf8_decimal n h) utf8_bracket)
utf8_after bytes (NumberAndText n text) h (rest, is, more) =
    utf8_comma bytes _ is (IsUtf8-append (decimal n) rest (utf8_decimal n h.0)
    (utf8_comma rest _ more (IsUtf8-append (quoted text.now) (93 ∷ []) (IsUtf8-quoted text.now h.1) utf8_bracket)))
utf8_after bytes (TextAndNumber text n) h (rest, is, more) =
    utf8_comma bytes _ is (IsUtf8-append (quoted text.now) rest (IsUtf8-quoted text.now h.1)
    (utf8_comma rest _ more (IsUtf8-append (decimal n) (93 ∷ []) (utf8_decimal n h.0) utf8_bracket)))

utf8_list : (bytes : List ℕ) (l : QueryList) → IsUtf8 l.first.now → IsUtf8 l.second.now → HasU64NumberAndUtf8Text l.tail → IsQueryArrayText bytes l
    → IsUtf8 bytes
utf8_list bytes l first second h is =
    let tail = utf8_after is.tail l.tail h is.end in
    let rest = utf8_comma is.rest _ is.second (IsUtf8-append (quoted l.second.now) is.tail (IsUtf8-quoted l.second.now second) tail) in
    subst IsUtf8 (sym is.first) (IsUtf8-append (91 ∷ []) _ (IsUtf8-are_ascii (91 ∷ []) refl)
    (IsUtf8-append (quoted l.first.now) is.rest (IsUtf8-quoted l.first.now first) rest))

-- ---- what `serde_json` reads of the text

list_read : (bytes : List ℕ) (l : QueryList) → IsUtf8 l.first.now → IsUtf8 l.second.now → HasU64NumberAndUtf8Text l.tail → IsQueryArrayText bytes l
    → json_of_bytes bytes ≡ Some (query_array_json l)
list_read bytes l first second h is =
    let utf8 = utf8_list bytes l first second h is in
    let all : value 127 (tokens bytes) ≡ Some (list_value l, []) = ap (value 127) (list_viewed bytes l h is) ∙ after_read l.first.now l.second.now l.tail in
    let fit : json_has_whole_numbers (list_value l) ≡ true = after_fit l.tail h in
    let same : json_data (list_value l) ≡ query_array_json l =
    ap (λ ds. array (item (string l.first.now) (item (string l.second.now) ds))) (after_unescaped l.tail h) in
    fitting_value bytes bytes (list_value l) utf8 refl all fit ∙ ap Some same

pub any_list_read : (bytes : List ℕ) (found : Option QueryList) → IfSome found (IsQueryArrayText bytes)
    → IfSome found (λ l. IsUtf8 l.first.now × IsUtf8 l.second.now × HasU64NumberAndUtf8Text l.tail)
    → IfSome found (λ l. json_of_bytes bytes ≡ Some (query_array_json l))
any_list_read bytes None is sound = tt
any_list_read bytes (Some l) is sound = list_read bytes l sound.0 sound.1 sound.2 is

-- ---- the parts joined

pub comma_then : (bytes rest more : List ℕ) → IsAfterComma bytes rest → rest ≡ more → IsAfterComma bytes more
comma_then bytes rest more is same = subst (IsAfterComma bytes) same is
