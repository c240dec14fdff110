-- The text of a query list on the fast path.
use Rattle.std.specs.Prelude.{◌≡◌, ℕ, ◌^◌, ◌<◌, List, [], ◌∷◌, ◌++◌, decimal}
use Rattle.std.specs.Str.{IsUtf8}
use Rattle.json.specs.Print.{quoted}
use Rattle.json.specs.Spaced.{IsGap}
use Rattle.symq_reader.specs.declared.query_list.ListTail.{ListTail}
use Rattle.symq_reader.specs.declared.query_list.ListTail.TheVariants.{Nothing, Number, NumberAndText, TextAndNumber}
use Rattle.symq_reader.specs.declared.query_list.QueryList.{QueryList}

-- the bytes are a comma, optional white space and the rest
pub record IsAfterComma (bytes rest : List ℕ) : Type 0 where
  pub gap : List ℕ
  pub is_gap : IsGap gap
  pub text : bytes ≡ 44 ∷ (gap ++ rest)

-- the text of the items after the two strings, up to the end
abbrev pub IsTextAfterTwoStrings : List ℕ → ListTail → Type 0
IsTextAfterTwoStrings bytes Nothing = bytes ≡ 93 ∷ []
IsTextAfterTwoStrings bytes (Number n) = IsAfterComma bytes (decimal n ++ 93 ∷ [])
IsTextAfterTwoStrings bytes (NumberAndText n text) = (rest : List ℕ) × IsAfterComma bytes (decimal n ++ rest) × IsAfterComma rest (quoted text.now ++ 93 ∷ [])
IsTextAfterTwoStrings bytes (TextAndNumber text n) = (rest : List ℕ) × IsAfterComma bytes (quoted text.now ++ rest) × IsAfterComma rest (decimal n ++ 93 ∷ [])

-- the text of the whole list
pub record IsQueryArrayText (bytes : List ℕ) (list : QueryList) : Type 0 where
  pub rest : List ℕ
  pub tail : List ℕ
  pub first : bytes ≡ 91 ∷ (quoted list.first.now ++ rest)
  pub second : IsAfterComma rest (quoted list.second.now ++ tail)
  pub end : IsTextAfterTwoStrings tail list.tail

-- the number fits 64 bits, and the string is UTF-8
abbrev pub HasU64NumberAndUtf8Text : ListTail → Type 0
HasU64NumberAndUtf8Text Nothing = Unit {0}
HasU64NumberAndUtf8Text (Number n) = n < 2 ^ 64
HasU64NumberAndUtf8Text (NumberAndText n text) = (n < 2 ^ 64) × IsUtf8 text.now
HasU64NumberAndUtf8Text (TextAndNumber text n) = (n < 2 ^ 64) × IsUtf8 text.now
