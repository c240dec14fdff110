-- A list of modules that is read piece by piece. A text is cut at a comma after a module.
use Rattle.std.specs.Prelude.{◌≡◌, ◌⊎◌, ℕ, List, [], ◌∷◌, ◌++◌, length, map, true, Some, codes}
use Rattle.std.specs.Str.{IsUtf8}
use Rattle.json.specs.Token.{Token}
use Rattle.json.specs.Lex.{tokens}
use Rattle.json.specs.Json as json
use Rattle.json.specs.Tree.{json_tokens}
use Rattle.symbols_ast.specs.declared.graph.raw.RawModule.{RawModule}
use Rattle.symq_reader.specs.JsonData.{json_items_data}
use Rattle.symq_reader.specs.inner.JsonData.{json_items_have_whole_numbers}
use Rattle.symq_reader.specs.GraphText.{as_module, raw_module_view}
use Rattle.symq_reader.specs.inner.Streams.{ConsumesItems, ReadsValue}
use Rattle.symq_reader.specs.UnderKeys.{read_each_item}

-- the front of a graph's text whose first member is its modules
abbrev pub graph_text_opening : List ℕ
graph_text_opening = codes "{\"modules\":["

-- the text is the piece, which ends with a brace, a comma, at most a line end, and the rest, which begins with a brace
pub record IsPieceCut (text piece rest : List ℕ) : Type 0 where
  pub front : List ℕ
  pub ends : piece ≡ front ++ 125 ∷ []
  pub gap : List ℕ
  pub is_gap : (gap ≡ []) ⊎ (gap ≡ 10 ∷ [])
  pub back : List ℕ
  pub begins : rest ≡ 123 ∷ back
  pub joined : text ≡ piece ++ 44 ∷ (gap ++ rest)

-- the tokens of some values, one after the other
abbrev pub tokens_of_values : json.Items → List Token
tokens_of_values json.no_items = []
tokens_of_values (json.item j rest) = json_tokens j ++ tokens_of_values rest

-- the old tokens are those of the values and then the new ones; before any tokens, the values' tokens begin a list with these values
pub record ConsumesValues (old : List Token) (values : json.Items) (new : List Token) : Type 0 where
  pub spell : old ≡ tokens_of_values values ++ new
  pub on : (rest : List Token) → ConsumesItems 125 (tokens_of_values values ++ rest) values rest

-- the modules after are those before, with the modules of these values appended
pub record AreModulesAppended (values : json.Items) (before after : List RawModule) : Type 0 where
  pub fit : json_items_have_whole_numbers values ≡ true
  pub modules : List RawModule
  pub pushed : after ≡ before ++ modules
  pub are : read_each_item as_module (json_items_data values) ≡ Some (map raw_module_view modules)

-- one module was read and appended
pub record ConsumesModule (old new : List Token) (before after : List RawModule) : Type 0 where
  pub one : RawModule
  pub reads : ReadsValue 125 old new as_module (raw_module_view one)
  pub pushed : after ≡ before ++ one ∷ []

-- the piece consists of modules, which were read and appended
pub record ReadsPiece (piece : List ℕ) (before after : List RawModule) : Type 0 where
  pub utf8 : IsUtf8 piece
  pub values : json.Items
  pub took : ConsumesValues (tokens piece) values []
  pub more : AreModulesAppended values before after

-- the modules of the text before the rest were read and appended; the text is a list after its bracket
pub record ReadsPieces (text rest : List ℕ) (before after : List RawModule) : Type 0 where
  pub front : List ℕ
  pub split : text ≡ front ++ rest
  pub utf8 : IsUtf8 front
  pub values : json.Items
  pub took : ConsumesItems 125 (tokens text) values (tokens rest)
  pub more : AreModulesAppended values before after

-- the modules up to the end of their list were read and appended
pub record ReadsModulesToEnd (old new : List Token) (before after : List RawModule) : Type 0 where
  pub values : json.Items
  pub read : json.items (json.value 125) (length old) old ≡ Some (values, new)
  pub more : AreModulesAppended values before after
