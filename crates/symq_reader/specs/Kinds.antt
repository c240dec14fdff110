-- Kinds in the text of a graph: the sorts of their fields, the values of these sorts, and the look-up of a kind by its name.
use Rattle.std.specs.Prelude.{ℕ, List, [], ◌∷◌, Bool, if◌then◌else◌, Option, Some, None, option_map, option_and_then}
use Rattle.std.specs.Str.{bytes_eq}
use Rattle.serde_json.specs.Data.{Data}
use Rattle.serde_json.specs.Find.{as_str}
use Rattle.symbols_ast.specs.declared.tree.names.KindName.{KindName}
use Rattle.symbols_ast.specs.declared.tree.member_kinds.Accessibility.{Accessibility}
use Rattle.symbols_ast.specs.declared.tree.member_kinds.MethodKind.{MethodKind}
use Rattle.symq_reader.specs.UnderKeys.{required_value_under_key, optional_value_under_key, list_under_key, bool_under_key, as_u32, as_identifier}
use Rattle.symq_reader.specs.MemberKeywords.{as_accessibility, as_method_kind}

-- the sorts of fields
pub data JsonFieldSort : Type 0 where
  child : JsonFieldSort
  optional_child : JsonFieldSort
  children : JsonFieldSort
  text : JsonFieldSort
  optional_text : JsonFieldSort
  flag : JsonFieldSort
  identifier : JsonFieldSort
  accessibility : JsonFieldSort
  method_kind : JsonFieldSort

-- the value of a field
pub data JsonFieldValue : Type 0 where
  holds_child : ℕ → JsonFieldValue
  holds_optional_child : Option ℕ → JsonFieldValue
  holds_children : List ℕ → JsonFieldValue
  holds_text : List ℕ → JsonFieldValue
  holds_optional_text : Option (List ℕ) → JsonFieldValue
  holds_flag : Bool → JsonFieldValue
  holds_identifier : List ℕ × ℕ → JsonFieldValue
  holds_accessibility : Option Accessibility → JsonFieldValue
  holds_method_kind : MethodKind → JsonFieldValue

-- the value under a key, read as its sort
abbrev pub field_value_at_key : List ℕ → JsonFieldSort → Data → Option JsonFieldValue
field_value_at_key key child d = option_map holds_child (required_value_under_key as_u32 key d)
field_value_at_key key optional_child d = option_map holds_optional_child (optional_value_under_key as_u32 key d)
field_value_at_key key children d = option_map holds_children (list_under_key as_u32 key d)
field_value_at_key key text d = option_map holds_text (required_value_under_key as_str key d)
field_value_at_key key optional_text d = option_map holds_optional_text (optional_value_under_key as_str key d)
field_value_at_key key flag d = option_map holds_flag (bool_under_key key d)
field_value_at_key key identifier d = option_map holds_identifier (required_value_under_key as_identifier key d)
field_value_at_key key accessibility d = option_map holds_accessibility (optional_value_under_key as_accessibility key d)
field_value_at_key key method_kind d = option_map holds_method_kind (required_value_under_key as_method_kind key d)

-- the value of each field with its key, in order
abbrev pub field_values_at_keys : List (List ℕ × JsonFieldSort) → Data → Option (List (List ℕ × JsonFieldValue))
field_values_at_keys [] d = Some []
field_values_at_keys (f ∷ fs) d = option_and_then (λ s. option_map (λ ss. (f.0, s) ∷ ss) (field_values_at_keys fs d)) (field_value_at_key f.0 f.1 d)

-- the kind with this name in the text
abbrev pub kind_name_by_text : List (List ℕ × KindName) → List ℕ → Option KindName
kind_name_by_text [] t = None
kind_name_by_text (row ∷ rows) t = if bytes_eq t row.0 then Some row.1 else kind_name_by_text rows t
