-- Kinds as they are read: the name of the kind, and its fields in order, each with its key and its value.
use Rattle.std.specs.Prelude.{ℕ, List, Option, Some, None, option_map, string_bytes}
use Rattle.serde_json.specs.Data.{Data}
use Rattle.symbols_ast.specs.declared.tree.names.KindName.{KindName}
use Rattle.symbols_ast.specs.declared.tree.arena.Id.{Id}
use Rattle.symq_reader.specs.Kinds.{JsonFieldValue, field_values_at_keys}
use Rattle.symq_reader.specs.KindTable.{json_fields_of_kind}

pub record KindNameAndFieldValues : Type 0 where
  pub name : KindName
  pub slots : List (List ℕ × JsonFieldValue)

-- the object, read as the kind of this name
abbrev pub read_as_kind : KindName → Data → Option KindNameAndFieldValues
read_as_kind name d = option_map (λ slots. record { name = name; slots = slots }) (field_values_at_keys (json_fields_of_kind name) d)

-- the object, read as a kind of one enum; Some None if no kind of the enum has the name
abbrev pub read_if_kind_named : Option KindName → Data → Option (Option KindNameAndFieldValues)
read_if_kind_named None d = Some None
read_if_kind_named (Some name) d = option_map Some (read_as_kind name d)

-- the shape of the first enum that has the kind
abbrev pub kind_of_this_or_later_enum : Option (Option KindNameAndFieldValues) → Option KindNameAndFieldValues → Option KindNameAndFieldValues
kind_of_this_or_later_enum None later = None
kind_of_this_or_later_enum (Some None) later = later
kind_of_this_or_later_enum (Some (Some shape)) later = Some shape

-- a name with its scope
abbrev pub identifier_view : Id → List ℕ × ℕ
identifier_view id = (string_bytes id.name, id.scope)
