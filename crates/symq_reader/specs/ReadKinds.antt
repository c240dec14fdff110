-- The kind of a node, of whichever enum.
use Rattle.std.specs.Prelude.{ℕ, List, Option, None, option_and_then, codes}
use Rattle.serde_json.specs.Data.{Data}
use Rattle.serde_json.specs.Find.{as_str}
use Rattle.symq_reader.specs.UnderKeys.{required_value_under_key}
use Rattle.symq_reader.specs.KindShapes.{KindNameAndFieldValues, kind_of_this_or_later_enum}
use Rattle.symq_reader.specs.KindShapesTable.{read_item, read_decl, read_member, read_ty, read_expr, read_pat}

-- the kind of this name; the order of the enums is the order in which they are tried
abbrev pub node_kind_by_tag : List ℕ → Data → Option KindNameAndFieldValues
node_kind_by_tag t d = kind_of_this_or_later_enum (read_expr t d)
    (kind_of_this_or_later_enum (read_pat t d)
    (kind_of_this_or_later_enum (read_member t d)
    (kind_of_this_or_later_enum (read_decl t d) (kind_of_this_or_later_enum (read_ty t d) (kind_of_this_or_later_enum (read_item t d) None)))))

-- the kind that the field `kind` names, with its fields
unfoldable pub read_kind : Data → Option KindNameAndFieldValues
read_kind d = option_and_then (λ t. node_kind_by_tag t d) (required_value_under_key as_str (codes "kind") d)
