-- A node whose kind is named `TsTypeAnn` is read as that kind.
use Rattle.std.proofs.Common.{◌≡◌, Option, Some, None, option_map, codes, refl}
use Rattle.serde_json.specs.Data.{Data}
use Rattle.symbols_ast.specs.declared.tree.names.KindName.TheVariants as Name
use Rattle.symq_reader.specs.KindShapes.{KindNameAndFieldValues, read_as_kind, kind_of_this_or_later_enum}
use Rattle.symq_reader.specs.KindShapesTable.{read_expr, read_pat, read_member, read_decl, read_ty, read_item}
use Rattle.symq_reader.specs.ReadKinds.{node_kind_by_tag}

kind_found : (shape later : Option KindNameAndFieldValues) → kind_of_this_or_later_enum (option_map Some shape) later ≡ shape
kind_found None later = refl
kind_found (Some shape) later = refl

pub type_ann_named : (d : Data) → node_kind_by_tag (codes "TsTypeAnn") d ≡ read_as_kind Name.TsTypeAnn d
unfolding read_expr read_pat read_member read_decl read_ty
type_ann_named d = kind_found (read_as_kind Name.TsTypeAnn d) (kind_of_this_or_later_enum (read_item (codes "TsTypeAnn") d) None)
