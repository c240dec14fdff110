use Rattle.std.proofs.Common.{◌≡◌, true, Err, codes, bytes_eq, sym, ap, ◌∙◌, subst, rules}
use Rattle.std.proofs.lemmas.Slice.Eq.{bytes_eq-Decides}
use Rattle.symbols_ast.specs.declared.tree.names.KindName.TheVariants as Name
use Rattle.symq_reader.specs.inner.Objects.{object_data}
use Rattle.symq_reader.specs.inner.Reading.{IsReadResult, IsReadFault}
use Rattle.symq_reader.specs.KindShapes.{read_as_kind}
use Rattle.symq_reader.specs.KindShapesTable.{kind_name_and_field_values}
use Rattle.symq_reader.specs.ReadKinds.{node_kind_by_tag}
use Rattle.symq_reader.proofs.KindTexts.{type_ann_named}
use Rattle.symq_reader.proofs.kinds.kind_by_tag.Goals as goal

pub returns-in_err-ts_type_ann : goal.returns-in_err-ts_type_ann
returns-in_err-ts_type_ann c =
    let d = object_data c.args.object.now in
    let equal : bytes_eq c.args.kind.now (codes "TsTypeAnn") ≡ true = search rules in
    let same : c.args.kind.now ≡ codes "TsTypeAnn" = (bytes_eq-Decides c.args.kind.now (codes "TsTypeAnn")).0 equal in
    let is : node_kind_by_tag c.args.kind.now d ≡ read_as_kind Name.TsTypeAnn d = ap (λ t. node_kind_by_tag t d) same ∙ type_ann_named d in
    let fault : IsReadFault (node_kind_by_tag c.args.kind.now d) c.in_err-ts_type_ann.field-0.0 =
    subst (λ o. IsReadFault o c.in_err-ts_type_ann.field-0.0) (sym is) c.in_err-ts_type_ann.ensures in
    let given : c.from_residual.result ≡ Err c.in_err-ts_type_ann.field-0.0 = search rules in
    subst (λ r. IsReadResult kind_name_and_field_values r (node_kind_by_tag c.args.kind.now d)) (sym given) fault

pub returns-then-eq : goal.returns-then-eq
returns-then-eq c =
    let d = object_data c.args.object.now in
    let equal : bytes_eq c.args.kind.now (codes "TsTypeAnn") ≡ true = search rules in
    let same : c.args.kind.now ≡ codes "TsTypeAnn" = (bytes_eq-Decides c.args.kind.now (codes "TsTypeAnn")).0 equal in
    ap (λ t. node_kind_by_tag t d) same ∙ type_ann_named d ∙ c.in_ok-ts_type_ann.ensures
