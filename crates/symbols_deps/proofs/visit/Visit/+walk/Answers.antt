use Rattle.std.proofs.Common.{◌≡◌, ◌++◌, ◌||◌, inl, inr, Bool, true, false, List, [], ◌∷◌, length, map, Some, refl, sym, ap, ◌∙◌, append-nil, arith, rules}
use Rattle.std.specs.Prelude.{vec_len}
use Rattle.std.proofs.lemmas.Bool.{eqb-true}
use Rattle.std.proofs.lemmas.Result.{on_ok_weaker}
use Rattle.symbols_ast.specs.declared.tree.kinds.Kind.{Kind}
use Rattle.symbols_ast.specs.declared.tree.kinds.Pat.{Pat}
use Rattle.symbols_ast.specs.declared.tree.kinds.Ty.{Ty}
use Rattle.symbols_ast.specs.NodeRefs.{node_view, kind_of}
use Rattle.symbols_deps.specs.declared.rules.PatternContext.{PatternContext}
use Rattle.symbols_deps.specs.EdgeRules.{FieldEdges, default_edge_rules, edges_to_children}
use Rattle.symbols_deps.specs.Annotations.{has_type_annotation}
use Rattle.symbols_deps.specs.EdgeTable.{expr_edges, pat_edges_by_context}
use Rattle.symbols_deps.specs.inner.KnownFacts.{may_be_reference}
use Rattle.symbols_deps.specs.inner.TableParts.{type_part_edge_rules_by_child_kind}
use Rattle.symbols_nodes.specs.References.{NamespacedReference, namespaced_reference_view, visits_expressions}
use Rattle.symbols_deps.specs.inner.Visits.{dependencies_of_visited_edges}
use Rattle.symbols_deps.proofs.KnownLemmas.{left_annotated}
use Rattle.symbols_deps.proofs.VisitLists.{no_children, no_child, open_child, node_and_below, alone_and_below}
use Rattle.symbols_deps.proofs.VisitLists.{parts_and_below, at_binding, at_annotation, at_bare, each_take_more}
use Rattle.symbols_deps.proofs.visit.Visit.+walk.Goals as goal

-- ---- a node

pub visit_any-returns : goal.visit_any-returns
visit_any-returns t c =
    on_ok_weaker c.visit_edges.result (λ below. node_and_below c.args.mode c.args.namespace (node_view c.args.node) c.args.form c.in_ok-refers.refers
    c.kind-kind.result.now c.kind-kind.ensures c.in_ok-refers.ensures.refers
    (map namespaced_reference_view c.args.found.now.items) (map namespaced_reference_view c.push_reference.new.found.items)
    (map namespaced_reference_view c.visit_edges.new.found.items)
    c.in_ok-refers.ensures.added below) c.visit_edges.ensures

pub visit_node-returns-in-Pat-BindingIdent : goal.visit_node-returns-in-Pat-BindingIdent
visit_node-returns-in-Pat-BindingIdent t c =
    let node = node_view c.args.node in
    let old = map namespaced_reference_view c.args.found.now.items in
    let type_ann = c.in-Pat-BindingIdent.type_ann in
    let kind : kind_of node ≡ Some (Kind.Pat (Pat.BindingIdent c.in-Pat-BindingIdent.field-0-0 type_ann)) = search rules in
    on_ok_weaker c.visit_annotation.result (λ below. below ∙ ap (λ (ds : List NamespacedReference). old
    ++ ds) (sym (at_binding c.args.mode c.args.namespace node c.args.form c.in-Pat-BindingIdent.field-0-0 type_ann kind))) c.visit_annotation.ensures

pub visit_node-returns-in-Member : goal.visit_node-returns-in-Member
visit_node-returns-in-Member t c =
    let node = node_view c.args.node in
    let kind : kind_of node ≡ Some (Kind.Member c.in-Member.member) = search rules in
    on_ok_weaker c.visit_member.result (λ below. alone_and_below c.args.mode c.args.namespace node c.args.form (Kind.Member c.in-Member.member) kind refl
    (map namespaced_reference_view c.args.found.now.items) (map namespaced_reference_view c.visit_member.new.found.items) below) c.visit_member.ensures

pub visit_node-returns-in-Property : goal.visit_node-returns-in-Property
visit_node-returns-in-Property t c =
    let node = node_view c.args.node in
    let old = map namespaced_reference_view c.args.found.now.items in
    let children = c.in-Pat-Plain.children in
    let kind : kind_of node ≡ Some (Kind.Pat (Pat.Plain children)) = search rules in
    let form : c.args.form ≡ PatternContext.Property = search rules in
    alone_and_below c.args.mode c.args.namespace node c.args.form (Kind.Pat (Pat.Plain children)) kind refl old old (rw form (sym (append-nil old)))

pub visit_node-returns-in-Usual : goal.visit_node-returns-in-Usual
visit_node-returns-in-Usual t c =
    let node = node_view c.args.node in
    let children = c.in-Pat-Plain.children in
    let kind : kind_of node ≡ Some (Kind.Pat (Pat.Plain children)) = search rules in
    let rows : pat_edges_by_context node c.args.form (has_type_annotation node) (Pat.Plain children) ≡ edges_to_children type_part_edge_rules_by_child_kind
    children.items
    ∷ [] =
    elim c.in-Usual.is [ inl form ↦ rw form refl | inr form ↦ rw form refl ] in
    on_ok_weaker c.visit_each.result (λ below. parts_and_below c.args.mode c.args.namespace node c.args.form children kind rows
    (map namespaced_reference_view c.args.found.now.items) (map namespaced_reference_view c.visit_each.new.found.items) below) (rw
    (c.type_part_edge_rules.ensures, c.deref.ensures.value) at c.visit_each.ensures)

pub visit_node-returns-in-Ty : goal.visit_node-returns-in-Ty
visit_node-returns-in-Ty t c =
    let node = node_view c.args.node in
    let ty = c.in-Ty.ty in
    let kind : kind_of node ≡ Some (Kind.Ty ty) = search rules in
    let not_so : may_be_reference (Kind.Ty ty) ≡ false = search rules in
    on_ok_weaker c.visit_ty.result (λ below. alone_and_below c.args.mode c.args.namespace node c.args.form (Kind.Ty ty) kind not_so
    (map namespaced_reference_view c.args.found.now.items) (map namespaced_reference_view c.visit_ty.new.found.items) below) c.visit_ty.ensures

-- ---- a child

nothing_in : {A : Type 0} (xs : List A) → length xs ≡ 0 → xs ≡ []
nothing_in [] e = refl
nothing_in (x ∷ xs) e = absurd (omega (arith, e))

pub visit_at-returns-in-Some : goal.visit_at-returns-in-Some
visit_at-returns-in-Some t c =
    on_ok_weaker c.push_name.result (λ below. below
    ∙ ap (λ (ds : List NamespacedReference). map namespaced_reference_view c.args.found.now.items ++ ds) (sym c.in-Some.ensures)) c.push_name.ensures

pub visit_at-returns-in-Pat-Plain : goal.visit_at-returns-in-Pat-Plain
visit_at-returns-in-Pat-Plain t c =
    let child = c.args.child in
    let kind : kind_of (node_view child.node) ≡ Some (Kind.Pat (Pat.Plain c.in-Pat-Plain.children)) = search rules in
    let bare = nothing_in c.in-Pat-Plain.children.items (sym c.in-Pat-Plain.children.ok.0
    ∙ eqb-true (vec_len c.in-Pat-Plain.children) 0 (sym (rw c.if-is_empty.true at c.is_empty.ensures))) in
    rw (at_bare c.args.self.mode child.namespace (node_view child.node) child.form c.in-Pat-Plain.children kind bare)
    (sym (append-nil (map namespaced_reference_view c.args.found.now.items)))

pub visit_known-returns : goal.visit_known-returns
visit_known-returns t c =
    on_ok_weaker c.visit_any.result (λ below. below
    ∙ ap (λ (ds : List NamespacedReference). map namespaced_reference_view c.args.found.now.items ++ ds) (sym c.in-Some.ensures.reaches)) c.visit_any.ensures

pub visit_child-returns-in-Some : goal.visit_child-returns-in-Some
visit_child-returns-in-Some t c =
    on_ok_weaker c.visit_at.result (λ below. below
    ∙ ap (λ (ds : List NamespacedReference). map namespaced_reference_view c.args.found.now.items ++ ds) (sym c.in-Some.ensures.reaches)) c.visit_at.ensures

pub visit_known-returns-in_default : goal.visit_known-returns-in_default
visit_known-returns-in_default t c = rw (c.open_child.ensures.closed c.in_default.is) (sym (append-nil (map namespaced_reference_view c.args.found.now.items)))

pub visit_child-returns-in-None : goal.visit_child-returns-in-None
visit_child-returns-in-None t c = rw (c.open_child.ensures.closed c.in-None.is) (sym (append-nil (map namespaced_reference_view c.args.found.now.items)))

pub visit_item-returns-in_default : goal.visit_item-returns-in_default
visit_item-returns-in_default t c = rw (c.open_child.ensures.closed c.in_default.is) (sym (append-nil (map namespaced_reference_view c.args.found.now.items)))

pub visit_item-returns-in-Pat-BindingIdent : goal.visit_item-returns-in-Pat-BindingIdent
visit_item-returns-in-Pat-BindingIdent t c =
    let child = c.in-Some.child in
    let type_ann = c.in-Pat-BindingIdent.type_ann in
    let kind : kind_of (node_view child.node) ≡ Some (Kind.Pat (Pat.BindingIdent c.in-Pat-BindingIdent.field-0-0 type_ann)) = search rules in
    on_ok_weaker c.visit_annotation.result (λ below. below ∙ ap (λ (ds : List NamespacedReference). map namespaced_reference_view c.args.found.now.items ++ ds)
    (sym (c.in-Some.ensures.reaches ∙ at_binding c.args.self.mode child.namespace (node_view
    child.node) child.form c.in-Pat-BindingIdent.field-0-0 type_ann kind))) c.visit_annotation.ensures

pub visit_item-returns-in-Ty-TsTypeAnn : goal.visit_item-returns-in-Ty-TsTypeAnn
visit_item-returns-in-Ty-TsTypeAnn t c =
    let child = c.in-Some.child in
    let ty = c.in-Ty-TsTypeAnn.ty in
    let kind : kind_of (node_view child.node) ≡ Some (Kind.Ty (Ty.TsTypeAnn ty)) = search rules in
    on_ok_weaker c.visit_type.result (λ below. below ∙ ap (λ (ds : List NamespacedReference). map namespaced_reference_view c.args.found.now.items ++ ds)
    (sym (c.in-Some.ensures.reaches ∙ at_annotation c.args.self.mode child.namespace (node_view child.node) child.form ty kind))) c.visit_type.ensures

pub visit_item-returns-in_default-kind : goal.visit_item-returns-in_default-kind
visit_item-returns-in_default-kind t c =
    on_ok_weaker c.visit_at.result (λ below. below
    ∙ ap (λ (ds : List NamespacedReference). map namespaced_reference_view c.args.found.now.items ++ ds) (sym c.in-Some.ensures.reaches)) c.visit_at.ensures

-- ---- an annotation

pub visit_annotation-returns-in_default : goal.visit_annotation-returns-in_default
visit_annotation-returns-in_default t c =
    let visit = c.args.self in
    rw (c.in_default.is, no_children visit.mode visit.namespace (node_view visit.node) default_edge_rules)
    (sym (append-nil (map namespaced_reference_view c.args.found.now.items)))

pub visit_annotation-returns-in_default-node_of_greater_number : goal.visit_annotation-returns-in_default-node_of_greater_number
visit_annotation-returns-in_default-node_of_greater_number t c =
    let visit = c.args.self in
    let unresolved = rw c.in_default-node_of_greater_number.is at c.node_of_greater_number.ensures.found in
    rw (c.in-Some.is, no_child visit.mode visit.namespace (node_view visit.node) default_edge_rules c.in-Some.id unresolved)
    (sym (append-nil (map namespaced_reference_view c.args.found.now.items)))

or_true : (b : Bool) → (b || true) ≡ true
or_true true = refl
or_true false = refl

pub visit_annotation-returns-in-Ty-TsTypeAnn : goal.visit_annotation-returns-in-Ty-TsTypeAnn
visit_annotation-returns-in-Ty-TsTypeAnn t c =
    let visit = c.args.self in
    let node = node_view c.in-Some-node_of_greater_number.node in
    let ty = c.in-Ty-TsTypeAnn.ty in
    let there = rw c.in-Some-node_of_greater_number.is at c.node_of_greater_number.ensures.found in
    let kind : kind_of node ≡ Some (Kind.Ty (Ty.TsTypeAnn ty)) = search rules in
    let old = map namespaced_reference_view c.args.found.now.items in
    let reaches = open_child visit.mode visit.namespace (node_view visit.node) default_edge_rules c.in-Some.id node (Kind.Ty (Ty.TsTypeAnn ty)) there kind
    (or_true (visits_expressions visit.mode)) in
    on_ok_weaker c.visit_type.result (λ below. rw c.in-Some.is (below
    ∙ ap (λ (ds : List NamespacedReference). old ++ ds) (sym (reaches ∙ at_annotation visit.mode visit.namespace node PatternContext.Usual ty kind))))
    c.visit_type.ensures

-- ---- children of a field

pub visit_optional-returns-in-None : goal.visit_optional-returns-in-None
visit_optional-returns-in-None t c =
    let visit = c.args.self in
    rw (c.in-None.is, no_children visit.mode visit.namespace (node_view visit.node) c.args.rules)
    (sym (append-nil (map namespaced_reference_view c.args.found.now.items)))

pub visit_each-loop-id-init : goal.visit_each-loop-id-init
visit_each-loop-id-init t c =
    let visit = c.args.self in
    rw (no_children visit.mode visit.namespace (node_view visit.node) c.args.rules) (sym (append-nil (map namespaced_reference_view c.args.found.now.items)))

pub visit_each-loop-id-preserved : goal.visit_each-loop-id-preserved
visit_each-loop-id-preserved t c =
    let visit = c.args.self in
    each_take_more visit.mode visit.namespace (node_view visit.node) c.args.rules c.args.ids.now c.loop-id.id-index c.id-item.result c.loop-id-test.true
    c.id-item.is
    (map namespaced_reference_view c.args.found.now.items) (map namespaced_reference_view c.loop-id.found.items)
    (map namespaced_reference_view c.visit_item.new.found.items)
    c.loop-id.invariant c.in_ok-visit_item.ensures

-- ---- kinds

-- A member expression that is a reference has no open edge.
pub visit_expr-returns-in-Member : goal.visit_expr-returns-in-Member
visit_expr-returns-in-Member t c =
    let visit = c.args.self in
    let before = map namespaced_reference_view c.args.found.now.items in
    let closed : expr_edges c.args.refers c.args.expr.now ≡ edges_to_children default_edge_rules [] ∷ edges_to_children default_edge_rules []
    ∷ [] = rw (c.in-Member.is, c.if-refers.true) refl in
    let nothing : dependencies_of_visited_edges visit (edges_to_children default_edge_rules [] ∷ edges_to_children default_edge_rules [] ∷ []) ≡ [] =
    rw (no_children visit.mode visit.namespace (node_view visit.node) default_edge_rules) refl in
    sym (append-nil before)
    ∙ ap (λ (ds : List NamespacedReference). before ++ ds) (sym (ap (λ (es : List FieldEdges). dependencies_of_visited_edges visit es) closed ∙ nothing))

pub visit_pat-visit_known-requires : goal.visit_pat-visit_known-requires
visit_pat-visit_known-requires t c =
    let node = node_view c.args.self.node in
    let left = c.in-AssignPat.left in
    let right = c.in-AssignPat.right in
    let kind : kind_of node ≡ Some (Kind.Pat (Pat.AssignPat left right)) = search rules in
    (omega arith, λ child below. (refl, c.has_type_annotation-annotated.ensures ∙ sym (left_annotated node child left right kind below)))

pub visit_property-visit_known-requires : goal.visit_property-visit_known-requires
visit_property-visit_known-requires t c =
    let node = node_view c.args.self.node in
    let left = c.in-AssignPat.left in
    let right = c.in-AssignPat.right in
    let kind : kind_of node ≡ Some (Kind.Pat (Pat.AssignPat left right)) = search rules in
    (omega arith, λ child below. (refl, c.has_type_annotation-annotated.ensures ∙ sym (left_annotated node child left right kind below)))
