use Rattle.std.proofs.Common.{◌≡◌, [], ◌∷◌, inl, inr, Some, refl, rules}
use Rattle.symbols_ast.specs.declared.tree.kinds.Kind.{Kind}
use Rattle.symbols_ast.specs.declared.tree.kinds.Expr.{Expr}
use Rattle.symbols_ast.specs.declared.tree.kinds.Pat.{Pat}
use Rattle.symbols_ast.specs.NodeRefs.{node_view, kind_of}
use Rattle.symbols_deps.specs.Annotations.{has_type_annotation}
use Rattle.symbols_deps.specs.EdgeRules.{edges_to_children}
use Rattle.symbols_deps.specs.EdgeTable.{pat_edges_by_context}
use Rattle.symbols_deps.specs.inner.TableParts.{type_part_edge_rules_by_child_kind}
use Rattle.symbols_deps.proofs.VisitLists.{at_name, at_parts}
use Rattle.symbols_deps.proofs.visit.Visit.only_name_at.Goals as goal

pub returns-in-Expr-Ident : goal.returns-in-Expr-Ident
returns-in-Expr-Ident c =
    let visit = c.args.self in
    let kind : kind_of (node_view visit.node) ≡ Some (Kind.Expr (Expr.Ident c.in-Expr-Ident.sym)) = search rules in
    at_name visit.mode visit.namespace (node_view visit.node) c.args.form c.in-Expr-Ident.sym kind

pub returns-in-Usual : goal.returns-in-Usual
returns-in-Usual c =
    let visit = c.args.self in
    let node = node_view visit.node in
    let children = c.in-Pat-Plain.children in
    let kind : kind_of node ≡ Some (Kind.Pat (Pat.Plain children)) = search rules in
    let rows : pat_edges_by_context node c.args.form (has_type_annotation node) (Pat.Plain children) ≡ edges_to_children type_part_edge_rules_by_child_kind
    children.items
    ∷ [] =
    elim c.in-Usual.is [ inl form ↦ rw form refl | inr form ↦ rw form refl ] in
    rw (at_parts visit.mode visit.namespace node c.args.form children kind rows) (rw c.deref.ensures.value at c.only_name.ensures)
