use Rattle.std.proofs.Common.{◌≡◌, ◌∙◌, ℕ, List, [], ◌∷◌, length, get_or, Some, ap, sym, arith, rules}
use Rattle.symbols_ast.specs.declared.tree.kinds.Kind.{Kind}
use Rattle.symbols_ast.specs.declared.tree.kinds.Expr.{Expr}
use Rattle.symbols_ast.specs.NodeRefs.{node_view, kind_of}
use Rattle.symbols_deps.specs.EdgeRules.{edges_to_children}
use Rattle.symbols_deps.specs.inner.TableParts.{type_part_edge_rules_by_child_kind}
use Rattle.symbols_deps.specs.inner.Visits.{dependencies_of_visited_edge}
use Rattle.symbols_deps.proofs.VisitLists.{at_name}
use Rattle.symbols_deps.proofs.visit.Visit.only_name.Goals as goal

one_of : (xs : List ℕ) (n : ℕ) → length xs ≡ 1 → n ≡ get_or xs 0 n → xs ≡ n ∷ []
one_of [] n one is = absurd (omega (arith, one))
one_of (x ∷ []) n one is = ap (λ (m : ℕ). m ∷ []) (sym is)
one_of (x ∷ y ∷ zs) n one is = absurd (omega (arith, one))

pub returns-in-Expr-Ident : goal.returns-in-Expr-Ident
returns-in-Expr-Ident c =
    let visit = c.args.self in
    let child = c.in_ok-child.child in
    let kind : kind_of (node_view child.node) ≡ Some (Kind.Expr (Expr.Ident c.in-Expr-Ident.sym)) = search rules in
    let one : length c.args.parts.now ≡ 1 = search rules in
    let first : c.index-parts-0.result ≡ get_or c.args.parts.now 0 c.index-parts-0.result = search rules in
    let alone = one_of c.args.parts.now c.index-parts-0.result one first in
    let reaches = rw c.type_part_edge_rules.ensures at c.in_ok-child.ensures.reaches in
    ap (λ (parts : List ℕ). dependencies_of_visited_edge visit (edges_to_children type_part_edge_rules_by_child_kind parts)) alone
    ∙ (reaches ∙ at_name visit.mode child.namespace (node_view child.node) child.form c.in-Expr-Ident.sym kind)
