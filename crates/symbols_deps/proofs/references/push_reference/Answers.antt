use Rattle.std.proofs.Common.{◌≡◌, false, Some, refl, sym, map, append-nil, rules}
use Rattle.symbols_ast.specs.declared.tree.kinds.Kind.TheVariants as Kind
use Rattle.symbols_ast.specs.declared.tree.kinds.Expr.TheVariants as Expr
use Rattle.symbols_ast.specs.NodeRefs.{node_view, kind_of}
use Rattle.symbols_deps.specs.inner.KnownFacts.{may_be_reference}
use Rattle.symbols_nodes.specs.References.{namespaced_reference_view}
use Rattle.symbols_deps.proofs.KnownLemmas.{refers_to_nothing, refers_by_name}
use Rattle.symbols_deps.proofs.references.push_reference.Goals as goal

pub returns-then-not-may_be_reference-clause-refers : goal.returns-then-not-may_be_reference-clause-refers
returns-then-not-may_be_reference-clause-refers c =
    let not_so : may_be_reference c.args.kind.now ≡ false = search rules in
    rw (refers_to_nothing (node_view c.args.node) c.args.kind.now c.requires.kind not_so) refl

pub returns-then-not-may_be_reference-clause-added : goal.returns-then-not-may_be_reference-clause-added
returns-then-not-may_be_reference-clause-added c =
    let not_so : may_be_reference c.args.kind.now ≡ false = search rules in
    rw (refers_to_nothing (node_view c.args.node) c.args.kind.now c.requires.kind not_so)
    (sym (append-nil (map namespaced_reference_view c.args.found.now.items)))

pub returns-in-Expr-Ident-clause-refers : goal.returns-in-Expr-Ident-clause-refers
returns-in-Expr-Ident-clause-refers c =
    let kind : kind_of (node_view c.args.node) ≡ Some (Kind.Expr (Expr.Ident c.in-Expr-Ident.sym)) = search rules in
    rw (refers_by_name (node_view c.args.node) c.in-Expr-Ident.sym kind) refl

pub returns-in-Expr-Ident-clause-added : goal.returns-in-Expr-Ident-clause-added
returns-in-Expr-Ident-clause-added c =
    let kind : kind_of (node_view c.args.node) ≡ Some (Kind.Expr (Expr.Ident c.in-Expr-Ident.sym)) = search rules in
    rw (refers_by_name (node_view c.args.node) c.in-Expr-Ident.sym kind) c.in_ok-push_name.ensures
