use Rattle.std.proofs.Common.{◌≡◌, refl, Some, None, rules}
use Rattle.std.proofs.lemmas.List.{map-append}
use Rattle.symbols_ast.specs.declared.tree.kinds.Kind.TheVariants as Kind
use Rattle.symbols_ast.specs.declared.tree.kinds.Expr.TheVariants as Expr
use Rattle.symbols_ast.specs.NodeRefs.{node_view}
use Rattle.symbols_nodes.specs.DottedNames.{member_expr_recursion_step}
use Rattle.symbols_nodes.specs.laws.Readings.{recursive_evaluation_unfolds_at_kind}
use Rattle.symbols_nodes.proofs.deps.dotted_names.+member_expr_name.Goals as goal
use Rattle.symbols_nodes.proofs.deps.dotted_names.+member_expr_name.Goals.{in_default-via-in-Expr+in_default, in_default-via-in_default}

pub returns-in_default-prop_part_below : goal.returns-in_default-prop_part_below
returns-in_default-prop_part_below t c =
    let kind : c.kind.result.now ≡ Kind.Expr (Expr.Member c.in-Expr-Member.obj c.in-Expr-Member.prop) = search rules in
    let part = rw c.in_default-prop_part_below.is at c.prop_part_below.ensures in
    recursive_evaluation_unfolds_at_kind member_expr_recursion_step (node_view c.args.node) c.kind.result.now None c.kind.ensures (rw (kind, ← part) refl)

pub returns-in_default-node_of_greater_number : goal.returns-in_default-node_of_greater_number
returns-in_default-node_of_greater_number t c =
    let kind : c.kind.result.now ≡ Kind.Expr (Expr.Member c.in-Expr-Member.obj c.in-Expr-Member.prop) = search rules in
    let part = rw c.in-Some.is at c.prop_part_below.ensures in
    let unresolved = rw c.in_default-node_of_greater_number.is at c.node_of_greater_number.ensures.found in
    recursive_evaluation_unfolds_at_kind member_expr_recursion_step (node_view c.args.node) c.kind.result.now None c.kind.ensures
    (rw (kind, ← part, ← unresolved) refl)

pub returns-in_default-2 : goal.returns-in_default-2
returns-in_default-2 t c =
    let kind : c.kind.result.now ≡ Kind.Expr (Expr.Member c.in-Expr-Member.obj c.in-Expr-Member.prop) = search rules in
    let part = rw c.in-Some.is at c.prop_part_below.ensures in
    let there = rw c.in-Some-node_of_greater_number.is at c.node_of_greater_number.ensures.found in
    let inner = rw c.in_default-2.is at c.in_ok-name-in-Expr-Member.ensures in
    recursive_evaluation_unfolds_at_kind member_expr_recursion_step (node_view c.args.node) c.kind.result.now None c.kind.ensures
    (rw (kind, ← part, ← there, ← inner) refl)

pub returns-in-Expr-Ident : goal.returns-in-Expr-Ident
returns-in-Expr-Ident t c =
    recursive_evaluation_unfolds_at_kind member_expr_recursion_step (node_view c.args.node) c.kind.result.now (Some _) c.kind.ensures (search rules)

pub returns-in_ok-push-in-Expr-Member : goal.returns-in_ok-push-in-Expr-Member
returns-in_ok-push-in-Expr-Member t c =
    let kind : c.kind.result.now ≡ Kind.Expr (Expr.Member c.in-Expr-Member.obj c.in-Expr-Member.prop) = search rules in
    let part = rw c.in-Some.is at c.prop_part_below.ensures in
    let there = rw c.in-Some-node_of_greater_number.is at c.node_of_greater_number.ensures.found in
    let inner = rw c.in-Some-2.is at c.in_ok-name-in-Expr-Member.ensures in
    recursive_evaluation_unfolds_at_kind member_expr_recursion_step (node_view c.args.node) c.kind.result.now (Some _) c.kind.ensures
    (rw (kind, ← part, ← there, ← inner, c.in_ok-push-in-Expr-Member.ensures.items, map-append, c.in_ok-to_text-in-Expr-Member.ensures) refl)

pub returns-in_default : goal.returns-in_default
returns-in_default t c =
    recursive_evaluation_unfolds_at_kind member_expr_recursion_step (node_view c.args.node) c.kind.result.now None c.kind.ensures
    (elim c.in_default.branch [ in_default-via-in-Expr+in_default w ↦ search rules | in_default-via-in_default w ↦ search rules ])
