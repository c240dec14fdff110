use Rattle.std.proofs.Common.{◌≡◌, refl, Some, None, rules}
use Rattle.std.proofs.lemmas.List.{map-append}
use Rattle.symbols_ast.specs.declared.tree.kinds.Kind.TheVariants as Kind
use Rattle.symbols_ast.specs.declared.tree.kinds.Ty.TheVariants as Ty
use Rattle.symbols_ast.specs.NodeRefs.{node_view}
use Rattle.symbols_nodes.specs.DottedNames.{entity_name_recursion_step}
use Rattle.symbols_nodes.specs.laws.Readings.{recursive_evaluation_unfolds_at_kind}
use Rattle.symbols_nodes.proofs.deps.dotted_names.+entity_name.Goals as goal
use Rattle.symbols_nodes.proofs.deps.dotted_names.+entity_name.Goals.{in_default-via-in-Expr+in_default}
use Rattle.symbols_nodes.proofs.deps.dotted_names.+entity_name.Goals.{in_default-via-in-Ty+in_default, in_default-via-in_default}

pub returns-in_default-node_of_greater_number : goal.returns-in_default-node_of_greater_number
returns-in_default-node_of_greater_number t c =
    let kind : c.kind.result.now ≡ Kind.Ty (Ty.TsQualifiedName c.in-Ty-TsQualifiedName.left c.in-Ty-TsQualifiedName.right) = search rules in
    let unresolved = rw c.in_default-node_of_greater_number.is at c.node_of_greater_number.ensures.found in
    recursive_evaluation_unfolds_at_kind entity_name_recursion_step (node_view c.args.node) c.kind.result.now None c.kind.ensures (rw (kind, ← unresolved) refl)

pub returns-in_default-2 : goal.returns-in_default-2
returns-in_default-2 t c =
    let kind : c.kind.result.now ≡ Kind.Ty (Ty.TsQualifiedName c.in-Ty-TsQualifiedName.left c.in-Ty-TsQualifiedName.right) = search rules in
    let there = rw c.in-Some.is at c.node_of_greater_number.ensures.found in
    let inner = rw c.in_default-2.is at c.in_ok-name-in-Ty-TsQualifiedName.ensures in
    recursive_evaluation_unfolds_at_kind entity_name_recursion_step (node_view c.args.node) c.kind.result.now None c.kind.ensures
    (rw (kind, ← there, ← inner) refl)

pub returns-in-Expr-Ident : goal.returns-in-Expr-Ident
returns-in-Expr-Ident t c =
    recursive_evaluation_unfolds_at_kind entity_name_recursion_step (node_view c.args.node) c.kind.result.now (Some _) c.kind.ensures (search rules)

pub returns-in_ok-push-in-Ty-TsQualifiedName : goal.returns-in_ok-push-in-Ty-TsQualifiedName
returns-in_ok-push-in-Ty-TsQualifiedName t c =
    let kind : c.kind.result.now ≡ Kind.Ty (Ty.TsQualifiedName c.in-Ty-TsQualifiedName.left c.in-Ty-TsQualifiedName.right) = search rules in
    let there = rw c.in-Some.is at c.node_of_greater_number.ensures.found in
    let inner = rw c.in-Some-2.is at c.in_ok-name-in-Ty-TsQualifiedName.ensures in
    recursive_evaluation_unfolds_at_kind entity_name_recursion_step (node_view c.args.node) c.kind.result.now (Some _) c.kind.ensures
    (rw (kind, ← there, ← inner, c.in_ok-push-in-Ty-TsQualifiedName.ensures.items, map-append, c.as_str.ensures.value) refl)

pub returns-in_default : goal.returns-in_default
returns-in_default t c =
    recursive_evaluation_unfolds_at_kind entity_name_recursion_step (node_view c.args.node) c.kind.result.now None c.kind.ensures
    (elim c.in_default.branch [
      | in_default-via-in-Expr+in_default w ↦ search rules
      | in_default-via-in-Ty+in_default w ↦ search rules
      | in_default-via-in_default w ↦ search rules
    ])
