use Rattle.std.proofs.Common.{◌≡◌, refl, Some, None, rules}
use Rattle.symbols_ast.specs.declared.tree.kinds.Kind.TheVariants as Kind
use Rattle.symbols_ast.specs.declared.tree.kinds.Pat.TheVariants as Pat
use Rattle.symbols_ast.specs.NodeRefs.{node_view}
use Rattle.symbols_deps.specs.Annotations.{type_annotation_recursion_step}
use Rattle.symbols_nodes.specs.Readings.{node_of_greater_number}
use Rattle.symbols_nodes.specs.laws.Readings.{recursive_evaluation_unfolds_at_kind}
use Rattle.symbols_deps.proofs.annotations.+pattern_annotation.Goals as goal
use Rattle.symbols_deps.proofs.annotations.+pattern_annotation.Goals.{in_default-via-in-Pat+in_default, in_default-via-in_default}

pub returns-in_err-node_of_greater_number-in-Pat-AssignPat : goal.returns-in_err-node_of_greater_number-in-Pat-AssignPat
returns-in_err-node_of_greater_number-in-Pat-AssignPat t c =
    let kind : c.kind.result.now ≡ Kind.Pat (Pat.AssignPat c.in-Pat-AssignPat.left c.in-Pat-AssignPat.field-0-1) = search rules in
    let unresolved : None ≡ node_of_greater_number (node_view c.args.pattern) c.in-Pat-AssignPat.left =
    rw c.in_err-node_of_greater_number-in-Pat-AssignPat.was at c.node_of_greater_number.ensures.found in
    recursive_evaluation_unfolds_at_kind type_annotation_recursion_step (node_view c.args.pattern) c.kind.result.now c.from_residual.result c.kind.ensures
    (rw (c.from_residual.ensures, kind, ← unresolved) refl)

pub returns-in_ok-node_of_greater_number-in-Pat-AssignPat : goal.returns-in_ok-node_of_greater_number-in-Pat-AssignPat
returns-in_ok-node_of_greater_number-in-Pat-AssignPat t c =
    let there : Some (node_view c.in_ok-node_of_greater_number-in-Pat-AssignPat.field-0) ≡ node_of_greater_number (node_view c.args.pattern)
    c.in-Pat-AssignPat.left =
    rw c.in_ok-node_of_greater_number-in-Pat-AssignPat.was at c.node_of_greater_number.ensures.found in
    let kind : c.kind.result.now ≡ Kind.Pat (Pat.AssignPat c.in-Pat-AssignPat.left c.in-Pat-AssignPat.field-0-1) = search rules in
    recursive_evaluation_unfolds_at_kind type_annotation_recursion_step (node_view c.args.pattern) c.kind.result.now c.pattern_annotation.result c.kind.ensures
    (rw (kind, ← there) c.pattern_annotation.ensures)

pub returns-in-Pat-BindingIdent : goal.returns-in-Pat-BindingIdent
returns-in-Pat-BindingIdent t c = recursive_evaluation_unfolds_at_kind type_annotation_recursion_step
    (node_view c.args.pattern) c.kind.result.now _ c.kind.ensures
    (search rules)

pub returns-in_default : goal.returns-in_default
returns-in_default t c =
    recursive_evaluation_unfolds_at_kind type_annotation_recursion_step (node_view c.args.pattern) c.kind.result.now None c.kind.ensures
    (elim c.in_default.branch [ in_default-via-in-Pat+in_default w ↦ search rules | in_default-via-in_default w ↦ search rules ])
