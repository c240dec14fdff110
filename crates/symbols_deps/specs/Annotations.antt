-- The type annotations of patterns.
use Rattle.std.specs.Prelude.{ℕ, Bool, is_some, Option, None}
use Rattle.symbols_ast.specs.declared.tree.kinds.Kind.{Kind}
use Rattle.symbols_ast.specs.declared.tree.kinds.Pat.TheVariants as Pat
use Rattle.symbols_ast.specs.NodeRefs.{TreeNode}
use Rattle.symbols_nodes.specs.Readings.{NodeRecursionStep, evaluate_node_of_greater_number, evaluate_node_recursively}

-- A pattern's own annotation, or for a pattern with a default that of its left. An expression or any other node has none.
abbrev pub type_annotation_recursion_step : NodeRecursionStep ℕ
type_annotation_recursion_step left_annotation node (Kind.Pat (Pat.BindingIdent _ type_ann)) = type_ann
type_annotation_recursion_step left_annotation node (Kind.Pat (Pat.ArrayPat _ type_ann)) = type_ann
type_annotation_recursion_step left_annotation node (Kind.Pat (Pat.ObjectPat _ type_ann)) = type_ann
type_annotation_recursion_step left_annotation node (Kind.Pat (Pat.RestPat _ type_ann)) = type_ann
type_annotation_recursion_step left_annotation node (Kind.Pat (Pat.AssignPat left _)) = left_annotation left
type_annotation_recursion_step left_annotation node _ = None

abbrev pub pattern_annotation : TreeNode → Option ℕ
pattern_annotation pattern = evaluate_node_recursively type_annotation_recursion_step pattern

abbrev pub has_type_annotation : TreeNode → Bool
has_type_annotation pattern = is_some (pattern_annotation pattern)

-- The pattern n below the node has an annotation.
abbrev pub is_child_pattern_annotated : TreeNode → ℕ → Bool
is_child_pattern_annotated node n = is_some (evaluate_node_of_greater_number pattern_annotation node n)
