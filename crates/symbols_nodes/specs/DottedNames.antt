-- Dotted names like `a.b.c`, in types and in expressions.
use Rattle.std.specs.Prelude.{ℕ, List, [], ◌∷◌, ◌++◌, map, Option, None, Some, string_bytes, codes}
use Rattle.std.specs.Borrow.{Bor}
use Rattle.std.specs.Option.{option_map, option_and_then}
use Rattle.symbols_ast.specs.declared.tree.arena.Id.{Id}
use Rattle.symbols_ast.specs.declared.tree.kinds.Kind.{Kind}
use Rattle.symbols_ast.specs.declared.tree.kinds.Ty.TheVariants as Ty
use Rattle.symbols_ast.specs.declared.tree.kinds.Expr.TheVariants as Expr
use Rattle.symbols_ast.specs.Ids.{IdView, id_view}
use Rattle.symbols_ast.specs.NodeRefs.{TreeNode, kind_of}
use Rattle.symbols_nodes.specs.declared.deps.dotted_names.EntityName.{EntityName}
use Rattle.symbols_nodes.specs.Expando.{str_literal_value}
use Rattle.symbols_nodes.specs.Readings.{NodeRecursionStep, evaluate_node_of_greater_number, evaluate_node_recursively}

-- An identifier and the parts that follow it after dots.
pub record DottedName : Type 0 where
  pub leftmost : IdView
  pub parts : List (List ℕ)

abbrev pub dotted_name_of_ident : Id → DottedName
dotted_name_of_ident sym = record { leftmost = id_view sym; parts = [] }

abbrev pub append_name_part : List ℕ → DottedName → DottedName
append_name_part part name = record name { parts = name.parts ++ part ∷ [] }

-- ---- in types: an `Ident`, or a `TsQualifiedName` with such a name on its left

abbrev pub entity_name_recursion_step : NodeRecursionStep DottedName
entity_name_recursion_step left_name node (Kind.Expr (Expr.Ident sym)) = Some (dotted_name_of_ident sym)
entity_name_recursion_step left_name node (Kind.Ty (Ty.TsQualifiedName left right)) = option_map (append_name_part (string_bytes right)) (left_name left)
entity_name_recursion_step left_name node _ = None

abbrev pub entity_name : TreeNode → Option DottedName
entity_name node = evaluate_node_recursively entity_name_recursion_step node

-- The view of an `EntityName`.
abbrev pub entity_name_view : EntityName → DottedName
entity_name_view name = record { leftmost = id_view name.leftmost.now; parts = map (λ (part : Bor (List ℕ)). part.now) name.parts.items }

-- ---- in expressions: an `Ident`, or a `Member` with such a name as its object

-- The part that a property is: `b`, `#b` or `["b"]`.
abbrev pub dotted_name_part_of_prop_kind : TreeNode → Kind → Option (List ℕ)
dotted_name_part_of_prop_kind prop (Kind.Expr (Expr.IdentName name)) = Some (string_bytes name)
dotted_name_part_of_prop_kind prop (Kind.Expr (Expr.PrivateName name)) = Some (codes "#" ++ string_bytes name)
dotted_name_part_of_prop_kind prop (Kind.Expr (Expr.Computed expr)) = option_and_then str_literal_value (evaluate_node_of_greater_number kind_of prop expr)
dotted_name_part_of_prop_kind prop _ = None

abbrev pub dotted_name_part_of_member_prop : TreeNode → Option (List ℕ)
dotted_name_part_of_member_prop prop = option_and_then (dotted_name_part_of_prop_kind prop) (kind_of prop)

abbrev pub member_expr_recursion_step : NodeRecursionStep DottedName
member_expr_recursion_step object_name node (Kind.Expr (Expr.Ident sym)) = Some (dotted_name_of_ident sym)
member_expr_recursion_step object_name node (Kind.Expr (Expr.Member obj prop)) =
    option_and_then (λ part. option_map (append_name_part part) (object_name obj)) (evaluate_node_of_greater_number dotted_name_part_of_member_prop node prop)
member_expr_recursion_step object_name node _ = None

abbrev pub member_expr_name : TreeNode → Option DottedName
member_expr_name node = evaluate_node_recursively member_expr_recursion_step node
