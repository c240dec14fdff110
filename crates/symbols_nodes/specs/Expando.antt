-- Expando assignments, which add a property to a function: `f.p = ..` and `f["p"] = ..`.
use Rattle.std.specs.Prelude.{ℕ, Bool, true, false, ◌&&◌, ◌||◌, ◌==◌, if◌then◌else◌, List, [], ◌∷◌, Option, Some, None, string_bytes}
use Rattle.std.specs.Option.{option_map_or, option_and_then}
use Rattle.std.specs.List.{list_all}
use Rattle.std.specs.Str.{chars}
use Rattle.unicode_ident.specs.Ident.{is_xid_start, is_xid_continue}
use Rattle.symbols_ast.specs.declared.tree.kinds.Kind.{Kind}
use Rattle.symbols_ast.specs.declared.tree.kinds.Expr.TheVariants as Expr
use Rattle.symbols_ast.specs.Fields.{left_child_of, obj_child_of, prop_child_of, right_child_of, expr_child_of}
use Rattle.symbols_ast.specs.NodeRefs.{TreeNode, kind_of, child_in_field}

-- An identifier may start with `$`, `_` or a letter.
abbrev pub is_identifier_start : ℕ → Bool
is_identifier_start c = (c == 36) || (c == 95) || is_xid_start c

-- It may continue with digits, combining marks and the two joiners too.
abbrev pub is_identifier_part : ℕ → Bool
is_identifier_part c = (c == 36) || (c == 95) || (c == 8204) || (c == 8205) || is_xid_continue c

-- The characters are an identifier. A reserved word is one here.
abbrev pub is_identifier : List ℕ → Bool
is_identifier [] = false
is_identifier (c ∷ cs) = is_identifier_start c && list_all is_identifier_part cs

abbrev pub is_simple_assignment : Kind → Bool
is_simple_assignment (Kind.Expr (Expr.Assign is_simple _ _)) = is_simple
is_simple_assignment _ = false

abbrev pub str_literal_value : Kind → Option (List ℕ)
str_literal_value (Kind.Expr (Expr.Str value)) = Some (string_bytes value)
str_literal_value _ = None

-- The name after the dot, or the string in brackets.
abbrev pub prop_name_by_kind : TreeNode → Kind → Option (List ℕ)
prop_name_by_kind prop (Kind.Expr (Expr.IdentName name)) = Some (string_bytes name)
prop_name_by_kind prop (Kind.Expr (Expr.Computed _)) = option_and_then str_literal_value (option_and_then kind_of (child_in_field prop expr_child_of))
prop_name_by_kind prop _ = None

abbrev pub prop_name : TreeNode → Option (List ℕ)
prop_name prop = option_and_then (prop_name_by_kind prop) (kind_of prop)

abbrev pub is_ident : Kind → Bool
is_ident (Kind.Expr (Expr.Ident _)) = true
is_ident _ = false

-- The parts of an expando assignment.
pub record Expando : Type 0 where
  pub member : TreeNode
  pub object : TreeNode
  pub prop : TreeNode
  pub name : List ℕ
  pub right : TreeNode

-- The assignment is an expando assignment if the object is an identifier, and so is the property's name.
abbrev pub expando_if_valid : Expando → Option Expando
expando_if_valid expando = if option_map_or is_ident (kind_of expando.object) false && is_identifier (chars expando.name) then Some expando else None

-- The expando assignment of a member expression on the left and the expression on the right.
abbrev pub expando_of_member_expr : TreeNode → TreeNode → Option Expando
expando_of_member_expr right member =
    option_and_then (λ (object : TreeNode).
    option_and_then (λ (prop : TreeNode).
    option_and_then (λ (name : List ℕ). expando_if_valid (record { member = member; object = object; prop = prop; name = name; right = right }))
    (prop_name prop))
    (child_in_field member prop_child_of))
    (child_in_field member obj_child_of)

-- The expando assignment that a node is, if it is one.
abbrev pub expando_of_assignment : TreeNode → Option Expando
expando_of_assignment node =
    if option_map_or is_simple_assignment (kind_of node) false
    then option_and_then (λ (right : TreeNode). option_and_then (expando_of_member_expr right) (child_in_field node left_child_of))
    (child_in_field node right_child_of)
    else None
