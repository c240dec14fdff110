-- Tests of declaration nodes: members, and private members.
use Rattle.std.specs.Prelude.{Bool, true, false, not, ◌||◌, Option, Some, None}
use Rattle.std.specs.Option.{option_and_then, option_map_or}
use Rattle.symbols_ast.specs.NodeRefs.{TreeNode, kind_of, child_in_field}
use Rattle.symbols_ast.specs.Fields.{key_child_of}
use Rattle.symbols_ast.specs.declared.tree.member_kinds.Accessibility.{Accessibility}
use Rattle.symbols_ast.specs.declared.tree.kinds.Kind.{Kind}
use Rattle.symbols_ast.specs.declared.tree.kinds.Expr.TheVariants as Expr
use Rattle.symbols_ast.specs.declared.tree.kinds.Member.TheVariants as Member
use Rattle.symbols_nodes.specs.NodeViews.{SymbolNodeView, auto_accessor, class_method, class_prop, class_param_prop, constructor}
use Rattle.symbols_nodes.specs.NodeViews.{expando_property, ts_index_signature, ts_call_signature_decl, ts_construct_signature_decl}
use Rattle.symbols_nodes.specs.NodeViews.{ts_property_signature, ts_getter_signature, ts_setter_signature, ts_method_signature}
use Rattle.symbols_nodes.specs.NodeTests.{is_module}

-- A member of a class or interface, or an expando property.
abbrev pub is_member_or_expando_node : SymbolNodeView → Bool
is_member_or_expando_node (auto_accessor _) = true
is_member_or_expando_node (class_method _) = true
is_member_or_expando_node (class_prop _) = true
is_member_or_expando_node (class_param_prop _) = true
is_member_or_expando_node (constructor _) = true
is_member_or_expando_node (expando_property _) = true
is_member_or_expando_node (ts_index_signature _) = true
is_member_or_expando_node (ts_call_signature_decl _) = true
is_member_or_expando_node (ts_construct_signature_decl _) = true
is_member_or_expando_node (ts_property_signature _) = true
is_member_or_expando_node (ts_getter_signature _) = true
is_member_or_expando_node (ts_setter_signature _) = true
is_member_or_expando_node (ts_method_signature _) = true
is_member_or_expando_node _ = false

-- Neither the module nor a member.
abbrev pub is_decl : SymbolNodeView → Bool
is_decl node = not (is_module node || is_member_or_expando_node node)

-- The accessibility modifier of a class member, if one is written.
abbrev pub accessibility_of : Kind → Option Accessibility
accessibility_of (Kind.Member (Member.Constructor _ _ accessibility)) = accessibility
accessibility_of (Kind.Member (Member.TsParamProp _ accessibility)) = accessibility
accessibility_of (Kind.Member (Member.ClassMethod _ _ _ _ accessibility)) = accessibility
accessibility_of (Kind.Member (Member.ClassProp _ _ _ _ accessibility)) = accessibility
accessibility_of (Kind.Member (Member.AutoAccessor _ _ _ _ accessibility)) = accessibility
accessibility_of _ = None

abbrev pub is_private_accessibility : Option Accessibility → Bool
is_private_accessibility (Some Accessibility.Private) = true
is_private_accessibility _ = false

-- The node has the modifier `private`.
abbrev pub has_private_modifier : TreeNode → Bool
has_private_modifier node = is_private_accessibility (option_and_then accessibility_of (kind_of node))

abbrev pub is_private_name : Kind → Bool
is_private_name (Kind.Expr (Expr.PrivateName _)) = true
is_private_name _ = false

-- The node's key is a private name, written with `#`.
abbrev pub has_private_name : TreeNode → Bool
has_private_name node = option_map_or is_private_name (option_and_then kind_of (child_in_field node key_child_of)) false

-- A class member with the modifier `private`, or an auto-accessor with a private name.
abbrev pub is_private_member : SymbolNodeView → Bool
is_private_member (auto_accessor node) = has_private_modifier node || has_private_name node
is_private_member (class_method node) = has_private_modifier node
is_private_member (class_prop node) = has_private_modifier node
is_private_member (class_param_prop node) = has_private_modifier node
is_private_member (constructor node) = has_private_modifier node
is_private_member _ = false
