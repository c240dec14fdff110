-- The events of the members of classes and interfaces.
use Rattle.std.specs.Prelude.{ℕ, Bool, true, false, List, [], ◌∷◌, Option, None, Some}
use Rattle.std.specs.Option.{option_map_or}
use Rattle.symbols_ast.specs.declared.tree.arena.Tree.{Tree}
use Rattle.symbols_ast.specs.declared.tree.kinds.Kind.{Kind}
use Rattle.symbols_ast.specs.declared.tree.kinds.Decl.TheVariants as Decl
use Rattle.symbols_ast.specs.declared.tree.kinds.Member.TheVariants as Member
use Rattle.symbols_ast.specs.NodeRefs.{TreeNode, kind_of, node_in, child_in_field, child_list_in_field}
use Rattle.symbols_ast.specs.Fields.{body_children_of, class_child_of}
use Rattle.symbols_nodes.specs.NodeViews.{SymbolNodeView, class_method, class_prop, auto_accessor, class_param_prop, constructor}
use Rattle.symbols_nodes.specs.NodeViews.{ts_index_signature, ts_call_signature_decl, ts_construct_signature_decl}
use Rattle.symbols_nodes.specs.NodeViews.{ts_property_signature, ts_getter_signature, ts_setter_signature, ts_method_signature}
use Rattle.symbols_table.specs.DeclViews.{definition_of_node}
use Rattle.symbols_table.specs.Events.{member}
use Rattle.symbols_table.specs.EventsByHolderAndStart.{EventsByHolderAndStart, no_events_by_holder_and_start, events_if_some, events_followed_by}
use Rattle.symbols_table.specs.EventsByHolderAndStart.{events_of_each, range_or_empty}

abbrev pub class_or_interface_members_by_kind : TreeNode → Kind → List ℕ
class_or_interface_members_by_kind node (Kind.Decl (Decl.TsInterfaceDecl _ _ _ _)) = child_list_in_field node body_children_of
class_or_interface_members_by_kind node _ = option_map_or (λ (class : TreeNode). child_list_in_field class body_children_of)
    (child_in_field node class_child_of) []

-- The member nodes of a class or an interface; empty for any other node.
abbrev pub class_or_interface_member_numbers : TreeNode → List ℕ
class_or_interface_member_numbers node = option_map_or (class_or_interface_members_by_kind node) (kind_of node) []

-- The event of a member, at the range of its node.
abbrev pub member_event : SymbolNodeView → TreeNode → Bool → EventsByHolderAndStart
member_event form node is_static holder start = member holder (definition_of_node form (range_or_empty node)) is_static ∷ []

-- The events of a constructor's parameter, which is declared if it is a parameter property.
abbrev pub constructor_param_events : TreeNode → Kind → EventsByHolderAndStart
constructor_param_events node (Kind.Member (Member.TsParamProp _ _)) = member_event (class_param_prop node) node false
constructor_param_events node _ = no_events_by_holder_and_start

abbrev pub constructor_param_events_at : Tree → ℕ → EventsByHolderAndStart
constructor_param_events_at tree n = events_if_some (node_in tree (Some n)) (λ (node : TreeNode). events_if_some (kind_of node) (constructor_param_events node))

-- The events of a constructor, followed by those of its parameters.
abbrev pub constructor_events : TreeNode → List ℕ → EventsByHolderAndStart
constructor_events node params holder start =
    events_followed_by (member holder (definition_of_node (constructor node) (range_or_empty node)) true ∷ [])
    (events_of_each (constructor_param_events_at node.tree) params holder) start

-- The form of a member other than a constructor or a parameter property, and whether it is static. Anything else in a class declares
-- nothing.
abbrev pub node_of_non_constructor_member : TreeNode → Kind → Option (SymbolNodeView × Bool)
node_of_non_constructor_member node (Kind.Member (Member.ClassMethod _ _ _ is_static _)) = Some (class_method node, is_static)
node_of_non_constructor_member node (Kind.Member (Member.ClassProp _ _ _ is_static _)) = Some (class_prop node, is_static)
node_of_non_constructor_member node (Kind.Member (Member.AutoAccessor _ _ _ is_static _)) = Some (auto_accessor node, is_static)
node_of_non_constructor_member node (Kind.Member (Member.TsIndexSignature _ _ is_static)) = Some (ts_index_signature node, is_static)
node_of_non_constructor_member node (Kind.Member (Member.TsCallSignatureDecl _ _ _)) = Some (ts_call_signature_decl node, false)
node_of_non_constructor_member node (Kind.Member (Member.TsConstructSignatureDecl _ _ _)) = Some (ts_construct_signature_decl node, false)
node_of_non_constructor_member node (Kind.Member (Member.TsPropertySignature _ _ _)) = Some (ts_property_signature node, false)
node_of_non_constructor_member node (Kind.Member (Member.TsGetterSignature _ _ _)) = Some (ts_getter_signature node, false)
node_of_non_constructor_member node (Kind.Member (Member.TsSetterSignature _ _ _)) = Some (ts_setter_signature node, false)
node_of_non_constructor_member node (Kind.Member (Member.TsMethodSignature _ _ _ _ _)) = Some (ts_method_signature node, false)
node_of_non_constructor_member node _ = None

-- The events of a member, by its kind.
abbrev pub member_events : TreeNode → Kind → EventsByHolderAndStart
member_events node (Kind.Member (Member.Constructor params _ _)) = constructor_events node params.items
member_events node kind = events_if_some (node_of_non_constructor_member node kind) (λ (m : SymbolNodeView × Bool). member_event m.0 node m.1)

abbrev pub member_events_at : Tree → ℕ → EventsByHolderAndStart
member_events_at tree n = events_if_some (node_in tree (Some n)) (λ (node : TreeNode). events_if_some (kind_of node) (member_events node))
