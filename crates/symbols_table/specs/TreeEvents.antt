-- The events of a tree: of its items, and of the items in its namespaces.
use Rattle.std.specs.Prelude.{ℕ, suc, zero, Bool, true, false, ◌||◌, List, [], ◌∷◌, length, Option, None, Some}
use Rattle.std.specs.Option.{option_and_then}
use Rattle.symbols_ast.specs.declared.tree.arena.Tree.{Tree}
use Rattle.symbols_ast.specs.declared.tree.arena.Id.{Id}
use Rattle.symbols_ast.specs.declared.tree.kinds.Kind.{Kind}
use Rattle.symbols_ast.specs.declared.tree.kinds.Item.TheVariants as Item
use Rattle.symbols_ast.specs.declared.tree.kinds.Decl.TheVariants as Decl
use Rattle.symbols_ast.specs.NodeRefs.{TreeNode, kind_of, node_in, child_in_field, child_list_in_field}
use Rattle.symbols_ast.specs.Fields.{body_children_of, body_child_of, decl_child_of, id_child_of}
use Rattle.symbols_ast.specs.Ids.{id_view}
use Rattle.symbols_nodes.specs.NodeViews.{program, ts_namespace, exported_ts_module}
use Rattle.symbols_table.specs.declared.builder.scope.Scope.{Scope}
use Rattle.symbols_table.specs.DeclViews.{Declaration, definition_of_node}
use Rattle.symbols_table.specs.Events.{DeclarationEvent, begins, declare, export, child}
use Rattle.symbols_table.specs.EventsByHolderAndStart.{EventsByHolderAndStart, no_events_by_holder_and_start, events_if_some, events_followed_by}
use Rattle.symbols_table.specs.EventsByHolderAndStart.{events_of_each, range_or_empty}
use Rattle.symbols_table.specs.EventsByHolderAndStart.{id_of_ident_child}
use Rattle.symbols_table.specs.DeclarationEvents.{maybe_exported_node, export_or_decl_range, is_exported, declare_and_add_events, declaration_events}
use Rattle.symbols_table.specs.ModuleEvents.{import_export_or_expando_events}

-- A namespace declaration, and the `export` before it, if any.
pub record Namespace : Type 0 where
  pub exported : Option TreeNode
  pub decl : TreeNode

abbrev pub as_namespace : Option TreeNode → TreeNode → Kind → Option Namespace
as_namespace exported node (Kind.Decl (Decl.TsModuleDecl _ _ _)) = Some (record { exported = exported; decl = node })
as_namespace exported node _ = None

abbrev pub exported_namespace : TreeNode → TreeNode → Option Namespace
exported_namespace node decl = option_and_then (as_namespace (Some node) decl) (kind_of decl)

abbrev pub namespace_of : TreeNode → Kind → Option Namespace
namespace_of node (Kind.Item (Item.ExportDecl _)) = option_and_then (exported_namespace node) (child_in_field node decl_child_of)
namespace_of node kind = as_namespace None node kind

-- The items of a namespace with `declare` are ambient.
abbrev pub is_ambient_namespace : Kind → Bool
is_ambient_namespace (Kind.Decl (Decl.TsModuleDecl _ is_declared _)) = is_declared
is_ambient_namespace _ = false

-- The scope of the items of a namespace.
abbrev pub namespace_scope : Bool → Scope
namespace_scope ambient = record { ambient = ambient; is_module = false }

-- The events of a list of items, as a function of their scope.
abbrev pub ItemListEvents : Type 0
ItemListEvents = Scope → List ℕ → EventsByHolderAndStart

-- A later part of a dotted name is declared in the part before it, with the whole namespace as its node, and becomes its export and its
-- child.
abbrev pub namespace_part_decl_events : TreeNode → TreeNode → Id → EventsByHolderAndStart
namespace_part_decl_events whole node id holder start = declare holder (id_view id) (definition_of_node (ts_namespace whole) (range_or_empty node))
    ∷ export holder (id_view id).name start
    ∷ child holder start ∷ []

-- The events of a later part, followed by those of the declarations in it.
abbrev pub namespace_name_part_events : TreeNode → TreeNode → EventsByHolderAndStart → Id → EventsByHolderAndStart
namespace_name_part_events whole node inner id holder start = events_followed_by (namespace_part_decl_events whole node id holder start) (inner start) start

abbrev pub namespace_body_events_of_kind : (ℕ → EventsByHolderAndStart) → ItemListEvents → TreeNode → Bool → TreeNode → Kind → EventsByHolderAndStart
namespace_body_events_of_kind inner block whole ambient node (Kind.Decl (Decl.TsModuleBlock items)) = block (namespace_scope ambient) items.items
namespace_body_events_of_kind inner block whole ambient node (Kind.Decl (Decl.TsNamespaceDecl _ body)) =
    events_if_some (id_of_ident_child id_child_of node) (namespace_name_part_events whole node (inner body))
namespace_body_events_of_kind inner block whole ambient node _ = no_events_by_holder_and_start

-- The events of a namespace's body: the later parts of its dotted name, and the items in the last part.
unfoldable pub namespace_body_events_within_levels : ItemListEvents → TreeNode → Bool → ℕ → ℕ → EventsByHolderAndStart
namespace_body_events_within_levels block whole ambient zero n = no_events_by_holder_and_start
namespace_body_events_within_levels block whole ambient (suc levels) n = events_if_some (node_in whole.tree (Some n))
    (λ (node : TreeNode). events_if_some (kind_of node)
    (namespace_body_events_of_kind (namespace_body_events_within_levels block whole ambient levels) block whole ambient node))

abbrev pub namespace_body_events : ItemListEvents → TreeNode → Bool → TreeNode → EventsByHolderAndStart
namespace_body_events block whole ambient body = namespace_body_events_within_levels block whole ambient (length whole.tree.nodes.items) body.number

-- A namespace with an identifier is declared, with the events of its body. A namespace whose name is a string is skipped.
abbrev pub namespace_events : ItemListEvents → Scope → Namespace → Kind → EventsByHolderAndStart
namespace_events block scope namespace kind =
    events_if_some (id_of_ident_child id_child_of namespace.decl)
    (λ (id : Id). declare_and_add_events (is_exported scope namespace.exported) (id_view id)
    (definition_of_node (maybe_exported_node namespace.exported (exported_ts_module namespace.decl)) (export_or_decl_range namespace.exported namespace.decl))
    (events_if_some (child_in_field namespace.decl body_child_of) (namespace_body_events block namespace.decl (scope.ambient || is_ambient_namespace kind))))

-- The events of a declaration after `export`, and of any other item that is no namespace.
abbrev pub export_decl_events : Scope → TreeNode → TreeNode → EventsByHolderAndStart
export_decl_events scope node decl = events_if_some (kind_of decl) (declaration_events scope (Some node) decl)

abbrev pub non_namespace_item_events : Scope → TreeNode → Kind → EventsByHolderAndStart
non_namespace_item_events scope node (Kind.Item (Item.ExportDecl _)) = events_if_some (child_in_field node decl_child_of) (export_decl_events scope node)
non_namespace_item_events scope node (Kind.Item item) = import_export_or_expando_events node (Kind.Item item)
non_namespace_item_events scope node kind = declaration_events scope None node kind

abbrev pub namespace_events_or : Option Namespace → (Namespace → EventsByHolderAndStart) → EventsByHolderAndStart → EventsByHolderAndStart
namespace_events_or None namespace other = other
namespace_events_or (Some found) namespace other = namespace found

-- The events of an item: a namespace, or any other item.
abbrev pub item_events : ItemListEvents → Scope → TreeNode → Kind → EventsByHolderAndStart
item_events block scope node kind =
    namespace_events_or (namespace_of node kind) (λ (namespace : Namespace). events_if_some (kind_of namespace.decl) (namespace_events block scope namespace))
    (non_namespace_item_events scope node kind)

-- The events of item n, down to a number of levels.
unfoldable pub item_events_within_levels : Tree → ℕ → Scope → ℕ → EventsByHolderAndStart
item_events_within_levels tree zero scope n = no_events_by_holder_and_start
item_events_within_levels tree (suc levels) scope n =
    events_if_some (node_in tree (Some n))
    (λ (node : TreeNode). events_if_some (kind_of node) (item_events (λ (inner : Scope). events_of_each (item_events_within_levels tree levels inner)) scope
    node))

-- The events of a list of items, down to a number of levels.
abbrev pub item_list_events_within_levels : Tree → ℕ → ItemListEvents
item_list_events_within_levels tree levels scope = events_of_each (item_events_within_levels tree levels scope)

-- The events of a list of items. No namespace is nested deeper than the number of nodes.
abbrev pub item_list_events : Tree → Scope → List ℕ → EventsByHolderAndStart
item_list_events tree = item_list_events_within_levels tree (length tree.nodes.items)

abbrev pub program_node : Tree → TreeNode
program_node tree = record { tree = tree; number = 0 }

-- The definition of the module itself, by its `Program` node.
abbrev pub program_decl : Tree → Declaration
program_decl tree = definition_of_node (program (program_node tree)) (range_or_empty (program_node tree))

abbrev pub module_scope : Tree → Scope
module_scope tree = record { ambient = tree.declaration; is_module = true }

-- The events of a tree: the module, followed by the items of its body, with the module as their holder.
abbrev pub tree_events : Tree → List DeclarationEvent
tree_events tree =
    events_followed_by (begins (program_decl tree) ∷ []) (item_list_events tree (module_scope tree) (child_list_in_field (program_node tree) body_children_of)
    0) 0
