-- The events of imports, exports and expression statements.
use Rattle.std.specs.Prelude.{ℕ, Bool, List, [], ◌∷◌, Option, None, Some, unwrap_or, String, string_bytes}
use Rattle.std.specs.Option.{option_map, option_and_then}
use Rattle.std.specs.Global.{Global}
use Rattle.symbols_ast.specs.declared.tree.arena.Tree.{Tree}
use Rattle.symbols_ast.specs.declared.tree.arena.Id.{Id}
use Rattle.symbols_ast.specs.declared.tree.kinds.Kind.{Kind}
use Rattle.symbols_ast.specs.declared.tree.kinds.Item.TheVariants as Item
use Rattle.symbols_ast.specs.declared.tree.kinds.Expr.TheVariants as Expr
use Rattle.symbols_ast.specs.NodeRefs.{TreeNode, kind_of, node_in, child_in_field}
use Rattle.symbols_ast.specs.Fields.{local_child_of, orig_child_of, expr_child_of, decl_child_of, id_child_of}
use Rattle.symbols_ast.specs.Ids.{id_view, ident_id}
use Rattle.symbols_nodes.specs.DottedNames.{DottedName, entity_name}
use Rattle.symbols_nodes.specs.Expando.{Expando, expando_of_assignment}
use Rattle.symbols_nodes.specs.NodeViews.{export_default_decl, export_default_expr, expando_property}
use Rattle.symbols_table.specs.DeclViews.{Declaration, FileDepNameView, DeclKindView, all_names, one_name, target}
use Rattle.symbols_table.specs.DeclViews.{qualified_target, file_ref, declaration_of_kind, definition_of_node}
use Rattle.symbols_table.specs.Events.{DeclarationEvent, declare, declare_alias, declare_unnamed, default, binds, expando, export, star, default_export_name}
use Rattle.symbols_table.specs.EventsByHolderAndStart.{EventsByHolderAndStart, no_events_by_holder_and_start, events_if_some, events_followed_by}
use Rattle.symbols_table.specs.EventsByHolderAndStart.{events_of_each, range_or_empty}
use Rattle.symbols_table.specs.EventsByHolderAndStart.{id_of_ident_child}
use Rattle.symbols_table.specs.MemberEvents.{member_events_at, class_or_interface_member_numbers}
use Rattle.symbols_table.specs.DeclarationEvents.{declared_name, export_event_if}

-- ---- import { a as b }, c, * as d from "src"

-- The part of the other module that an import specifier imports: the name before `as`, or else the local name; `default`; or all names.
abbrev pub import_dep_name : Id → Kind → Option FileDepNameView
import_dep_name id (Kind.Item (Item.ImportNamed _ None)) = Some (one_name (string_bytes id.name))
import_dep_name id (Kind.Item (Item.ImportNamed _ (Some name))) = Some (one_name (string_bytes name))
import_dep_name id (Kind.Item (Item.ImportDefault _)) = Some (one_name default_export_name)
import_dep_name id (Kind.Item (Item.ImportNamespace _)) = Some all_names
import_dep_name id _ = None

-- The local identifier is declared as a name of the other module.
abbrev pub import_decl_events : List ℕ → TreeNode → Id → FileDepNameView → EventsByHolderAndStart
import_decl_events src node id name holder start = declare holder (id_view id) (declaration_of_kind (file_ref name src) (range_or_empty node)) ∷ []

abbrev pub import_specifier_events : List ℕ → TreeNode → Kind → EventsByHolderAndStart
import_specifier_events src node kind =
    events_if_some (id_of_ident_child local_child_of node) (λ (id : Id). events_if_some (import_dep_name id kind) (import_decl_events src node id))

abbrev pub import_specifier_events_at : List ℕ → Tree → ℕ → EventsByHolderAndStart
import_specifier_events_at src tree n =
    events_if_some (node_in tree (Some n)) (λ (node : TreeNode). events_if_some (kind_of node) (import_specifier_events src node))

-- ---- export { a as b, * as c } from "src"

-- A new symbol is exported under a name. No identifier of the module is bound to it.
abbrev pub new_exported_symbol_events : List ℕ → Declaration → EventsByHolderAndStart
new_exported_symbol_events name decl holder start = declare_unnamed holder decl ∷ export holder name start ∷ []

-- The name before `as`, an identifier or a string.
abbrev pub orig_specifier_name : Kind → Option (List ℕ)
orig_specifier_name (Kind.Expr (Expr.Ident sym)) = Some (string_bytes sym.name)
orig_specifier_name (Kind.Expr (Expr.Str value)) = Some (string_bytes value)
orig_specifier_name _ = None

-- The kind of its declaration: with a specifier a name of the other module, else an alias of a name of this module.
abbrev pub orig_specifier_decl_kind : Option (List ℕ) → Kind → List ℕ → Option DeclKindView
orig_specifier_decl_kind (Some src) orig name = Some (file_ref (one_name name) src)
orig_specifier_decl_kind None orig name = option_map (λ (id : Id). target (id_view id)) (ident_id orig)

abbrev pub export_named_specifier_events : Option (List ℕ) → TreeNode → Option (List ℕ) → Kind → EventsByHolderAndStart
export_named_specifier_events src node exported orig =
    events_if_some (orig_specifier_name orig) (λ (name : List ℕ).
    events_if_some (orig_specifier_decl_kind src orig name)
    (λ (kind : DeclKindView). new_exported_symbol_events (unwrap_or exported name) (declaration_of_kind kind (range_or_empty node))))

abbrev pub export_named_specifier_events_at : Option (List ℕ) → TreeNode → Option (List ℕ) → EventsByHolderAndStart
export_named_specifier_events_at src node exported =
    events_if_some (option_and_then kind_of (child_in_field node orig_child_of)) (export_named_specifier_events src node exported)

abbrev pub export_specifier_events : Option (List ℕ) → TreeNode → Kind → EventsByHolderAndStart
export_specifier_events src node (Kind.Item (Item.ExportSpecifier _ exported)) = export_named_specifier_events_at src node (option_map string_bytes exported)
export_specifier_events src node (Kind.Item (Item.ExportNamespace name)) =
    events_if_some src (λ (text : List ℕ). new_exported_symbol_events (string_bytes name) (declaration_of_kind (file_ref all_names text) (range_or_empty node)))
export_specifier_events src node _ = no_events_by_holder_and_start

abbrev pub export_specifier_events_at : Option (List ℕ) → Tree → ℕ → EventsByHolderAndStart
export_specifier_events_at src tree n =
    events_if_some (node_in tree (Some n)) (λ (node : TreeNode). events_if_some (kind_of node) (export_specifier_events src node))

-- ---- export default .., export = ..

abbrev pub bind_events_if : Option Id → ℕ → List DeclarationEvent
bind_events_if None of = []
bind_events_if (Some id) of = binds (id_view id) of ∷ []

-- `export default` before a class, a function or an interface: its identifier is bound to the default symbol, which gets the members.
abbrev pub default_decl_events : TreeNode → TreeNode → EventsByHolderAndStart
default_decl_events node decl holder start =
    events_followed_by (default holder (definition_of_node (export_default_decl node) (range_or_empty node)) ∷ [])
    (events_followed_by (bind_events_if (declared_name decl) start)
    (events_of_each (member_events_at decl.tree) (class_or_interface_member_numbers decl) start)) start

abbrev pub default_export_events : Declaration → EventsByHolderAndStart
default_export_events decl holder start = default holder decl ∷ []

-- The declaration of a default export of an identifier is an alias of it.
abbrev pub alias_decl_of_ident : TreeNode → Id → Declaration
alias_decl_of_ident expr id = declaration_of_kind (target (id_view id)) (range_or_empty expr)

-- Any other expression after `export default` is a definition.
abbrev pub default_expr_decl : TreeNode → TreeNode → Kind → Declaration
default_expr_decl node expr (Kind.Expr (Expr.Ident id)) = alias_decl_of_ident expr id
default_expr_decl node expr _ = definition_of_node (export_default_expr node) (range_or_empty node)

abbrev pub export_assignment_of_ident_events : TreeNode → Kind → EventsByHolderAndStart
export_assignment_of_ident_events expr (Kind.Expr (Expr.Ident id)) = default_export_events (alias_decl_of_ident expr id)
export_assignment_of_ident_events expr _ = no_events_by_holder_and_start

-- ---- import a = b.c, import a = require("src")

-- The kind of an `import a = ..` declaration: a dotted name of this module, or the default export of another one.
abbrev pub import_equals_decl_kind : TreeNode → Option ℕ → Option (String Global) → Option DeclKindView
import_equals_decl_kind node (Some entity) external =
    option_map (λ (name : DottedName). qualified_target name.leftmost name.parts) (option_and_then entity_name (node_in node.tree (Some entity)))
import_equals_decl_kind node None external = option_map (λ (text : String Global). file_ref (one_name default_export_name) (string_bytes text)) external

abbrev pub import_equals_alias_events : TreeNode → Bool → Id → DeclKindView → EventsByHolderAndStart
import_equals_alias_events node is_export id kind holder start =
    declare_alias holder (id_view id) (declaration_of_kind kind (range_or_empty node)) ∷ export_event_if is_export holder (string_bytes id.name) start

abbrev pub import_equals_events : TreeNode → Bool → Option ℕ → Option (String Global) → EventsByHolderAndStart
import_equals_events node is_export entity external =
    events_if_some (id_of_ident_child id_child_of node)
    (λ (id : Id). events_if_some (import_equals_decl_kind node entity external) (import_equals_alias_events node is_export id))

-- ---- f.p = ..

abbrev pub expando_events : TreeNode → EventsByHolderAndStart
expando_events node =
    events_if_some (option_and_then (λ (e : Expando). option_and_then ident_id (kind_of e.object)) (expando_of_assignment node))
    (λ (id : Id) (holder : ℕ) (start : ℕ). expando (id_view id) (definition_of_node (expando_property node) (range_or_empty node)) ∷ [])

-- ---- export * from "src"

abbrev pub export_star_events : TreeNode → List ℕ → EventsByHolderAndStart
export_star_events node specifier_text holder start = star (record { number = node.number; specifier_text = specifier_text }) ∷ []

-- ---- all of these, by kind

abbrev pub import_export_or_expando_events : TreeNode → Kind → EventsByHolderAndStart
import_export_or_expando_events node (Kind.Item (Item.Import specifiers src)) =
    events_of_each (import_specifier_events_at (string_bytes src) node.tree) specifiers.items
import_export_or_expando_events node (Kind.Item (Item.ExportNamed specifiers src)) =
    events_of_each (export_specifier_events_at (option_map string_bytes src) node.tree) specifiers.items
import_export_or_expando_events node (Kind.Item (Item.ExportDefaultDecl _)) = events_if_some (child_in_field node decl_child_of) (default_decl_events node)
import_export_or_expando_events node (Kind.Item (Item.ExportDefaultExpr _)) =
    events_if_some (child_in_field node expr_child_of)
    (λ (expr : TreeNode). events_if_some (kind_of expr) (λ (kind : Kind). default_export_events (default_expr_decl node expr kind)))
import_export_or_expando_events node (Kind.Item (Item.TsExportAssignment _)) =
    events_if_some (child_in_field node expr_child_of) (λ (expr : TreeNode). events_if_some (kind_of expr) (export_assignment_of_ident_events expr))
import_export_or_expando_events node (Kind.Item (Item.ExportAll src)) = export_star_events node (string_bytes src)
import_export_or_expando_events node (Kind.Item (Item.TsImportEqualsDecl is_export _ entity external)) = import_equals_events node is_export entity external
import_export_or_expando_events node (Kind.Item (Item.ExprStmt _)) = events_if_some (child_in_field node expr_child_of) expando_events
import_export_or_expando_events node _ = no_events_by_holder_and_start
