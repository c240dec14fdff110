-- The names of declaration nodes.
use Rattle.std.specs.Prelude.{ℕ, List, ◌++◌, Option, Some, None, string_bytes, codes}
use Rattle.std.specs.Option.{option_map, option_and_then}
use Rattle.symbols_ast.specs.declared.tree.kinds.Kind.{Kind}
use Rattle.symbols_ast.specs.declared.tree.kinds.Decl.TheVariants as Decl
use Rattle.symbols_ast.specs.declared.tree.kinds.Expr.TheVariants as Expr
use Rattle.symbols_ast.specs.declared.tree.kinds.Pat.TheVariants as Pat
use Rattle.symbols_ast.specs.Fields.{decl_child_of, ident_child_of, id_child_of, key_child_of, expr_child_of, param_child_of, left_child_of}
use Rattle.symbols_ast.specs.Ids.{ident_id}
use Rattle.symbols_ast.specs.NodeRefs.{TreeNode, kind_of, child_in_field}
use Rattle.symbols_nodes.specs.Expando.{Expando, expando_of_assignment}
use Rattle.symbols_nodes.specs.NodeViews.{ExportDeclView, SymbolNodeView, exported_class, exported_fn, exported_var, exported_ts_enum, exported_ts_interface}
use Rattle.symbols_nodes.specs.NodeViews.{exported_ts_module, exported_ts_type_alias, export_decl, export_default_decl, class_decl, fn_decl, ts_enum}
use Rattle.symbols_nodes.specs.NodeViews.{ts_interface, ts_namespace, ts_type_alias, var, using_var, auto_accessor, class_method, class_prop}
use Rattle.symbols_nodes.specs.NodeViews.{class_param_prop, constructor, expando_property, ts_index_signature, ts_call_signature_decl}
use Rattle.symbols_nodes.specs.NodeViews.{ts_construct_signature_decl, ts_property_signature, ts_getter_signature, ts_setter_signature, ts_method_signature}

-- The text of an identifier or a literal.
abbrev pub ident_or_literal_text : Kind → Option (List ℕ)
ident_or_literal_text (Kind.Expr (Expr.Ident sym)) = Some (string_bytes sym.name)
ident_or_literal_text (Kind.Expr (Expr.Str value)) = Some (string_bytes value)
ident_or_literal_text (Kind.Expr (Expr.Num text)) = Some (string_bytes text)
ident_or_literal_text (Kind.Expr (Expr.BigInt text)) = Some (string_bytes text)
ident_or_literal_text _ = None

-- The text of a field's child, if that is an identifier or a literal.
abbrev pub child_text : (Kind → Option ℕ) → TreeNode → Option (List ℕ)
child_text field node = option_and_then ident_or_literal_text (option_and_then kind_of (child_in_field node field))

-- The name of a key. A private name has `#` before it; a big integer is no name.
abbrev pub key_name_by_kind : TreeNode → Kind → Option (List ℕ)
key_name_by_kind key (Kind.Expr (Expr.IdentName name)) = Some (string_bytes name)
key_name_by_kind key (Kind.Expr (Expr.Str value)) = Some (string_bytes value)
key_name_by_kind key (Kind.Expr (Expr.Num text)) = Some (string_bytes text)
key_name_by_kind key (Kind.Expr (Expr.Computed _)) = child_text expr_child_of key
key_name_by_kind key (Kind.Expr (Expr.PrivateName name)) = Some (codes "#" ++ string_bytes name)
key_name_by_kind key _ = None

abbrev pub key_name : TreeNode → Option (List ℕ)
key_name node = option_and_then (λ (key : TreeNode). option_and_then (key_name_by_kind key) (kind_of key)) (child_in_field node key_child_of)

-- The name that a pattern binds, if it is an identifier.
abbrev pub binding_name : TreeNode → Option (List ℕ)
binding_name node = option_map (λ id. string_bytes id.name) (option_and_then ident_id (kind_of node))

-- The name of a parameter; with a default value it is the name of the pattern on its left.
abbrev pub param_name_by_kind : TreeNode → Kind → Option (List ℕ)
param_name_by_kind param (Kind.Pat (Pat.AssignPat _ _)) = option_and_then binding_name (child_in_field param left_child_of)
param_name_by_kind param _ = binding_name param

abbrev pub param_name : TreeNode → Option (List ℕ)
param_name node = option_and_then (λ (param : TreeNode). option_and_then (param_name_by_kind param) (kind_of param)) (child_in_field node param_child_of)

abbrev pub default_decl_name_by_kind : TreeNode → Kind → Option (List ℕ)
default_decl_name_by_kind decl (Kind.Decl (Decl.TsInterfaceDecl _ _ _ _)) = child_text id_child_of decl
default_decl_name_by_kind decl _ = child_text ident_child_of decl

-- The name of the declaration after `export default`. A class or a function there may have none.
abbrev pub default_decl_name : TreeNode → Option (List ℕ)
default_decl_name node = option_and_then (λ (decl : TreeNode). option_and_then (default_decl_name_by_kind decl) (kind_of decl))
    (child_in_field node decl_child_of)

abbrev pub export_decl_name : ExportDeclView → Option (List ℕ)
export_decl_name (exported_class node) = child_text ident_child_of node
export_decl_name (exported_fn node) = child_text ident_child_of node
export_decl_name (exported_var _ _ ident) = binding_name ident
export_decl_name (exported_ts_enum node) = child_text id_child_of node
export_decl_name (exported_ts_interface node) = child_text id_child_of node
export_decl_name (exported_ts_module node) = child_text id_child_of node
export_decl_name (exported_ts_type_alias node) = child_text id_child_of node

-- The name of a node, apart from class members whose name is their key.
abbrev pub name_of_node_not_class_member : SymbolNodeView → Option (List ℕ)
name_of_node_not_class_member (export_decl _ exported) = export_decl_name exported
name_of_node_not_class_member (export_default_decl node) = default_decl_name node
name_of_node_not_class_member (class_decl node) = child_text ident_child_of node
name_of_node_not_class_member (fn_decl node) = child_text ident_child_of node
name_of_node_not_class_member (ts_enum node) = child_text id_child_of node
name_of_node_not_class_member (ts_interface node) = child_text id_child_of node
name_of_node_not_class_member (ts_namespace node) = child_text id_child_of node
name_of_node_not_class_member (ts_type_alias node) = child_text id_child_of node
name_of_node_not_class_member (var _ _ ident) = binding_name ident
name_of_node_not_class_member (using_var _ _ ident) = binding_name ident
name_of_node_not_class_member (class_param_prop node) = param_name node
name_of_node_not_class_member (constructor _) = Some (codes "%%dg_ctor%%")
name_of_node_not_class_member (expando_property node) = option_map (λ (expando : Expando). expando.name) (expando_of_assignment node)
name_of_node_not_class_member (ts_index_signature _) = Some (codes "%%dg_index%%")
name_of_node_not_class_member (ts_call_signature_decl _) = Some (codes "%%dg_call%%")
name_of_node_not_class_member (ts_construct_signature_decl _) = Some (codes "%%dg_construct%%")
name_of_node_not_class_member (ts_property_signature node) = child_text key_child_of node
name_of_node_not_class_member (ts_getter_signature node) = child_text key_child_of node
name_of_node_not_class_member (ts_setter_signature node) = child_text key_child_of node
name_of_node_not_class_member (ts_method_signature node) = child_text key_child_of node
name_of_node_not_class_member _ = None

-- The name of a declaration node. A module and an expression have none.
abbrev pub node_name : SymbolNodeView → Option (List ℕ)
node_name (auto_accessor node) = key_name node
node_name (class_method node) = key_name node
node_name (class_prop node) = key_name node
node_name node = name_of_node_not_class_member node
