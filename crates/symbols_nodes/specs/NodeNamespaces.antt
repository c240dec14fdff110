-- The namespaces that a declaration is in: values, types, or both.
use Rattle.std.specs.Prelude.{Bool, true, false, Option, Some}
use Rattle.std.specs.Option.{option_and_then}
use Rattle.symbols_ast.specs.NodeRefs.{kind_of, child_in_field}
use Rattle.symbols_ast.specs.Fields.{decl_child_of}
use Rattle.symbols_ast.specs.declared.tree.kinds.Kind.{Kind}
use Rattle.symbols_ast.specs.declared.tree.kinds.Decl.TheVariants as Decl
use Rattle.symbols_nodes.specs.NodeViews.{ExportDeclView, SymbolNodeView, exported_fn, exported_var, exported_ts_interface, exported_ts_type_alias, export_decl}
use Rattle.symbols_nodes.specs.NodeViews.{export_default_decl, export_default_expr, fn_decl, ts_interface, ts_type_alias, var, using_var, expando_property}

-- In the value namespace, and in the type namespace.
abbrev pub value_only : Bool × Bool
value_only = (true, false)

abbrev pub type_only : Bool × Bool
type_only = (false, true)

abbrev pub value_and_type : Bool × Bool
value_and_type = (true, true)

abbrev pub value_type_namespaces_of_export_decl : ExportDeclView → Bool × Bool
value_type_namespaces_of_export_decl (exported_var _ _ _) = value_only
value_type_namespaces_of_export_decl (exported_fn _) = value_only
value_type_namespaces_of_export_decl (exported_ts_interface _) = type_only
value_type_namespaces_of_export_decl (exported_ts_type_alias _) = type_only
value_type_namespaces_of_export_decl _ = value_and_type

abbrev pub value_type_namespaces_of_default_decl : Option Kind → Bool × Bool
value_type_namespaces_of_default_decl (Some (Kind.Decl (Decl.FnExpr _ _))) = value_only
value_type_namespaces_of_default_decl (Some (Kind.Decl (Decl.TsInterfaceDecl _ _ _ _))) = type_only
value_type_namespaces_of_default_decl _ = value_and_type

-- Variables, functions, default expressions and expando properties are values only. Interfaces and type aliases are types only. All others
-- are both.
abbrev pub value_type_namespaces_of_node : SymbolNodeView → Bool × Bool
value_type_namespaces_of_node (var _ _ _) = value_only
value_type_namespaces_of_node (using_var _ _ _) = value_only
value_type_namespaces_of_node (fn_decl _) = value_only
value_type_namespaces_of_node (export_default_expr _) = value_only
value_type_namespaces_of_node (expando_property _) = value_only
value_type_namespaces_of_node (ts_interface _) = type_only
value_type_namespaces_of_node (ts_type_alias _) = type_only
value_type_namespaces_of_node (export_decl _ exported) = value_type_namespaces_of_export_decl exported
value_type_namespaces_of_node (export_default_decl node) = value_type_namespaces_of_default_decl (option_and_then kind_of (child_in_field node decl_child_of))
value_type_namespaces_of_node _ = value_and_type
