-- Tests of declaration nodes by their kinds.
use Rattle.std.specs.Prelude.{Bool, true, false, is_some, Option, Some}
use Rattle.std.specs.Option.{option_and_then, option_map_or}
use Rattle.symbols_ast.specs.NodeRefs.{TreeNode, kind_of, child_in_field}
use Rattle.symbols_ast.specs.Fields.{function_child_of, body_child_of, decl_child_of}
use Rattle.symbols_ast.specs.declared.tree.kinds.Kind.{Kind}
use Rattle.symbols_ast.specs.declared.tree.kinds.Decl.TheVariants as Decl
use Rattle.symbols_ast.specs.declared.tree.kinds.Member.TheVariants as Member
use Rattle.symbols_ast.specs.declared.tree.member_kinds.MethodKind.TheVariants as MethodKind
use Rattle.symbols_nodes.specs.NodeViews.{ExportDeclView, SymbolNodeView, exported_class, exported_fn, exported_var, exported_ts_enum, exported_ts_interface}
use Rattle.symbols_nodes.specs.NodeViews.{exported_ts_module, exported_ts_type_alias, program, export_decl, export_default_decl, export_default_expr}
use Rattle.symbols_nodes.specs.NodeViews.{class_decl, fn_decl, ts_enum, ts_interface, ts_namespace, var, class_method, constructor}

-- A test of the kind of the declaration after `export default`; false without a declaration.
abbrev pub default_decl_satisfies : (Kind → Bool) → TreeNode → Bool
default_decl_satisfies test node = option_map_or test (option_and_then kind_of (child_in_field node decl_child_of)) false

abbrev pub is_class_expr_kind : Kind → Bool
is_class_expr_kind (Kind.Decl (Decl.ClassExpr _ _)) = true
is_class_expr_kind _ = false

abbrev pub is_fn_expr_kind : Kind → Bool
is_fn_expr_kind (Kind.Decl (Decl.FnExpr _ _)) = true
is_fn_expr_kind _ = false

abbrev pub is_interface_decl_kind : Kind → Bool
is_interface_decl_kind (Kind.Decl (Decl.TsInterfaceDecl _ _ _ _)) = true
is_interface_decl_kind _ = false

abbrev pub is_exported_class : ExportDeclView → Bool
is_exported_class (exported_class _) = true
is_exported_class _ = false

-- A class: without `export`, exported, or default.
abbrev pub is_class_exported_or_not : SymbolNodeView → Bool
is_class_exported_or_not (class_decl _) = true
is_class_exported_or_not (export_decl _ exported) = is_exported_class exported
is_class_exported_or_not (export_default_decl node) = default_decl_satisfies is_class_expr_kind node
is_class_exported_or_not _ = false

abbrev pub is_exported_function : ExportDeclView → Bool
is_exported_function (exported_fn _) = true
is_exported_function _ = false

-- A function: without `export`, exported, or default.
abbrev pub is_function_exported_or_not : SymbolNodeView → Bool
is_function_exported_or_not (fn_decl _) = true
is_function_exported_or_not (export_decl _ exported) = is_exported_function exported
is_function_exported_or_not (export_default_decl node) = default_decl_satisfies is_fn_expr_kind node
is_function_exported_or_not _ = false

abbrev pub is_exported_interface : ExportDeclView → Bool
is_exported_interface (exported_ts_interface _) = true
is_exported_interface _ = false

-- An interface: without `export`, exported, or default.
abbrev pub is_interface_exported_or_not : SymbolNodeView → Bool
is_interface_exported_or_not (ts_interface _) = true
is_interface_exported_or_not (export_decl _ exported) = is_exported_interface exported
is_interface_exported_or_not (export_default_decl node) = default_decl_satisfies is_interface_decl_kind node
is_interface_exported_or_not _ = false

abbrev pub is_exported_ts_namespace : ExportDeclView → Bool
is_exported_ts_namespace (exported_ts_module _) = true
is_exported_ts_namespace _ = false

-- A namespace, exported or not.
abbrev pub is_ts_namespace_exported_or_not : SymbolNodeView → Bool
is_ts_namespace_exported_or_not (ts_namespace _) = true
is_ts_namespace_exported_or_not (export_decl _ exported) = is_exported_ts_namespace exported
is_ts_namespace_exported_or_not _ = false

abbrev pub is_exported_var : ExportDeclView → Bool
is_exported_var (exported_var _ _ _) = true
is_exported_var _ = false

-- A variable of `var`, `let` or `const`, exported or not.
abbrev pub is_var_exported_or_not : SymbolNodeView → Bool
is_var_exported_or_not (var _ _ _) = true
is_var_exported_or_not (export_decl _ exported) = is_exported_var exported
is_var_exported_or_not _ = false

abbrev pub is_ctor : SymbolNodeView → Bool
is_ctor (constructor _) = true
is_ctor _ = false

abbrev pub is_module : SymbolNodeView → Bool
is_module (program _) = true
is_module _ = false

-- A declaration or an expression after `export` or `export default`.
abbrev pub has_export_keyword : SymbolNodeView → Bool
has_export_keyword (export_decl _ _) = true
has_export_keyword (export_default_decl _) = true
has_export_keyword (export_default_expr _) = true
has_export_keyword _ = false

-- The node itself has a body, as a namespace or a constructor may have.
abbrev pub has_direct_body : TreeNode → Bool
has_direct_body node = is_some (child_in_field node body_child_of)

-- The function of the node has a body.
abbrev pub has_function_body : TreeNode → Bool
has_function_body node = option_map_or has_direct_body (child_in_field node function_child_of) false

abbrev pub exported_decl_has_body : ExportDeclView → Bool
exported_decl_has_body (exported_class _) = true
exported_decl_has_body (exported_fn node) = has_function_body node
exported_decl_has_body (exported_var _ _ _) = false
exported_decl_has_body (exported_ts_enum _) = true
exported_decl_has_body (exported_ts_interface _) = true
exported_decl_has_body (exported_ts_module node) = has_direct_body node
exported_decl_has_body (exported_ts_type_alias _) = false

abbrev pub default_decl_has_body : TreeNode → Option Kind → Bool
default_decl_has_body node (Some (Kind.Decl (Decl.FnExpr _ _))) = has_function_body node
default_decl_has_body node (Some (Kind.Decl (Decl.ClassExpr _ _))) = true
default_decl_has_body node (Some (Kind.Decl (Decl.TsInterfaceDecl _ _ _ _))) = true
default_decl_has_body node _ = false

-- Modules, classes, enums and interfaces always have a body. Functions, namespaces, methods and constructors have one if it is written.
abbrev pub has_body : SymbolNodeView → Bool
has_body (program _) = true
has_body (export_decl _ exported) = exported_decl_has_body exported
has_body (export_default_decl node) = option_map_or (λ decl. default_decl_has_body decl (kind_of decl)) (child_in_field node decl_child_of) false
has_body (class_decl _) = true
has_body (ts_enum _) = true
has_body (ts_interface _) = true
has_body (fn_decl node) = has_function_body node
has_body (class_method node) = has_function_body node
has_body (ts_namespace node) = has_direct_body node
has_body (constructor node) = has_direct_body node
has_body _ = false

abbrev pub is_non_accessor_method : Kind → Bool
is_non_accessor_method (Kind.Member (Member.ClassMethod _ _ MethodKind.Method _ _)) = true
is_non_accessor_method _ = false

-- A constructor, or a method other than a getter or setter.
abbrev pub is_method : SymbolNodeView → Bool
is_method (class_method node) = option_map_or is_non_accessor_method (kind_of node) false
is_method (constructor _) = true
is_method _ = false
