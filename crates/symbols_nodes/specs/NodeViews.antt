-- The views of declaration nodes that contracts use: nodes of a tree by their numbers. `symbols_table` calls such a view the form of a
-- declaration.
use Rattle.std.specs.Prelude.{List, [], ◌∷◌, Option, slice_get}
use Rattle.std.specs.Option.{option_map}
use Rattle.symbols_ast.specs.declared.tree.arena.Tree.{Tree}
use Rattle.symbols_ast.specs.NodeRefs.{TreeNode, node_view}
use Rattle.symbols_nodes.specs.declared.nodes.refs.ExportDeclRef.{ExportDeclRef}
use Rattle.symbols_nodes.specs.declared.nodes.refs.SymbolNodeRef.{SymbolNodeRef}

-- The declaration after `export`.
pub data ExportDeclView : Type 0 where
  exported_class : TreeNode → ExportDeclView
  exported_fn : TreeNode → ExportDeclView
  exported_var : TreeNode → TreeNode → TreeNode → ExportDeclView
  exported_ts_enum : TreeNode → ExportDeclView
  exported_ts_interface : TreeNode → ExportDeclView
  exported_ts_module : TreeNode → ExportDeclView
  exported_ts_type_alias : TreeNode → ExportDeclView

pub data SymbolNodeView : Type 0 where
  program : TreeNode → SymbolNodeView
  export_decl : TreeNode → ExportDeclView → SymbolNodeView
  export_default_decl : TreeNode → SymbolNodeView
  export_default_expr : TreeNode → SymbolNodeView
  class_decl : TreeNode → SymbolNodeView
  fn_decl : TreeNode → SymbolNodeView
  ts_enum : TreeNode → SymbolNodeView
  ts_interface : TreeNode → SymbolNodeView
  ts_namespace : TreeNode → SymbolNodeView
  ts_type_alias : TreeNode → SymbolNodeView
  var : TreeNode → TreeNode → TreeNode → SymbolNodeView
  using_var : TreeNode → TreeNode → TreeNode → SymbolNodeView
  auto_accessor : TreeNode → SymbolNodeView
  class_method : TreeNode → SymbolNodeView
  class_prop : TreeNode → SymbolNodeView
  class_param_prop : TreeNode → SymbolNodeView
  constructor : TreeNode → SymbolNodeView
  expando_property : TreeNode → SymbolNodeView
  ts_index_signature : TreeNode → SymbolNodeView
  ts_call_signature_decl : TreeNode → SymbolNodeView
  ts_construct_signature_decl : TreeNode → SymbolNodeView
  ts_property_signature : TreeNode → SymbolNodeView
  ts_getter_signature : TreeNode → SymbolNodeView
  ts_setter_signature : TreeNode → SymbolNodeView
  ts_method_signature : TreeNode → SymbolNodeView

abbrev pub export_decl_view : ExportDeclRef → ExportDeclView
export_decl_view (ExportDeclRef.Class node) = exported_class (node_view node)
export_decl_view (ExportDeclRef.Fn node) = exported_fn (node_view node)
export_decl_view (ExportDeclRef.Var decl declarator ident) = exported_var (node_view decl) (node_view declarator) (node_view ident)
export_decl_view (ExportDeclRef.TsEnum node) = exported_ts_enum (node_view node)
export_decl_view (ExportDeclRef.TsInterface node) = exported_ts_interface (node_view node)
export_decl_view (ExportDeclRef.TsModule node) = exported_ts_module (node_view node)
export_decl_view (ExportDeclRef.TsTypeAlias node) = exported_ts_type_alias (node_view node)

abbrev pub symbol_node_view : SymbolNodeRef → SymbolNodeView
symbol_node_view (SymbolNodeRef.Module node) = program (node_view node)
symbol_node_view (SymbolNodeRef.ExportDecl export exported) = export_decl (node_view export) (export_decl_view exported)
symbol_node_view (SymbolNodeRef.ExportDefaultDecl node) = export_default_decl (node_view node)
symbol_node_view (SymbolNodeRef.ExportDefaultExpr node) = export_default_expr (node_view node)
symbol_node_view (SymbolNodeRef.ClassDecl node) = class_decl (node_view node)
symbol_node_view (SymbolNodeRef.FnDecl node) = fn_decl (node_view node)
symbol_node_view (SymbolNodeRef.TsEnum node) = ts_enum (node_view node)
symbol_node_view (SymbolNodeRef.TsInterface node) = ts_interface (node_view node)
symbol_node_view (SymbolNodeRef.TsNamespace node) = ts_namespace (node_view node)
symbol_node_view (SymbolNodeRef.TsTypeAlias node) = ts_type_alias (node_view node)
symbol_node_view (SymbolNodeRef.Var decl declarator ident) = var (node_view decl) (node_view declarator) (node_view ident)
symbol_node_view (SymbolNodeRef.UsingVar decl declarator ident) = using_var (node_view decl) (node_view declarator) (node_view ident)
symbol_node_view (SymbolNodeRef.AutoAccessor node) = auto_accessor (node_view node)
symbol_node_view (SymbolNodeRef.ClassMethod node) = class_method (node_view node)
symbol_node_view (SymbolNodeRef.ClassProp node) = class_prop (node_view node)
symbol_node_view (SymbolNodeRef.ClassParamProp node) = class_param_prop (node_view node)
symbol_node_view (SymbolNodeRef.Constructor node) = constructor (node_view node)
symbol_node_view (SymbolNodeRef.ExpandoProperty expando) = expando_property (node_view expando.inner)
symbol_node_view (SymbolNodeRef.TsIndexSignature node) = ts_index_signature (node_view node)
symbol_node_view (SymbolNodeRef.TsCallSignatureDecl node) = ts_call_signature_decl (node_view node)
symbol_node_view (SymbolNodeRef.TsConstructSignatureDecl node) = ts_construct_signature_decl (node_view node)
symbol_node_view (SymbolNodeRef.TsPropertySignature node) = ts_property_signature (node_view node)
symbol_node_view (SymbolNodeRef.TsGetterSignature node) = ts_getter_signature (node_view node)
symbol_node_view (SymbolNodeRef.TsSetterSignature node) = ts_setter_signature (node_view node)
symbol_node_view (SymbolNodeRef.TsMethodSignature node) = ts_method_signature (node_view node)

-- The nodes that a declaration after `export` consists of.
abbrev pub export_decl_nodes : ExportDeclView → List TreeNode
export_decl_nodes (exported_class node) = node ∷ []
export_decl_nodes (exported_fn node) = node ∷ []
export_decl_nodes (exported_var decl declarator ident) = decl ∷ declarator ∷ ident ∷ []
export_decl_nodes (exported_ts_enum node) = node ∷ []
export_decl_nodes (exported_ts_interface node) = node ∷ []
export_decl_nodes (exported_ts_module node) = node ∷ []
export_decl_nodes (exported_ts_type_alias node) = node ∷ []

-- The nodes that a declaration consists of.
abbrev pub decl_nodes : SymbolNodeView → List TreeNode
decl_nodes (program node) = node ∷ []
decl_nodes (export_decl node decl) = node ∷ export_decl_nodes decl
decl_nodes (export_default_decl node) = node ∷ []
decl_nodes (export_default_expr node) = node ∷ []
decl_nodes (class_decl node) = node ∷ []
decl_nodes (fn_decl node) = node ∷ []
decl_nodes (ts_enum node) = node ∷ []
decl_nodes (ts_interface node) = node ∷ []
decl_nodes (ts_namespace node) = node ∷ []
decl_nodes (ts_type_alias node) = node ∷ []
decl_nodes (var decl declarator ident) = decl ∷ declarator ∷ ident ∷ []
decl_nodes (using_var decl declarator ident) = decl ∷ declarator ∷ ident ∷ []
decl_nodes (auto_accessor node) = node ∷ []
decl_nodes (class_method node) = node ∷ []
decl_nodes (class_prop node) = node ∷ []
decl_nodes (class_param_prop node) = node ∷ []
decl_nodes (constructor node) = node ∷ []
decl_nodes (expando_property node) = node ∷ []
decl_nodes (ts_index_signature node) = node ∷ []
decl_nodes (ts_call_signature_decl node) = node ∷ []
decl_nodes (ts_construct_signature_decl node) = node ∷ []
decl_nodes (ts_property_signature node) = node ∷ []
decl_nodes (ts_getter_signature node) = node ∷ []
decl_nodes (ts_setter_signature node) = node ∷ []
decl_nodes (ts_method_signature node) = node ∷ []

-- The tree of the first of these nodes, which every declaration has.
abbrev pub tree_of_node : SymbolNodeView → Option Tree
tree_of_node node = option_map (λ (first : TreeNode). first.tree) (slice_get (decl_nodes node) 0)
