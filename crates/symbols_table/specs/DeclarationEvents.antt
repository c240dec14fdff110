-- The events of declarations: variables, functions, classes, interfaces, enums and type aliases.
use Rattle.std.specs.Prelude.{ℕ, Bool, true, false, ◌&&◌, ◌||◌, not, if◌then◌else◌, is_some, List, [], ◌∷◌, ◌++◌, Option, None, Some, unwrap_or}
use Rattle.std.specs.Option.{option_or, option_and_then}
use Rattle.symbols_ast.specs.declared.tree.arena.Id.{Id}
use Rattle.symbols_ast.specs.declared.tree.arena.SourceRange.{SourceRange}
use Rattle.symbols_ast.specs.declared.tree.kinds.Kind.{Kind}
use Rattle.symbols_ast.specs.declared.tree.kinds.Decl.TheVariants as Decl
use Rattle.symbols_ast.specs.NodeRefs.{TreeNode, kind_of, node_in, child_in_field, child_list_in_field}
use Rattle.symbols_ast.specs.Fields.{decl_children_of, id_child_of, ident_child_of, name_child_of}
use Rattle.symbols_ast.specs.Ids.{IdView, id_view, ident_id}
use Rattle.symbols_nodes.specs.NodeViews.{SymbolNodeView, ExportDeclView, export_decl, class_decl, fn_decl, ts_enum, ts_interface}
use Rattle.symbols_nodes.specs.NodeViews.{ts_namespace, ts_type_alias, var, using_var, exported_class, exported_fn, exported_ts_enum}
use Rattle.symbols_nodes.specs.NodeViews.{exported_ts_interface, exported_ts_module, exported_ts_type_alias, exported_var}
use Rattle.symbols_table.specs.declared.builder.scope.Scope.{Scope}
use Rattle.symbols_table.specs.DeclViews.{Declaration, definition_of_node}
use Rattle.symbols_table.specs.Events.{DeclarationEvent, declare, child, export}
use Rattle.symbols_table.specs.EventsByHolderAndStart.{EventsByHolderAndStart, no_events_by_holder_and_start, events_if_some, events_followed_by}
use Rattle.symbols_table.specs.EventsByHolderAndStart.{events_of_each, range_or_empty}
use Rattle.symbols_table.specs.EventsByHolderAndStart.{id_of_ident_child}
use Rattle.symbols_table.specs.Patterns.{pattern_bindings}
use Rattle.symbols_table.specs.MemberEvents.{member_events_at, class_or_interface_member_numbers}

-- The form of a declaration without `export`.
abbrev pub unexported_node_view : ExportDeclView → SymbolNodeView
unexported_node_view (exported_class node) = class_decl node
unexported_node_view (exported_fn node) = fn_decl node
unexported_node_view (exported_var decl declarator ident) = var decl declarator ident
unexported_node_view (exported_ts_enum node) = ts_enum node
unexported_node_view (exported_ts_interface node) = ts_interface node
unexported_node_view (exported_ts_module node) = ts_namespace node
unexported_node_view (exported_ts_type_alias node) = ts_type_alias node

-- The form of a declaration, with the `export` before it, if any.
abbrev pub maybe_exported_node : Option TreeNode → ExportDeclView → SymbolNodeView
maybe_exported_node None decl = unexported_node_view decl
maybe_exported_node (Some node) decl = export_decl node decl

-- The range of the `export`, or of the declaration if it has no `export`.
abbrev pub export_or_decl_range : Option TreeNode → TreeNode → SourceRange
export_or_decl_range exported node = range_or_empty (unwrap_or exported node)

-- A declaration is exported if it has `export`, or if it is ambient in a namespace.
abbrev pub is_exported : Scope → Option TreeNode → Bool
is_exported scope exported = is_some exported || (scope.ambient && not scope.is_module)

abbrev pub export_event_if : Bool → ℕ → List ℕ → ℕ → List DeclarationEvent
export_event_if test holder name of = if test then export holder name of ∷ [] else []

-- The symbol becomes a child of its holder, and an export of it if it is exported.
abbrev pub child_and_export_events : Bool → ℕ → List ℕ → ℕ → List DeclarationEvent
child_and_export_events test holder name of = child holder of ∷ export_event_if test holder name of

-- An identifier is declared. The events of its inner declarations follow, and then it is added to its holder.
abbrev pub declare_and_add_events : Bool → IdView → Declaration → EventsByHolderAndStart → EventsByHolderAndStart
declare_and_add_events test id decl inner holder start = events_followed_by (declare holder id decl ∷ []) (inner start) start
    ++ child_and_export_events test holder id.name start

-- ---- variables

abbrev pub variable_node : Option TreeNode → Bool → TreeNode → TreeNode → TreeNode → SymbolNodeView
variable_node exported is_using decl declarator ident =
    if is_using then using_var decl declarator ident else maybe_exported_node exported (exported_var decl declarator ident)

-- A variable statement with its scope and the `export` before it, if any.
pub record VariableStatement : Type 0 where
  pub scope : Scope
  pub exported : Option TreeNode
  pub is_using : Bool
  pub decl : TreeNode

-- The events of an identifier that a declarator's pattern binds. It is declared at the range of the declarator.
abbrev pub binding_events : VariableStatement → TreeNode → TreeNode → EventsByHolderAndStart
binding_events vars declarator ident =
    events_if_some (option_and_then ident_id (kind_of ident))
    (λ (id : Id). declare_and_add_events (is_exported vars.scope vars.exported) (id_view id)
    (definition_of_node (variable_node vars.exported vars.is_using vars.decl declarator ident) (range_or_empty declarator)) no_events_by_holder_and_start)

abbrev pub binding_events_at : VariableStatement → TreeNode → ℕ → EventsByHolderAndStart
binding_events_at vars declarator n = events_if_some (node_in vars.decl.tree (Some n)) (binding_events vars declarator)

-- The events of a declarator: each identifier that its pattern binds, in order.
abbrev pub declarator_events : VariableStatement → TreeNode → EventsByHolderAndStart
declarator_events vars declarator = events_if_some (child_in_field declarator name_child_of)
    (λ (pattern : TreeNode). events_of_each (binding_events_at vars declarator) (pattern_bindings vars.decl.tree pattern.number))

abbrev pub declarator_events_at : VariableStatement → ℕ → EventsByHolderAndStart
declarator_events_at vars n = events_if_some (node_in vars.decl.tree (Some n)) (declarator_events vars)

abbrev pub variable_statement_events : VariableStatement → EventsByHolderAndStart
variable_statement_events vars = events_of_each (declarator_events_at vars) (child_list_in_field vars.decl decl_children_of)

-- ---- declarations with an identifier

abbrev pub export_decl_view_of_kind : TreeNode → Kind → Option ExportDeclView
export_decl_view_of_kind node (Kind.Decl (Decl.ClassDecl _ _)) = Some (exported_class node)
export_decl_view_of_kind node (Kind.Decl (Decl.FnDecl _ _)) = Some (exported_fn node)
export_decl_view_of_kind node (Kind.Decl (Decl.TsInterfaceDecl _ _ _ _)) = Some (exported_ts_interface node)
export_decl_view_of_kind node (Kind.Decl (Decl.TsTypeAliasDecl _ _ _)) = Some (exported_ts_type_alias node)
export_decl_view_of_kind node (Kind.Decl (Decl.TsEnumDecl _ _)) = Some (exported_ts_enum node)
export_decl_view_of_kind node _ = None

-- The identifier of a declaration, which is in one of two fields.
abbrev pub declared_name : TreeNode → Option Id
declared_name node = option_or (id_of_ident_child ident_child_of node) (id_of_ident_child id_child_of node)

-- The identifier is declared at the range of the whole statement, with its members.
abbrev pub named_decl_events : Scope → Option TreeNode → TreeNode → ExportDeclView → EventsByHolderAndStart
named_decl_events scope exported node form =
    events_if_some (declared_name node)
    (λ (id : Id). declare_and_add_events (is_exported scope exported) (id_view id)
    (definition_of_node (maybe_exported_node exported form) (export_or_decl_range exported node))
    (events_of_each (member_events_at node.tree) (class_or_interface_member_numbers node)))

-- The events of a declaration, with the `export` before it, if any.
abbrev pub declaration_events : Scope → Option TreeNode → TreeNode → Kind → EventsByHolderAndStart
declaration_events scope exported node (Kind.Decl (Decl.VarDecl _)) =
    variable_statement_events (record { scope = scope; exported = exported; is_using = false; decl = node })
declaration_events scope exported node (Kind.Decl (Decl.UsingDecl _)) =
    variable_statement_events (record { scope = scope; exported = exported; is_using = true; decl = node })
declaration_events scope exported node kind = events_if_some (export_decl_view_of_kind node kind) (named_decl_events scope exported node)
