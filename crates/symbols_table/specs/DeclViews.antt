-- The views of declarations and symbols that contracts use.
use Rattle.std.specs.Prelude.{ℕ, Bool, true, false, ◌&&◌, if◌then◌else◌, List, [], ◌∷◌, ◌++◌}
use Rattle.std.specs.Prelude.{length, map, slice_get, ◌-◌, Option, Some, None, String, string_bytes}
use Rattle.std.specs.Option.{option_map, option_map_or, option_and_then}
use Rattle.std.specs.List.{filter_map}
use Rattle.std.specs.Global.{Global}
use Rattle.std.specs.Borrow.{Bor}
use Rattle.symbols_ast.specs.declared.tree.arena.SourceRange.{SourceRange}
use Rattle.symbols_ast.specs.declared.tree.arena.Tree.{Tree}
use Rattle.symbols_ast.specs.declared.ids.SymbolId.{SymbolId}
use Rattle.symbols_ast.specs.Ids.{IdView, id_view}
use Rattle.symbols_nodes.specs.NodeViews.{SymbolNodeView, symbol_node_view, tree_of_node}
use Rattle.symbols_nodes.specs.NodeNames.{node_name}
use Rattle.symbols_nodes.specs.NodeTests.{is_function_exported_or_not, has_body, is_method}
use Rattle.symbols_nodes.specs.NodeNamespaces.{value_type_namespaces_of_node, value_and_type}
use Rattle.symbols_table.specs.declared.decl.dep.FileDep.{FileDep}
use Rattle.symbols_table.specs.declared.decl.dep.FileDepName.{FileDepName}
use Rattle.symbols_table.specs.declared.decl.symbol_decl.SymbolDeclKind.{SymbolDeclKind}
use Rattle.symbols_table.specs.declared.decl.symbol_decl.SymbolDecl.{SymbolDecl}

-- The part of a module that is imported: all names, or one name.
pub data FileDepNameView : Type 0 where
  all_names : FileDepNameView
  one_name : List ℕ → FileDepNameView

-- A name of another module, or all of them, with the specifier of that module.
pub record FileDepView : Type 0 where
  pub name : FileDepNameView
  pub specifier : List ℕ

-- The kind of a declaration: an alias of a name of the same module, a dotted name, a name of another module with its specifier, or a
-- definition.
pub data DeclKindView : Type 0 where
  target : IdView → DeclKindView
  qualified_target : IdView → List (List ℕ) → DeclKindView
  file_ref : FileDepNameView → List ℕ → DeclKindView
  definition : Option SymbolNodeView → DeclKindView

pub record Declaration : Type 0 where
  pub kind : DeclKindView
  pub range : SourceRange
  pub has_overloads : Bool

abbrev pub file_dep_name_view : FileDepName → FileDepNameView
file_dep_name_view FileDepName.Star = all_names
file_dep_name_view (FileDepName.Name name) = one_name name.now

abbrev pub file_dep_view : FileDep → FileDepView
file_dep_view dep = record { name = file_dep_name_view dep.name; specifier = dep.specifier.now }

-- The imported name; `None` if all names are imported.
abbrev pub imported_name : FileDepNameView → Option (List ℕ)
imported_name all_names = None
imported_name (one_name name) = Some name

abbrev pub decl_kind_view : SymbolDeclKind → DeclKindView
decl_kind_view (SymbolDeclKind.Target id) = target (id_view id.now)
decl_kind_view (SymbolDeclKind.QualifiedTarget id parts) = qualified_target (id_view id.now) (map (λ (part : Bor (List ℕ)). part.now) parts.items)
decl_kind_view (SymbolDeclKind.FileRef dep) = file_ref (file_dep_name_view dep.name) dep.specifier.now
decl_kind_view (SymbolDeclKind.Definition node) = definition (option_map symbol_node_view node.node)

abbrev pub decl_view : SymbolDecl → Declaration
decl_view decl = record { kind = decl_kind_view decl.kind; range = decl.range; has_overloads = decl.flags.has_overloads }

-- The node of a definition, if it has one.
abbrev pub decl_kind_node : DeclKindView → Option SymbolNodeView
decl_kind_node (definition node) = node
decl_kind_node _ = None

-- The syntax tree of that node.
abbrev pub decl_kind_tree : DeclKindView → Option Tree
decl_kind_tree kind = option_and_then tree_of_node (decl_kind_node kind)

-- The name of another module that a declaration refers to, if it does.
abbrev pub decl_kind_dep : DeclKindView → Option FileDepView
decl_kind_dep (file_ref name specifier) = Some (record { name = name; specifier = specifier })
decl_kind_dep _ = None

-- The first name of another module that these declarations refer to.
abbrev pub first_file_dep : List Declaration → Option FileDepView
first_file_dep decls = slice_get (filter_map (λ (decl : Declaration). decl_kind_dep decl.kind) decls) 0

-- A test of a declaration is that test of its node; it is false without a node.
abbrev pub decl_node_satisfies : (SymbolNodeView → Bool) → Declaration → Bool
decl_node_satisfies test decl = option_map_or test (decl_kind_node decl.kind) false

-- The name of a declaration is that of its node; `None` without a node.
abbrev pub decl_name : Declaration → Option (List ℕ)
decl_name decl = option_and_then node_name (decl_kind_node decl.kind)

-- A declaration is in the namespaces of its node; without a node it is in both.
abbrev pub value_type_namespaces_of_decl : Declaration → Bool × Bool
value_type_namespaces_of_decl decl = option_map_or value_type_namespaces_of_node (decl_kind_node decl.kind) value_and_type

abbrev pub is_definition : DeclKindView → Bool
is_definition (definition _) = true
is_definition _ = false

-- A declaration of this kind and range, with no overload flag.
abbrev pub declaration_of_kind : DeclKindView → SourceRange → Declaration
declaration_of_kind kind range = record { kind = kind; range = range; has_overloads = false }

-- A definition by its node, with no overload flag.
abbrev pub definition_of_node : SymbolNodeView → SourceRange → Declaration
definition_of_node node range = declaration_of_kind (definition (Some node)) range

-- The last declaration of a list.
abbrev pub last_decl : List Declaration → Option Declaration
last_decl decls = slice_get decls (length decls - 1)

-- A declaration gets the overload flag if its symbol has an earlier declaration, it has a body, and it is one of these: a function right
-- after a function; a method that is no getter or setter; a constructor.
abbrev pub gets_overload_flag_after_decl : Option Declaration → Declaration → Bool
gets_overload_flag_after_decl None decl = false
gets_overload_flag_after_decl (Some before) decl = decl_node_satisfies has_body decl
    && (if decl_node_satisfies is_function_exported_or_not decl then decl_node_satisfies is_function_exported_or_not before
    else decl_node_satisfies is_method decl)

abbrev pub append_decl_with_overload_flag : List Declaration → Declaration → List Declaration
append_decl_with_overload_flag decls decl = decls ++ (record decl { has_overloads = gets_overload_flag_after_decl (last_decl decls) decl }) ∷ []

-- The exports of a symbol, with names as bytes.
abbrev pub exports_view : List (String Global × SymbolId) → List (List ℕ × SymbolId)
exports_view entries = map (λ entry. (string_bytes entry.0, entry.1)) entries
