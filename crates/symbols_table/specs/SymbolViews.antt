-- The view of a symbol that contracts use: everything but its module.
use Rattle.std.specs.Prelude.{ℕ, Bool, false, List, map, Option, slice_get}
use Rattle.std.specs.Option.{option_map, option_map_or, option_and_then}
use Rattle.symbols_ast.specs.declared.ids.SymbolId.{SymbolId}
use Rattle.symbols_nodes.specs.NodeViews.{SymbolNodeView}
use Rattle.symbols_table.specs.declared.decl.symbol.Symbol.{Symbol}
use Rattle.symbols_table.specs.DeclViews.{Declaration, decl_view, decl_name, decl_kind_node}
use Rattle.symbols_table.specs.Changes.{Change, parents_after_changes, decls_after_changes, exports_after_changes, children_after_changes}
use Rattle.symbols_table.specs.Changes.{members_after_changes}

pub record SymbolView : Type 0 where
  pub number : SymbolId
  pub parent : Option SymbolId
  pub decls : List Declaration
  pub exports : List (List ℕ × SymbolId)
  pub children : List SymbolId
  pub members : List SymbolId

abbrev pub symbol_view : Symbol → SymbolView
symbol_view symbol = record {
  number = symbol.symbol_id;
  parent = symbol.parent_id;
  decls = map decl_view symbol.decls.items;
  exports = symbol.tables.exports;
  children = symbol.tables.children;
  members = symbol.tables.members;
}

abbrev pub first_decl : SymbolView → Option Declaration
first_decl symbol = slice_get symbol.decls 0

-- The name of a symbol is that of its first declaration; `None` without a declaration.
abbrev pub symbol_name : SymbolView → Option (List ℕ)
symbol_name symbol = option_and_then decl_name (first_decl symbol)

-- The node of the symbol's first declaration, if that has one.
abbrev pub node_of_first_decl : SymbolView → Option SymbolNodeView
node_of_first_decl symbol = option_and_then (λ (decl : Declaration). decl_kind_node decl.kind) (first_decl symbol)

-- A test of a symbol is that test of its first declaration's node; it is false without a node.
abbrev pub first_decl_node_satisfies : (SymbolNodeView → Bool) → SymbolView → Bool
first_decl_node_satisfies test symbol = option_map_or test (node_of_first_decl symbol) false

-- The symbol that the changes give for a number and a parent.
abbrev pub symbol_from_changes : List Change → SymbolId → Option SymbolId → SymbolView
symbol_from_changes changes s parent = record {
  number = s;
  parent = parent;
  decls = decls_after_changes changes s;
  exports = exports_after_changes changes s;
  children = children_after_changes changes s;
  members = members_after_changes changes s;
}

-- The symbol of a number after the changes, if they make it.
abbrev pub symbol_after_changes : List Change → SymbolId → Option SymbolView
symbol_after_changes changes s = option_map (symbol_from_changes changes s) (slice_get (parents_after_changes changes) s.0)

-- The symbol of a number in a list of symbols.
abbrev pub symbol_view_of_number : List Symbol → SymbolId → Option SymbolView
symbol_view_of_number symbols s = option_map symbol_view (slice_get symbols s.0)
