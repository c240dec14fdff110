-- The invariants of every analyzed module, which its type guarantees.
use Rattle.std.specs.Prelude.{◌≡◌, ℕ, ◌<◌, ◌≤◌, List, [], length, Option, Some, None, MatchOption, All, slice_get, string_bytes}
use Rattle.std.specs.List.{sum_by, IsDistinct}
use Rattle.std.specs.Map.{lookup}
use Rattle.std.specs.Str.{bytes_eq}
use Rattle.std.specs.Option.{option_and_then, option_map_or}
use Rattle.symbols_ast.specs.declared.ids.ModuleId.{ModuleId}
use Rattle.symbols_ast.specs.declared.ids.SymbolId.{SymbolId}
use Rattle.symbols_ast.specs.declared.tree.arena.Tree.{Tree}
use Rattle.symbols_ast.specs.declared.tree.kinds.Kind.{Kind}
use Rattle.symbols_ast.specs.declared.tree.kinds.Item.TheVariants as Item
use Rattle.symbols_ast.specs.Ids.{IdView, is_same_id}
use Rattle.symbols_ast.specs.NodeRefs.{TreeNode}
use Rattle.symbols_ast.specs.Nodes.{kind_at}
use Rattle.symbols_nodes.specs.NodeViews.{decl_nodes}
use Rattle.symbols_table.specs.declared.decl.symbol.Symbol.{Symbol}
use Rattle.symbols_table.specs.Changes.{ExportStarStatement, exported_names_of_entries}
use Rattle.symbols_table.specs.DeclViews.{Declaration, decl_kind_node}
use Rattle.symbols_table.specs.Symbols.{symbol_module_id, symbol_local_id, symbol_parent, symbol_decls, symbol_export_entries, symbol_children, symbol_members}

-- A valid parent of symbol n: symbol 0 has none, any other symbol has one of a lower number.
abbrev pub IsLawfulParent : ℕ → Option SymbolId → Type 0
IsLawfulParent n parent = MatchOption parent (n ≡ 0) (λ s. s.0 < n)

-- The invariants of a symbol in a module of `count` symbols. It has its module's number and its own. Its parent has a lower number, and
-- only symbol 0 has none. It has a declaration. Its exports, children and members are symbols of the module. It exports no name twice.
pub record IsLawfulSymbol (module_id : ModuleId) (count : ℕ) (s : SymbolId) (symbol : Symbol) : Type 0 where
  pub of_module : symbol_module_id symbol ≡ module_id
  pub number : symbol_local_id symbol ≡ s
  pub parent : IsLawfulParent s.0 (symbol_parent symbol)
  pub declared : 0 < length (symbol_decls symbol)
  pub exports : All (λ entry. entry.1.0 < count) (symbol_export_entries symbol)
  pub children : All (λ child. child.0 < count) (symbol_children symbol)
  pub members : All (λ member. member.0 < count) (symbol_members symbol)
  pub has_no_duplicates : IsDistinct bytes_eq (exported_names_of_entries (symbol_export_entries symbol))

abbrev pub AreLawfulSymbols : ModuleId → List Symbol → Type 0
AreLawfulSymbols module_id symbols = (s : SymbolId) (symbol : Symbol) → slice_get symbols s.0 ≡ Some symbol → IsLawfulSymbol module_id (length symbols) s symbol

-- The total number of declarations of the symbols.
abbrev pub count_of_declarations : List Symbol → ℕ
count_of_declarations symbols = sum_by (λ (symbol : Symbol). length (symbol_decls symbol)) symbols

-- The tree has at least as many nodes as there are symbols, and as there are declarations.
pub record AreBoundedByNodes (tree : Tree) (symbols : List Symbol) : Type 0 where
  pub has_at_most_as_many_symbols : length symbols ≤ length tree.nodes.items
  pub has_at_most_as_many_declarations : count_of_declarations symbols ≤ length tree.nodes.items

-- Each bound identifier is bound to one of the module's symbols.
abbrev pub AreIdentsBoundToSymbols : ℕ → List (IdView × SymbolId) → Type 0
AreIdentsBoundToSymbols count names = (id : IdView) (s : SymbolId) → lookup (is_same_id id) names ≡ Some s → s.0 < count

-- The node is one of the tree's.
abbrev pub IsTreeNode : Tree → TreeNode → Type 0
IsTreeNode tree node = (node.tree ≡ tree) × (node.number < length tree.nodes.items)

-- Each node of the declaration is one of the tree's.
abbrev pub IsDeclaredInTree : Tree → Declaration → Type 0
IsDeclaredInTree tree decl = All (IsTreeNode tree) (option_map_or decl_nodes (decl_kind_node decl.kind) [])

abbrev pub AreDeclaredInTree : Tree → List Symbol → Type 0
AreDeclaredInTree tree symbols = (s : SymbolId) (symbol : Symbol) → slice_get symbols s.0 ≡ Some symbol → All (IsDeclaredInTree tree) (symbol_decls symbol)

-- The specifier of an `export *`.
abbrev pub export_star_specifier : Kind → Option (List ℕ)
export_star_specifier (Kind.Item (Item.ExportAll src)) = Some (string_bytes src)
export_star_specifier _ = None

-- The statement is an `export *` node of the tree, with its specifier.
abbrev pub IsExportStarInTree : Tree → ExportStarStatement → Type 0
IsExportStarInTree tree star = option_and_then export_star_specifier (kind_at tree.nodes.items star.number) ≡ Some star.specifier_text
