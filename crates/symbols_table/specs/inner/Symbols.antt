-- A definition about symbols that only inner functions and proofs use.
use Rattle.std.specs.Prelude.{◌≡◌, List, Some, slice_get}
use Rattle.symbols_ast.specs.declared.ids.ModuleId.{ModuleId}
use Rattle.symbols_ast.specs.declared.ids.SymbolId.{SymbolId}
use Rattle.symbols_table.specs.declared.decl.symbol.Symbol.{Symbol}
use Rattle.symbols_table.specs.Changes.{Change, parents_after_changes, decls_after_changes, exports_after_changes, children_after_changes}
use Rattle.symbols_table.specs.Changes.{members_after_changes}
use Rattle.symbols_table.specs.Symbols.{symbol_local_id, symbol_module_id, symbol_parent, symbol_decls, symbol_export_entries, symbol_children, symbol_members}

-- The symbol has number s in the module, and the contents that the changes give it.
pub record IsSymbolOfChanges (module_id : ModuleId) (changes : List Change) (s : SymbolId) (symbol : Symbol) : Type 0 where
  pub number : symbol_local_id symbol ≡ s
  pub of_module : symbol_module_id symbol ≡ module_id
  pub parent : slice_get (parents_after_changes changes) s.0 ≡ Some (symbol_parent symbol)
  pub decls : symbol_decls symbol ≡ decls_after_changes changes s
  pub exports : symbol_export_entries symbol ≡ exports_after_changes changes s
  pub children : symbol_children symbol ≡ children_after_changes changes s
  pub members : symbol_members symbol ≡ members_after_changes changes s
