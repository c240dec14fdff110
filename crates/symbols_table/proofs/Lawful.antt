-- The invariants of a module hold of each builder that has applied the events of a tree.
use Rattle.std.proofs.Common.{◌≡◌, ℕ, ◌<◌, List, length, map, get_or, All, Option, Some, sym, ◌∙◌, subst}
use Rattle.std.specs.Prelude.{slice_get, IfSome}
use Rattle.std.proofs.lemmas.Option.{slice_get_within, get_or_from_slice_get}
use Rattle.symbols_ast.specs.declared.ids.SymbolId.{SymbolId}
use Rattle.symbols_ast.specs.declared.tree.arena.Tree.{Tree}
use Rattle.symbols_ast.specs.TreeFaults.{IsFaultlessTree}
use Rattle.symbols_ast.specs.WellFormed.{IsWellFormedTree}
use Rattle.symbols_table.specs.declared.decl.symbol.Symbol.{Symbol}
use Rattle.symbols_table.specs.declared.builder.table.ModuleBuilder.{ModuleBuilder}
use Rattle.symbols_table.specs.Changes.{Change, decls_after_changes, symbol_of_ident_after_changes}
use Rattle.symbols_table.specs.Symbols.{symbol_parent, symbol_decls}
use Rattle.symbols_table.specs.inner.Symbols.{IsSymbolOfChanges}
use Rattle.symbols_table.specs.ModuleViews.{identifier_bindings_view, export_star_view}
use Rattle.symbols_table.specs.Laws.{IsLawfulSymbol, AreLawfulSymbols, AreBoundedByNodes, AreIdentsBoundToSymbols, AreDeclaredInTree, IsExportStarInTree}
use Rattle.symbols_table.specs.inner.Tables.{HasAppliedChanges}
use Rattle.symbols_table.specs.TreeEvents.{tree_events}
use Rattle.symbols_table.specs.Analysis.{table_changes_from_tree}
use Rattle.symbols_table.proofs.Inside.{children_inside, members_inside, exports_inside, mapped_inside}
use Rattle.symbols_table.proofs.Counts.{are_few}
use Rattle.symbols_table.proofs.ExportLaws.{are_exports}
use Rattle.symbols_table.proofs.EventsOfTree.{in_tree_tree}
use Rattle.symbols_table.proofs.ChangesOfTree.{IsChangeOf, changes_are_of, decls_after-of, export_stars_after-of}

-- The symbol of a number has the contents that the changes give it.
symbol_of : (b : ModuleBuilder) (changes : List Change) (s : SymbolId) (symbol : Symbol) → HasAppliedChanges b changes
    → slice_get b.symbols.items s.0 ≡ Some symbol
    → IsSymbolOfChanges b.setting.module_id changes s symbol
symbol_of b changes s symbol is at =
    let read : get_or b.symbols.items s.0 symbol ≡ symbol = get_or_from_slice_get b.symbols.items s.0 symbol symbol at in
    subst (IsSymbolOfChanges b.setting.module_id changes s) read (is.symbols s symbol (slice_get_within b.symbols.items s.0 symbol at))

lawful_symbol : (b : ModuleBuilder) (changes : List Change) (s : SymbolId) (symbol : Symbol) → HasAppliedChanges b changes
    → slice_get b.symbols.items s.0 ≡ Some symbol
    → IsLawfulSymbol b.setting.module_id (length b.symbols.items) s symbol
lawful_symbol b changes s symbol is at =
    let count = length b.symbols.items in
    let below : s.0 < count = slice_get_within b.symbols.items s.0 symbol at in
    let here = symbol_of b changes s symbol is at in
    record {
      of_module = here.of_module;
      number = here.number;
      parent = is.has_lawful_parents s.0 (symbol_parent symbol) here.parent;
      declared = rw here.decls (is.declared s below);
      exports = rw here.exports (exports_inside count changes s is.sound);
      children = rw here.children (children_inside count changes s is.sound);
      members = rw here.members (members_inside count changes s is.sound);
      has_no_duplicates = rw here.exports (are_exports changes s).has_no_duplicates;
    }

pub are_lawful : (b : ModuleBuilder) (changes : List Change) → HasAppliedChanges b changes → AreLawfulSymbols b.setting.module_id b.symbols.items
are_lawful b changes is = λ s symbol at. lawful_symbol b changes s symbol is at

pub are_names : (b : ModuleBuilder) (changes : List Change) → HasAppliedChanges b changes
    → AreIdentsBoundToSymbols (length b.symbols.items) (identifier_bindings_view b.ids.entries)
are_names b changes is = λ id s at.
    let count = length b.symbols.items in
    let inside : IfSome (symbol_of_ident_after_changes changes id) (λ s. s.0 < count) = mapped_inside count changes id is.sound in
    let P : Option SymbolId → Type 0 = λ o. IfSome o (λ s. s.0 < count) in
    subst P (sym (is.ids id) ∙ at) inside

-- The invariants of a module that is built from a tree.
module _ (tree : Tree) (b : ModuleBuilder) (is : HasAppliedChanges b (table_changes_from_tree tree)) where
  borrowed_symbol : (s : SymbolId) (symbol : Symbol) → slice_get b.symbols.items s.0 ≡ Some symbol
      → symbol_decls symbol ≡ decls_after_changes (table_changes_from_tree tree) s
  borrowed_symbol s symbol at = (symbol_of b (table_changes_from_tree tree) s symbol is at).decls

  of_tree : 0 < length tree.nodes.items → All (IsChangeOf tree) (table_changes_from_tree tree)
  of_tree first = changes_are_of tree (tree_events tree) (in_tree_tree tree first)

  pub are_declared : 0 < length tree.nodes.items → AreDeclaredInTree tree b.symbols.items
  are_declared first = λ s symbol at. rw (borrowed_symbol s symbol at) (decls_after-of tree (table_changes_from_tree tree) s (of_tree first))

  pub are_stars : 0 < length tree.nodes.items → All (IsExportStarInTree tree) (map export_star_view b.stars.items)
  are_stars first = rw is.stars (export_stars_after-of tree (table_changes_from_tree tree) (of_tree first))

  pub are_few_of : (text : List ℕ) → IsFaultlessTree text tree.nodes.items → IsWellFormedTree tree.nodes.items → AreBoundedByNodes tree b.symbols.items
  are_few_of text none formed = are_few tree text b.symbols.items none formed is.count borrowed_symbol
