-- The symbols of a stored module are those of the graph's module.
use Rattle.std.proofs.Common.{◌≡◌, ℕ, ◌<◌, List, length, inl, inr, Option, None, Some, slice_get, refl, sym, ap, subst, ◌∙◌, arith}
use Rattle.std.proofs.lemmas.Option.{none-some, slice_get_cases, slice_get_within, same_Some}
use Rattle.std.specs.Borrow.{Bor}
use Rattle.std.specs.Prelude.{Contains, IfSome}
use Rattle.std.specs.Option.{option_map, option_copied, option_and_then}
use Rattle.symbols_ast.specs.declared.ids.ModuleId.{ModuleId}
use Rattle.symbols_ast.specs.declared.ids.SymbolId.{SymbolId}
use Rattle.symbols_table.specs.declared.decl.symbol.Symbol.{Symbol}
use Rattle.symbols_table.specs.declared.info.module_info.ModuleInfoRef.{ModuleInfoRef}
use Rattle.symbols_table.specs.Changes.{parents_after_changes, exports_after_changes}
use Rattle.symbols_table.specs.Laws.{AreLawfulSymbols}
use Rattle.symbols_table.specs.Modules.{SymbolTable, symbol_table_of_ref}
use Rattle.symbols_table.specs.Symbols.{symbol_module_id, symbol_export_entries}
use Rattle.symbols_table.specs.SymbolViews.{SymbolView, symbol_view, symbol_from_changes}
use Rattle.symbols_root.specs.Roots.{RootView, IsTableOfStoredModule, maybe_specifier, specifier_in}
use Rattle.symbols_root.specs.GraphModules.{table_changes_of_module, symbol_in_module}
use Rattle.symbols_root.specs.laws.StoredTables.{stored_table_has_module_symbols}
use Rattle.symbols_exports.specs.declared.export_chain.ResolvedExport.{ResolvedExport}
use Rattle.symbols_exports.specs.ExportSymbols.{symbol_of_export}
use Rattle.symbols_exports.specs.StarStatements.{explicit_exports_of}

-- the exports of a symbol
pub stored_exports : (root : RootView) (module_id : ModuleId) (table : SymbolTable) (s : SymbolId) (symbol : Symbol)
    → IsTableOfStoredModule root module_id table
    → slice_get table.symbols s.0 ≡ Some symbol → symbol_export_entries symbol
    ≡ exports_after_changes (table_changes_of_module root.graph (specifier_in root module_id)) s
stored_exports root module_id table s symbol stored at =
    let changes = table_changes_of_module root.graph (specifier_in root module_id) in
    by (slice_get (parents_after_changes changes) s.0) (sym (ap (option_map symbol_view) at) ∙ stored_table_has_module_symbols root module_id table stored s)
  where
    by : (parent : Option (Option SymbolId))
        → Some (symbol_view symbol) ≡ option_map (symbol_from_changes (table_changes_of_module root.graph (specifier_in root module_id))
        s) parent → symbol_export_entries symbol ≡ exports_after_changes (table_changes_of_module root.graph (specifier_in root module_id)) s
    by None none = absurd cc
    by (Some parent) same = ap (λ (view : SymbolView). view.exports)
        (same_Some (symbol_view symbol) (symbol_from_changes (table_changes_of_module root.graph (specifier_in root module_id)) s parent) same)

-- the local exports of the module are those of its symbol 0
pub stored_table_has_module_bindings : (root : RootView) (module_id : ModuleId) (table : SymbolTable) (symbol : Symbol)
    → IsTableOfStoredModule root module_id table
    → slice_get table.symbols 0 ≡ Some symbol → symbol_export_entries symbol ≡ explicit_exports_of root.graph (specifier_in root module_id)
stored_table_has_module_bindings root module_id table symbol stored first = stored_exports root module_id table (record { 0 = 0 }) symbol stored first

-- and their symbols are among its symbols, by the laws of symbol tables
lawful_in : (info : ModuleInfoRef) → AreLawfulSymbols (symbol_table_of_ref info).module_id (symbol_table_of_ref info).symbols
lawful_in (ModuleInfoRef.Json info) = info.now.lawful
lawful_in (ModuleInfoRef.Esm info) = info.now.lawful

-- a borrowed symbol has the number of this module
pub symbol_of_module : (root : RootView) (module_id : ModuleId) (info : ModuleInfoRef) (s : SymbolId) (found : Option (Bor Symbol))
    → IsTableOfStoredModule root module_id (symbol_table_of_ref info) → option_copied found ≡ slice_get (symbol_table_of_ref info).symbols s.0
    → IfSome found (λ (symbol : Bor Symbol). symbol_module_id symbol.now ≡ module_id)
symbol_of_module root module_id info s None stored at = tt
symbol_of_module root module_id info s (Some symbol) stored at = (lawful_in info s symbol.now (sym at)).of_module ∙ stored.2.is_analyzed_table.number

-- there is no symbol if no module of the number is stored
pub no_symbol_of : (root : RootView) (export : ResolvedExport) → (export.«module».0 < length root.stored → ⊥) → None ≡ symbol_of_export root export
no_symbol_of root export unknown = by (maybe_specifier root export.«module») refl
  where
    by : (found : Option (List ℕ)) → maybe_specifier root export.«module» ≡ found
        → None ≡ option_and_then (λ specifier. symbol_in_module root.graph specifier export.symbol_id) found
    by None at = refl
    by (Some v) at = absurd (unknown (slice_get_within root.stored export.«module».0 v at))

has_module_in : (info : ModuleInfoRef) → 0 < length (symbol_table_of_ref info).symbols
has_module_in (ModuleInfoRef.Json info) = info.now.has_module
has_module_in (ModuleInfoRef.Esm info) = info.now.has_module

-- there is a symbol at each index
not_nothing : (symbols : List Symbol) (n : ℕ) → n < length symbols → slice_get symbols n ≡ None → ⊥
not_nothing symbols n within none = elim (slice_get_cases symbols n).1 [
  | inl found ↦ none-some found.0 (sym none ∙ found.2)
  | inr past ↦ omega (arith, within, past.0)
]

explicit_within : (root : RootView) (module_id : ModuleId) (info : ModuleInfoRef) (name : List ℕ) (s : SymbolId)
    → IsTableOfStoredModule root module_id (symbol_table_of_ref info) → Contains (explicit_exports_of root.graph (specifier_in root module_id)) (name, s)
    → s.0 < length (symbol_table_of_ref info).symbols
explicit_within root module_id info name s stored explicit =
    by (slice_get (symbol_table_of_ref info).symbols 0) refl
  where
    by : (first : Option Symbol) → slice_get (symbol_table_of_ref info).symbols 0 ≡ first → s.0 < length (symbol_table_of_ref info).symbols
    by None none = absurd (not_nothing (symbol_table_of_ref info).symbols 0 (has_module_in info) none)
    by (Some symbol) first =
        let names = stored_table_has_module_bindings root module_id (symbol_table_of_ref info) symbol stored first in
        let has : Contains (symbol_export_entries symbol) (name, s) = subst (λ (exported : List (List ℕ × SymbolId)). Contains exported (name, s)) (sym names)
        explicit in
        let within = (lawful_in info (record { 0 = 0 }) symbol first).exports has.0 (name, s) has.1 in
        subst (λ (exported : List ℕ × SymbolId). exported.1.0 < length (symbol_table_of_ref info).symbols) has.2 within

pub explicit_is_there : (root : RootView) (module_id : ModuleId) (info : ModuleInfoRef) (name : List ℕ) (s : SymbolId)
    → IsTableOfStoredModule root module_id (symbol_table_of_ref info) → Contains (explicit_exports_of root.graph (specifier_in root module_id)) (name, s)
    → slice_get (symbol_table_of_ref info).symbols s.0 ≡ None → ⊥
explicit_is_there root module_id info name s stored explicit none =
    not_nothing (symbol_table_of_ref info).symbols s.0 (explicit_within root module_id info name s stored explicit) none
