-- The symbols of a stored module are those of the graph's module.
use Rattle.std.proofs.Common.{◌≡◌, ℕ, zero, suc, ◌+◌, ◌<◌, ◌≤◌, Bool, true, false, List, [], ◌∷◌, ◌++◌}
use Rattle.std.proofs.Common.{length, map, fold, Option, None, Some, slice_get, sym, ap, ◌∙◌, arith}
use Rattle.std.specs.Prelude.{if◌then◌else◌}
use Rattle.std.specs.List.{filter_map, cons_option, sum_by}
use Rattle.std.specs.Option.{option_map, option_map_or}
use Rattle.std.proofs.lemmas.List.{length-append, length-map}
use Rattle.std.proofs.lemmas.List.Sums.{sum_by-cons}
use Rattle.std.proofs.lemmas.Option.{same_Some}
use Rattle.symbols_ast.specs.declared.ids.ModuleId.{ModuleId}
use Rattle.symbols_ast.specs.declared.ids.SymbolId.{SymbolId}
use Rattle.symbols_ast.specs.declared.ids.UniqueSymbolId.{UniqueSymbolId}
use Rattle.symbols_table.specs.declared.decl.symbol.Symbol.{Symbol}
use Rattle.symbols_table.specs.declared.decl.symbol_decl.SymbolDecl.{SymbolDecl}
use Rattle.symbols_table.specs.declared.info.es_module.EsModuleInfo.{EsModuleInfo}
use Rattle.symbols_table.specs.declared.info.json_module.JsonModuleInfo.{JsonModuleInfo}
use Rattle.symbols_table.specs.Analysis.{table_changes_from_tree_or_json, table_changes_from_json}
use Rattle.symbols_table.specs.Changes.{Change, adds_symbol, adds_decl, exports, adds_child, exported_symbol_after_changes, parents_after_changes}
use Rattle.symbols_table.specs.Changes.{decls_after_changes, decl_added_by}
use Rattle.symbols_table.specs.DeclViews.{Declaration, decl_view, append_decl_with_overload_flag, is_definition}
use Rattle.symbols_table.specs.Events.{EventEffect, effect_of_redeclaring_or, new_symbol_effect, next_symbol_id, default_export_effect, default_export_name}
use Rattle.symbols_table.specs.Events.{changes_of_effects, effects_after_events, symbol_of_event_at}
use Rattle.symbols_table.specs.JsonEvents.{json_decl}
use Rattle.symbols_table.specs.Modules.{SymbolTable, json_symbol_table}
use Rattle.symbols_table.specs.Symbols.{symbol_decls, symbol_export_entries}
use Rattle.symbols_table.specs.SymbolViews.{SymbolView, symbol_view, symbol_after_changes, symbol_from_changes}
use Rattle.symbols_root.specs.Roots.{RootView, IsTableOfStoredModule, specifier_in}
use Rattle.symbols_root.specs.GraphModules.{table_changes_of_module}
use Rattle.symbols_root.specs.laws.StoredTables.{stored_table_has_module_symbols}
use Rattle.symbols_exports.specs.StarStatements.{explicit_exports_of}
use Rattle.symbols_paths.specs.DeclTargets.{declarations_of}
use Rattle.symbols_paths.specs.inner.Views.{symbol_of_unique_id}

-- the declarations of a symbol of a stored module
pub stored_decls : (root : RootView) (s : UniqueSymbolId) (table : SymbolTable) (symbol : Symbol) → IsTableOfStoredModule root s.module_id table
    → slice_get table.symbols s.symbol_id.0 ≡ Some symbol → symbol_decls symbol ≡ declarations_of root.graph (symbol_of_unique_id root s)
stored_decls root s table symbol stored at = ap (λ found. option_map_or (λ (x : SymbolView). x.decls) found []) (sym (ap (option_map symbol_view) at)
    ∙ stored_table_has_module_symbols root s.module_id table stored s.symbol_id)

pub no_decls : (root : RootView) (s : UniqueSymbolId) (table : SymbolTable) → IsTableOfStoredModule root s.module_id table
    → slice_get table.symbols s.symbol_id.0 ≡ None
    → declarations_of root.graph (symbol_of_unique_id root s) ≡ []
no_decls root s table stored at = sym (ap (λ found. option_map_or (λ (x : SymbolView). x.decls) found []) (sym (ap (option_map symbol_view) at)
    ∙ stored_table_has_module_symbols root s.module_id table stored s.symbol_id))

-- the exports of a symbol of a stored module
pub symbol_exports : (root : RootView) (s : UniqueSymbolId) (table : SymbolTable) (symbol : Symbol) → IsTableOfStoredModule root s.module_id table
    → slice_get table.symbols s.symbol_id.0 ≡ Some symbol
    → symbol_export_entries symbol ≡ option_map_or (λ (x : SymbolView). x.exports)
    (symbol_after_changes (table_changes_of_module root.graph (specifier_in root s.module_id)) s.symbol_id) []
symbol_exports root s table symbol stored at = ap (λ found. option_map_or (λ (x : SymbolView). x.exports) found []) (sym (ap (option_map symbol_view) at)
    ∙ stored_table_has_module_symbols root s.module_id table stored s.symbol_id)

-- the exports of symbol 0 of a stored module: its local exports
pub stored_exports : (root : RootView) (module_id : ModuleId) (table : SymbolTable) (symbol : Symbol) → IsTableOfStoredModule root module_id table
    → slice_get table.symbols 0 ≡ Some symbol → symbol_export_entries symbol ≡ explicit_exports_of root.graph (specifier_in root module_id)
stored_exports root module_id table symbol stored first =
    let changes = table_changes_of_module root.graph (specifier_in root module_id) in
    by (slice_get (parents_after_changes changes) 0) (sym (ap (option_map symbol_view) first)
    ∙ stored_table_has_module_symbols root module_id table stored (record { 0 = 0 }))
  where
    by : (parent : Option (Option SymbolId))
        → Some (symbol_view symbol) ≡ option_map (symbol_from_changes (table_changes_of_module root.graph (specifier_in root module_id))
        (record { 0 = 0 })) parent → symbol_export_entries symbol ≡ explicit_exports_of root.graph (specifier_in root module_id)
    by None none = absurd cc
    by (Some parent) same = ap (λ (view : SymbolView). view.exports)
        (same_Some (symbol_view symbol) (symbol_from_changes (table_changes_of_module root.graph (specifier_in root module_id)) (record { 0 = 0 }) parent) same)

-- ---- how many declarations a symbol may have

declared_fold : (decls before : List Declaration) → length (fold append_decl_with_overload_flag before decls) ≡ length before + length decls
declared_fold [] before = omega arith
declared_fold (decl ∷ decls) before =
    let one_more : length (append_decl_with_overload_flag before decl) ≡ length before + 1 = length-append before _ in
    omega (arith, declared_fold decls (append_decl_with_overload_flag before decl), one_more)

no_longer : {A B : Type 0} (f : A → Option B) (xs : List A) → length (filter_map f xs) ≤ length xs
no_longer f [] = omega arith
no_longer {B = B} f (x ∷ xs) = by (f x) (filter_map f xs) (no_longer f xs)
  where
    by : (y : Option B) (ys : List B) → length ys ≤ length xs → length (cons_option y ys) ≤ suc (length xs)
    by None ys h = omega (arith, h)
    by (Some y) ys h = omega (arith, h)

few_after : (changes : List Change) (s : SymbolId) → length (decls_after_changes changes s) ≤ length changes
unfolding decls_after_changes
few_after changes s = omega (arith, declared_fold (filter_map (decl_added_by s) changes) [], no_longer (decl_added_by s) changes)

-- a JSON text makes at most six changes
found_few : (found : Option SymbolId) (decl : Declaration) (row : EventEffect) → length row.changes ≤ 4
    → length (effect_of_redeclaring_or found decl row).changes ≤ 4
found_few None decl row h = h
found_few (Some s) decl row h = omega arith

default_few : (before : List Change) (holder : SymbolId) (decl : Declaration) → length (default_export_effect before holder decl).changes ≤ 4
default_few before holder decl = found_few (exported_symbol_after_changes before holder default_export_name) decl
    (new_symbol_effect before (Some holder) decl more) (by (is_definition decl.kind))
  where
    more : SymbolId → List Change
    more s = exports holder default_export_name s ∷ (if is_definition decl.kind then adds_child holder s ∷ [] else [])

    by : (b : Bool) → suc (suc (suc (length (if b then adds_child holder (next_symbol_id before) ∷ [] else [])))) ≤ 4
    by true = omega arith
    by false = omega arith

two_more : (xs : List Change) → length xs ≤ 4 → suc (suc (length (xs ++ []))) ≤ 6
two_more xs h = omega (arith, h, length-append xs [])

few_changes : (specifier_text : List ℕ) → length (table_changes_from_json specifier_text) ≤ 6
unfolding changes_of_effects effects_after_events symbol_of_event_at
few_changes specifier_text =
    let before = adds_symbol None ∷ adds_decl (next_symbol_id []) (json_decl specifier_text) ∷ [] in
    two_more (default_export_effect before (next_symbol_id []) (json_decl specifier_text)).changes
    (default_few before (next_symbol_id []) (json_decl specifier_text))

-- a summand is no greater than the sum
part_of_sum : {A : Type 0} (f : A → ℕ) (xs : List A) (i : ℕ) (x : A) → slice_get xs i ≡ Some x → f x ≤ sum_by f xs
part_of_sum f [] i x at = absurd cc
part_of_sum f (y ∷ ys) zero x at = omega (arith, ap f (same_Some y x at), sum_by-cons f y ys)
part_of_sum f (y ∷ ys) (suc i) x at = omega (arith, part_of_sum f ys i x at, sum_by-cons f y ys)

counted : (decls : List SymbolDecl) (symbol : Symbol) → map decl_view decls ≡ symbol_decls symbol → length decls ≡ length (symbol_decls symbol)
counted decls symbol same = sym (length-map decls decl_view) ∙ ap length same

pub few_in_tree : (info : EsModuleInfo) (s : SymbolId) (symbol : Symbol) (decls : List SymbolDecl) → Some symbol ≡ slice_get info.symbols.items s.0
    → map decl_view decls ≡ symbol_decls symbol → length decls < 4294967296
few_in_tree info s symbol decls at same = omega (
  arith,
  counted decls symbol same,
  part_of_sum (λ (x : Symbol). length (symbol_decls x)) info.symbols.items s.0 symbol (sym at),
  info.few.has_at_most_as_many_declarations,
  info.well_formed.few,
)

pub few_in_text : (root : RootView) (s : UniqueSymbolId) (info : JsonModuleInfo) (symbol : Symbol) (decls : List SymbolDecl)
    → IsTableOfStoredModule root s.module_id (json_symbol_table info) → Some symbol ≡ slice_get info.symbols.items s.symbol_id.0
    → map decl_view decls ≡ symbol_decls symbol
    → length decls < 4294967296
few_in_text root s info symbol decls stored at same =
    let changes = table_changes_from_tree_or_json (json_symbol_table info).source in
    let made : symbol_after_changes changes s.symbol_id ≡ Some (symbol_view symbol) =
    ap (λ source. symbol_after_changes (table_changes_from_tree_or_json source)
    s.symbol_id) stored.2.is_analyzed_table.source ∙ (sym (stored.2.is_analyzed_table.tables.symbols s.symbol_id) ∙ ap (option_map symbol_view) (sym at)) in
    by (slice_get (parents_after_changes changes) s.symbol_id.0) made
  where
    by : (parent : Option (Option SymbolId)) → option_map (symbol_from_changes (table_changes_from_json info.text.now) s.symbol_id) parent ≡ Some
        (symbol_view symbol)
        → length decls < 4294967296
    by None none = absurd cc
    by (Some parent) made =
        let decls_are : decls_after_changes (table_changes_from_json info.text.now) s.symbol_id ≡ symbol_decls symbol =
        ap (λ (x : SymbolView). x.decls) (same_Some (symbol_from_changes (table_changes_from_json info.text.now) s.symbol_id parent) (symbol_view symbol) made)
        in
        omega (
          arith,
          counted decls symbol same,
          ap length decls_are,
          few_after (table_changes_from_json info.text.now) s.symbol_id,
          few_changes info.text.now,
        )
