-- Stored modules, by their specifiers.
use Rattle.std.proofs.Common.{◌≡◌, ℕ, zero, suc, ◌⊎◌, inl, inr, Bool, true, false, ◌||◌, cond, List, [], ◌∷◌, ◌++◌, length, map}
use Rattle.std.proofs.Common.{slice_get, position, get_or, option_map, Option, None, Some, is_some, refl, sym, ap, subst, ◌∙◌, true≢false}
use Rattle.std.specs.Prelude.{if◌then◌else◌, string_bytes, IfSome}
use Rattle.std.specs.Borrow.{Bor}
use Rattle.std.specs.Map.{lookup, keys_of}
use Rattle.std.specs.Str.{bytes_eq}
use Rattle.std.proofs.lemmas.List.{length-map, map-append}
use Rattle.std.proofs.lemmas.List.Quantifiers.{position-Some}
use Rattle.std.proofs.lemmas.Option.{none-some, same_Some, slice_get-map, slice_get-get_or}
use Rattle.indexmap.specs.IndexMap.{IndexMap, insert_entry}
use Rattle.indexmap.proofs.CallerLemmas.{insert_entry-new}
use Rattle.symbols_ast.specs.declared.ids.ModuleId.{ModuleId}
use Rattle.symbols_ast.specs.Graph.{GraphView, ModuleView}
use Rattle.symbols_table.specs.declared.info.module_info.ModuleInfo.{ModuleInfo}
use Rattle.symbols_table.specs.declared.info.fault.SymbolsFault.{SymbolsFault}
use Rattle.symbols_table.specs.declared.info.fault.SymbolsFault.TheVariants as fault
use Rattle.symbols_table.specs.Analysis.{IsAnalysisResult, IsAnalyzedTable, IsAnalysisFault}
use Rattle.symbols_table.specs.Modules.{symbol_table_of}
use Rattle.symbols_root.specs.Specifiers.{module_with_specifier, contains_specifier}
use Rattle.symbols_root.specs.Roots.{RootView, root_with_stored_module, HasRoomForModule, IsNeededAndNotStored, IsStoringFault, IsTableOfModule}
use Rattle.symbols_root.specs.StoredModules.{StoredModule, stored_specifiers}
use Rattle.symbols_root.specs.inner.StoredModules.{AreTablesOfModules, ResolvesToStored}
use Rattle.symbols_root.specs.laws.Specifiers.{equal_if_bytes_eq}

-- ---- the map by specifiers

pub lookup_among : (entries : List StoredModule) (q : List ℕ)
    → is_some (lookup (λ (key : Bor (List ℕ)). bytes_eq q key.now) entries) ≡ contains_specifier (stored_specifiers entries) q
lookup_among [] q = refl
lookup_among (e ∷ entries) q = by (bytes_eq q e.0.now) (lookup_among entries q)
  where
    by : (b : Bool) → is_some (lookup (λ (key : Bor (List ℕ)). bytes_eq q key.now) entries) ≡ contains_specifier (stored_specifiers entries) q
        → is_some (cond b (Some e.1) (lookup (λ (key : Bor (List ℕ)). bytes_eq q key.now) entries)) ≡ (b || contains_specifier (stored_specifiers entries) q)
    by true rest = refl
    by false rest = rest

-- a specifier is stored if and only if the look-up finds it
pub stored_is : (entries : List StoredModule) (s q : List ℕ) (b : Bool) → is_some (lookup (λ (key : Bor (List ℕ)). bytes_eq s key.now) entries) ≡ b → s ≡ q
    → contains_specifier (stored_specifiers entries) q ≡ b
stored_is entries s q b is same = subst (λ x. contains_specifier (stored_specifiers entries) x ≡ b) same (sym (lookup_among entries s) ∙ is)

keys_stored : (entries : List StoredModule) → map (λ (key : Bor (List ℕ)). key.now) (keys_of entries) ≡ stored_specifiers entries
keys_stored [] = refl
keys_stored (e ∷ entries) = ap (λ rest. e.0.now ∷ rest) (keys_stored entries)

-- the index of a key is that of its specifier
pub index_stored : (entries : List StoredModule) (q : List ℕ) (i : ℕ) → position (λ (key : Bor (List ℕ)). bytes_eq q key.now) (keys_of entries) ≡ Some i
    → slice_get (stored_specifiers entries) i ≡ Some q
index_stored entries q i at =
    let d : Bor (List ℕ) = record { now = q; ref_ptr = (0, 0) } in
    let here = position-Some (λ (key : Bor (List ℕ)). bytes_eq q key.now) (keys_of entries) i d at in
    let key = get_or (keys_of entries) i d in
    ap (λ specifiers. slice_get specifiers i) (sym (keys_stored entries))
    ∙ (slice_get-map (λ (k : Bor (List ℕ)). k.now) (keys_of entries) i
    ∙ (ap (option_map (λ (k : Bor (List ℕ)). k.now)) (slice_get-get_or (keys_of entries) i d here.0) ∙ ap Some (sym (equal_if_bytes_eq q key.now here.1))))

pub length-stored : (entries : List StoredModule) → length (stored_specifiers entries) ≡ length entries
length-stored entries = length-map entries (λ (e : StoredModule). e.0.now)

pub stored_push : (entries : List StoredModule) (e : StoredModule) → stored_specifiers (entries ++ e ∷ []) ≡ stored_specifiers entries ++ e.0.now ∷ []
stored_push entries e = map-append (λ (x : StoredModule). x.0.now) entries (e ∷ [])

none_of : {A : Type 0} (o : Option A) → is_some o ≡ false → o ≡ None
none_of None is = refl
none_of (Some x) is = absurd (true≢false is)

-- a specifier that isn't stored is added last
pub insert_last : {S : Type 0} (modules : IndexMap (Bor (List ℕ)) ModuleInfo S) (key : Bor (List ℕ)) (info : ModuleInfo)
    → contains_specifier (stored_specifiers modules.entries) key.now ≡ false
    → insert_entry (λ (x y : Bor (List ℕ)). bytes_eq x.now y.now) modules.entries key info ≡ modules.entries ++ (key, info) ∷ []
insert_last modules key info new = insert_entry-new (λ (x y : Bor (List ℕ)). bytes_eq x.now y.now) modules key info
    (none_of _ (lookup_among modules.entries key.now ∙ new))

pub get_push : {A : Type 0} (xs : List A) (y x : A) (i : ℕ) → slice_get (xs ++ y ∷ []) i ≡ Some x → (slice_get xs i ≡ Some x) ⊎ ((i ≡ length xs) × (y ≡ x))
get_push [] y x zero at = inr (refl, same_Some y x at)
get_push [] y x (suc i) at = absurd (none-some x at)
get_push (z ∷ xs) y x zero at = inl at
get_push (z ∷ xs) y x (suc i) at = elim (get_push xs y x i at) [
  | inl old ↦ inl old
  | inr last ↦ inr (ap suc last.0, last.1)
]

pub get_last : {A : Type 0} (xs : List A) (y : A) → slice_get (xs ++ y ∷ []) (length xs) ≡ Some y
get_last [] y = refl
get_last (x ∷ xs) y = get_last xs y

get_before : {A : Type 0} (xs ys : List A) (i : ℕ) (x : A) → slice_get xs i ≡ Some x → slice_get (xs ++ ys) i ≡ Some x
get_before [] ys i x at = absurd (none-some x at)
get_before (z ∷ xs) ys zero x at = at
get_before (z ∷ xs) ys (suc i) x at = get_before xs ys i x at

-- the module that was requested last keeps its index
pub last_retained : (graph : GraphView) (stored : List (List ℕ)) (s : List ℕ) (last : Option (Bor (List ℕ) × ModuleId))
    → IfSome last (λ l. ResolvesToStored graph stored l.1 l.0.now) → IfSome last (λ l. ResolvesToStored graph (stored ++ s ∷ []) l.1 l.0.now)
last_retained graph stored s None is = tt
last_retained graph stored s (Some l) is = record {
  graph_module = is.graph_module;
  resolves = is.resolves;
  at = get_before stored (s ∷ []) l.1.0 is.graph_module.specifier is.at;
  under = is.under;
}

-- one more module with its complete table
pub whole_push : (graph : GraphView) (limit : ℕ) (entries : List StoredModule) (e : StoredModule) → AreTablesOfModules graph limit entries
    → IsTableOfModule graph limit (record { 0 = length entries }) e.0.now (symbol_table_of e.1) → AreTablesOfModules graph limit (entries ++ e ∷ [])
whole_push graph limit entries e all one i entry at = elim (get_push entries e entry i at) [
  | inl old ↦ all i entry old
  | inr last ↦ subst (λ (x : StoredModule). IsTableOfModule graph limit (record { 0 = i }) x.0.now (symbol_table_of x.1)) last.1 (subst
      (λ k. IsTableOfModule graph limit (record { 0 = k }) e.0.now (symbol_table_of e.1)) (sym last.0) one)
]

-- ---- the view

pub with_old : (root : RootView) (q : List ℕ) → contains_specifier root.stored q ≡ true → root ≡ root_with_stored_module root (Some q)
with_old root q is = sym (ap (λ b. record root { stored = if b then root.stored else root.stored ++ q ∷ [] }) is)

pub with_new : (root : RootView) (q : List ℕ) → contains_specifier root.stored q ≡ false
    → record root { stored = root.stored ++ q ∷ [] } ≡ root_with_stored_module root (Some q)
with_new root q is = sym (ap (λ b. record root { stored = if b then root.stored else root.stored ++ q ∷ [] }) is)

-- a stored module isn't missing
pub none_missing : {B : Type 0} (root : RootView) (q s : List ℕ) → contains_specifier root.stored q ≡ true → IsNeededAndNotStored root (Some q) s → B
none_missing root q s is missing = absurd (true≢false (sym is ∙ (ap (contains_specifier root.stored) (same_Some q s missing.0) ∙ missing.1)))

-- the fault of an analysis is a reason why the module isn't stored
pub refused_analysis : (root : RootView) (m : ModuleView) (f : SymbolsFault) → module_with_specifier root.graph m.specifier ≡ Some m
    → contains_specifier root.stored m.specifier ≡ false → HasRoomForModule root → IsAnalysisFault m root.limits.symbols f
    → IsStoringFault root (Some m.specifier) f
refused_analysis root m fault.OutOfMemory under new room why = tt
refused_analysis root m (fault.TooManySymbols s) under new room why =
    let same : string_bytes s ≡ m.specifier = why.0 in
    ((ap Some (sym same), ap (contains_specifier root.stored) same ∙ new), room, (m, ap (module_with_specifier root.graph) same ∙ under, why.1))
refused_analysis root m fault.TooManyModules under new room why = absurd why
refused_analysis root m fault.UnknownModule under new room why = absurd why
refused_analysis root m fault.UnknownSymbol under new room why = absurd why

-- an analysis that succeeds gives the table of the module
pub table_under : (graph : GraphView) (limit : ℕ) (module_id : ModuleId) (m : ModuleView) (info : ModuleInfo) (q : List ℕ)
    → module_with_specifier graph m.specifier
    ≡ Some m → q ≡ m.specifier → IsAnalysisResult module_id m limit (Some info) → IsTableOfModule graph limit module_id q (symbol_table_of info)
table_under graph limit module_id m info q under same analysis = record {
  graph_module = m;
  source = analysis.0;
  under = ap (module_with_specifier graph) same ∙ under;
  is_source_of_module = analysis.1;
  is_analyzed_table = subst (λ s. IsAnalyzedTable module_id s analysis.0 limit (symbol_table_of info)) (sym same) analysis.2;
}
