-- Lists of distinct texts, and maps made by settings.
use Rattle.std.proofs.Common.{◌≡◌, ℕ, ◌<◌, inl, inr, Bool, true, false, ◌||◌, List, [], ◌∷◌, ◌++◌}
use Rattle.std.proofs.Common.{length, map, get_or, refl, sym, ap, subst, ◌∙◌, arith, true≢false}
use Rattle.std.specs.Prelude.{Contains, if◌then◌else◌}
use Rattle.std.specs.List.{IsDistinct, list_any}
use Rattle.std.specs.Str.{bytes_eq}
use Rattle.indexmap.specs.IndexMap.{insert_entry, insert_all}
use Rattle.std.proofs.lemmas.Bool.{cases_order}
use Rattle.std.proofs.lemmas.Cmp.{nat_list_eq_equiv}
use Rattle.std.proofs.lemmas.List.{length-map, get_or_default}
use Rattle.std.proofs.lemmas.Map.Keys.{apart_from_distinct, IsDistinct-push}
use Rattle.std.proofs.Math.ListN.{get_or-map}
use Rattle.symbols_ast.specs.declared.ids.SymbolId.{SymbolId}
use Rattle.symbols_ast.specs.Graph.{GraphView}
use Rattle.symbols_table.specs.Changes.{exports_after_changes, export_insertions_after_changes}
use Rattle.symbols_root.specs.GraphModules.{table_changes_of_module}
use Rattle.symbols_exports.specs.StarStatements.{explicit_exports_of}
use Rattle.symbols_exports.proofs.FirstOfEachName.{ExplicitOnce}

-- a text has one index
pub same_cursor : (xs : List (List ℕ)) → IsDistinct bytes_eq xs → (i j : ℕ) → i < length xs → j < length xs → get_or xs i [] ≡ get_or xs j [] → i ≡ j
same_cursor xs once i j i_in j_in same = elim (cases_order i j) [
  | inl equal ↦ equal
  | inr (inl less) ↦ absurd (apart i j less j_in same)
  | inr (inr more) ↦ absurd (apart j i more i_in (sym same))
]
  where
    apart : (k l : ℕ) → k < l → l < length xs → get_or xs k [] ≡ get_or xs l [] → ⊥
    apart k l less within equal =
        let other = apart_from_distinct bytes_eq xs k l [] once less within in
        true≢false (sym (subst (λ q. bytes_eq (get_or xs k []) q ≡ true) equal (nat_list_eq_equiv.refl (get_or xs k []))) ∙ other)

abbrev pub Setting : Type 0
Setting = List ℕ × SymbolId

names_of : List Setting → List (List ℕ)
names_of entries = map (λ (entry : Setting). entry.0) entries

names_inserted : (entries : List Setting) (q : List ℕ) (s : SymbolId)
    → names_of (insert_entry bytes_eq entries q s) ≡ (if list_any (bytes_eq q) (names_of entries) then names_of entries else names_of entries ++ q ∷ [])
unfolding names_of
names_inserted [] q s = refl
names_inserted (entry ∷ entries) q s = by (bytes_eq q entry.0) (names_inserted entries q s)
  where
    on : (had : Bool) → (rest : List (List ℕ)) → rest ≡ (if had then map (λ (x : Setting). x.0) entries else map (λ (x : Setting). x.0) entries ++ q ∷ [])
        → ◌≡◌ {A = List (List ℕ)} (entry.0 ∷ rest) (if had then entry.0 ∷ map (λ (x : Setting). x.0) entries
        else entry.0 ∷ (map (λ (x : Setting). x.0) entries ++ q ∷ []))
    on true rest same = ap (λ xs. entry.0 ∷ xs) same
    on false rest same = ap (λ xs. entry.0 ∷ xs) same

    by : (b : Bool) → map (λ (x : Setting). x.0) (insert_entry bytes_eq entries q s) ≡ (if list_any (bytes_eq q) (map (λ (x : Setting). x.0) entries)
        then map (λ (x : Setting). x.0) entries else map (λ (x : Setting). x.0) entries ++ q ∷ [])
        → map (λ (x : Setting). x.0) (if b then (entry.0, s) ∷ entries else entry ∷ insert_entry bytes_eq entries q s)
        ≡ (if b || list_any (bytes_eq q) (map (λ (x : Setting). x.0) entries) then entry.0 ∷ map (λ (x : Setting). x.0) entries
        else entry.0 ∷ (map (λ (x : Setting). x.0) entries ++ q ∷ []))
    by true rest = refl
    by false rest = on (list_any (bytes_eq q) (map (λ (x : Setting). x.0) entries)) (map (λ (x : Setting). x.0) (insert_entry bytes_eq entries q s)) rest

once_inserted : (entries : List Setting) (q : List ℕ) (s : SymbolId) → IsDistinct bytes_eq (names_of entries)
    → IsDistinct bytes_eq (names_of (insert_entry bytes_eq entries q s))
once_inserted entries q s once = rw (names_inserted entries q s) (by (list_any (bytes_eq q) (names_of entries)) refl)
  where
    by : (had : Bool) → list_any (bytes_eq q) (names_of entries) ≡ had → IsDistinct bytes_eq (if had then names_of entries else names_of entries ++ q ∷ [])
    by true is = once
    by false is = IsDistinct-push nat_list_eq_equiv (names_of entries) q once is

once_all : (settings entries : List Setting) → IsDistinct bytes_eq (names_of entries) → IsDistinct bytes_eq (names_of (insert_all bytes_eq entries settings))
once_all [] entries once = once
once_all (setting ∷ settings) entries once =
    once_all settings (insert_entry bytes_eq entries setting.0 setting.1) (once_inserted entries setting.0 setting.1 once)

nothing_twice : IsDistinct bytes_eq (names_of [])
unfolding IsDistinct names_of
nothing_twice = tt

one_value : (entries : List Setting) → IsDistinct bytes_eq (names_of entries) → (name : List ℕ) (s t : SymbolId) → Contains entries (name, s)
    → Contains entries (name, t) → s ≡ t
unfolding names_of
one_value entries once name s t has_s has_t =
    let counted : length (map (λ (x : Setting). x.0) entries) ≡ length entries = length-map entries (λ (x : Setting). x.0) in
    let at_s : get_or (map (λ (x : Setting). x.0) entries) has_s.0 [] ≡ name = named has_s.0 s has_s.1 has_s.2 in
    let at_t : get_or (map (λ (x : Setting). x.0) entries) has_t.0 [] ≡ name = named has_t.0 t has_t.1 has_t.2 in
    let cursor : has_s.0 ≡ has_t.0 = same_cursor (map (λ (x : Setting). x.0) entries) once has_s.0 has_t.0 (omega (arith, counted, has_s.1)) (omega
    (arith, counted, has_t.1)) (at_s ∙ sym at_t) in
    ap (λ (x : Setting). x.1) (sym has_s.2
    ∙ (ap (λ i. get_or entries i (name, s)) cursor ∙ (get_or_default entries has_t.0 (name, s) (name, t) has_t.1 ∙ has_t.2)))
  where
    named : (i : ℕ) (x : SymbolId) → i < length entries → get_or entries i (name, x) ≡ (name, x) → get_or (map (λ (e : Setting). e.0) entries) i [] ≡ name
    named i x within at =
        let long : i < length (map (λ (e : Setting). e.0) entries) = omega (arith, within, length-map entries (λ (e : Setting). e.0)) in
        get_or_default (map (λ (e : Setting). e.0) entries) i [] name long
        ∙ (get_or-map (λ (e : Setting). e.0) entries i (name, x) ∙ ap (λ (e : Setting). e.0) at)

-- a symbol exports no name twice
pub exported_once : (graph : GraphView) (u : List ℕ) (s : SymbolId)
    → IsDistinct bytes_eq (map (λ (x : Setting). x.0) (exports_after_changes (table_changes_of_module graph u) s))
unfolding exports_after_changes names_of
exported_once graph u s = once_all (export_insertions_after_changes (table_changes_of_module graph u) s) [] nothing_twice

-- a module exports each name locally for one symbol
pub exports_once : (graph : GraphView) → ExplicitOnce (explicit_exports_of graph)
unfolding exports_after_changes
exports_once graph u name s t has_s has_t =
    let settings = export_insertions_after_changes (table_changes_of_module graph u) (record { 0 = 0 }) in
    one_value (insert_all bytes_eq [] settings) (once_all settings [] nothing_twice) name s t has_s has_t

-- and at one index
pub explicit_cursor : (graph : GraphView) (u : List ℕ) (i j : ℕ) (d : List ℕ × SymbolId) → i < length (explicit_exports_of graph u)
    → j < length (explicit_exports_of graph u) → (get_or (explicit_exports_of graph u) i d).0 ≡ (get_or (explicit_exports_of graph u) j d).0 → i ≡ j
unfolding exports_after_changes names_of
explicit_cursor graph u i j d i_in j_in same =
    let settings = export_insertions_after_changes (table_changes_of_module graph u) (record { 0 = 0 }) in
    let entries : List Setting = insert_all bytes_eq [] settings in
    let counted : length (map (λ (x : Setting). x.0) entries) ≡ length entries = length-map entries (λ (x : Setting). x.0) in
    let at_i : get_or (map (λ (x : Setting). x.0) entries) i [] ≡ (get_or entries i d).0 =
    get_or_default (map (λ (x : Setting). x.0) entries) i [] d.0 (omega (arith, counted, i_in)) ∙ get_or-map (λ (x : Setting). x.0) entries i d in
    let at_j : get_or (map (λ (x : Setting). x.0) entries) j [] ≡ (get_or entries j d).0 =
    get_or_default (map (λ (x : Setting). x.0) entries) j [] d.0 (omega (arith, counted, j_in)) ∙ get_or-map (λ (x : Setting). x.0) entries j d in
    same_cursor (map (λ (x : Setting). x.0) entries) (once_all settings [] nothing_twice) i j (omega (arith, counted, i_in)) (omega (arith, counted, j_in))
    (at_i ∙ (same ∙ sym at_j))
