-- The exports of a symbol are those that `AreExportsOfInsertions` states of their settings.
use Rattle.std.proofs.Common.{◌≡◌, ℕ, Bool, true, false, ◌||◌, cond, List, [], ◌∷◌, ◌++◌, Option, Some, refl, sym, ap, ◌∙◌}
use Rattle.std.specs.Prelude.{fold}
use Rattle.std.specs.List.{filter_map, last_or, cons_option, list_any, IsDistinct, AllByRecursion}
use Rattle.std.specs.Map.{lookup}
use Rattle.std.specs.Str.{bytes_eq}
use Rattle.std.proofs.lemmas.Bool.{false≢true}
use Rattle.std.proofs.lemmas.Slice.Eq.{bytes_eq-Decides}
use Rattle.indexmap.specs.IndexMap.{insert_entry, insert_all}
use Rattle.symbols_ast.specs.declared.ids.SymbolId.{SymbolId}
use Rattle.symbols_table.specs.Changes.{Change, some_if, export_insertions_after_changes, append_name_if_absent, exported_names_of_entries}
use Rattle.symbols_table.specs.Changes.{symbol_if_export_named, AreExportsOfInsertions, exports_after_changes}
use Rattle.symbols_table.proofs.Views.{eq-sym, lookup-insert}

-- ---- positions

exported_names_of_entries-insert : (es : List (List ℕ × SymbolId)) (k : List ℕ) (x : SymbolId)
    → exported_names_of_entries (insert_entry bytes_eq es k x) ≡ append_name_if_absent (exported_names_of_entries es) k
exported_names_of_entries-insert [] k x = refl
exported_names_of_entries-insert (e ∷ es) k x = by (bytes_eq k e.0) (exported_names_of_entries-insert es k x)
  where
    pushed : (b : Bool) → e.0 ∷ cond b (exported_names_of_entries es) (exported_names_of_entries es ++ k ∷ []) ≡ cond b (e.0 ∷ exported_names_of_entries es)
        ((e.0 ∷ exported_names_of_entries es) ++ k ∷ [])
    pushed true = refl
    pushed false = refl

    by : (same : Bool) → exported_names_of_entries (insert_entry bytes_eq es k x) ≡ append_name_if_absent (exported_names_of_entries es) k
        → exported_names_of_entries (cond same ((e.0, x) ∷ es) (e ∷ insert_entry bytes_eq es k x))
        ≡ cond (same || list_any (bytes_eq k) (exported_names_of_entries es)) (e.0 ∷ exported_names_of_entries es) ((e.0 ∷ exported_names_of_entries es) ++ k
        ∷ [])
    by true rest = refl
    by false rest = ap (λ (names : List (List ℕ)). e.0 ∷ names) rest ∙ pushed (list_any (bytes_eq k) (exported_names_of_entries es))

indices_after : (es settings : List (List ℕ × SymbolId))
    → exported_names_of_entries (insert_all bytes_eq es settings) ≡ fold append_name_if_absent (exported_names_of_entries es)
    (exported_names_of_entries settings)
indices_after es [] = refl
indices_after es (x ∷ xs) = indices_after (insert_entry bytes_eq es x.0 x.1) xs
    ∙ ap (λ (names : List (List ℕ)). fold append_name_if_absent names (exported_names_of_entries xs)) (exported_names_of_entries-insert es x.0 x.1)

-- ---- values

values_after : (es settings : List (List ℕ × SymbolId)) (name : List ℕ)
    → lookup (bytes_eq name) (insert_all bytes_eq es settings) ≡ last_or (lookup (bytes_eq name) es) (filter_map (symbol_if_export_named name) settings)
values_after es [] name = refl
values_after es (x ∷ xs) name =
    values_after (insert_entry bytes_eq es x.0 x.1) xs name
    ∙ (ap (λ (o : Option SymbolId). last_or o (filter_map (symbol_if_export_named name) xs)) (lookup-insert bytes_eq bytes_eq-Decides es x.0 name x.1)
    ∙ by (bytes_eq x.0 name))
  where
    by : (b : Bool) → last_or (cond b (Some x.1) (lookup (bytes_eq name) es)) (filter_map (symbol_if_export_named name) xs)
        ≡ last_or (lookup (bytes_eq name) es) (cons_option (some_if b x.1) (filter_map (symbol_if_export_named name) xs))
    by true = refl
    by false = refl

-- ---- no repeated name

all_push : (P : List ℕ → Type 0) (xs : List (List ℕ)) (y : List ℕ) → AllByRecursion P xs → P y → AllByRecursion P (xs ++ y ∷ [])
all_push P [] y all p = (p, tt)
all_push P (x ∷ xs) y all p = (all.0, all_push P xs y all.1 p)

distinct_push : (xs : List (List ℕ)) (y : List ℕ) → IsDistinct bytes_eq xs → list_any (bytes_eq y) xs ≡ false → IsDistinct bytes_eq (xs ++ y ∷ [])
unfolding IsDistinct
distinct_push [] y apart new = (tt, tt)
distinct_push (x ∷ xs) y apart new = by (distinct_push xs y apart.1) (bytes_eq y x) refl new
  where
    by : (list_any (bytes_eq y) xs ≡ false → IsDistinct bytes_eq (xs ++ y ∷ [])) → (b : Bool) → bytes_eq y x ≡ b → (b || list_any (bytes_eq y) xs) ≡ false
        → AllByRecursion (λ z. bytes_eq x z ≡ false) (xs ++ y ∷ []) × IsDistinct bytes_eq (xs ++ y ∷ [])
    by rest true same none = absurd (false≢true (sym none))
    by rest false other none = (all_push (λ z. bytes_eq x z ≡ false) xs y apart.0 (eq-sym bytes_eq bytes_eq-Decides x y ∙ other), rest none)

distinct_with : (names : List (List ℕ)) (name : List ℕ) → IsDistinct bytes_eq names → IsDistinct bytes_eq (append_name_if_absent names name)
distinct_with names name apart = by (list_any (bytes_eq name) names) refl
  where
    by : (b : Bool) → list_any (bytes_eq name) names ≡ b → IsDistinct bytes_eq (cond b names (names ++ name ∷ []))
    by true there = apart
    by false absent = distinct_push names name apart absent

distinct_after : (names more : List (List ℕ)) → IsDistinct bytes_eq names → IsDistinct bytes_eq (fold append_name_if_absent names more)
distinct_after names [] apart = apart
distinct_after names (x ∷ xs) apart = distinct_after (append_name_if_absent names x) xs (distinct_with names x apart)

no_names : IsDistinct bytes_eq []
unfolding IsDistinct
no_names = tt

pub are_exports : (changes : List Change) (s : SymbolId) → AreExportsOfInsertions (export_insertions_after_changes changes s) (exports_after_changes changes s)
unfolding exports_after_changes
are_exports changes s =
    let settings = export_insertions_after_changes changes s in
    let names_are_in_insertion_order = indices_after [] settings in
    record {
      names_are_in_insertion_order = names_are_in_insertion_order;
      values = values_after [] settings;
      has_no_duplicates = rw names_are_in_insertion_order
          (distinct_after [] (exported_names_of_entries settings) no_names);
    }
