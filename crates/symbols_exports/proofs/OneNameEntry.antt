-- The entry that a walk for one name stores in its map, described without the map.
use Rattle.std.proofs.Common.{◌≡◌, ℕ, ◌<◌, List, [], ◌∷◌, ◌++◌, length, map, option_map, option_to_list}
use Rattle.std.proofs.Common.{Option, None, Some, string_bytes, String, refl, sym, ap, subst, ◌∙◌, arith}
use Rattle.std.specs.Global.{Global}
use Rattle.std.specs.Str.{bytes_eq}
use Rattle.std.proofs.lemmas.List.{map-append, length-map, length_push}
use Rattle.std.proofs.lemmas.Slice.Eq.{bytes_eq-Decides}
use Rattle.symbols_ast.specs.declared.ids.ModuleId.{ModuleId}
use Rattle.symbols_root.specs.Roots.{RootView, specifier_in}
use Rattle.symbols_exports.specs.declared.export_chain.ResolvedExportOrReExportAllPath.{ResolvedExportOrReExportAllPath}
use Rattle.symbols_exports.specs.Exports.{ExportEntry}
use Rattle.symbols_exports.specs.OneName.{IsExportOfCallResult, find_export}
use Rattle.symbols_exports.specs.CollectedNames.{ResolvedExportView, resolved_export_view, resolved_export_views, resolved_chain_view}
use Rattle.symbols_exports.specs.ExportViews.{ExportView, export_view_of_entry, export_by_specifier}
use Rattle.symbols_exports.specs.Traces.{exports_of}
use Rattle.symbols_exports.proofs.CollectedNamesInMap.{NameEntry}
use Rattle.symbols_exports.proofs.SortedLists.{found_there}

-- the entry's name is the requested one
name_viewed : {old new : RootView} {start : ModuleId} {name : List ℕ} (view : ResolvedExportView) {lookups : ℕ}
    → IsExportOfCallResult old new start name (view ∷ []) lookups
    → view.name ≡ name
name_viewed {old} {new} {start} {name} view answer = by (find_export old.graph (specifier_in old start) name) refl answer.is_found_export
  where
    by : (entry : Option ExportEntry) → find_export old.graph (specifier_in old start) name ≡ entry
        → export_by_specifier new view ∷ [] ≡ option_to_list (option_map (export_view_of_entry old.graph (specifier_in old start)) entry) → view.name ≡ name
    by None is same = absurd cc
    by (Some e) is same =
        let there = found_there (λ (x : ExportEntry). bytes_eq name x.name) (exports_of old.graph (specifier_in old start)) e is in
        ap (λ (t : ExportView). t.name) (first same) ∙ sym ((bytes_eq-Decides name e.name).0 there.1)
      where
        first : export_by_specifier new view ∷ [] ≡ export_view_of_entry old.graph (specifier_in old start) e ∷ []
            → export_by_specifier new view ≡ export_view_of_entry old.graph (specifier_in old start) e
        first alike = cc

-- at most one entry is returned
one_viewed : {old new : RootView} {start : ModuleId} {name : List ℕ} (names : List ResolvedExportView) (view : ResolvedExportView) {lookups : ℕ}
    → IsExportOfCallResult old new start name (names ++ view ∷ []) lookups → names ≡ []
one_viewed {old} {new} {start} {name} names view answer = by names (few (find_export old.graph (specifier_in old start) name) answer.is_found_export)
  where
    few : (entry : Option ExportEntry) → map (export_by_specifier new) (names ++ view ∷ [])
        ≡ option_to_list (option_map (export_view_of_entry old.graph (specifier_in old start)) entry) → length names < 1
    few None same = let counted : length (map (export_by_specifier new) (names ++ view ∷ [])) ≡ 0 = ap length same in
        omega (arith, counted, length-map (names ++ view ∷ []) (export_by_specifier new), length_push names view)
    few (Some e) same = let counted : length (map (export_by_specifier new) (names ++ view ∷ [])) ≡ 1 = ap length same in
        omega (arith, counted, length-map (names ++ view ∷ []) (export_by_specifier new), length_push names view)

    by : (xs : List ResolvedExportView) → length xs < 1 → xs ≡ []
    by [] short = refl
    by (x ∷ xs) short = absurd (omega (arith, short))

pub popped_answer : {old new : RootView} {start : ModuleId} (name : List ℕ) {lookups : ℕ} (before : List NameEntry) (key : String Global)
    (path : ResolvedExportOrReExportAllPath) (entries : List NameEntry) → entries ≡ before ++ (key, path) ∷ []
    → IsExportOfCallResult old new start name (resolved_export_views entries) lookups
    → IsExportOfCallResult old new start name (resolved_chain_view name path ∷ []) lookups
popped_answer {old} {new} {start} name {lookups} before key path entries are answer =
    let views : resolved_export_views entries ≡ resolved_export_views before ++ resolved_export_view (key, path) ∷ [] = ap resolved_export_views are
    ∙ map-append resolved_export_view before ((key, path) ∷ []) in
    let viewed = subst (λ views. IsExportOfCallResult old new start name views lookups) views answer in
    let alone = subst (λ views. IsExportOfCallResult old new start name (views ++ resolved_export_view (key, path) ∷ []) lookups)
    (one_viewed (resolved_export_views before) (resolved_export_view (key, path)) viewed) viewed in
    let called : string_bytes key ≡ name = name_viewed (resolved_export_view (key, path)) alone in
    subst (λ q. IsExportOfCallResult old new start name (resolved_chain_view q path ∷ []) lookups) called alone
