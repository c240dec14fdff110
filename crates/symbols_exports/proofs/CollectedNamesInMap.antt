-- Collected names in the map that stores them.
use Rattle.std.proofs.Common.{sym, length, ◌≤◌, ◌≡◌, Bool, true, false, ◌||◌, ◌&&◌, cond, List, [], ◌∷◌}
use Rattle.std.proofs.Common.{◌++◌, ℕ, Some, is_some, string_bytes, String, refl, ap, ◌∙◌, true≢false}
use Rattle.std.specs.Prelude.{if◌then◌else◌}
use Rattle.indexmap.specs.IndexMap.{insert_entry}
use Rattle.std.specs.Global.{Global}
use Rattle.std.specs.List.{position}
use Rattle.std.specs.Map.{keys_of, lookup}
use Rattle.std.specs.Str.{bytes_eq}
use Rattle.std.proofs.lemmas.List.{map-append}
use Rattle.symbols_ast.specs.declared.ids.ModuleId.{ModuleId}
use Rattle.symbols_ast.specs.declared.ids.SymbolId.{SymbolId}
use Rattle.symbols_table.specs.Events.{default_export_name}
use Rattle.symbols_exports.specs.declared.export_chain.ResolvedExport.{ResolvedExport}
use Rattle.symbols_exports.specs.declared.export_chain.ResolvedExportOrReExportAllPath.{ResolvedExportOrReExportAllPath}
use Rattle.symbols_exports.specs.ExportChains.{resolved_export, statements_of_chain}
use Rattle.symbols_exports.specs.CollectedNames.{ResolvedExportView, resolved_export_view, resolved_chain_view, resolved_export_views}
use Rattle.symbols_exports.specs.inner.Collecting.{CollectedExportsView, ExportChain, name_of_resolved_export, is_name_collected, has_star_statements}
use Rattle.symbols_exports.specs.inner.Collecting.{names_with_export, chain_lists_with_later_chain, is_along_stars, groups_with_exporter, groups_with_exporters}
use Rattle.symbols_exports.specs.inner.Collecting.{candidates_along_chain, groups_of_first_and_later_chains, walk_with_exports_of_module}
use Rattle.symbols_exports.proofs.ShadowedChains.{push_under, explicit_stays, put_new}

abbrev pub NameEntry : Type 0
NameEntry = String Global × ResolvedExportOrReExportAllPath

-- a name was collected if and only if the map has it
pub collected_is : (entries : List NameEntry) (q : List ℕ)
    → is_some (lookup (λ (key : String Global). bytes_eq q (string_bytes key)) entries) ≡ is_name_collected (resolved_export_views entries) q
collected_is [] q = refl
collected_is (entry ∷ entries) q = by (bytes_eq q (string_bytes entry.0)) (collected_is entries q)
  where
    by : (b : Bool) → is_some (lookup (λ (key : String Global). bytes_eq q (string_bytes key)) entries) ≡ is_name_collected (resolved_export_views entries) q
        → is_some (cond b (Some entry.1) (lookup (λ (key : String Global). bytes_eq q (string_bytes key)) entries)) ≡
        (b || is_name_collected (resolved_export_views entries) q)
    by true rest = refl
    by false rest = rest

-- a name that wasn't collected goes last
inserted_last : (entries : List NameEntry) (key : String Global) (path : ResolvedExportOrReExportAllPath)
    → is_name_collected (resolved_export_views entries) (string_bytes key)
    ≡ false → insert_entry (λ a b. bytes_eq (string_bytes a) (string_bytes b)) entries key path ≡ entries ++ (key, path) ∷ []
inserted_last [] key path new = refl
inserted_last (entry ∷ entries) key path new = by (bytes_eq (string_bytes key) (string_bytes entry.0)) new (inserted_last entries key path)
  where
    by : (b : Bool) → (b || is_name_collected (resolved_export_views entries) (string_bytes key)) ≡ false
        → (is_name_collected (resolved_export_views entries) (string_bytes key) ≡ false
        → insert_entry (λ x y. bytes_eq (string_bytes x) (string_bytes y)) entries key path ≡ entries ++ (key, path) ∷ [])
        → (if b then (entry.0, path) ∷ entries else entry ∷ insert_entry (λ x y. bytes_eq (string_bytes x) (string_bytes y)) entries key path)
        ≡ entry ∷ (entries ++ (key, path) ∷ [])
    by true is rest = absurd (true≢false is)
    by false is rest = ap (λ xs. entry ∷ xs) (rest is)

-- collecting a known name changes nothing
pub with_old_name : (re_exports : List (ModuleId × List ℕ)) (exporter : ModuleId) (names : List ResolvedExportView) (exported : List ℕ × SymbolId)
    → (bytes_eq exported.0 default_export_name && has_star_statements re_exports) ≡ false → is_name_collected names exported.0 ≡ true
    → names ≡ names_with_export re_exports exporter names exported
with_old_name re_exports exporter names exported passes had = rw (passes, had) refl

-- a new name is added after the others
pub with_new_name : (re_exports : List (ModuleId × List ℕ)) (export : ResolvedExport) (entries after : List NameEntry) (key : String Global)
    (path : ResolvedExportOrReExportAllPath) (q : List ℕ) → after ≡ insert_entry (λ a b. bytes_eq (string_bytes a) (string_bytes b)) entries key path
    → (bytes_eq q default_export_name && has_star_statements re_exports) ≡ false → is_name_collected (resolved_export_views entries) q ≡ false
    → string_bytes key ≡ q
    → statements_of_chain path ≡ re_exports → resolved_export path ≡ export
    → resolved_export_views after ≡ names_with_export re_exports export.«module» (resolved_export_views entries) (q, export.symbol_id)
with_new_name re_exports export entries after key path q inserted passes new called along ends =
    let view : resolved_export_view (key, path) ≡ record { name = q; statements = re_exports; export = export } =
    (λ i. record { name = called i; statements = along i; export = ends i }) in
    let last : after ≡ entries ++ (key, path) ∷ [] = inserted ∙ inserted_last entries key path
    (ap (is_name_collected (resolved_export_views entries)) called ∙ new) in
    ap resolved_export_views last
    ∙ (map-append resolved_export_view entries ((key, path) ∷ []) ∙ (ap (λ x. resolved_export_views entries ++ x ∷ []) view ∙ rw (passes, new) refl))

-- ---- with later chains

-- what a walk has collected, by its parts
abbrev pub walk_view : List NameEntry → Bool → List (List ExportChain) → List (ModuleId × List ℕ) → CollectedExportsView
walk_view entries keeps lists unresolved = record {
  keeps = keeps;
  collected = record {
    names = resolved_export_views entries;
    candidates = if keeps then groups_of_first_and_later_chains entries lists
        else [];
    unresolved = unresolved;
  };
}

-- the same for the result of a look-up in the map
had_name : (q : List ℕ) (entries : List NameEntry) (at : Bool) → is_some (lookup (λ (key : String Global). bytes_eq q (string_bytes key)) entries) ≡ at
    → is_name_collected (resolved_export_views entries) q ≡ at
had_name q entries at is = sym (collected_is entries q) ∙ is

-- one more chain of a known name, if candidates are stored and the name comes along an `export *`
pub with_other_trace : (re_exports : List (ModuleId × List ℕ)) (export : ResolvedExport) (entries : List NameEntry) (keeps : Bool) (lists after : List
    (List ExportChain)) (unresolved : List (ModuleId × List ℕ)) (q : List ℕ) (cursor : ℕ) (first path : ExportChain)
    → (bytes_eq q default_export_name && has_star_statements re_exports) ≡ false → keeps ≡ true
    → Some cursor ≡ position (λ (key : String Global). bytes_eq q (string_bytes key)) (keys_of entries)
    → lookup (λ (key : String Global). bytes_eq q (string_bytes key)) entries ≡ Some first → is_along_stars (resolved_chain_view q first) ≡ true
    → after ≡ chain_lists_with_later_chain cursor path lists → statements_of_chain path ≡ re_exports → resolved_export path ≡ export
    → walk_view entries keeps after unresolved
    ≡ walk_with_exports_of_module re_exports export.«module» ((q, export.symbol_id) ∷ []) (walk_view entries keeps lists unresolved)
with_other_trace re_exports export entries keeps lists after unresolved q cursor first path passes retained at has first_along put along ends =
    let had : is_name_collected (resolved_export_views entries) q ≡ true = had_name q entries true (ap is_some has) in
    let view : resolved_chain_view q path ≡ record { name = q; statements = re_exports; export = export } =
    (λ i. record { name = q; statements = along i; export = ends i }) in
    let groups : groups_of_first_and_later_chains entries after ≡ groups_with_exporter name_of_resolved_export is_along_stars
    (groups_of_first_and_later_chains entries lists)
    (record { name = q; statements = re_exports; export = export }) =
    ap (groups_of_first_and_later_chains entries) put ∙ (push_under q path first entries lists cursor at has first_along
    ∙ ap (groups_with_exporter name_of_resolved_export is_along_stars (groups_of_first_and_later_chains entries lists)) view) in
    λ i. record {
      keeps = keeps;
      collected = record {
        names = with_old_name re_exports export.«module» (resolved_export_views entries) (q, export.symbol_id) passes had i;
        candidates = by keeps retained groups i;
        unresolved = unresolved;
      };
    }
  where
    by : (b : Bool) → b ≡ true → groups_of_first_and_later_chains entries after ≡ groups_with_exporter name_of_resolved_export is_along_stars
        (groups_of_first_and_later_chains entries lists) (record {
          name = q;
          statements = re_exports;
          export = export;
        }) → (if b then groups_of_first_and_later_chains entries after else [])
        ≡ (if b then groups_with_exporters (if b then groups_of_first_and_later_chains entries lists
        else []) (candidates_along_chain re_exports export.«module» ((q, export.symbol_id) ∷ []))
        else (if b then groups_of_first_and_later_chains entries lists else []))
    by true is groups = rw passes groups
    by false is groups = absurd (true≢false (sym is))

-- a known name without one more chain: candidates aren't stored, or the name doesn't come along an `export *`
pub without_other_trace : (re_exports : List (ModuleId × List ℕ)) (export : ResolvedExport) (entries : List NameEntry) (keeps : Bool) (lists : List
    (List ExportChain)) (unresolved : List (ModuleId × List ℕ)) (q : List ℕ) (first : ExportChain)
    → (bytes_eq q default_export_name && has_star_statements re_exports) ≡ false
    → lookup (λ (key : String Global). bytes_eq q (string_bytes key)) entries ≡ Some first → (keeps && is_along_stars (resolved_chain_view q first)) ≡ false
    → walk_view entries keeps lists unresolved
    ≡ walk_with_exports_of_module re_exports export.«module» ((q, export.symbol_id) ∷ []) (walk_view entries keeps lists unresolved)
without_other_trace re_exports export entries keeps lists unresolved q first passes has not_retained =
    let had : is_name_collected (resolved_export_views entries) q ≡ true = had_name q entries true (ap is_some has) in
    λ i. record {
      keeps = keeps;
      collected = record {
        names = with_old_name re_exports export.«module» (resolved_export_views entries) (q, export.symbol_id) passes had i;
        candidates = by keeps not_retained i;
        unresolved = unresolved;
      };
    }
  where
    stays : is_along_stars (resolved_chain_view q first) ≡ false → groups_of_first_and_later_chains entries lists
        ≡ groups_with_exporter name_of_resolved_export is_along_stars (groups_of_first_and_later_chains entries lists)
        (record { name = q; statements = re_exports; export = export })
    stays explicit = explicit_stays q re_exports export first explicit entries lists has

    by : (b : Bool) → (b && is_along_stars (resolved_chain_view q first)) ≡ false → (if b then groups_of_first_and_later_chains entries lists else [])
        ≡ (if b then groups_with_exporters (if b then groups_of_first_and_later_chains entries lists
        else []) (candidates_along_chain re_exports export.«module» ((q, export.symbol_id) ∷ []))
        else (if b then groups_of_first_and_later_chains entries lists else []))
    by true is = rw passes (stays is)
    by false is = refl

-- the first chain of a name
pub with_first_trace : (re_exports : List (ModuleId × List ℕ)) (export : ResolvedExport) (entries after : List NameEntry) (keeps : Bool) (lists : List
    (List ExportChain)) (unresolved : List (ModuleId × List ℕ)) (q : List ℕ) (key : String Global) (path : ExportChain)
    → (bytes_eq q default_export_name && has_star_statements re_exports) ≡ false
    → is_some (lookup (λ (key : String Global). bytes_eq q (string_bytes key)) entries) ≡ false
    → length lists ≤ length entries → after ≡ insert_entry (λ a b. bytes_eq (string_bytes a) (string_bytes b)) entries key path → string_bytes key ≡ q
    → statements_of_chain path ≡ re_exports → resolved_export path ≡ export
    → walk_view after keeps lists unresolved
    ≡ walk_with_exports_of_module re_exports export.«module» ((q, export.symbol_id) ∷ []) (walk_view entries keeps lists unresolved)
with_first_trace re_exports export entries after keeps lists unresolved q key path passes lacks few inserted called along ends =
    let new : is_name_collected (resolved_export_views entries) q ≡ false = had_name q entries false lacks in
    let view : resolved_chain_view q path ≡ record { name = q; statements = re_exports; export = export } =
    (λ i. record { name = q; statements = along i; export = ends i }) in
    let groups : groups_of_first_and_later_chains after lists ≡ groups_with_exporter name_of_resolved_export is_along_stars
    (groups_of_first_and_later_chains entries lists)
    (record { name = q; statements = re_exports; export = export }) =
    ap (λ es. groups_of_first_and_later_chains es lists) inserted
    ∙ (put_new q path entries lists key few lacks called ∙ ap (groups_with_exporter name_of_resolved_export is_along_stars
    (groups_of_first_and_later_chains entries lists)) view) in λ i. record {
      keeps = keeps;
      collected = record {
        names = with_new_name re_exports export entries after key path q inserted passes new called along ends i;
        candidates = by keeps groups i;
        unresolved = unresolved;
      };
    }
  where
    by : (b : Bool)
        → groups_of_first_and_later_chains after lists ≡ groups_with_exporter name_of_resolved_export is_along_stars
        (groups_of_first_and_later_chains entries lists) (record { name = q; statements = re_exports; export = export })
        → (if b then groups_of_first_and_later_chains after lists else [])
        ≡ (if b then groups_with_exporters (if b then groups_of_first_and_later_chains entries lists
        else []) (candidates_along_chain re_exports export.«module» ((q, export.symbol_id) ∷ []))
        else (if b then groups_of_first_and_later_chains entries lists else []))
    by true groups = rw passes groups
    by false groups = refl
