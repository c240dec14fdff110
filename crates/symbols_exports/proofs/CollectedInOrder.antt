-- Collecting the names of a module one after the other finds the first entry of each name.
use Rattle.std.proofs.Common.{◌≡◌, ℕ, suc, ◌+◌, Bool, true, false, ◌||◌, ◌&&◌, List, [], ◌∷◌, ◌++◌}
use Rattle.std.proofs.Common.{length, map, slice_get, Some, refl, sym, ap, subst, ◌∙◌, arith, true≢false}
use Rattle.std.specs.Prelude.{Contains, if◌then◌else◌}
use Rattle.std.specs.List.{list_any}
use Rattle.std.specs.Str.{bytes_eq}
use Rattle.std.proofs.lemmas.List.{map-append}
use Rattle.std.proofs.lemmas.List.Folds.{Any-from_list_any, list_any_at}
use Rattle.std.proofs.lemmas.Slice.Eq.{bytes_eq-Decides}
use Rattle.symbols_ast.specs.declared.ids.ModuleId.{ModuleId}
use Rattle.symbols_ast.specs.declared.ids.SymbolId.{SymbolId}
use Rattle.symbols_ast.specs.Graph.{GraphView}
use Rattle.symbols_table.specs.Events.{default_export_name}
use Rattle.symbols_root.specs.Roots.{RootView, specifier_in}
use Rattle.symbols_exports.specs.Chains.{IsChainBefore}
use Rattle.symbols_exports.specs.Exports.{ExplicitExports, ExportEntry}
use Rattle.symbols_exports.specs.CollectedNames.{ResolvedExportView}
use Rattle.symbols_exports.specs.inner.Collecting.{is_name_collected, has_star_statements, names_with_export, names_with_exports}
use Rattle.symbols_exports.specs.ExportViews.{ExportView, chain_statements, export_view_of_entry, star_statement_by_specifier, export_by_specifier}
use Rattle.symbols_exports.proofs.Cursors.{Visit}
use Rattle.symbols_exports.proofs.FirstOfEachName.{AreFound, name_passed_over, name_added}

has_viewed : List ExportView → List ℕ → Bool
has_viewed viewed q = list_any (λ (t : ExportView). bytes_eq q t.name) viewed

-- names and entries with the same views have the same names
module _ (graph : GraphView) (root : RootView) (start : List ℕ) where
  names_viewed : (names : List ResolvedExportView) (q : List ℕ)
      → is_name_collected names q ≡ list_any (λ (t : ExportView). bytes_eq q t.name) (map (export_by_specifier root) names)
  names_viewed [] q = refl
  names_viewed (name ∷ names) q = ap (λ b. bytes_eq q name.name || b) (names_viewed names q)

  entries_viewed : (found : List ExportEntry) (q : List ℕ) → list_any (λ (t : ExportView). bytes_eq q t.name) (map (export_view_of_entry graph start) found)
      ≡ list_any (λ (entry : ExportEntry). bytes_eq q entry.name) found
  entries_viewed [] q = refl
  entries_viewed (entry ∷ found) q = ap (λ b. bytes_eq q entry.name || b) (entries_viewed found q)

  module _ (names : List ResolvedExportView) (found : List ExportEntry)
      (alike : map (export_view_of_entry graph start) found ≡ map (export_by_specifier root) names) (q : List ℕ)
    where
      tested : is_name_collected names q ≡ list_any (λ (entry : ExportEntry). bytes_eq q entry.name) found
      tested = names_viewed names q ∙ (ap (list_any (λ (t : ExportView). bytes_eq q t.name)) (sym alike) ∙ entries_viewed found q)

      pub found_named : is_name_collected names q ≡ true → (first : ExportEntry) × Contains found first × (first.name ≡ q)
      found_named has =
          let any = Any-from_list_any (λ (entry : ExportEntry). bytes_eq q entry.name) found (sym tested ∙ has) in
          (any.1, (any.0, any.2, any.3), sym ((bytes_eq-Decides q any.1.name).0 any.4))

      pub none_named : is_name_collected names q ≡ false → (first : ExportEntry) → Contains found first → first.name ≡ q → ⊥
      none_named lacks first at same =
          let test : bytes_eq q first.name ≡ true = (bytes_eq-Decides q first.name).1 (sym same) in
          let any = list_any_at (λ (entry : ExportEntry). bytes_eq q entry.name) found at.0 first at.1 (rw at.2 test) in
          true≢false (sym any ∙ (sym tested ∙ lacks))

-- ---- one name, and all of a module

abbrev AreNamed : GraphView → RootView → List ℕ → List ExportEntry → List ResolvedExportView → Type 0
AreNamed graph root start found names = map (export_view_of_entry graph start) found ≡ map (export_by_specifier root) names

module _ (graph : GraphView) (root : RootView) (start : List ℕ) (explicit : ExplicitExports) (visited : List Visit) (now : Visit) (following : (c u : List ℕ)
    → Contains visited (c, u) → IsChainBefore c now.0) (re_exports : List (ModuleId × List ℕ)) (exporter : ModuleId) (along : chain_statements graph start now.0
    ≡ map (star_statement_by_specifier root) re_exports) (at_end : now.1 ≡ specifier_in root exporter) where
  no_trace : has_star_statements re_exports ≡ false → now.0 ≡ []
  no_trace none = by now.0 re_exports along none
    where
      by : (chain : List ℕ) (w : List (ModuleId × List ℕ)) → chain_statements graph start chain ≡ map (star_statement_by_specifier root) w
          → has_star_statements w ≡ false
          → chain ≡ []
      by [] w same empty = refl
      by (k ∷ chain) [] same empty = absurd cc
      by (k ∷ chain) (s ∷ w) same empty = absurd (true≢false empty)

  a_trace : has_star_statements re_exports ≡ true → now.0 ≡ [] → ⊥
  a_trace some nothing = by now.0 re_exports along some nothing
    where
      by : (chain : List ℕ) (w : List (ModuleId × List ℕ)) → chain_statements graph start chain ≡ map (star_statement_by_specifier root) w
          → has_star_statements w ≡ true
          → chain ≡ [] → ⊥
      by [] [] same has empty = true≢false (sym has)
      by [] (s ∷ w) same has empty = cc
      by (k ∷ chain) w same has empty = cc

  abbrev pub CollectedExports : ℕ → List ResolvedExportView → Type 0
  CollectedExports k names = (found : List ExportEntry) × AreFound explicit visited now k found × AreNamed graph root start found names

  one_collected : (k : ℕ) (names : List ResolvedExportView) (exported : List ℕ × SymbolId) → slice_get (explicit now.1) k ≡ Some exported
      → CollectedExports k names
      → CollectedExports (k + 1) (names_with_export re_exports exporter names exported)
  one_collected k names exported at_k collected = by (bytes_eq exported.0 default_export_name && has_star_statements re_exports)
      (is_name_collected names exported.0) refl refl
    where
      this : ExportEntry
      this = record { name = exported.0; chain = now.0; exporter = now.1; symbol = exported.1 }

      after_default : (bytes_eq exported.0 default_export_name && has_star_statements re_exports) ≡ true → (exported.0 ≡ default_export_name → now.0 ≡ [])
          → (first : ExportEntry) × Contains collected.0 first × (first.name ≡ exported.0)
      after_default stays passes = split (bytes_eq exported.0 default_export_name) refl stays
        where
          split : (b : Bool) → bytes_eq exported.0 default_export_name ≡ b → (b && has_star_statements re_exports) ≡ true
              → (first : ExportEntry) × Contains collected.0 first × (first.name ≡ exported.0)
          split true is has = absurd (a_trace has (passes ((bytes_eq-Decides exported.0 default_export_name).0 is)))
          split false is has = absurd (true≢false (sym has))

      passes_on : (bytes_eq exported.0 default_export_name && has_star_statements re_exports) ≡ false → exported.0 ≡ default_export_name → now.0 ≡ []
      passes_on goes is = no_trace (rw ((bytes_eq-Decides exported.0 default_export_name).1 is) at goes)

      by : (stays had : Bool) → (bytes_eq exported.0 default_export_name && has_star_statements re_exports) ≡ stays → is_name_collected names exported.0 ≡ had
          → CollectedExports (k + 1) (if stays || had then names
          else names ++ record { name = exported.0; statements = re_exports; export = record { «module» = exporter; symbol_id = exported.1 } } ∷ [])
      by true had stays has =
          (collected.0, name_passed_over explicit visited now k collected.0 following collected.1 exported.0 exported.1 at_k (after_default stays), collected.2)
      by false true goes has = (
        collected.0,
        name_passed_over explicit visited now k collected.0 following collected.1 exported.0 exported.1 at_k
            (λ passes. found_named graph root start names collected.0 collected.2 exported.0 has),
        collected.2,
      )
      by false false goes lacks = (
        collected.0 ++ record { name = exported.0; chain = now.0; exporter = now.1; symbol = exported.1 } ∷ [],
        name_added explicit visited now k collected.0 following collected.1 exported.0 exported.1 at_k (passes_on goes)
            (none_named graph root start names collected.0 collected.2 exported.0 lacks),
        map-append (export_view_of_entry graph start) collected.0 (record { name = exported.0; chain = now.0; exporter = now.1; symbol = exported.1 } ∷ [])
            ∙ (viewed_too ∙ sym (map-append (export_by_specifier root) names
            (record { name = exported.0; statements = re_exports; export = record { «module» = exporter; symbol_id = exported.1 } } ∷ []))),
      )
        where
          viewed_too : map (export_view_of_entry graph start) collected.0 ++ record {
            name = exported.0;
            statements = chain_statements graph start now.0;
            exporter = now.1;
            symbol = exported.1;
          } ∷ [] ≡ map (export_by_specifier root) names ++ record {
            name = exported.0;
            statements = map (star_statement_by_specifier root) re_exports;
            exporter = specifier_in root exporter;
            symbol = exported.1;
          } ∷ []
          viewed_too = rw (collected.2, along, at_end) refl

  -- the remaining local exports
  pub all_collected : (exported : List (List ℕ × SymbolId)) (k : ℕ) (names : List ResolvedExportView)
      → ((j : ℕ) (x : List ℕ × SymbolId) → slice_get exported j ≡ Some x
      → slice_get (explicit now.1) (k + j) ≡ Some x) → CollectedExports k names
      → CollectedExports (k + length exported) (names_with_exports re_exports exporter exported names)
  all_collected [] k names are collected = let same : k ≡ k + 0 = omega arith in subst (λ n. CollectedExports n names) same collected
  all_collected (x ∷ exported) k names are collected =
      let first : slice_get (explicit now.1) k ≡ Some x = let same : k + 0 ≡ k = omega arith in
      subst (λ n. slice_get (explicit now.1) n ≡ Some x) same (are 0 x refl) in
      let counted : (k + 1) + length exported ≡ k + suc (length exported) = omega arith in
      subst (λ n. CollectedExports n (names_with_exports re_exports exporter exported (names_with_export re_exports exporter names x))) counted
      (all_collected exported (k + 1)
      (names_with_export re_exports exporter names x) (λ j y at. let same : k + suc j
      ≡ (k + 1) + j = omega arith in subst (λ n. slice_get (explicit now.1) n ≡ Some y) same (are (suc j) y at)) (one_collected k names x first collected))
