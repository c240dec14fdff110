-- The candidates of the visited modules, as a walk stores them by number.
use Rattle.std.proofs.Common.{◌≡◌, ℕ, suc, ◌<◌, length, arith, Bool, true, false, ◌&&◌, not, List}
use Rattle.std.proofs.Common.{[], ◌∷◌, ◌++◌, map, append-nil, refl, sym, ap, ◌∙◌, append_assoc}
use Rattle.std.specs.Prelude.{if◌then◌else◌, filter}
use Rattle.std.specs.Str.{bytes_eq}
use Rattle.std.proofs.lemmas.List.{map-append}
use Rattle.symbols_ast.specs.declared.ids.ModuleId.{ModuleId}
use Rattle.symbols_ast.specs.declared.ids.SymbolId.{SymbolId}
use Rattle.symbols_ast.specs.Graph.{GraphView}
use Rattle.symbols_table.specs.Events.{default_export_name}
use Rattle.symbols_root.specs.Roots.{RootView, specifier_in}
use Rattle.symbols_exports.specs.Exports.{ExplicitExports, ExportEntry}
use Rattle.symbols_exports.specs.SharedNames.{NameWithExporters}
use Rattle.symbols_exports.specs.SharedNameLists.{export_candidates_along_chains}
use Rattle.symbols_root.specs.declared.rules.Rules.{Rules}
use Rattle.symbols_root.specs.declared.rules.Rules.TheVariants.{Deno, Strict}
use Rattle.symbols_exports.specs.StarStatements.{explicit_exports_of}
use Rattle.symbols_exports.specs.CollectedNames.{ResolvedExportView}
use Rattle.symbols_exports.specs.inner.Collecting.{CollectedView, CollectedExportsView, has_star_statements, candidate_along_chain, candidates_along_chain}
use Rattle.symbols_exports.specs.inner.Collecting.{groups_with_exporter, groups_with_exporters, names_with_exports, walk_with_exports_of_module}
use Rattle.symbols_exports.specs.inner.Collecting.{name_of_resolved_export, is_along_stars}
use Rattle.symbols_exports.specs.inner.NameFilter.{accepted_exports_of, collects_shared}
use Rattle.symbols_exports.specs.declared.name_filter.NameFilter.{NameFilter}
use Rattle.symbols_exports.specs.declared.name_filter.NameFilter.TheVariants.{AllNames, OneName}
use Rattle.symbols_exports.specs.ExportViews.{chain_statements, export_view_of_entry, star_statement_by_specifier, export_by_specifier}
use Rattle.symbols_exports.specs.ExportViews.{AreReferrersOfStarsStored}
use Rattle.symbols_exports.specs.ExportViews.{AreModulesOfExportsStored}
use Rattle.symbols_exports.specs.Traces.{is_re_exported_along_chain, export_candidates_along_chain}
use Rattle.symbols_exports.proofs.Cursors.{Visit}
use Rattle.symbols_exports.proofs.ExportViewLemmas.{names_push, no_names_numbered}

-- the candidates of the visited modules, if candidates are stored
abbrev pub candidates_visited : Bool → ExplicitExports → List Visit → List ExportEntry
candidates_visited keeps explicit visited = if keeps then export_candidates_along_chains explicit visited else []

abbrev pub candidates_now : Bool → List (ModuleId × List ℕ) → ModuleId → List (List ℕ × SymbolId) → List ResolvedExportView
candidates_now keeps re_exports exporter exported = if keeps then candidates_along_chain re_exports exporter exported else []

-- ---- one more module

candidates_push : (explicit : ExplicitExports) (visited : List Visit) (now : Visit)
    → export_candidates_along_chains explicit (visited ++ now ∷ []) ≡ export_candidates_along_chains explicit visited
    ++ export_candidates_along_chain now.0 now.1 (explicit now.1)
candidates_push explicit [] now = append-nil (export_candidates_along_chain now.0 now.1 (explicit now.1))
candidates_push explicit (m ∷ visited) now = ap (λ rest. export_candidates_along_chain m.0 m.1 (explicit m.1) ++ rest) (candidates_push explicit visited now)
    ∙ sym (append_assoc (export_candidates_along_chain m.0 m.1 (explicit m.1)) (export_candidates_along_chains explicit visited)
    (export_candidates_along_chain now.0 now.1 (explicit now.1)))

module _ (graph : GraphView) (root : RootView) (start : List ℕ) (now : Visit) (re_exports : List (ModuleId × List ℕ)) (exporter : ModuleId)
    (along : chain_statements graph start now.0 ≡ map (star_statement_by_specifier root) re_exports) (at_end : now.1 ≡ specifier_in root exporter) where
  passed_alike : (exported : List ℕ × SymbolId) → is_re_exported_along_chain now.0 exported ≡ not (bytes_eq exported.0 default_export_name
      && has_star_statements re_exports)
  passed_alike exported = by now.0 re_exports along (bytes_eq exported.0 default_export_name) refl
    where
      by : (chain : List ℕ) (w : List (ModuleId × List ℕ)) → chain_statements graph start chain ≡ map (star_statement_by_specifier root) w → (b : Bool)
          → bytes_eq exported.0 default_export_name ≡ b → is_re_exported_along_chain chain exported ≡ not (bytes_eq exported.0 default_export_name
          && has_star_statements w)
      by [] [] same true is = rw is refl
      by [] [] same false is = rw is refl
      by [] (s ∷ w) same b is = absurd cc
      by (k ∷ chain) [] same b is = absurd cc
      by (k ∷ chain) (s ∷ w) same true is = rw is refl
      by (k ∷ chain) (s ∷ w) same false is = rw is refl

  one_viewed : (exported : List ℕ × SymbolId)
      → export_view_of_entry graph start (record { name = exported.0; chain = now.0; exporter = now.1; symbol = exported.1 })
      ≡ export_by_specifier root (candidate_along_chain re_exports exporter exported)
  one_viewed exported = λ i. record { name = exported.0; statements = along i; exporter = at_end i; symbol = exported.1 }

  candidate_viewed : (exported : List (List ℕ × SymbolId))
      → map (export_view_of_entry graph start) (export_candidates_along_chain now.0 now.1 exported) ≡ map (export_by_specifier root)
      (candidates_along_chain re_exports exporter exported)
  candidate_viewed [] = refl
  candidate_viewed (x ∷ exported) = by (is_re_exported_along_chain now.0 x) (not (bytes_eq x.0 default_export_name && has_star_statements re_exports))
      (passed_alike x)
      (candidate_viewed exported)
    where
      by : (b c : Bool) → b ≡ c → map (export_view_of_entry graph start) (export_candidates_along_chain now.0 now.1 exported)
          ≡ map (export_by_specifier root) (candidates_along_chain re_exports exporter exported)
          → map (export_view_of_entry graph start) (map (λ (y : List ℕ × SymbolId). record { name = y.0; chain = now.0; exporter = now.1; symbol = y.1 }) (if b
          then x ∷ filter (is_re_exported_along_chain now.0) exported else filter (is_re_exported_along_chain now.0) exported))
          ≡ map (export_by_specifier root) (map (candidate_along_chain re_exports exporter) (if c then x ∷ filter (λ (y : List ℕ × SymbolId).
          not (bytes_eq y.0 default_export_name && has_star_statements re_exports)) exported
          else filter (λ (y : List ℕ × SymbolId). not (bytes_eq y.0 default_export_name && has_star_statements re_exports)) exported))
      by true true same rest = λ i. one_viewed x i ∷ rest i
      by true false same rest = absurd cc
      by false true same rest = absurd cc
      by false false same rest = rest

  -- with the module's candidates both lists have the same views
  pub candidates_more : (keeps : Bool) (explicit : ExplicitExports) (visited : List Visit) (candidate : List ResolvedExportView)
      → map (export_view_of_entry graph start) (candidates_visited keeps explicit visited) ≡ map (export_by_specifier root) candidate
      → map (export_view_of_entry graph start) (candidates_visited keeps explicit (visited ++ now ∷ []))
      ≡ map (export_by_specifier root) (candidate ++ candidates_now keeps re_exports exporter (explicit now.1))
  candidates_more false explicit visited candidate viewed = viewed ∙ ap (map (export_by_specifier root)) (sym (append-nil candidate))
  candidates_more true explicit visited candidate viewed =
      ap (map (export_view_of_entry graph start)) (candidates_push explicit visited now)
      ∙ (map-append (export_view_of_entry graph start) (export_candidates_along_chains explicit visited) (export_candidates_along_chain now.0 now.1
      (explicit now.1))
      ∙ ((λ i. viewed i ++ candidate_viewed (explicit now.1) i)
      ∙ sym (map-append (export_by_specifier root) candidate (candidates_along_chain re_exports exporter (explicit now.1)))))

-- ---- by names

-- collecting the first local export, then the remaining ones, collects all
pub explicit_first : (re_exports : List (ModuleId × List ℕ)) (exporter : ModuleId) (walk after : CollectedExportsView) (x : List ℕ × SymbolId)
    (exported : List (List ℕ
    × SymbolId)) (all : CollectedExportsView) → after ≡ walk_with_exports_of_module re_exports exporter (x ∷ []) walk
    → walk_with_exports_of_module re_exports exporter (x ∷ exported) walk ≡ all
    → walk_with_exports_of_module re_exports exporter exported after ≡ all
explicit_first re_exports exporter walk after x exported all collected are = ap (walk_with_exports_of_module re_exports exporter exported) collected
    ∙ ((λ i. record {
      keeps = walk.keeps;
      collected = record {
        names = names_with_exports re_exports exporter (x ∷ exported) walk.collected.names;
        candidates = by walk.keeps (not (bytes_eq x.0 default_export_name && has_star_statements re_exports)) i;
        unresolved = walk.collected.unresolved;
      };
    }) ∙ are)
  where
    passed : List (List ℕ × SymbolId) → List (List ℕ × SymbolId)
    passed exported = filter (λ (y : List ℕ × SymbolId). not (bytes_eq y.0 default_export_name && has_star_statements re_exports)) exported

    by : (keeps passes : Bool)
        → (if keeps then groups_with_exporters (if keeps then groups_with_exporters walk.collected.candidates
        (map (candidate_along_chain re_exports exporter) (if passes
        then x ∷ [] else [])) else walk.collected.candidates) (map (candidate_along_chain re_exports exporter) (passed exported))
        else (if keeps then groups_with_exporters walk.collected.candidates (map (candidate_along_chain re_exports exporter) (if passes then x ∷ [] else []))
        else walk.collected.candidates)) ≡ (if keeps then groups_with_exporters walk.collected.candidates
        (map (candidate_along_chain re_exports exporter) (if passes
        then x ∷ passed exported else passed exported)) else walk.collected.candidates)
    by true true = refl
    by true false = refl
    by false passes = refl

-- collecting no local exports changes nothing
pub nothing_explicit : (re_exports : List (ModuleId × List ℕ)) (exporter : ModuleId) (walk : CollectedExportsView)
    → walk_with_exports_of_module re_exports exporter [] walk ≡ walk
nothing_explicit re_exports exporter walk = λ i.
    record { keeps = walk.keeps; collected = record { names = walk.collected.names; candidates = by walk.keeps i; unresolved = walk.collected.unresolved } }
  where
    by : (keeps : Bool) → (if keeps then walk.collected.candidates else walk.collected.candidates) ≡ walk.collected.candidates
    by true = refl
    by false = refl

-- collecting the local exports of a module, one after the other
pub ruleset explicit_in_order = (explicit_first, nothing_explicit)

-- the candidates of a module along a chain, if the filter and the rules store candidates
abbrev pub candidates_for : NameFilter → RootView → List (ModuleId × List ℕ) → ModuleId → List ResolvedExportView
candidates_for name_filter root re_exports exporter =
    if collects_shared name_filter root.rules then candidates_along_chain re_exports exporter (explicit_exports_of root.graph (specifier_in root exporter))
    else []

abbrev pub graph_with_put_module : NameFilter → RootView → List (ModuleId × List ℕ) → ModuleId → CollectedView → CollectedView
graph_with_put_module name_filter root re_exports exporter collected = record {
  names = names_with_exports re_exports exporter (accepted_exports_of name_filter root.graph (specifier_in root exporter)) collected.names;
  candidates = groups_with_exporters collected.candidates (candidates_for name_filter root re_exports exporter);
  unresolved = collected.unresolved;
}

pub module_explicit : (name_filter : NameFilter) (root : RootView) (re_exports : List (ModuleId × List ℕ)) (exporter : ModuleId) (walk : CollectedExportsView)
    → walk.keeps
    ≡ collects_shared name_filter root.rules
    → (walk_with_exports_of_module re_exports exporter (accepted_exports_of name_filter root.graph (specifier_in root exporter))
    walk).collected ≡ graph_with_put_module name_filter root re_exports exporter walk.collected
module_explicit name_filter root re_exports exporter walk keeps =
    λ i. record {
      names = names_with_exports re_exports exporter (accepted_exports_of name_filter root.graph (specifier_in root exporter)) walk.collected.names;
      candidates =
          (ap (λ b. if b then groups_with_exporters walk.collected.candidates
          (candidates_along_chain re_exports exporter (accepted_exports_of name_filter root.graph
          (specifier_in root exporter))) else walk.collected.candidates) keeps ∙ by name_filter root.rules) i;
      unresolved = walk.collected.unresolved;
    }
  where
    by : (w : NameFilter) (rules : Rules) → (if collects_shared w rules then groups_with_exporters walk.collected.candidates
        (candidates_along_chain re_exports exporter
        (accepted_exports_of w root.graph (specifier_in root exporter))) else walk.collected.candidates) ≡ groups_with_exporters walk.collected.candidates
        (if collects_shared w rules then candidates_along_chain re_exports exporter (explicit_exports_of root.graph (specifier_in root exporter)) else [])
    by AllNames Strict = refl
    by AllNames Deno = refl
    by (OneName name) rules = refl

pub exporters_after : (groups : List (NameWithExporters ResolvedExportView)) (candidate more : List ResolvedExportView)
    → groups_with_exporters groups (candidate ++ more) ≡ groups_with_exporters (groups_with_exporters groups candidate) more
exporters_after groups [] more = refl
exporters_after groups (x ∷ candidate) more = exporters_after (groups_with_exporter name_of_resolved_export is_along_stars groups x) candidate more

-- ---- numbers of stored modules

pub names_both : (root : RootView) (names more : List ResolvedExportView) → AreModulesOfExportsStored root names → AreModulesOfExportsStored root more
    → AreModulesOfExportsStored root (names ++ more)
names_both root names [] are also = rw (append-nil names) are
names_both root names (x ∷ more) are also =
    by (names_both root (names ++ x ∷ []) more (names_push root names x are (also 0 x (omega arith))) (λ i d within. also (suc i) d (omega (arith, within))))
  where
    by : AreModulesOfExportsStored root ((names ++ x ∷ []) ++ more) → AreModulesOfExportsStored root (names ++ x ∷ more)
    by all = rw (append_assoc names (x ∷ []) more) at all

pub candidates_numbered : (root : RootView) (keeps : Bool) (re_exports : List (ModuleId × List ℕ)) (exporter : ModuleId) (exported : List (List ℕ × SymbolId))
    → AreReferrersOfStarsStored root re_exports → exporter.0 < length root.stored → AreModulesOfExportsStored root
    (candidates_now keeps re_exports exporter exported)
candidates_numbered root false re_exports exporter exported trace_in exporter_in = no_names_numbered root
candidates_numbered root true re_exports exporter [] trace_in exporter_in = no_names_numbered root
candidates_numbered root true re_exports exporter (x ∷ exported) trace_in exporter_in =
    by (not (bytes_eq x.0 default_export_name && has_star_statements re_exports))
    (candidates_numbered root true re_exports exporter exported trace_in exporter_in)
  where
    by : (b : Bool) → AreModulesOfExportsStored root (candidates_along_chain re_exports exporter exported)
        → AreModulesOfExportsStored root (map (candidate_along_chain re_exports exporter) (if b
        then x ∷ filter (λ (y : List ℕ × SymbolId). not (bytes_eq y.0 default_export_name && has_star_statements re_exports)) exported
        else filter (λ (y : List ℕ × SymbolId). not (bytes_eq y.0 default_export_name && has_star_statements re_exports)) exported))
    by true rest = names_both root (candidate_along_chain re_exports exporter x ∷ []) (candidates_along_chain re_exports exporter exported) (names_push root []
        (candidate_along_chain re_exports exporter x) (no_names_numbered root) (record { statements_are_stored = trace_in; export_is_stored = exporter_in }))
        rest
    by false rest = rest
