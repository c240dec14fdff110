-- The views of chains and names, as chains grow and a root stores more.
use Rattle.std.proofs.Common.{◌≡◌, ℕ, ◌<◌, inl, inr, Bool, true, false, ◌||◌, List, [], ◌∷◌, ◌++◌, length}
use Rattle.std.proofs.Common.{map, get_or, option_and_then, Option, None, Some, refl, sym, ap, ◌∙◌, arith}
use Rattle.std.specs.Prelude.{if◌then◌else◌, ◌&&◌, unwrap_or}
use Rattle.std.specs.Str.{bytes_eq}
use Rattle.std.proofs.lemmas.List.{same_from_push, get_or_append_left, get_or_push}
use Rattle.std.proofs.lemmas.Option.{same_Some}
use Rattle.symbols_ast.specs.declared.ids.ModuleId.{ModuleId}
use Rattle.symbols_ast.specs.declared.ids.SymbolId.{SymbolId}
use Rattle.symbols_ast.specs.Graph.{GraphView}
use Rattle.symbols_table.specs.Events.{default_export_name}
use Rattle.symbols_root.specs.Roots.{RootView, root_with_stored_module}
use Rattle.symbols_exports.specs.Chains.{star_target_at, chain_end_module}
use Rattle.symbols_exports.specs.StarStatements.{star_targets_of}
use Rattle.symbols_exports.specs.CollectedNames.{ResolvedExportView}
use Rattle.symbols_exports.specs.inner.Collecting.{is_name_collected, has_star_statements, names_with_export, names_with_exports}
use Rattle.symbols_exports.specs.ExportViews.{StarStatementView, star_statement_view, chain_statements, star_statement_by_specifier}
use Rattle.symbols_exports.specs.ExportViews.{export_by_specifier, AreReferrersOfStarsStored, AreModulesOfExportStored, AreModulesOfExportsStored}
use Rattle.symbols_exports.proofs.IdsInGrownRoots.{number_retained, still_within, same_under}
use Rattle.symbols_exports.proofs.SortedLists.{short_or_last}

-- the view of a chain with one more statement
pub viewed_push : (graph : GraphView) (start end : List ℕ) (chain : List ℕ) (k : ℕ) → chain_end_module (star_targets_of graph) start chain ≡ Some end
    → chain_statements graph start (chain ++ k ∷ []) ≡ chain_statements graph start chain ++ star_statement_view graph (end, k) ∷ []
viewed_push graph start end [] k ends_at = rw (same_Some start end ends_at) refl
viewed_push graph start end (i ∷ chain) k ends_at =
    by (star_target_at (star_targets_of graph) start i) ends_at (λ v later. viewed_push graph v end chain k later)
  where
    by : (next : Option (List ℕ)) → option_and_then (λ v. chain_end_module (star_targets_of graph) v chain) next ≡ Some end
        → ((v : List ℕ) → chain_end_module (star_targets_of graph) v chain ≡ Some end
        → chain_statements graph v (chain ++ k ∷ []) ≡ chain_statements graph v chain ++ star_statement_view graph (end, k) ∷ [])
        → star_statement_view graph (start, i) ∷ chain_statements graph (unwrap_or next []) (chain ++ k ∷ [])
        ≡ (star_statement_view graph (start, i) ∷ chain_statements graph (unwrap_or next []) chain) ++ star_statement_view graph (end, k) ∷ []
    by None none rest = absurd cc
    by (Some v) later rest = ap (λ viewed. star_statement_view graph (start, i) ∷ viewed) (rest v later)

-- the view of a chain without its last statement
pub viewed_pop : (graph : GraphView) (start end : List ℕ) (chain : List ℕ) (k : ℕ) (viewed : List StarStatementView) (last : StarStatementView)
    → chain_end_module (star_targets_of graph) start chain ≡ Some end → chain_statements graph start (chain ++ k ∷ []) ≡ viewed ++ last ∷ []
    → chain_statements graph start chain ≡ viewed
viewed_pop graph start end chain k viewed last ends_at same = (same_from_push (chain_statements graph start chain) viewed (star_statement_view graph (end, k))
    last (sym (viewed_push graph start end chain k ends_at) ∙ same)).0

-- ---- numbers of stored modules

pub none_numbered : (root : RootView) → AreReferrersOfStarsStored root []
none_numbered root i d within = absurd (omega (arith, within))

pub no_names_numbered : (root : RootView) → AreModulesOfExportsStored root []
no_names_numbered root i d within = absurd (omega (arith, within))

pub numbered_push : (root : RootView) (statements : List (ModuleId × List ℕ)) (statement : ModuleId × List ℕ) → AreReferrersOfStarsStored root statements
    → statement.0.0 < length root.stored → AreReferrersOfStarsStored root (statements ++ statement ∷ [])
numbered_push root statements statement are within i d i_in = elim (short_or_last statements statement i i_in) [
  | inl short ↦ rw (get_or_append_left statements (statement ∷ []) d i short) (are i d short)
  | inr last ↦ rw (get_or_push statements statement d i last) within
]

pub names_push : (root : RootView) (names : List ResolvedExportView) (name : ResolvedExportView) → AreModulesOfExportsStored root names
    → AreModulesOfExportStored root name
    → AreModulesOfExportsStored root (names ++ name ∷ [])
names_push root names name are is i d i_in = elim (short_or_last names name i i_in) [
  | inl short ↦ rw (get_or_append_left names (name ∷ []) d i short) (are i d short)
  | inr last ↦ rw (get_or_push names name d i last) is
]

-- collected names with numbers of stored modules
pub collected_numbered : (root : RootView) (re_exports : List (ModuleId × List ℕ)) (exporter : ModuleId) → AreReferrersOfStarsStored root re_exports
    → exporter.0
    < length root.stored → (exported : List (List ℕ × SymbolId)) (names : List ResolvedExportView) → AreModulesOfExportsStored root names
    → AreModulesOfExportsStored root (names_with_exports re_exports exporter exported names)
collected_numbered root re_exports exporter trace_in exporter_in [] names are = are
collected_numbered root re_exports exporter trace_in exporter_in (x ∷ exported) names are = collected_numbered root re_exports exporter trace_in exporter_in
    exported (names_with_export re_exports exporter names x)
    (by ((bytes_eq x.0 default_export_name && has_star_statements re_exports) || is_name_collected names x.0))
  where
    by : (b : Bool) → AreModulesOfExportsStored root (if b then names
        else names ++ record { name = x.0; statements = re_exports; export = record { «module» = exporter; symbol_id = x.1 } } ∷ [])
    by true = are
    by false = names_push root names (record { name = x.0; statements = re_exports; export = record { «module» = exporter; symbol_id = x.1 } }) are
        (record { statements_are_stored = trace_in; export_is_stored = exporter_in })

-- ---- the views stay the same in a root that stores more

module _ (root : RootView) (needed : Option (List ℕ)) where
  pub statements_retained : (statements : List (ModuleId × List ℕ)) → AreReferrersOfStarsStored root statements
      → map (star_statement_by_specifier (root_with_stored_module root needed)) statements ≡ map (star_statement_by_specifier root) statements
  statements_retained statements are = same_under (star_statement_by_specifier (root_with_stored_module root needed)) (star_statement_by_specifier root)
      (λ (statement : ModuleId × List ℕ).
      statement.0.0 < length root.stored) (λ statement within. ap (λ (specifier : List ℕ). let viewed : StarStatementView = (specifier, statement.1) in viewed)
      (number_retained root needed statement.0 within)) statements are

  pub names_retained : (names : List ResolvedExportView) → AreModulesOfExportsStored root names
      → map (export_by_specifier (root_with_stored_module root needed)) names ≡ map (export_by_specifier root) names
  names_retained names are = same_under (export_by_specifier (root_with_stored_module root needed)) (export_by_specifier root)
      (AreModulesOfExportStored root) one names are
    where
      one : (name : ResolvedExportView) → AreModulesOfExportStored root name → export_by_specifier (root_with_stored_module root needed) name
          ≡ export_by_specifier root name
      one name is = λ i. record {
        name = name.name;
        statements = statements_retained name.statements is.statements_are_stored i;
        exporter = number_retained root needed name.export.«module» is.export_is_stored i;
        symbol = name.export.symbol_id;
      }

  pub numbered_still : (statements : List (ModuleId × List ℕ)) → AreReferrersOfStarsStored root statements
      → AreReferrersOfStarsStored (root_with_stored_module root needed) statements
  numbered_still statements are i d within = still_within root needed (get_or statements i d).0.0 (are i d within)

  pub names_still : (names : List ResolvedExportView) → AreModulesOfExportsStored root names → AreModulesOfExportsStored (root_with_stored_module root needed)
      names
  names_still names are i d within =
      let is = are i d within in
      record {
        statements_are_stored = numbered_still (get_or names i d).statements is.statements_are_stored;
        export_is_stored = still_within root needed (get_or names i d).export.«module».0 is.export_is_stored;
      }
