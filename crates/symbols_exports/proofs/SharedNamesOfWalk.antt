-- The shared names that a walk returns, made from the candidates of the modules that it visited.
use Rattle.std.proofs.Common.{◌≡◌, ℕ, Bool, true, false, List, [], ◌∷◌, map, get_or, refl, sym, ap, subst, ◌∙◌}
use Rattle.std.specs.Prelude.{Contains, filter}
use Rattle.std.specs.Str.{bytes_eq}
use Rattle.std.proofs.lemmas.List.Elements.{Contains-get_or}
use Rattle.symbols_ast.specs.declared.ids.ModuleId.{ModuleId}
use Rattle.symbols_ast.specs.Graph.{GraphView}
use Rattle.symbols_root.specs.Roots.{RootView}
use Rattle.symbols_root.specs.declared.rules.Rules.{Rules}
use Rattle.symbols_root.specs.declared.rules.Rules.TheVariants.{Deno, Strict}
use Rattle.symbols_exports.specs.declared.name_filter.NameFilter.TheVariants.{AllNames}
use Rattle.symbols_exports.specs.Chains.{AreReachedByStars}
use Rattle.symbols_exports.specs.Exports.{ExportEntry}
use Rattle.symbols_exports.specs.SharedNames.{NameWithExporters}
use Rattle.symbols_exports.specs.SharedNameLists.{export_candidates_along_chains, grouped_by_name, has_several_exporters_first_along_star}
use Rattle.symbols_exports.specs.SharedNameLists.{groups_of_several_first_along_star, shared_names_among, is_nonempty_chain, shared_name_views_if_strict}
use Rattle.symbols_exports.specs.SharedNameLists.{shared_name_view_of_entry, shared_name_view_of_resolved, AreExporterModulesStored}
use Rattle.symbols_exports.specs.inner.Collecting.{is_along_stars}
use Rattle.symbols_exports.specs.StarStatements.{star_targets_of, explicit_exports_of}
use Rattle.symbols_exports.specs.CollectedNames.{ResolvedExportView}
use Rattle.symbols_exports.specs.inner.Collecting.{has_star_statements, groups_with_exporters, name_of_resolved_export}
use Rattle.symbols_exports.specs.ExportViews.{StarStatementView, ExportView, chain_statements, export_view_of_entry}
use Rattle.symbols_exports.specs.ExportViews.{star_statement_by_specifier, export_by_specifier, AreModulesOfExportStored, AreModulesOfExportsStored}
use Rattle.symbols_exports.specs.inner.NameFilter.{collects_shared}
use Rattle.symbols_exports.proofs.CandidatesOfWalk.{candidates_visited}
use Rattle.symbols_exports.proofs.Cursors.{Visit}
use Rattle.symbols_exports.proofs.ReachedLists.{reached_are_one}
use Rattle.symbols_exports.proofs.SortedLists.{filtered_from}
use Rattle.symbols_exports.proofs.GroupedByName.{exporters_are, all_shared, shared_mapped}
use Rattle.symbols_exports.proofs.NameFilterLemmas.{nothing_viewed}

-- whether an export comes along an `export *`, by its view
abbrev has_statement : List StarStatementView → Bool
has_statement [] = false
has_statement (statement ∷ rest) = true

abbrev viewed_along : ExportView → Bool
viewed_along viewed = has_statement viewed.statements

abbrev viewed_called : ExportView → List ℕ
viewed_called viewed = viewed.name

view_along : (root : RootView) (view : ResolvedExportView) → viewed_along (export_by_specifier root view) ≡ is_along_stars view
view_along root view = by view.statements
  where
    by : (statements : List (ModuleId × List ℕ)) → has_statement (map (star_statement_by_specifier root) statements) ≡ has_star_statements statements
    by [] = refl
    by (statement ∷ rest) = refl

entry_along : (graph : GraphView) (start : List ℕ) (entry : ExportEntry) → viewed_along (export_view_of_entry graph start entry) ≡ is_nonempty_chain entry.chain
entry_along graph start entry = by entry.chain
  where
    by : (chain : List ℕ) → has_statement (chain_statements graph start chain) ≡ is_nonempty_chain chain
    by [] = refl
    by (position ∷ rest) = refl

abbrev entry_name : ExportEntry → List ℕ
entry_name entry = entry.name

abbrev entry_chained : ExportEntry → Bool
entry_chained entry = is_nonempty_chain entry.chain

-- candidates with the same views have the same shared names
module _ (graph : GraphView) (root : RootView) (start : List ℕ) where
  shared_alike : (candidates : List ExportEntry) (views : List ResolvedExportView)
      → map (export_view_of_entry graph start) candidates ≡ map (export_by_specifier root) views
      → map (shared_name_view_of_resolved root) (shared_names_among name_of_resolved_export is_along_stars views) ≡ map (shared_name_view_of_entry graph start)
      (shared_names_among entry_name entry_chained candidates)
  shared_alike candidates views viewed =
      ap (λ (along : ResolvedExportView → Bool). map (shared_name_view_of_resolved root) (shared_names_among name_of_resolved_export along views))
      (λ i view. sym (view_along root view) i)
      ∙ (sym (shared_mapped (export_by_specifier root) viewed_called viewed_along views)
      ∙ (ap (shared_names_among viewed_called viewed_along) (sym viewed)
      ∙ (shared_mapped (export_view_of_entry graph start) viewed_called viewed_along candidates
      ∙ ap (λ (along : ExportEntry → Bool). map (shared_name_view_of_entry graph start) (shared_names_among entry_name along candidates)) (λ i entry.
      entry_along graph start entry i))))

  -- if all reachable modules were visited
  pub are_shared_names_by_rules : (rules : Rules) (visited : List Visit) → AreReachedByStars (star_targets_of graph) start visited →
      (candidate : List ResolvedExportView)
      → map (export_view_of_entry graph start) (candidates_visited (collects_shared AllNames rules) (explicit_exports_of graph) visited)
      ≡ map (export_by_specifier root) candidate → map (shared_name_view_of_resolved root) (groups_of_several_first_along_star is_along_stars
      (groups_with_exporters [] candidate)) ≡
      shared_name_views_if_strict rules graph start
  are_shared_names_by_rules Deno visited reached candidate viewed =
      let none : candidate ≡ [] = nothing_viewed (export_by_specifier root) (export_view_of_entry graph start) candidate [] (sym viewed) refl in
      ap (λ views. map (shared_name_view_of_resolved root) (groups_of_several_first_along_star is_along_stars (groups_with_exporters [] views))) none
  are_shared_names_by_rules Strict visited reached candidate viewed =
      ap (map (shared_name_view_of_resolved root)) (all_shared name_of_resolved_export is_along_stars candidate)
      ∙ (shared_alike (export_candidates_along_chains (explicit_exports_of graph) visited) candidate viewed
      ∙ ap (λ ms. map (shared_name_view_of_entry graph start) (shared_names_among entry_name entry_chained
      (export_candidates_along_chains (explicit_exports_of graph) ms)))
      (reached_are_one
      graph start visited reached))

-- their numbers are those of stored modules
pub shared_numbered : (root : RootView) (candidate : List ResolvedExportView) → AreModulesOfExportsStored root candidate
    → AreExporterModulesStored root (groups_of_several_first_along_star is_along_stars (groups_with_exporters [] candidate))
shared_numbered root candidate are =
    subst (AreExporterModulesStored root) (sym (all_shared name_of_resolved_export is_along_stars candidate)) together_in
  where
    one : (view : ResolvedExportView) → Contains candidate view → AreModulesOfExportStored root view
    one view has = subst (AreModulesOfExportStored root) has.2 (are has.0 view has.1)

    in_group : (group : NameWithExporters ResolvedExportView) → Contains
        (groups_of_several_first_along_star is_along_stars (grouped_by_name name_of_resolved_export candidate)) group
        → AreModulesOfExportsStored root group.exporters
    in_group group has j e j_in =
        let retained = filtered_from (λ (g : NameWithExporters ResolvedExportView). has_several_exporters_first_along_star is_along_stars g.exporters)
        (grouped_by_name name_of_resolved_export candidate) group has in
        let view : ResolvedExportView = get_or group.exporters j e in
        let among : Contains (filter (λ (y : ResolvedExportView). bytes_eq group.name y.name) candidate) view =
        subst (λ (views : List ResolvedExportView). Contains views view)
        (exporters_are name_of_resolved_export candidate group retained.0) (Contains-get_or group.exporters j e j_in) in
        one view (filtered_from (λ (y : ResolvedExportView). bytes_eq group.name y.name) candidate view among).0

    together_in : AreExporterModulesStored root (groups_of_several_first_along_star is_along_stars (grouped_by_name name_of_resolved_export candidate))
    together_in i d i_in = in_group (get_or (groups_of_several_first_along_star is_along_stars (grouped_by_name name_of_resolved_export candidate)) i d)
        (Contains-get_or (groups_of_several_first_along_star is_along_stars (grouped_by_name name_of_resolved_export candidate)) i d i_in)
