-- The shared names of a module as a computed list, and as answers return them. The list is proved to be that of the definitions.
use Rattle.std.specs.Prelude.{ℕ, Bool, true, false, not, List, [], ◌∷◌, map, filter, flat_map, filter_map, All, Option, None, Some}
use Rattle.std.specs.Option.{option_map_or}
use Rattle.std.specs.Str.{bytes_eq}
use Rattle.symbols_ast.specs.Graph.{GraphView}
use Rattle.symbols_root.specs.Roots.{RootView}
use Rattle.symbols_root.specs.declared.rules.Rules.{Rules}
use Rattle.symbols_root.specs.declared.rules.Rules.TheVariants.{Deno, Strict}
use Rattle.symbols_exports.specs.Exports.{ExplicitExports, ExportEntry}
use Rattle.symbols_exports.specs.SharedNames.{NameWithExporters}
use Rattle.symbols_exports.specs.StarStatements.{explicit_exports_of}
use Rattle.symbols_exports.specs.CollectedNames.{ResolvedExportView}
use Rattle.symbols_exports.specs.ExportViews.{ExportView, export_view_of_entry, export_by_specifier, AreModulesOfExportsStored}
use Rattle.symbols_exports.specs.Traces.{StarWalkVisit, star_walk_visits_of, first_distinct_by, export_candidates_along_chain, is_same_visit_end}

-- the chain and the module of a trace to a module; none for a trace to an unresolved statement
abbrev pub module_reached_unless_unresolved : StarWalkVisit → Option (List ℕ × List ℕ)
module_reached_unless_unresolved trace = option_map_or (λ position. None) trace.unresolved_at (Some (trace.chain, trace.end))

-- the reachable modules, each with the first chain to it
abbrev pub star_reached_modules_of : GraphView → List ℕ → List (List ℕ × List ℕ)
star_reached_modules_of graph start = filter_map module_reached_unless_unresolved (first_distinct_by is_same_visit_end (star_walk_visits_of graph start))

-- the candidates of these modules along these chains
abbrev pub export_candidates_along_chains : ExplicitExports → List (List ℕ × List ℕ) → List ExportEntry
export_candidates_along_chains explicit reached = flat_map (λ (m : List ℕ × List ℕ). export_candidates_along_chain m.0 m.1 (explicit m.1)) reached

-- the elements grouped by name, each group at the index of its first element
abbrev pub grouped_by_name : {A : Type 0} → (A → List ℕ) → List A → List (NameWithExporters A)
grouped_by_name name [] = []
grouped_by_name name (x ∷ xs) = record { name = name x; exporters = x ∷ filter (λ y. bytes_eq (name x) (name y)) xs }
    ∷ filter (λ group. not (bytes_eq (name x) group.name)) (grouped_by_name name xs)

-- whether the group has two or more elements, and the first comes along an `export *`
abbrev pub has_several_exporters_first_along_star : {A : Type 0} → (A → Bool) → List A → Bool
has_several_exporters_first_along_star is_along [] = false
has_several_exporters_first_along_star is_along (x ∷ []) = false
has_several_exporters_first_along_star is_along (x ∷ y ∷ rest) = is_along x

abbrev pub groups_of_several_first_along_star : {A : Type 0} → (A → Bool) → List (NameWithExporters A) → List (NameWithExporters A)
groups_of_several_first_along_star is_along groups = filter (λ group. has_several_exporters_first_along_star is_along group.exporters) groups

abbrev pub shared_names_among : {A : Type 0} → (A → List ℕ) → (A → Bool) → List A → List (NameWithExporters A)
shared_names_among name is_along candidates = groups_of_several_first_along_star is_along (grouped_by_name name candidates)

abbrev pub is_nonempty_chain : List ℕ → Bool
is_nonempty_chain [] = false
is_nonempty_chain (position ∷ rest) = true

-- the shared names of a module
abbrev pub shared_names_of : GraphView → List ℕ → List (NameWithExporters ExportEntry)
shared_names_of graph start = shared_names_among (λ (e : ExportEntry). e.name) (λ (e : ExportEntry). is_nonempty_chain e.chain)
    (export_candidates_along_chains (explicit_exports_of graph) (star_reached_modules_of graph start))

-- the shared names as answers return them
abbrev pub shared_name_view_of_entry : GraphView → List ℕ → NameWithExporters ExportEntry → NameWithExporters ExportView
shared_name_view_of_entry graph start shared = record { name = shared.name; exporters = map (export_view_of_entry graph start) shared.exporters }

abbrev pub shared_name_views_of_module : GraphView → List ℕ → List (NameWithExporters ExportView)
shared_name_views_of_module graph start = map (shared_name_view_of_entry graph start) (shared_names_of graph start)

-- the shared names by the rules: none by Deno's
abbrev pub shared_name_views_if_strict : Rules → GraphView → List ℕ → List (NameWithExporters ExportView)
shared_name_views_if_strict Deno graph start = []
shared_name_views_if_strict Strict graph start = shared_name_views_of_module graph start

-- shared names whose modules are numbers of a root, by specifier; and that these numbers are those of stored modules
abbrev pub shared_name_view_of_resolved : RootView → NameWithExporters ResolvedExportView → NameWithExporters ExportView
shared_name_view_of_resolved root shared = record { name = shared.name; exporters = map (export_by_specifier root) shared.exporters }

abbrev pub AreExporterModulesStored : RootView → List (NameWithExporters ResolvedExportView) → Type 0
AreExporterModulesStored root names = All (λ (shared : NameWithExporters ResolvedExportView). AreModulesOfExportsStored root shared.exporters) names
