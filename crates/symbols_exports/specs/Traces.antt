-- The exports and the unresolved statements of a module as lists, computed from all simple chains in chain order. The lists are proved to
-- be those of the definitions.
use Rattle.std.specs.Prelude.{ℕ, zero, suc, ◌+◌, Bool, true, false, not, ◌&&◌, nat_eq, List, [], ◌∷◌, ◌++◌, length}
use Rattle.std.specs.Prelude.{map, filter, flat_map, filter_map, Option, Some, None, option_map, if◌then◌else◌}
use Rattle.std.specs.Option.{option_map_or}
use Rattle.std.specs.Str.{bytes_eq}
use Rattle.symbols_ast.specs.declared.ids.SymbolId.{SymbolId}
use Rattle.symbols_ast.specs.Graph.{GraphView}
use Rattle.symbols_table.specs.Events.{default_export_name}
use Rattle.symbols_root.specs.Specifiers.{contains_specifier}
use Rattle.symbols_exports.specs.Chains.{StarTargets}
use Rattle.symbols_exports.specs.Exports.{ExplicitExports, ExportEntry, StarPosition}
use Rattle.symbols_exports.specs.StarStatements.{star_targets_of, explicit_exports_of}
use Rattle.symbols_exports.specs.ExportViews.{ExportView, StarStatementView, export_view_of_entry, star_statement_view}

-- a trace: a simple chain to a module; or such a chain followed by the index of an unresolved statement of that module
pub record StarWalkVisit : Type 0 where
  pub chain : List ℕ
  pub end : List ℕ
  pub unresolved_at : Option ℕ

abbrev pub visit_with_first_statement : ℕ → StarWalkVisit → StarWalkVisit
visit_with_first_statement position trace = record { chain = position ∷ trace.chain; end = trace.end; unresolved_at = trace.unresolved_at }

-- the traces along the statements of a module from an index on: for each statement the traces from the module that it resolves to, or one
-- to the statement itself if it is unresolved
abbrev pub visits_along_statements : (List ℕ → List StarWalkVisit) → List ℕ → ℕ → List (Option (List ℕ)) → List StarWalkVisit
visits_along_statements further here position [] = []
visits_along_statements further here position (None ∷ rest) =
    record { chain = position ∷ []; end = here; unresolved_at = Some position } ∷ visits_along_statements further here (position + 1) rest
visits_along_statements further here position (Some next ∷ rest) = map (visit_with_first_statement position) (further next)
    ++ visits_along_statements further here (position + 1) rest

-- all traces from a module that visit none of the modules before, in chain order. The number bounds the modules of a chain
abbrev pub star_walk_visits_from : StarTargets → ℕ → List (List ℕ) → List ℕ → List StarWalkVisit
star_walk_visits_from statements zero before here = []
star_walk_visits_from statements (suc n) before here =
    if contains_specifier before here then [] else record { chain = []; end = here; unresolved_at = None }
    ∷ visits_along_statements (λ next. star_walk_visits_from statements n (before ++ here ∷ []) next) here 0 (statements here)

abbrev pub star_walk_visits_of : GraphView → List ℕ → List StarWalkVisit
star_walk_visits_of graph start = star_walk_visits_from (star_targets_of graph) (length graph.modules + 1) [] start

-- the list without each element that is the same as an earlier one
abbrev pub first_distinct_by : {A : Type 0} → (A → A → Bool) → List A → List A
first_distinct_by same [] = []
first_distinct_by same (x ∷ xs) = x ∷ filter (λ y. not (same x y)) (first_distinct_by same xs)

-- whether a local export is re-exported along a chain: all are along the empty chain, and all but `default` along others
abbrev pub is_re_exported_along_chain : List ℕ → List ℕ × SymbolId → Bool
is_re_exported_along_chain [] exported = true
is_re_exported_along_chain (position ∷ rest) exported = not (bytes_eq exported.0 default_export_name)

abbrev pub export_candidates_along_chain : List ℕ → List ℕ → List (List ℕ × SymbolId) → List ExportEntry
export_candidates_along_chain chain end exported = map (λ (x : List ℕ × SymbolId). record { name = x.0; chain = chain; exporter = end; symbol = x.1 })
    (filter (is_re_exported_along_chain chain) exported)

abbrev pub export_candidates_at_visit : ExplicitExports → StarWalkVisit → List ExportEntry
export_candidates_at_visit explicit trace =
    option_map_or (λ position. []) trace.unresolved_at (export_candidates_along_chain trace.chain trace.end (explicit trace.end))

abbrev pub is_same_export_name : ExportEntry → ExportEntry → Bool
is_same_export_name x y = bytes_eq x.name y.name

-- the exports of a module
abbrev pub exports_of : GraphView → List ℕ → List ExportEntry
exports_of graph start = first_distinct_by is_same_export_name (flat_map (export_candidates_at_visit (explicit_exports_of graph))
    (star_walk_visits_of graph start))

-- whether two traces end at the same module, or at the same unresolved statement
abbrev pub is_same_optional_index : Option ℕ → Option ℕ → Bool
is_same_optional_index None None = true
is_same_optional_index (Some j) (Some k) = nat_eq j k
is_same_optional_index _ _ = false

abbrev pub is_same_visit_end : StarWalkVisit → StarWalkVisit → Bool
is_same_visit_end x y = bytes_eq x.end y.end && is_same_optional_index x.unresolved_at y.unresolved_at

-- the unresolved statement at the end of a trace, if there is one
abbrev pub unresolved_star_at_visit : StarWalkVisit → Option StarPosition
unresolved_star_at_visit trace = option_map (λ position. (trace.end, position)) trace.unresolved_at

-- the unresolved statements
abbrev pub unresolved_stars_of : GraphView → List ℕ → List StarPosition
unresolved_stars_of graph start = filter_map unresolved_star_at_visit (first_distinct_by is_same_visit_end (star_walk_visits_of graph start))

-- the exports and the unresolved statements as answers return them
abbrev pub export_views_of_module : GraphView → List ℕ → List ExportView
export_views_of_module graph start = map (export_view_of_entry graph start) (exports_of graph start)

abbrev pub unresolved_star_views_of_module : GraphView → List ℕ → List StarStatementView
unresolved_star_views_of_module graph start = map (star_statement_view graph) (unresolved_stars_of graph start)
