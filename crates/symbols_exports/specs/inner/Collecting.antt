-- What a walk has collected: definitions for inner functions and proofs.
use Rattle.std.specs.Prelude.{ℕ, zero, suc, Bool, ◌&&◌, ◌||◌, true, false, not, List, [], ◌∷◌, ◌++◌, map, filter, fold, if◌then◌else◌, nat_eq, String, Vec}
use Rattle.std.specs.Prelude.{string_bytes}
use Rattle.std.specs.Global.{Global}
use Rattle.std.specs.List.{list_any}
use Rattle.std.specs.Str.{bytes_eq}
use Rattle.symbols_ast.specs.declared.ids.ModuleId.{ModuleId}
use Rattle.symbols_ast.specs.declared.ids.SymbolId.{SymbolId}
use Rattle.symbols_table.specs.Events.{default_export_name}
use Rattle.symbols_exports.specs.declared.export_chain.ResolvedExportOrReExportAllPath.{ResolvedExportOrReExportAllPath}
use Rattle.symbols_exports.specs.declared.frame.Frame.{Frame}
use Rattle.symbols_exports.specs.SharedNames.{NameWithExporters}
use Rattle.symbols_exports.specs.CollectedNames.{ResolvedExportView, resolved_export_view, resolved_chain_view}

-- whether two module numbers are equal
abbrev pub is_same_module : ModuleId → ModuleId → Bool
is_same_module x y = nat_eq x.0 y.0

-- the statement of a frame, by the number of its module and its specifier
abbrev pub frame_view : Frame → ModuleId × List ℕ
frame_view frame = (frame.referrer, frame.specifier_text.now)

-- the chain of an export, as the program stores it
abbrev pub ExportChain : Type 0
ExportChain = ResolvedExportOrReExportAllPath

abbrev pub chain_lists_view : List (Vec ExportChain Global) → List (List ExportChain)
chain_lists_view lists = map (λ (traces : Vec ExportChain Global). traces.items) lists

-- the lists with one more chain at the end of the list at the index; missing lists are added
abbrev pub chain_lists_with_later_chain : ℕ → ExportChain → List (List ExportChain) → List (List ExportChain)
chain_lists_with_later_chain zero re_exports [] = (re_exports ∷ []) ∷ []
chain_lists_with_later_chain zero re_exports (traces ∷ lists) = (traces ++ re_exports ∷ []) ∷ lists
chain_lists_with_later_chain (suc index) re_exports [] = [] ∷ chain_lists_with_later_chain index re_exports []
chain_lists_with_later_chain (suc index) re_exports (traces ∷ lists) = traces ∷ chain_lists_with_later_chain index re_exports lists

-- a name with its first chain, then its later chains
abbrev pub group_of_first_and_later_chains : String Global × ExportChain → List ExportChain → NameWithExporters ResolvedExportView
group_of_first_and_later_chains entry shadowed =
    record { name = string_bytes entry.0; exporters = resolved_export_view entry ∷ map (resolved_chain_view (string_bytes entry.0)) shadowed }

-- names with their first chains, each followed by the later chains at the index of the name
abbrev pub groups_of_first_and_later_chains : List (String Global × ExportChain) → List (List ExportChain) → List (NameWithExporters ResolvedExportView)
groups_of_first_and_later_chains [] lists = []
groups_of_first_and_later_chains (entry ∷ entries) [] = group_of_first_and_later_chains entry [] ∷ groups_of_first_and_later_chains entries []
groups_of_first_and_later_chains (entry ∷ entries) (shadowed ∷ lists) = group_of_first_and_later_chains entry shadowed
    ∷ groups_of_first_and_later_chains entries lists

-- what a walk has collected: names, candidates by name if they are stored, and unresolved statements
pub record CollectedView : Type 0 where
  pub names : List ResolvedExportView
  pub candidates : List (NameWithExporters ResolvedExportView)
  pub unresolved : List (ModuleId × List ℕ)

abbrev pub nothing_collected : CollectedView
nothing_collected = record { names = []; candidates = []; unresolved = [] }

-- what a walk has collected, and whether it stores candidates
pub record CollectedExportsView : Type 0 where
  pub keeps : Bool
  pub collected : CollectedView

-- the walk with one more unresolved statement
abbrev pub walk_with_unresolved_star : ModuleId × List ℕ → CollectedExportsView → CollectedExportsView
walk_with_unresolved_star statement walk = record {
  keeps = walk.keeps;
  collected = record { names = walk.collected.names; candidates = walk.collected.candidates; unresolved = walk.collected.unresolved ++ statement ∷ [] };
}

abbrev pub is_name_collected : List ResolvedExportView → List ℕ → Bool
is_name_collected names name = list_any (λ (view : ResolvedExportView). bytes_eq name view.name) names

abbrev pub has_star_statements : List (ModuleId × List ℕ) → Bool
has_star_statements [] = false
has_star_statements (statement ∷ rest) = true

-- the names with one more, unless it is `default` along an `export *`, or is there already
abbrev pub names_with_export : List (ModuleId × List ℕ) → ModuleId → List ResolvedExportView → List ℕ × SymbolId → List ResolvedExportView
names_with_export re_exports exporter names exported =
    if (bytes_eq exported.0 default_export_name && has_star_statements re_exports) || is_name_collected names exported.0 then names
    else names ++ record { name = exported.0; statements = re_exports; export = record { «module» = exporter; symbol_id = exported.1 } } ∷ []

-- the names with the local exports of a module, one after the other
abbrev pub names_with_exports : List (ModuleId × List ℕ) → ModuleId → List (List ℕ × SymbolId) → List ResolvedExportView → List ResolvedExportView
names_with_exports re_exports exporter exported names = fold (names_with_export re_exports exporter) names exported

-- the candidates of a module along a chain, one for each local export that is re-exported along it
abbrev pub candidate_along_chain : List (ModuleId × List ℕ) → ModuleId → List ℕ × SymbolId → ResolvedExportView
candidate_along_chain re_exports exporter exported =
    record { name = exported.0; statements = re_exports; export = record { «module» = exporter; symbol_id = exported.1 } }

abbrev pub candidates_along_chain : List (ModuleId × List ℕ) → ModuleId → List (List ℕ × SymbolId) → List ResolvedExportView
candidates_along_chain re_exports exporter exported =
    map (candidate_along_chain re_exports exporter) (filter (λ (x : List ℕ × SymbolId). not
    (bytes_eq x.0 default_export_name && has_star_statements re_exports)) exported)

-- whether a name comes along an `export *`
abbrev pub is_along_stars : ResolvedExportView → Bool
is_along_stars view = has_star_statements view.statements

-- the exporters with a later one, unless the first isn't along an `export *`: such a name isn't shared
abbrev pub exporters_with_later_exporter : {A : Type 0} → (A → Bool) → List A → A → List A
exporters_with_later_exporter is_along [] x = x ∷ []
exporters_with_later_exporter is_along (first ∷ exporters) x = if is_along first then first ∷ exporters ++ x ∷ [] else first ∷ exporters

-- the groups with one more exporter, after those of its name
abbrev pub groups_with_exporter : {A : Type 0} → (A → List ℕ) → (A → Bool) → List (NameWithExporters A) → A → List (NameWithExporters A)
groups_with_exporter name is_along [] x = record { name = name x; exporters = x ∷ [] } ∷ []
groups_with_exporter name is_along (group ∷ groups) x = if bytes_eq (name x) group.name
    then record { name = group.name; exporters = exporters_with_later_exporter is_along group.exporters x } ∷ groups
    else group ∷ groups_with_exporter name is_along groups x

abbrev pub name_of_resolved_export : ResolvedExportView → List ℕ
name_of_resolved_export view = view.name

abbrev pub groups_with_exporters : List (NameWithExporters ResolvedExportView) → List ResolvedExportView → List (NameWithExporters ResolvedExportView)
groups_with_exporters groups candidates = fold (groups_with_exporter name_of_resolved_export is_along_stars) groups candidates

-- what was collected, with the local exports of a module along a chain, and with its candidates if they are stored
abbrev pub collected_with_exports : Bool → List (ModuleId × List ℕ) → ModuleId → List (List ℕ × SymbolId) → CollectedView → CollectedView
collected_with_exports keeps re_exports exporter exported collected = record {
  names = names_with_exports re_exports exporter exported collected.names;
  candidates = if keeps then groups_with_exporters collected.candidates (candidates_along_chain re_exports exporter exported) else collected.candidates;
  unresolved = collected.unresolved;
}

abbrev pub walk_with_exports_of_module : List (ModuleId × List ℕ) → ModuleId → List (List ℕ × SymbolId) → CollectedExportsView → CollectedExportsView
walk_with_exports_of_module re_exports exporter exported walk =
    record { keeps = walk.keeps; collected = collected_with_exports walk.keeps re_exports exporter exported walk.collected }
