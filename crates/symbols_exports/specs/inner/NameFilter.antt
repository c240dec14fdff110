-- The filter of the names that a walk collects: all names, or one.
use Rattle.std.specs.Prelude.{ℕ, Bool, true, false, List, [], ◌∷◌, find, option_to_list}
use Rattle.std.specs.Str.{bytes_eq}
use Rattle.symbols_ast.specs.declared.ids.SymbolId.{SymbolId}
use Rattle.symbols_ast.specs.Graph.{GraphView}
use Rattle.symbols_table.specs.Events.{default_export_name}
use Rattle.symbols_root.specs.declared.rules.Rules.{Rules}
use Rattle.symbols_root.specs.declared.rules.Rules.TheVariants.{Deno, Strict}
use Rattle.symbols_exports.specs.declared.name_filter.NameFilter.{NameFilter}
use Rattle.symbols_exports.specs.declared.name_filter.NameFilter.TheVariants.{AllNames, OneName}
use Rattle.symbols_exports.specs.Exports.{ExplicitExports}
use Rattle.symbols_exports.specs.StarStatements.{explicit_exports_of}
use Rattle.symbols_exports.specs.CollectedNames.{ResolvedExportView}

-- the local exports that the filter accepts
abbrev pub exports_accepted_by : NameFilter → List (List ℕ × SymbolId) → List (List ℕ × SymbolId)
exports_accepted_by AllNames exported = exported
exports_accepted_by (OneName name) exported = option_to_list (find (λ (x : List ℕ × SymbolId). bytes_eq name.now x.0) exported)

abbrev pub accepted_exports_of : NameFilter → GraphView → ExplicitExports
accepted_exports_of name_filter graph specifier = exports_accepted_by name_filter (explicit_exports_of graph specifier)

-- whether the walk can stop: it looks for one name, and that was found or is `default`
abbrev pub is_name_search_done : NameFilter → List ResolvedExportView → Bool
is_name_search_done AllNames names = false
is_name_search_done (OneName name) [] = bytes_eq name.now default_export_name
is_name_search_done (OneName name) (found ∷ rest) = true

abbrev pub is_filter_for_default : NameFilter → Bool
is_filter_for_default AllNames = false
is_filter_for_default (OneName name) = bytes_eq name.now default_export_name

-- whether candidates are stored, for the shared names
abbrev pub collects_shared : NameFilter → Rules → Bool
collects_shared AllNames Strict = true
collects_shared AllNames Deno = false
collects_shared (OneName name) rules = false
