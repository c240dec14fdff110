-- The `export *` statements of the modules of a graph, and their local exports. All of it depends on the graph alone.
use Rattle.std.specs.Prelude.{ℕ, List, map, Option}
use Rattle.std.specs.Option.{option_and_then}
use Rattle.symbols_ast.specs.Graph.{GraphView, resolved_dependency}
use Rattle.symbols_table.specs.Changes.{export_stars_after_changes, exports_after_changes}
use Rattle.symbols_root.specs.GraphModules.{table_changes_of_module}
use Rattle.symbols_root.specs.TypesChains.{resolved_module_specifier}
use Rattle.symbols_exports.specs.Chains.{StarTargets}
use Rattle.symbols_exports.specs.Exports.{ExplicitExports}

-- the specifiers of the `export *` statements of a module, in order
abbrev pub star_specifiers : GraphView → List ℕ → List (List ℕ)
star_specifiers graph specifier = map (λ star. star.specifier_text) (export_stars_after_changes (table_changes_of_module graph specifier))

-- the module that a specifier in a module resolves to
abbrev pub resolve_specifier : GraphView → List ℕ → List ℕ → Option (List ℕ)
resolve_specifier graph referrer specifier_text = option_and_then (resolved_module_specifier graph) (resolved_dependency graph referrer specifier_text)

-- the modules that the statements of each module resolve to
abbrev pub star_targets_of : GraphView → StarTargets
star_targets_of graph specifier = map (resolve_specifier graph specifier) (star_specifiers graph specifier)

-- the local exports of each module: the exports of its symbol 0
abbrev pub explicit_exports_of : GraphView → ExplicitExports
explicit_exports_of graph specifier = exports_after_changes (table_changes_of_module graph specifier) (record { 0 = 0 })
