use Rattle.std.proofs.Common.{◌≡◌, ◌++◌, drop}
use Rattle.symbols_queries.specs.Queries.{path_forest_view}
use Rattle.symq_core.specs.PathData.{path_forest_json_items}
use Rattle.symq_core.specs.inner.JsonWriting.{remaining_item_tokens}
use Rattle.symq_core.proofs.write_paths.end_paths.Given as goal

abbrev pub invariant-loop-path : goal.invariant-loop-path
invariant-loop-path l =
    (l.out.before ≡ l.initial.out.before)
    × (l.out.tokens ++ remaining_item_tokens (path_forest_json_items (path_forest_view (drop l.path-index l.path-items)))
    ≡ l.initial.out.tokens ++ remaining_item_tokens (path_forest_json_items (path_forest_view l.path-items)))
