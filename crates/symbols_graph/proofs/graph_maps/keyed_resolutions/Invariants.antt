use Rattle.std.proofs.Common.{◌≡◌, ℕ, List, length, map, take}
use Rattle.std.specs.String.{string_eq}
use Rattle.indexmap.specs.IndexMap.{IsUnique}
use Rattle.symbols_ast.specs.Graph.{resolution_view, find_resolved_specifier}
use Rattle.symbols_graph.specs.inner.CheckSteps.{resolved_specifier_in_maps}
use Rattle.symbols_graph.proofs.graph_maps.keyed_resolutions.Given as goal

abbrev pub invariant-loop-row : goal.invariant-loop-row
invariant-loop-row l = record {
  same : (referrer specifier_text : List ℕ) → resolved_specifier_in_maps l.tables referrer specifier_text
      ≡ find_resolved_specifier (take (length l.yielded) (map resolution_view l.fn.resolutions.items)) referrer specifier_text;
  unique : IsUnique string_eq l.tables;
}
