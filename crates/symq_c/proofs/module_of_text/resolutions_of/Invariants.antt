use Rattle.std.proofs.Common.{◌≡◌, map}
use Rattle.symbols_ast.specs.Graph.{resolution_view}
use Rattle.symbols_graph.specs.PutModules.{resolution_with_referrer}
use Rattle.symbols_graph.specs.Tables.{string_pairs_bytes}
use Rattle.symq_c.proofs.module_of_text.resolutions_of.Given as goal

abbrev pub invariant-loop-row : goal.invariant-loop-row
invariant-loop-row l = map resolution_view l.yielded ≡ map (resolution_with_referrer l.fn.referrer) (string_pairs_bytes l.resolved.items)
