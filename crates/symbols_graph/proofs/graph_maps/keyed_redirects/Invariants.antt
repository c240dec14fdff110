use Rattle.std.proofs.Common.{◌≡◌, length, map, take}
use Rattle.symbols_ast.specs.Graph.{redirect_view}
use Rattle.symbols_graph.specs.Tables.{string_pairs_bytes}
use Rattle.symbols_graph.proofs.graph_maps.keyed_redirects.Given as goal

abbrev pub invariant-loop-source : goal.invariant-loop-source
invariant-loop-source l = string_pairs_bytes l.keyed.entries ≡ take (length l.yielded) (map redirect_view l.fn.redirects.items)
