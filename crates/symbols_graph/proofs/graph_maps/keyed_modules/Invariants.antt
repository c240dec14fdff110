use Rattle.std.proofs.Common.{◌≡◌, length, map, take}
use Rattle.symbols_graph.proofs.ModuleMaps.{entry_read, entry_of}
use Rattle.symbols_graph.proofs.graph_maps.keyed_modules.Given as goal

abbrev pub invariant-loop-raw : goal.invariant-loop-raw
invariant-loop-raw l = map entry_read l.keyed.entries ≡ take (length l.yielded) (map entry_of l.fn.modules.items)
