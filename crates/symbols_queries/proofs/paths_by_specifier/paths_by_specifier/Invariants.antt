use Rattle.std.proofs.Common.{◌+◌, reverse}
use Rattle.symbols_paths.proofs.DropOrder.{whole}
use Rattle.symbols_paths.proofs.DropPaths.{weight_of_path}
use Rattle.symbols_queries.proofs.OpenLinks.{AreConverting, links_weight}
use Rattle.symbols_queries.proofs.paths_by_specifier.paths_by_specifier.Given as goal

abbrev pub invariant-loop-path : goal.invariant-loop-path
invariant-loop-path l = AreConverting l.root l.named.items (reverse l.rest.items) (reverse l.links.items) l.fn.paths.items

abbrev pub decreases-loop-path : goal.decreases-loop-path
decreases-loop-path l = whole weight_of_path l.rest.items + links_weight (reverse l.links.items)
