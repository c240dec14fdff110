use Rattle.std.proofs.Common.{◌++◌, [], ◌∷◌}
use Rattle.symbols_paths.proofs.DropOrder.{left}
use Rattle.symbols_queries.proofs.DropNamedPaths.{weight_of_named}
use Rattle.symbols_queries.proofs.paths_by_specifier.PathBySpecifier.drop.Given as goal

abbrev pub decreases-loop-link : goal.decreases-loop-link
decreases-loop-link l = left weight_of_named (l.work.items ++ l.self ∷ [])
