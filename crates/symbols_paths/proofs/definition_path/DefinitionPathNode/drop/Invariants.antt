use Rattle.std.proofs.Common.{◌++◌, [], ◌∷◌}
use Rattle.symbols_paths.proofs.DropOrder.{left}
use Rattle.symbols_paths.proofs.DropPaths.{weight_of_path}
use Rattle.symbols_paths.proofs.definition_path.DefinitionPathNode.drop.Given as goal

abbrev pub decreases-loop-link : goal.decreases-loop-link
decreases-loop-link l = left weight_of_path (l.work.items ++ l.self ∷ [])
