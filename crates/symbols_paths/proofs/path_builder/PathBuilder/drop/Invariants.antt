use Rattle.std.proofs.Common.{◌++◌, [], ◌∷◌}
use Rattle.symbols_paths.proofs.DropOrder.{left}
use Rattle.symbols_paths.proofs.DropBuilders.{weight_of_builder}
use Rattle.symbols_paths.proofs.path_builder.PathBuilder.drop.Given as goal

abbrev pub decreases-loop-segments : goal.decreases-loop-segments
decreases-loop-segments l = left weight_of_builder (l.work.items ++ l.self ∷ [])
