use Rattle.std.proofs.Common.{◌++◌, [], ◌∷◌}
use Rattle.symbols_paths.proofs.DropOrder.{left}
use Rattle.symbols_paths.proofs.DropBuilders.{weight_of_segment}
use Rattle.symbols_paths.proofs.path_builder.Segment.drop.Given as goal

abbrev pub decreases-loop-parts : goal.decreases-loop-parts
decreases-loop-parts l = left weight_of_segment (l.work.items ++ l.self ∷ [])
