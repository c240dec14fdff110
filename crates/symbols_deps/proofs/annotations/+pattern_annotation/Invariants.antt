use Rattle.std.proofs.Common.{◌-◌, length}
use Rattle.symbols_deps.proofs.annotations.+pattern_annotation.Given as goal

abbrev pub decreases-pattern_annotation : goal.decreases-pattern_annotation
decreases-pattern_annotation l = length l.pattern.tree.now.nodes.items - l.pattern.number
