use Rattle.std.proofs.Common.{◌≡◌, ◌≤◌, ◌++◌, ◌∷◌, length, map, drop, reverse}
use Rattle.std.specs.Borrow.{Bor}
use Rattle.symbols_paths.specs.declared.path_builder.PathBuilder.{PathBuilder}
use Rattle.symbols_paths.proofs.replace_definitions.push_branches.Given as goal

abbrev pub invariant-loop-left : goal.invariant-loop-left
invariant-loop-left l = (reverse (map (λ (b : Bor PathBuilder). b.now) l.stack.items) ≡ drop l.left l.branches
    ++ l.last ∷ reverse (map (λ (b : Bor PathBuilder). b.now) l.fn.stack.items)) × (l.left ≤ length l.branches)

abbrev pub decreases-loop-left : goal.decreases-loop-left
decreases-loop-left l = l.left
