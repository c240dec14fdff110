use Rattle.std.proofs.Common.{◌≡◌, ℕ, suc, ◌+◌, ◌-◌, ◌≤◌, ◌++◌, length, take}
use Rattle.std.specs.List.{flat_map}
use Rattle.symbols_table.specs.Patterns.{pattern_bindings_within_levels}
use Rattle.symbols_table.proofs.builder.patterns.+add_leaves.Given as goal

abbrev pub decreases-add_leaves : goal.decreases-add_leaves
decreases-add_leaves l = length l.node.tree.now.nodes.items - l.node.number

abbrev pub invariant-loop-part : goal.invariant-loop-part
invariant-loop-part l =
    (levels : ℕ) → length l.node.tree.now.nodes.items ≤ l.node.number + suc levels
    → l.leaves.items ≡ l.fn.leaves.items ++ flat_map (pattern_bindings_within_levels l.node.tree.now levels) (take l.part-index l.part-items)
