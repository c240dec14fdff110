use Rattle.std.proofs.Common.{◌≡◌, ◌<◌, ◌≤◌, ◌+◌, ◌-◌, ℕ, length}
use Rattle.symbols_exports.specs.inner.Collecting.{ExportChain, chain_lists_view, chain_lists_with_later_chain}
use Rattle.symbols_exports.proofs.shadowed.reserve_chain_lists.Given as goal

abbrev pub invariant-room : goal.invariant-room
invariant-room l =
    ((chain : ExportChain) → chain_lists_with_later_chain l.index chain (chain_lists_view l.shadowed.items)
    ≡ chain_lists_with_later_chain l.index chain (chain_lists_view
    l.fn.shadowed.items)) × ((count : ℕ) → length l.fn.shadowed.items ≤ count → l.index < count → length l.shadowed.items ≤ count)

abbrev pub decreases-room : goal.decreases-room
decreases-room l = (l.index + 1) - length l.shadowed.items
