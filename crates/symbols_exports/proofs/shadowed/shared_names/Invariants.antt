use Rattle.std.proofs.Common.{◌≡◌, ◌≤◌, ◌++◌, length}
use Rattle.std.specs.Vec.Iter.{into_iter_items}
use Rattle.symbols_exports.specs.SharedNameLists.{groups_of_several_first_along_star}
use Rattle.symbols_exports.specs.inner.Collecting.{is_along_stars}
use Rattle.symbols_exports.specs.CollectedNames.{resolved_shared_name_views}
use Rattle.symbols_exports.specs.inner.Collecting.{groups_of_first_and_later_chains, chain_lists_view}
use Rattle.symbols_exports.proofs.shadowed.shared_names.Given as goal

abbrev pub invariant-loop-traces : goal.invariant-loop-traces
invariant-loop-traces l = (length (into_iter_items l.traces-iterator) ≤ length l.names)
    × (resolved_shared_name_views l.shared.items ++ groups_of_several_first_along_star is_along_stars (groups_of_first_and_later_chains
    l.names (chain_lists_view (into_iter_items l.traces-iterator))) ≡ groups_of_several_first_along_star is_along_stars
    (groups_of_first_and_later_chains l.fn.resolved.entries (chain_lists_view l.fn.shadowed.items)))
