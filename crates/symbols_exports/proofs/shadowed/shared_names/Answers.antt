use Rattle.std.proofs.Common.{ap, sym, ◌∙◌}
use Rattle.std.proofs.lemmas.List.{nil_from_length}
use Rattle.std.specs.Vec.Iter.{into_iter_items}
use Rattle.symbols_exports.specs.SharedNameLists.{groups_of_several_first_along_star}
use Rattle.symbols_exports.specs.inner.Collecting.{is_along_stars}
use Rattle.symbols_exports.specs.CollectedNames.{resolved_shared_name_views}
use Rattle.symbols_exports.specs.inner.Collecting.{groups_of_first_and_later_chains, chain_lists_view}
use Rattle.symbols_exports.proofs.ShadowedChains.{none_left}
use Rattle.symbols_exports.proofs.shadowed.shared_names.Goals as goal

pub returns : goal.returns
returns c = none_left c.loop-traces.names (chain_lists_view (into_iter_items c.loop-traces.traces-iterator))
    (resolved_shared_name_views c.loop-traces.shared.items)
    (groups_of_several_first_along_star is_along_stars (groups_of_first_and_later_chains c.args.resolved.now.entries (chain_lists_view c.args.shadowed.items)))
    c.loop-traces.invariant.1
    (ap chain_lists_view
    (nil_from_length (into_iter_items c.loop-traces.traces-iterator) (sym c.loop-traces.traces-iterator.rest.ok.0 ∙ c.in-None.ensures.steps.0)))
