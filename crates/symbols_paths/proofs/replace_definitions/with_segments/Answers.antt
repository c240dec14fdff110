use Rattle.std.proofs.Common.{ap, sym, ◌∙◌}
use Rattle.symbols_paths.specs.inner.PathBuilders.{remaining_parts, reversed_link_heads_of_segments, link_heads_with_parts_replaced}
use Rattle.symbols_paths.specs.inner.PathBuilders.{forest_below_reversed_links, built_paths_of_option}
use Rattle.symbols_paths.proofs.BuilderLemmas.{linked_none}
use Rattle.symbols_paths.proofs.replace_definitions.with_segments.Goals as goal

pub returns-in-None-clause-view : goal.returns-in-None-clause-view
returns-in-None-clause-view c = λ root.
    let heads = link_heads_with_parts_replaced (remaining_parts c.args.parts.now) (reversed_link_heads_of_segments root c.args.segments.items) in
    sym (linked_none heads) ∙ ap (λ builder. forest_below_reversed_links heads (built_paths_of_option root builder)) (sym c.in-None.is)

pub returns-in_ok-push_with_parts-in-Some-clause-view : goal.returns-in_ok-push_with_parts-in-Some-clause-view
returns-in_ok-push_with_parts-in-Some-clause-view c = λ root.
    let heads = link_heads_with_parts_replaced (remaining_parts c.args.parts.now) (reversed_link_heads_of_segments root c.args.segments.items) in
    c.in_ok-push_with_parts-in-Some.ensures.view root ∙ ap (λ builder. forest_below_reversed_links heads (built_paths_of_option root builder))
    (sym c.in-Some.is)
