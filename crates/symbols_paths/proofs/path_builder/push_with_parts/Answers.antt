use Rattle.std.proofs.Common.{ap, ◌∙◌}
use Rattle.std.proofs.lemmas.Result.{IfOk-weaker}
use Rattle.symbols_root.specs.Roots.{RootView}
use Rattle.symbols_paths.specs.inner.PathBuilders.{reversed_link_heads_of_segments, link_heads_with_parts_replaced, forest_below_reversed_links, built_path}
use Rattle.symbols_paths.proofs.BuilderLemmas.{heads_of_under}
use Rattle.symbols_paths.proofs.path_builder.push_with_parts.Goals as goal

pub returns-clause-view : goal.returns-clause-view
returns-clause-view c =
    let view = λ (root : RootView). heads_of_under root c.in_ok-same.field-0 c.args.segments
    ∙ ap (λ ps. link_heads_with_parts_replaced ps (reversed_link_heads_of_segments root c.args.segments.items)) c.in_ok-same.ensures in
    IfOk-weaker c.push_segment.result _ _ (λ builder is root. is root
    ∙ ap (λ heads. forest_below_reversed_links heads (built_path root c.args.builder)) (view root)) c.push_segment.ensures.view
