use Rattle.std.proofs.Common.{◌∷◌, [], ap, sym, subst, ◌∙◌}
use Rattle.std.proofs.lemmas.Result.{IfOk-weaker}
use Rattle.symbols_paths.specs.Views.{module_of_end, AreModulesStored}
use Rattle.symbols_paths.specs.inner.PathBuilders.{reversed_link_heads_of_segments, forest_below_reversed_links, modules_of_segments}
use Rattle.symbols_paths.proofs.BuilderLemmas.{named_to, modules_to, stored_apart}
use Rattle.symbols_paths.proofs.build_paths.path_below_segments.Goals as goal

pub returns-clause-view : goal.returns-clause-view
returns-clause-view c =
    IfOk-weaker c.prepend_segments.result _ _ (λ paths view root.
    view root
    ∙ (ap (forest_below_reversed_links (reversed_link_heads_of_segments root c.args.segments.items)) (c.in_ok-next.ensures.view root)
    ∙ sym (named_to root c.args.segments c.args.end))) c.prepend_segments.ensures.view

pub returns-clause-stored : goal.returns-clause-stored
returns-clause-stored c =
    IfOk-weaker c.prepend_segments.result _ _ (λ paths stored root a.
    let split = stored_apart root (modules_of_segments c.args.segments.items) (module_of_end c.args.end ∷ [])
    (subst (AreModulesStored root) (modules_to c.args.segments c.args.end) a) in
    stored root split.0 (c.in_ok-next.ensures.stored root split.1)) c.prepend_segments.ensures.stored
