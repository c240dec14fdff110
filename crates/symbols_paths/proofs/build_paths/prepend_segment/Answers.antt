use Rattle.std.proofs.Common.{ap, sym, subst, ◌∙◌, arith}
use Rattle.std.proofs.lemmas.Result.{IfOk-weaker}
use Rattle.symbols_paths.specs.Views.{paths_by_specifier, AreModulesStored}
use Rattle.symbols_paths.specs.inner.PathBuilders.{reversed_link_heads_of_segment, forest_below_reversed_links, modules_of_segment}
use Rattle.symbols_paths.proofs.BuilderLemmas.{heads_of_step, heads_of_under, modules_of_one_step, modules_of_under}
use Rattle.symbols_paths.proofs.build_paths.prepend_segment.Goals as goal

pub returns-in-LinkStep-clause-view : goal.returns-in-LinkStep-clause-view
returns-in-LinkStep-clause-view c =
    IfOk-weaker c.prepend_link.result _ _ (λ paths view root.
    view root ∙ ap (λ heads. forest_below_reversed_links heads (paths_by_specifier root c.args.next.items))
    (sym (ap (reversed_link_heads_of_segment root) c.in-LinkStep.ensures
    ∙ heads_of_step root c.in-LinkStep.step))) c.prepend_link.ensures.view

pub returns-in-LinkStep-clause-stored : goal.returns-in-LinkStep-clause-stored
returns-in-LinkStep-clause-stored c =
    IfOk-weaker c.prepend_link.result _ _ (λ paths stored root a b.
    stored root (subst (AreModulesStored root) (ap modules_of_segment c.in-LinkStep.ensures
    ∙ modules_of_one_step c.in-LinkStep.step) a 0 c.in-LinkStep.step.symbol.module_id (omega arith)) b) c.prepend_link.ensures.stored

pub returns-in-WithParts-clause-view : goal.returns-in-WithParts-clause-view
returns-in-WithParts-clause-view c =
    let x = c.in-WithParts in
    IfOk-weaker c.prepend_segments_with_parts.result _ _ (λ paths view root.
    view root
    ∙ ap (λ heads. forest_below_reversed_links heads (paths_by_specifier root c.args.next.items))
    (sym (ap (reversed_link_heads_of_segment root) x.ensures ∙ heads_of_under root x.parts x.inner)))
    c.prepend_segments_with_parts.ensures.view

pub returns-in-WithParts-clause-stored : goal.returns-in-WithParts-clause-stored
returns-in-WithParts-clause-stored c =
    let x = c.in-WithParts in
    IfOk-weaker c.prepend_segments_with_parts.result _ _ (λ paths stored root a b.
    stored root (subst (AreModulesStored root) (ap modules_of_segment x.ensures ∙ modules_of_under x.parts x.inner) a) b)
    c.prepend_segments_with_parts.ensures.stored
