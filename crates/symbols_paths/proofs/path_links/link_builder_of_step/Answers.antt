use Rattle.std.proofs.Common.{[], option_to_list, ap, sym, subst, ◌∙◌}
use Rattle.symbols_paths.specs.PathTrees.{forest_below_link_unless_empty}
use Rattle.symbols_paths.specs.Views.{AreModulesStored}
use Rattle.symbols_paths.specs.inner.PathBuilders.{link_head_of_step, forest_below_reversed_links, built_path, built_paths_of_option, modules_of_builders}
use Rattle.symbols_paths.proofs.NamedPathLemmas.{stored_more}
use Rattle.symbols_paths.proofs.BuilderLemmas.{heads_of_step, modules_of_one_step, none_stored, stored_alone}
use Rattle.symbols_paths.proofs.path_links.link_builder_of_step.Goals as goal

pub returns-in-None-clause-view : goal.returns-in-None-clause-view
returns-in-None-clause-view c = λ root.
    let head = link_head_of_step root c.args.step in
    ap (λ builder. forest_below_link_unless_empty head (built_paths_of_option root builder)) (sym c.in-None.is)
    ∙ ap (forest_below_link_unless_empty head) (c.in_ok-whole.ensures.view root)

pub returns-in_ok-push_segment-in-Some-clause-view : goal.returns-in_ok-push_segment-in-Some-clause-view
returns-in_ok-push_segment-in-Some-clause-view c = λ root.
    let head = link_head_of_step root c.args.step in
    c.in_ok-push_segment-in-Some.ensures.view root
    ∙ (ap (λ heads. forest_below_reversed_links heads (built_path root c.in-Some.builder)) (heads_of_step root c.args.step)
    ∙ (ap (λ builder. forest_below_link_unless_empty head (built_paths_of_option root builder)) (sym c.in-Some.is)
    ∙ ap (forest_below_link_unless_empty head) (c.in_ok-whole.ensures.view root)))

pub returns-in_ok-push_segment-in-Some-clause-stored : goal.returns-in_ok-push_segment-in-Some-clause-stored
returns-in_ok-push_segment-in-Some-clause-stored c = λ root stored rest.
    let step = c.args.step in
    let here = subst (AreModulesStored root) (sym (modules_of_one_step step)) (stored_more root step.symbol.module_id [] stored (none_stored root)) in
    let whole = subst (λ builder. AreModulesStored root (modules_of_builders (option_to_list builder))) c.in-Some.is (c.in_ok-whole.ensures.stored root rest) in
    c.in_ok-push_segment-in-Some.ensures.stored root here (stored_alone root c.in-Some.builder whole)
