use Rattle.std.proofs.Common.{ap, sym, subst, ◌∙◌, ◌++◌, ◌∷◌, []}
use Rattle.symbols_paths.specs.PathTrees.{forest_of_tree, leaf, joined_forests}
use Rattle.symbols_paths.specs.Views.{path_leaf_of_end, module_of_end, AreModulesStored}
use Rattle.symbols_paths.specs.inner.PathBuilders.{reversed_link_heads_of_segment, forest_below_reversed_links, built_path, built_paths, modules_of_builder}
use Rattle.symbols_paths.specs.inner.PathBuilders.{modules_of_builders}
use Rattle.symbols_paths.proofs.BuilderLemmas.{named_to, named_fork, modules_to, modules_fork, linked_with, stored_segment}
use Rattle.symbols_paths.proofs.path_builder.push_segment.Goals as goal

pub returns-in_ok-add_segment-in-End-clause-view : goal.returns-in_ok-add_segment-in-End-clause-view
returns-in_ok-add_segment-in-End-clause-view c = λ root.
    let x = c.in-End in
    named_to root c.add_segment.new.segments x.end
    ∙ (linked_with root x.segments.items c.add_segment.new.segments.items c.args.segment (forest_of_tree (leaf (path_leaf_of_end root x.end)))
    c.in_ok-add_segment-in-End.ensures
    ∙ ap (forest_below_reversed_links (reversed_link_heads_of_segment root c.args.segment))
    (sym (named_to root x.segments x.end) ∙ ap (built_path root) (sym x.ensures)))

pub returns-in_ok-add_segment-in-End-clause-stored : goal.returns-in_ok-add_segment-in-End-clause-stored
returns-in_ok-add_segment-in-End-clause-stored c = λ root a b.
    let x = c.in-End in
    subst (AreModulesStored root) (sym (modules_to c.add_segment.new.segments x.end))
    (stored_segment root x.segments.items c.add_segment.new.segments.items c.args.segment (module_of_end x.end ∷ []) c.in_ok-add_segment-in-End.ensures a
    (subst (AreModulesStored root) (ap modules_of_builder x.ensures ∙ modules_to x.segments x.end) b))

pub returns-in_ok-add_segment-in-Fork-clause-view : goal.returns-in_ok-add_segment-in-Fork-clause-view
returns-in_ok-add_segment-in-Fork-clause-view c = λ root.
    let x = c.in-Fork in
    named_fork root c.add_segment-in-Fork.new.segments x.branches x.last
    ∙ (linked_with root x.segments.items c.add_segment-in-Fork.new.segments.items c.args.segment
    (joined_forests (built_paths root x.branches.items) (built_path root x.last.value)) c.in_ok-add_segment-in-Fork.ensures
    ∙ ap (forest_below_reversed_links (reversed_link_heads_of_segment root c.args.segment)) (sym (named_fork root x.segments x.branches x.last)
    ∙ ap (built_path root) (sym x.ensures)))

pub returns-in_ok-add_segment-in-Fork-clause-stored : goal.returns-in_ok-add_segment-in-Fork-clause-stored
returns-in_ok-add_segment-in-Fork-clause-stored c = λ root a b.
    let x = c.in-Fork in
    subst (AreModulesStored root) (sym (modules_fork c.add_segment-in-Fork.new.segments x.branches x.last))
    (stored_segment root x.segments.items c.add_segment-in-Fork.new.segments.items c.args.segment
    (modules_of_builders x.branches.items ++ modules_of_builder x.last.value) c.in_ok-add_segment-in-Fork.ensures a
    (subst (AreModulesStored root) (ap modules_of_builder x.ensures ∙ modules_fork x.segments x.branches x.last) b))
