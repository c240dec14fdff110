use Rattle.std.proofs.Common.{◌++◌, [], ◌∷◌, List, map, reverse, ap, refl, sym, subst, ◌∙◌, arith}
use Rattle.std.proofs.lemmas.List.{nil_from_length}
use Rattle.symbols_paths.specs.PathTrees.{PathForest}
use Rattle.symbols_paths.specs.inner.ReplacedDefinitions.{forest_with_definitions_replaced}
use Rattle.symbols_paths.specs.Views.{module_of_end, AreModulesStored}
use Rattle.symbols_paths.specs.inner.PathBuilders.{remaining_parts, reversed_link_heads_of_segments, link_heads_with_parts_replaced}
use Rattle.symbols_paths.specs.inner.PathBuilders.{forest_below_reversed_links, built_path, built_paths_of_option, modules_of_segments, modules_of_builder}
use Rattle.symbols_paths.proofs.BuilderLemmas.{modules_to, stored_apart}
use Rattle.symbols_paths.proofs.BuilderDefinitions.{rebuilt_to}
use Rattle.symbols_paths.proofs.OpenReplacements.{replacing_begun, replacing_end, replacing_fork, replacing_close, replacing_last, fork_smaller, close_smaller}
use Rattle.symbols_paths.proofs.DropOrder.{popped}
use Rattle.symbols_paths.proofs.DropBuilders.{weight_of_builder}
use Rattle.symbols_paths.proofs.replace_definitions.replace_definitions.Goals as goal

pub loop-builder-init : goal.loop-builder-init
loop-builder-init c =
    replacing_begun (remaining_parts c.args.parts.now) c.new-found.result.items c.reverse.new.self.items c.args.builders.items c.new-forks.result.items
    c.args.changed.now.items c.new-found.ensures.items c.reverse.ensures.items c.new-forks.ensures.items

pub loop-builder-preserved-in-Continue-branch-2 : goal.loop-builder-preserved-in-Continue-branch-2
loop-builder-preserved-in-Continue-branch-2 c =
    let ps = remaining_parts c.args.parts.now in
    let x = c.in-End in
    let put = c.in_ok-builder-in-End in
    let end = c.replace_end-end in
    replacing_end c.loop-builder.rest.items c.pop.new.self.items c.in-Some.builder put.builder
    c.in-Some.ensures.items c.in_ok-push_builder-in-End.ensures c.loop-builder.invariant
    (λ root.
    let ready = map (built_paths_of_option root) c.loop-builder.changed.items in
    put.ensures.view root
    ∙ (ap (forest_below_reversed_links (link_heads_with_parts_replaced ps (reversed_link_heads_of_segments root x.segments.items))) (end.ensures.found root ps)
    ∙ (ap (λ (p : PathForest × List PathForest). p.0) (sym (rebuilt_to root ps x.segments x.end ready))
    ∙ ap (λ builder. (forest_with_definitions_replaced ps (built_path root builder) ready).0) (sym x.ensures))))
    (λ root.
    let ready = map (built_paths_of_option root) c.loop-builder.changed.items in
    end.ensures.left root ps
    ∙ (ap (λ (p : PathForest × List PathForest). p.1) (sym (rebuilt_to root ps x.segments x.end ready))
    ∙ ap (λ builder. (forest_with_definitions_replaced ps (built_path root builder) ready).1) (sym x.ensures)))
    (λ root a b.
    let split = stored_apart root (modules_of_segments x.segments.items) (module_of_end x.end ∷ [])
    (subst (AreModulesStored root) (ap modules_of_builder x.ensures ∙ modules_to x.segments x.end) a) in
    let h = end.ensures.stored root split.1 b in
    (put.ensures.stored root split.0 h.0, h.1))

pub loop-builder-preserved-in-Fork : goal.loop-builder-preserved-in-Fork
loop-builder-preserved-in-Fork c =
    let x = c.in-Fork in
    replacing_fork c.loop-builder.rest.items c.pop.new.self.items c.reverse-in-Fork.new.self.items c.loop-builder.forks.items
    c.push.new.self.items x.segments x.branches x.last c.in-Some.builder _ c.in-Some.ensures.items x.ensures
    (c.reverse-in-Fork.ensures.items ∙ ap reverse (c.in_ok-add_builder-in-Fork.ensures ∙ ap (λ b. x.branches.items ++ b ∷ []) c.into_inner.ensures))
    c.in_ok-push-in-Fork.ensures.items refl refl refl c.new-found-in-Fork.ensures.items c.loop-builder.invariant

pub loop-builder-preserved : goal.loop-builder-preserved
loop-builder-preserved c =
    let ps = remaining_parts c.args.parts.now in
    let rest = c.loop-builder.rest in
    let fork = c.in-Some-pop.fork in
    replacing_close rest.items c.loop-builder.forks.items c.pop-in_default.new.self.items fork c.in_ok-builder.builder
    (nil_from_length rest.items (omega (arith, c.in_default.ensures.cases.0, rest.ok.0)))
    c.in-Some-pop.ensures.items c.in_ok-push_builder.ensures c.loop-builder.invariant
    (λ root. c.in_ok-builder.ensures.view root
    ∙ ap (forest_below_reversed_links (link_heads_with_parts_replaced ps (reversed_link_heads_of_segments root fork.segments.items)))
    (c.in_ok-whole.ensures.view root)) (λ root a b. c.in_ok-builder.ensures.stored root a (c.in_ok-whole.ensures.stored root b))

pub loop-builder-smaller-in-Continue-branch-2 : goal.loop-builder-smaller-in-Continue-branch-2
loop-builder-smaller-in-Continue-branch-2 c =
    omega (arith, popped weight_of_builder c.loop-builder.rest.items c.pop.new.self.items c.in-Some.builder c.in-Some.ensures.items)

pub loop-builder-smaller-in-Fork : goal.loop-builder-smaller-in-Fork
loop-builder-smaller-in-Fork c =
    let x = c.in-Fork in
    fork_smaller c.loop-builder.rest.items c.pop.new.self.items c.reverse-in-Fork.new.self.items c.loop-builder.forks.items c.push.new.self.items
    x.segments x.branches x.last c.in-Some.builder _ c.in-Some.ensures.items x.ensures
    (c.reverse-in-Fork.ensures.items ∙ ap reverse (c.in_ok-add_builder-in-Fork.ensures ∙ ap (λ b. x.branches.items ++ b ∷ []) c.into_inner.ensures))
    c.in_ok-push-in-Fork.ensures.items refl

pub loop-builder-smaller : goal.loop-builder-smaller
loop-builder-smaller c =
    close_smaller c.loop-builder.rest.items c.loop-builder.forks.items c.pop-in_default.new.self.items c.in-Some-pop.fork c.in-Some-pop.ensures.items

pub returns-in_default-pop-clause-found : goal.returns-in_default-pop-clause-found
returns-in_default-pop-clause-found c =
    let rest = c.loop-builder.rest in
    let forks = c.loop-builder.forks in
    λ root. ap (λ (p : PathForest × List PathForest). p.0) (replacing_last c.loop-builder.invariant
    (ap reverse (nil_from_length rest.items (omega (arith, c.in_default.ensures.cases.0, rest.ok.0))))
    (ap reverse (nil_from_length forks.items (omega (arith, c.in_default-pop.ensures.cases.0, forks.ok.0)))) root)

pub returns-in_default-pop-clause-left : goal.returns-in_default-pop-clause-left
returns-in_default-pop-clause-left c =
    let rest = c.loop-builder.rest in
    let forks = c.loop-builder.forks in
    λ root. ap (λ (p : PathForest × List PathForest). p.1) (replacing_last c.loop-builder.invariant
    (ap reverse (nil_from_length rest.items (omega (arith, c.in_default.ensures.cases.0, rest.ok.0))))
    (ap reverse (nil_from_length forks.items (omega (arith, c.in_default-pop.ensures.cases.0, forks.ok.0)))) root)

pub returns-in_default-pop-clause-stored : goal.returns-in_default-pop-clause-stored
returns-in_default-pop-clause-stored c = λ root a b. let h = c.loop-builder.invariant.stored root a b in (h.0, h.1.1.0)
