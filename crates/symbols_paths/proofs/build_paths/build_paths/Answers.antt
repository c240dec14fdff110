use Rattle.std.proofs.Common.{◌++◌, [], ◌∷◌, reverse, ap, refl, sym, subst, ◌∙◌, arith}
use Rattle.std.proofs.lemmas.List.{nil_from_length}
use Rattle.symbols_paths.specs.Views.{AreModulesStored}
use Rattle.symbols_paths.specs.inner.PathBuilders.{built_path, modules_of_builder}
use Rattle.symbols_paths.proofs.OpenForks.{building_begun, building_end, building_fork, building_close, building_last, fork_smaller, close_smaller}
use Rattle.symbols_paths.proofs.DropOrder.{popped}
use Rattle.symbols_paths.proofs.DropBuilders.{weight_of_builder}
use Rattle.symbols_paths.proofs.build_paths.build_paths.Goals as goal

pub loop-builder-init : goal.loop-builder-init
loop-builder-init c =
    building_begun c.new-paths.result.items c.reverse.new.self.items c.args.builders.items c.new-forks.result.items c.new-paths.ensures.items
    c.reverse.ensures.items c.new-forks.ensures.items

pub loop-builder-preserved-in-End : goal.loop-builder-preserved-in-End
loop-builder-preserved-in-End c =
    let x = c.in_ok-more-in-End in
    building_end c.loop-builder.rest.items c.pop.new.self.items c.in-Some.builder x.more.items
    c.in-Some.ensures.items c.in_ok-paths-in-End.ensures c.loop-builder.invariant
    (λ root. x.ensures.view root ∙ ap (built_path root) (sym c.in-End.ensures))
    (λ root a. x.ensures.stored root (subst (λ b. AreModulesStored root (modules_of_builder b)) c.in-End.ensures a))

pub loop-builder-preserved-in-Fork : goal.loop-builder-preserved-in-Fork
loop-builder-preserved-in-Fork c =
    let x = c.in-Fork in
    building_fork c.loop-builder.rest.items c.pop.new.self.items c.reverse-in-Fork.new.self.items c.loop-builder.forks.items
    c.push.new.self.items x.segments x.branches x.last c.in-Some.builder _ c.in-Some.ensures.items x.ensures
    (c.reverse-in-Fork.ensures.items ∙ ap reverse (c.in_ok-add_builder-in-Fork.ensures ∙ ap (λ b. x.branches.items ++ b ∷ []) c.into_inner.ensures))
    c.in_ok-push-in-Fork.ensures.items refl refl refl c.new-paths-in-Fork.ensures.items c.loop-builder.invariant

pub loop-builder-preserved : goal.loop-builder-preserved
loop-builder-preserved c =
    let rest = c.loop-builder.rest in
    building_close rest.items c.loop-builder.forks.items c.pop-in_default.new.self.items c.in-Some-pop.fork c.in_ok-more.more.items
    (nil_from_length rest.items (omega (arith, c.in_default.ensures.cases.0, rest.ok.0)))
    c.in-Some-pop.ensures.items c.in_ok-paths.ensures c.loop-builder.invariant c.in_ok-more.ensures.view c.in_ok-more.ensures.stored

pub loop-builder-smaller-in-End : goal.loop-builder-smaller-in-End
loop-builder-smaller-in-End c =
    omega (arith, popped weight_of_builder c.loop-builder.rest.items c.pop.new.self.items c.in-Some.builder c.in-Some.ensures.items)

pub loop-builder-smaller-in-Fork : goal.loop-builder-smaller-in-Fork
loop-builder-smaller-in-Fork c =
    let x = c.in-Fork in
    fork_smaller c.loop-builder.rest.items c.pop.new.self.items c.reverse-in-Fork.new.self.items c.loop-builder.forks.items c.push.new.self.items
    x.segments x.branches x.last c.in-Some.builder _ c.in-Some.ensures.items x.ensures
    (c.reverse-in-Fork.ensures.items ∙ ap reverse (c.in_ok-add_builder-in-Fork.ensures ∙ ap (λ b. x.branches.items ++ b ∷ []) c.into_inner.ensures))
    c.in_ok-push-in-Fork.ensures.items refl

pub loop-builder-smaller : goal.loop-builder-smaller
loop-builder-smaller c =
    close_smaller c.loop-builder.rest.items c.loop-builder.forks.items c.pop-in_default.new.self.items c.in-Some-pop.fork c.in-Some-pop.ensures.items

pub returns-in_default-pop-clause-view : goal.returns-in_default-pop-clause-view
returns-in_default-pop-clause-view c =
    let rest = c.loop-builder.rest in
    let forks = c.loop-builder.forks in
    building_last c.loop-builder.invariant (ap reverse (nil_from_length rest.items (omega (arith, c.in_default.ensures.cases.0, rest.ok.0))))
    (ap reverse (nil_from_length forks.items (omega (arith, c.in_default-pop.ensures.cases.0, forks.ok.0))))
