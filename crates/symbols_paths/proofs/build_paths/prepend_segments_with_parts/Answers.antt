use Rattle.std.proofs.Common.{◌++◌, Some, ap, sym, subst, ◌∙◌, reverse, arith}
use Rattle.std.proofs.lemmas.List.{nil_from_length, reverse-reverse}
use Rattle.symbols_paths.specs.Views.{paths_by_specifier, AreModulesStored}
use Rattle.symbols_paths.specs.inner.PathBuilders.{remaining_parts, reversed_link_heads_of_segment, link_heads_with_parts_replaced, forest_below_reversed_links}
use Rattle.symbols_paths.specs.inner.PathBuilders.{modules_of_segment}
use Rattle.symbols_paths.proofs.BuilderLemmas.{heads_of_step, modules_of_one_step}
use Rattle.symbols_paths.proofs.BuiltPaths.{AreLaid, laid_first, laid_next, laid_last}
use Rattle.symbols_paths.proofs.VisitedBuilders.{laid_under}
use Rattle.symbols_paths.proofs.DropOrder.{popped, replaced, popped_first, put_first}
use Rattle.symbols_paths.proofs.DropBuilders.{weight_of_segment, weight_of_under}
use Rattle.symbols_paths.proofs.build_paths.prepend_segments_with_parts.Goals as goal

pub loop-segment-init : goal.loop-segment-init
loop-segment-init c =
    let over = Some (remaining_parts c.args.parts.now) in
    let all = c.args.segments.items in
    let next = c.args.next.items in
    subst (λ rest. AreLaid over next rest all next) (sym (ap reverse c.reverse.ensures.items ∙ reverse-reverse all)) (laid_first over all next)

pub loop-segment-preserved-in-LinkStep : goal.loop-segment-preserved-in-LinkStep
loop-segment-preserved-in-LinkStep c =
    let ps = remaining_parts c.args.parts.now in
    let x = c.in-LinkStep in
    let so = subst (λ rest. AreLaid (Some ps) c.loop-segment.paths.items rest c.args.segments.items c.args.next.items)
    (popped_first c.loop-segment.stack.items c.pop.new.self.items c.in-Some.segment c.in-Some.ensures.items) c.loop-segment.invariant in
    laid_next c.in-Some.segment c.in_ok-paths-in-LinkStep.paths.items so
    (λ root. c.in_ok-paths-in-LinkStep.ensures.view root
    ∙ ap (λ heads. forest_below_reversed_links (link_heads_with_parts_replaced ps heads) (paths_by_specifier root c.loop-segment.paths.items))
    (sym (ap (reversed_link_heads_of_segment root) x.ensures ∙ heads_of_step root x.step)))
    (λ root a b. c.in_ok-paths-in-LinkStep.ensures.stored root
    (subst (AreModulesStored root) (ap modules_of_segment x.ensures ∙ modules_of_one_step x.step) a 0 x.step.symbol.module_id (omega arith)) b)

pub loop-segment-preserved : goal.loop-segment-preserved
loop-segment-preserved c =
    let ps = remaining_parts c.args.parts.now in
    let x = c.in-WithParts in
    let so = subst (λ rest. AreLaid (Some ps) c.loop-segment.paths.items rest c.args.segments.items c.args.next.items)
    (popped_first c.loop-segment.stack.items c.pop.new.self.items c.in-Some.segment c.in-Some.ensures.items) c.loop-segment.invariant in
    subst (λ rest. AreLaid (Some ps) c.loop-segment.paths.items rest c.args.segments.items c.args.next.items)
    (sym (put_first c.pop.new.self.items x.inner.items c.append.new.self.items
    (c.in_ok-append-in-WithParts.ensures.items ∙ ap (λ ys. c.pop.new.self.items ++ ys) c.reverse-in-WithParts.ensures.items)))
    (laid_under x._parts x.inner c.in-Some.segment x.ensures so)

pub loop-segment-smaller-in-LinkStep : goal.loop-segment-smaller-in-LinkStep
loop-segment-smaller-in-LinkStep c =
    popped weight_of_segment c.loop-segment.stack.items c.pop.new.self.items c.in-Some.segment c.in-Some.ensures.items

pub loop-segment-smaller : goal.loop-segment-smaller
loop-segment-smaller c =
    let x = c.in-WithParts in
    replaced weight_of_segment c.loop-segment.stack.items c.pop.new.self.items x.inner.items c.append.new.self.items c.in-Some.segment
    c.in-Some.ensures.items (c.in_ok-append-in-WithParts.ensures.items ∙ ap (λ ys. c.pop.new.self.items ++ ys) c.reverse-in-WithParts.ensures.items)
    (ap (λ segment. (weight_of_segment segment).1) x.ensures ∙ ap (λ w. w.1) (weight_of_under x._parts x.inner))

pub returns-clause-view : goal.returns-clause-view
returns-clause-view c =
    let stack = c.loop-segment.stack in
    laid_last c.loop-segment.invariant (ap reverse (nil_from_length stack.items (omega (arith, c.in_default.ensures.cases.0, stack.ok.0))))

pub returns-clause-stored : goal.returns-clause-stored
returns-clause-stored c = λ root a b. (c.loop-segment.invariant.stored root a b).1
