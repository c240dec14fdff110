use Rattle.std.proofs.Common.{◌++◌, ◌∷◌, [], reverse, sym, ap, subst, ◌∙◌, arith}
use Rattle.std.proofs.lemmas.List.{nil_from_length, reverse-reverse}
use Rattle.symbols_paths.proofs.PathEnds.{AreBuilderEndsSo, builder_ends_first, builder_ends_last}
use Rattle.symbols_paths.proofs.VisitedBuilders.{ends_in_end, ends_in_fork}
use Rattle.symbols_paths.proofs.DropOrder.{popped, popped_first}
use Rattle.symbols_paths.proofs.DropBuilders.{weight_of_builder, fork_visited, put_fork}
use Rattle.symbols_paths.proofs.definition_iter.add_builder_ends.Goals as goal

pub loop-builder-init : goal.loop-builder-init
loop-builder-init c = subst (λ rest. AreBuilderEndsSo c.args.left.now.items rest c.args.left.now.items c.args.builders.items)
    (sym (ap reverse c.reverse.ensures.items ∙ reverse-reverse c.args.builders.items)) (builder_ends_first c.args.left.now.items c.args.builders.items)

pub loop-builder-preserved-in-End : goal.loop-builder-preserved-in-End
loop-builder-preserved-in-End c =
    let x = c.in-End in
    ends_in_end c.loop-builder.stack.items c.pop.new.self.items x._segments x.end c.in-Some.builder
    c.in-Some.ensures.items x.ensures c.in_ok-push_back-in-End.ensures.items c.loop-builder.invariant

pub loop-builder-preserved : goal.loop-builder-preserved
loop-builder-preserved c =
    let x = c.in-Fork in
    let left = c.loop-builder.left.items in
    let at_search_start = c.args.left.now.items in
    let so = subst (λ rest. AreBuilderEndsSo left rest at_search_start c.args.builders.items)
    (popped_first c.loop-builder.stack.items c.pop.new.self.items c.in-Some.builder c.in-Some.ensures.items) c.loop-builder.invariant in
    subst (λ rest. AreBuilderEndsSo left rest at_search_start c.args.builders.items)
    (sym (put_fork c.pop.new.self.items x.branches.items c.append.new.self.items x.last.value (c.in_ok-append-in-Fork.ensures.items
    ∙ (λ i. (c.in_ok-push-in-Fork.ensures.items ∙ ap (λ b. c.pop.new.self.items ++ b ∷ []) c.into_inner.ensures) i ++ c.reverse-in-Fork.ensures.items i))))
    (ends_in_fork x._segments x.branches x.last c.in-Some.builder x.ensures so)

pub loop-builder-smaller-in-End : goal.loop-builder-smaller-in-End
loop-builder-smaller-in-End c =
    popped weight_of_builder c.loop-builder.stack.items c.pop.new.self.items c.in-Some.builder c.in-Some.ensures.items

pub loop-builder-smaller : goal.loop-builder-smaller
loop-builder-smaller c =
    let x = c.in-Fork in
    fork_visited c.loop-builder.stack.items c.pop.new.self.items c.append.new.self.items x._segments x.branches x.last c.in-Some.builder
    c.in-Some.ensures.items x.ensures
    (put_fork c.pop.new.self.items x.branches.items c.append.new.self.items x.last.value (c.in_ok-append-in-Fork.ensures.items
    ∙ (λ i. (c.in_ok-push-in-Fork.ensures.items ∙ ap (λ b. c.pop.new.self.items ++ b ∷ []) c.into_inner.ensures) i ++ c.reverse-in-Fork.ensures.items i)))

pub returns-clause-view : goal.returns-clause-view
returns-clause-view c =
    let stack = c.loop-builder.stack in
    builder_ends_last c.loop-builder.left.items c.args.left.now.items (reverse stack.items) c.args.builders.items
    (ap reverse (nil_from_length stack.items (omega (arith, c.in_default.ensures.cases.0, stack.ok.0)))) c.loop-builder.invariant

pub returns-clause-stored : goal.returns-clause-stored
returns-clause-stored c = λ root a b. (c.loop-builder.invariant.stored root a b).0
