use Rattle.std.proofs.Common.{◌++◌, ◌∷◌, [], map, reverse, ap, refl, sym, subst, ◌∙◌, arith}
use Rattle.std.proofs.lemmas.List.{nil_from_length}
use Rattle.std.proofs.lemmas.Result.{on_ok_weaker}
use Rattle.symbols_paths.specs.inner.ReplacedDefinitions.{definitions_of_forest}
use Rattle.symbols_paths.specs.Views.{definition_by_specifier, module_of_end, AreModulesStored}
use Rattle.symbols_paths.specs.inner.PathBuilders.{built_path, modules_of_segments, modules_of_builder}
use Rattle.symbols_paths.proofs.BuilderLemmas.{modules_to, stored_apart}
use Rattle.symbols_paths.proofs.LoopInvariants.{join_none}
use Rattle.symbols_paths.proofs.BuilderDefinitions.{IsListedSoFar, listed_next, listed_last, defined_to, builders_now, popped_now}
use Rattle.symbols_paths.proofs.VisitedBuilders.{definitions_in_fork}
use Rattle.symbols_paths.proofs.DropOrder.{popped, popped_first}
use Rattle.symbols_paths.proofs.DropBuilders.{weight_of_builder, fork_visited}
use Rattle.symbols_paths.proofs.replace_definitions.list_definition.Goals as goal

pub returns-in-End-clause-view : goal.returns-in-End-clause-view
returns-in-End-clause-view c =
    let x = c.in-End in
    on_ok_weaker c.list_end.result (λ view root.
    view root ∙ ap (λ xs. map (definition_by_specifier root) c.args.found.now.items
    ++ xs) (sym (ap (λ builder. definitions_of_forest (built_path root builder)) x.is ∙ defined_to root x.field-0 x.end))) c.list_end.ensures.view

pub returns-in-End-clause-stored : goal.returns-in-End-clause-stored
returns-in-End-clause-stored c =
    let x = c.in-End in
    on_ok_weaker c.list_end.result (λ stored root a b.
    stored root a (stored_apart root (modules_of_segments x.field-0.items) (module_of_end x.end ∷ [])
    (subst (AreModulesStored root) (ap modules_of_builder x.is ∙ modules_to x.field-0 x.end) b)).1) c.list_end.ensures.stored

pub loop-builder-init : goal.loop-builder-init
loop-builder-init c =
    let found = c.args.found.now.items in
    let all = c.args.builder.now ∷ [] in
    subst (λ rest. IsListedSoFar found rest found all) (sym (ap (λ bs. reverse (builders_now bs)) (c.in_ok-push.ensures.items
    ∙ ap (λ bs. bs ++ c.args.builder ∷ []) c.new-stack.ensures.items))) (record { view = λ root. refl; stored = λ root a b. (a, b) })

pub loop-builder-preserved : goal.loop-builder-preserved
loop-builder-preserved c =
    let x = c.in-End-builder in
    let found = c.loop-builder.found.items in
    let so = subst (λ rest. IsListedSoFar found rest c.args.found.now.items (c.args.builder.now ∷ []))
    (popped_first (builders_now c.loop-builder.stack.items) (builders_now c.pop.new.self.items) c.in-Some.builder.now
    (popped_now c.loop-builder.stack.items c.pop.new.self.items c.in-Some.builder c.in-Some.ensures.items)) c.loop-builder.invariant in
    listed_next c.in-Some.builder.now so
    (λ root. c.in_ok-list_end-in-End-builder.ensures.view root ∙ ap (λ xs. map (definition_by_specifier root) found ++ xs)
    (sym (ap (λ builder. definitions_of_forest (built_path root builder)) x.is ∙ defined_to root x.field-0 x.end)))
    (λ root a b. c.in_ok-list_end-in-End-builder.ensures.stored root a
    (stored_apart root (modules_of_segments x.field-0.items) (module_of_end x.end ∷ [])
    (subst (AreModulesStored root) (ap modules_of_builder x.is ∙ modules_to x.field-0 x.end) b)).1)

pub loop-builder-smaller : goal.loop-builder-smaller
loop-builder-smaller c = popped weight_of_builder (builders_now c.loop-builder.stack.items) (builders_now c.pop.new.self.items) c.in-Some.builder.now
    (popped_now c.loop-builder.stack.items c.pop.new.self.items c.in-Some.builder c.in-Some.ensures.items)

pub loop-builder-preserved-in-Fork : goal.loop-builder-preserved-in-Fork
loop-builder-preserved-in-Fork c =
    let x = c.in-Fork in
    let found = c.loop-builder.found.items in
    let at_search_start = c.args.found.now.items in
    let all = c.args.builder.now ∷ [] in
    let new = builders_now c.pop.new.self.items in
    let so = subst (λ rest. IsListedSoFar found rest at_search_start all) (popped_first (builders_now c.loop-builder.stack.items) new c.in-Some.builder.now
    (popped_now c.loop-builder.stack.items c.pop.new.self.items c.in-Some.builder c.in-Some.ensures.items)) c.loop-builder.invariant in
    subst (λ rest. IsListedSoFar found rest at_search_start all)
    (sym (c.in_ok-push_branches-in-Fork.ensures ∙ (λ i. c.deref.ensures.value i ++ c.deref-in-Fork.ensures i ∷ reverse new)))
    (definitions_in_fork x.field-0 x.branches x.last c.in-Some.builder.now x.is so)

pub loop-builder-smaller-in-Fork : goal.loop-builder-smaller-in-Fork
loop-builder-smaller-in-Fork c =
    let x = c.in-Fork in
    let new = builders_now c.pop.new.self.items in
    fork_visited (builders_now c.loop-builder.stack.items) new (builders_now c.push_branches.new.stack.items) x.field-0 x.branches x.last c.in-Some.builder.now
    (popped_now c.loop-builder.stack.items c.pop.new.self.items c.in-Some.builder c.in-Some.ensures.items) x.is
    (c.in_ok-push_branches-in-Fork.ensures ∙ (λ i. c.deref.ensures.value i ++ c.deref-in-Fork.ensures i ∷ reverse new))

pub returns-clause-view : goal.returns-clause-view
returns-clause-view c = λ root.
    let stack = c.loop-builder.stack in
    listed_last c.loop-builder.invariant (ap (λ bs. reverse (builders_now bs)) (nil_from_length stack.items
    (omega (arith, c.in_default-pop.ensures.cases.0, stack.ok.0)))) root
    ∙ ap (λ f. map (definition_by_specifier root) c.args.found.now.items ++ definitions_of_forest f) (join_none (built_path root c.args.builder.now))
