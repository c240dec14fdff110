use Rattle.std.proofs.Common.{◌≡◌, ◌∙◌, ◌∷◌, [], List, length, ap, sym, subst}
use Rattle.std.proofs.lemmas.Result.{IfOk-weaker}
use Rattle.std.proofs.lemmas.List.{nil_from_length}
use Rattle.symbols_root.specs.Calls.{HasGrownAndFailsOnlyFor}
use Rattle.symbols_paths.specs.declared.search_step.Frame.{Frame}
use Rattle.symbols_paths.specs.declared.search_step.Frame.TheVariants.{Parts}
use Rattle.symbols_paths.specs.NeededModules.{IsFaultOfStoringOneOf, AreNewlyStoredAmong}
use Rattle.symbols_paths.specs.inner.Needed.{IsNeededFrom}
use Rattle.symbols_paths.specs.inner.PathBuilders.{remaining_parts}
use Rattle.symbols_paths.specs.inner.SearchSteps.{ArePathsFoundByNewSearch}
use Rattle.symbols_paths.specs.inner.SearchInvariants.{parts_of_top_frame}
use Rattle.symbols_paths.proofs.NamedPathLemmas.{none_at}
use Rattle.symbols_paths.proofs.SearchLoop.{search_can_begin_with_parts, paths_of_new_search_with_parts}
use Rattle.symbols_paths.proofs.definition_search.resolve_qualified_name_internal.Goals as goal

pub search_from-requires : goal.search_from-requires
search_from-requires c =
    let frames : c.push_front.new.self.items ≡ Parts c.in_ok-same.field-0 ∷ [] =
    c.in_ok-push_front.ensures.items ∙ ap (λ (fs : List Frame). Parts c.in_ok-same.field-0 ∷ fs) c.new-frames.ensures.items in
    rw frames (search_can_begin_with_parts c.args.root.now c.args.symbol c.in_ok-same.field-0 c.requires.known)

pub returns-clause-keeps : goal.returns-clause-keeps
returns-clause-keeps c =
    let frames : c.push_front.new.self.items ≡ Parts c.in_ok-same.field-0 ∷ [] =
    c.in_ok-push_front.ensures.items ∙ ap (λ (fs : List Frame). Parts c.in_ok-same.field-0 ∷ fs) c.new-frames.ensures.items in
    let parts : parts_of_top_frame c.push_front.new.self.items ≡ remaining_parts c.args.parts.now = ap parts_of_top_frame frames ∙ c.in_ok-same.ensures in
    let old = c.args.root.now in
    let new = c.search_from.new.root in
    subst (λ qs. HasGrownAndFailsOnlyFor old new (IsFaultOfStoringOneOf new (IsNeededFrom old c.args.symbol.module_id qs)) c.search_from.result) parts
    c.search_from.ensures.keeps

pub returns-clause-found : goal.returns-clause-found
returns-clause-found c =
    let same = c.in_ok-same.field-0 in
    let frames : c.push_front.new.self.items ≡ Parts same ∷ [] =
    c.in_ok-push_front.ensures.items ∙ ap (λ (fs : List Frame). Parts same ∷ fs) c.new-frames.ensures.items in
    IfOk-weaker c.search_from.result _ _ (λ paths is. subst (λ qs. ArePathsFoundByNewSearch c.search_from.new.root c.args.symbol qs paths.items)
    c.in_ok-same.ensures (paths_of_new_search_with_parts c.args.root.now c.args.symbol same (rw frames at is.1))) c.search_from.ensures.found

pub returns-then-is_empty-clause-keeps : goal.returns-then-is_empty-clause-keeps
returns-then-is_empty-clause-keeps c =
    let none = nil_from_length (remaining_parts c.args.parts.now) (none_at (length (remaining_parts c.args.parts.now))
    (sym c.if-is_empty.true ∙ c.is_empty.ensures)) in
    let old = c.args.root.now in
    let new = c.find_definition_paths_internal.new.root in
    subst (λ qs. HasGrownAndFailsOnlyFor old new (IsFaultOfStoringOneOf new (IsNeededFrom old c.args.symbol.module_id qs))
    c.find_definition_paths_internal.result) (sym none) c.find_definition_paths_internal.ensures.keeps

pub returns-then-is_empty-clause-stores : goal.returns-then-is_empty-clause-stores
returns-then-is_empty-clause-stores c =
    let none = nil_from_length (remaining_parts c.args.parts.now) (none_at (length (remaining_parts c.args.parts.now))
    (sym c.if-is_empty.true ∙ c.is_empty.ensures)) in
    subst (λ qs. AreNewlyStoredAmong c.args.root.now c.find_definition_paths_internal.new.root (IsNeededFrom c.args.root.now c.args.symbol.module_id qs))
    (sym none) c.find_definition_paths_internal.ensures.stores

pub returns-then-is_empty-clause-found : goal.returns-then-is_empty-clause-found
returns-then-is_empty-clause-found c =
    let none = nil_from_length (remaining_parts c.args.parts.now) (none_at (length (remaining_parts c.args.parts.now))
    (sym c.if-is_empty.true ∙ c.is_empty.ensures)) in
    IfOk-weaker c.find_definition_paths_internal.result _ _ (λ paths outcome.
    subst (λ qs. ArePathsFoundByNewSearch c.find_definition_paths_internal.new.root c.args.symbol qs paths.items) (sym none) outcome)
    c.find_definition_paths_internal.ensures.found
