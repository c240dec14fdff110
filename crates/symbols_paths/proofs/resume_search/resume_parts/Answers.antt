use Rattle.std.proofs.Common.{◌∙◌, length, sym, ap}
use Rattle.symbols_paths.specs.declared.search_step.PartsSearch.{PartsSearch}
use Rattle.symbols_paths.specs.inner.PathBuilders.{remaining_parts}
use Rattle.symbols_paths.proofs.NamedPathLemmas.{none_at, some_at}
use Rattle.symbols_paths.proofs.PartsSteps.{resumed_no_parts, resumed_parts}
use Rattle.symbols_paths.proofs.resume_search.resume_parts.Goals as goal

pub returns-then-is_empty : goal.returns-then-is_empty
returns-then-is_empty g c running visited frames valid =
    resumed_no_parts g.start c.args.root.now running visited frames c.args.paths c.args.parts valid
    (none_at (length (remaining_parts c.args.parts)) (sym c.if-is_empty.true ∙ c.is_empty.ensures))

pub returns : goal.returns
returns g c running visited frames valid =
    let view = rw c.deref.ensures.value at c.in_ok-definitions.ensures.view in
    let stored = rw c.deref.ensures.value at c.in_ok-definitions.ensures.stored in
    let is = c.in_ok-new.ensures.ok in
    resumed_parts g.start c.args.root.now running visited frames c.args.paths c.args.parts c.in_ok-definitions.definitions c.in_ok-new.field-0 valid
    (some_at (length (remaining_parts c.args.parts)) (sym c.if-is_empty.false ∙ c.is_empty.ensures)) view
    (stored c.args.root.now valid.step_valid.stored) (ap (λ (x : PartsSearch). remaining_parts x.parts) is) (ap (λ (x : PartsSearch). x.paths.items) is)
    (ap (λ (x : PartsSearch). x.definitions.items) is) (ap (λ (x : PartsSearch). x.replacements.items) is ∙ c.new.ensures.items)
