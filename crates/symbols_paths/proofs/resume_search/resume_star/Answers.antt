use Rattle.std.proofs.Common.{◌∙◌, sym}
use Rattle.symbols_paths.proofs.BuilderLemmas.{is_none, not_none}
use Rattle.symbols_paths.proofs.NamedPathLemmas.{is_some}
use Rattle.symbols_paths.proofs.ResumedSteps.{resumed_star_none, resumed_star_some}
use Rattle.symbols_paths.proofs.resume_search.resume_star.Goals as goal

pub returns-then-is_empty : goal.returns-then-is_empty
returns-then-is_empty g c running visited frames valid = resumed_star_none g.start c.args.root.now running visited frames c.args.paths c.args.star valid
    (λ later. is_none later c.args.paths (sym c.if-is_empty.true ∙ c.is_empty.ensures))

pub returns : goal.returns
returns g c running visited frames valid =
    let stored = rw c.into_inner-here.ensures at c.in_ok-with_link.ensures.stored in
    let here = c.requires.here.expansion in
    resumed_star_some g.start c.args.root.now running visited frames c.args.paths c.args.star c.in_ok-with_link.field-0 valid
    (λ later. not_none later c.args.paths.items (is_some c.args.paths (sym c.if-is_empty.false ∙ c.is_empty.ensures)))
    (rw c.into_inner-here.ensures at c.in_ok-with_link.ensures.next)
    (stored c.args.root.now here.stored here.paths.stored valid.step_valid.stored)
