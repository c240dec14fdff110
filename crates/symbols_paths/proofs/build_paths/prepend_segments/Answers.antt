use Rattle.std.proofs.Common.{None, sym, subst, arith}
use Rattle.std.proofs.lemmas.List.{nil_from_length}
use Rattle.symbols_paths.proofs.BuiltPaths.{AreLaid, laid_first, laid_next, laid_last}
use Rattle.symbols_paths.proofs.build_paths.prepend_segments.Goals as goal

pub loop-segment-init : goal.loop-segment-init
loop-segment-init c =
    let all = c.args.segments.items in
    let next = c.args.next.items in
    subst (λ rest. AreLaid None next rest all next) (sym c.into_iter-segment-iterator.ensures.into_iter_gives.0) (laid_first None all next)

pub loop-segment-preserved : goal.loop-segment-preserved
loop-segment-preserved c =
    let so = subst (λ rest. AreLaid None c.loop-segment.paths.items rest c.args.segments.items c.args.next.items) c.in-Some.ensures.steps.0
    c.loop-segment.invariant in
    laid_next c.in-Some.segment c.in_ok-paths.paths.items so c.in_ok-paths.ensures.view c.in_ok-paths.ensures.stored

pub returns-clause-view : goal.returns-clause-view
returns-clause-view c =
    let rest = c.loop-segment.segment-iterator.rest in
    laid_last c.loop-segment.invariant (nil_from_length rest.items (omega (arith, c.in-None.ensures.steps.0, rest.ok.0)))

pub returns-clause-stored : goal.returns-clause-stored
returns-clause-stored c = λ root a b. (c.loop-segment.invariant.stored root a b).1
