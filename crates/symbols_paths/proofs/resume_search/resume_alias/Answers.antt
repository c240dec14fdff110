use Rattle.std.proofs.Common.{length, refl}
use Rattle.symbols_paths.specs.inner.StillToCome.{aliases_with_frames, alias_at_current_decl}
use Rattle.symbols_paths.proofs.Sets.{popped}
use Rattle.symbols_paths.proofs.ResumedSteps.{resumed_alias}
use Rattle.symbols_paths.proofs.resume_search.resume_alias.Goals as goal

pub returns : goal.returns
returns g c =
    let root = c.args.root.now in
    let resolving = c.args.state.now.resolving.keys in
    let frames = c.args.state.now.frames.items in
    let here = c.requires.frames_valid.0.expansion in
    let last = popped (aliases_with_frames g.start.running frames) resolving c.pop.new.self.keys (alias_at_current_decl c.args.alias.value.here) c.pop.result
    (length resolving) c.requires.running_so c.pop.ensures.keys refl c.pop.ensures.found in
    let stored = rw c.into_inner-outer.ensures at c.in_ok-with_alias_link.ensures.stored in
    resumed_alias g.start root resolving c.args.state.now.visited.keys frames c.args.paths c.args.alias c.in_ok-with_alias_link.field-0
    c.pop.new.self.keys c.into_inner-outer.result.visited.keys c.requires last (λ i. (c.into_inner-outer.ensures i).visited.keys)
    (rw c.into_inner-outer.ensures at c.in_ok-with_alias_link.ensures.next) (stored root here.stored here.paths.stored c.requires.step_valid.stored)
