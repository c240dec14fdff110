use Rattle.std.proofs.lemmas.Result.{IfOk-weaker}
use Rattle.symbols_paths.proofs.ResumedSteps.{resumed_link}
use Rattle.symbols_paths.proofs.resume_search.resume_frame.Goals as goal

pub returns-in_ok-with_link-in-Link : goal.returns-in_ok-with_link-in-Link
returns-in_ok-with_link-in-Link g c =
    let root = c.args.root.now in
    let valid = rw c.in-Link.is at c.requires in
    let here = valid.frames_valid.0.expansion in
    rw c.in-Link.is (resumed_link g.start root c.args.state.now.resolving.keys c.args.state.now.visited.keys c.args.state.now.frames.items c.args.paths
    c.in-Link.here c.in-Link.symbol c.in_ok-with_link-in-Link.field-0 valid c.in_ok-with_link-in-Link.ensures.next
    (c.in_ok-with_link-in-Link.ensures.stored root valid.frames_valid.1 here.paths.stored valid.step_valid.stored))

pub returns-in-Star : goal.returns-in-Star
returns-in-Star g c = rw c.in-Star.is (IfOk-weaker c.resume_star.result _ _ (λ next is. is c.args.state.now.resolving.keys
    c.args.state.now.visited.keys c.args.state.now.frames.items (rw c.in-Star.is at c.requires)) c.resume_star.ensures)

pub returns-in-Parts : goal.returns-in-Parts
returns-in-Parts g c = rw c.in-Parts.is (IfOk-weaker c.resume_parts.result _ _ (λ next is. is c.args.state.now.resolving.keys
    c.args.state.now.visited.keys c.args.state.now.frames.items (rw c.in-Parts.is at c.requires)) c.resume_parts.ensures)

pub returns-in-Replacement : goal.returns-in-Replacement
returns-in-Replacement g c = rw c.in-Replacement.is (IfOk-weaker c.resume_replacement.result _ _ (λ next is. is c.args.state.now.resolving.keys
    c.args.state.now.visited.keys c.args.state.now.frames.items (rw c.in-Replacement.is at c.requires)) c.resume_replacement.ensures)
