use Rattle.std.proofs.Common.{◌≡◌, None, slice_get, refl, arith}
use Rattle.symbols_root.specs.laws.Growing.{has_grown_refl}
use Rattle.symbols_paths.specs.DeclTargets.{declarations_of}
use Rattle.symbols_paths.specs.inner.Views.{symbol_of_unique_id}
use Rattle.symbols_paths.specs.inner.SearchSteps.{IsTargetOfDeclAtIndex}
use Rattle.symbols_paths.proofs.DeclReads.{index_within}
use Rattle.symbols_paths.proofs.DeclSteps.{step_end}
use Rattle.symbols_paths.proofs.follow_decl.follow_next_decl.Goals as goal

pub returns-in_default-clause-steps : goal.returns-in_default-clause-steps
returns-in_default-clause-steps g c =
    let root = c.args.root.now in
    let past : slice_get (declarations_of root.graph (symbol_of_unique_id root c.args.here.symbol)) c.args.here.index ≡ None =
    rw c.in_default.is at c.in_ok-decl_target.ensures.reads in
    step_end g.start (has_grown_refl root) c.args.state.now.resolving.keys c.args.state.now.visited.keys c.args.state.now.frames.items c.args.here
    c.requires refl past

pub follow_decl-requires : goal.follow_decl-requires
follow_decl-requires g c =
    let root = c.args.root.now in
    let read : IsTargetOfDeclAtIndex root.rules root.graph (symbol_of_unique_id root c.args.here.symbol) c.args.here.index c.in-Some.decl_target =
    rw c.in-Some.is at c.in_ok-decl_target.ensures.reads in
    (c.requires, (read, omega (arith, index_within read, c.decl_target_at.ensures.few)))
