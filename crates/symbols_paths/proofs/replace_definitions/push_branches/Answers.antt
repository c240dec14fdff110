use Rattle.std.proofs.Common.{◌≡◌, ◌++◌, ◌∷◌, drop, reverse, refl, ap, ◌∙◌, arith}
use Rattle.symbols_paths.proofs.BuilderDefinitions.{builders_now, pushed_last, pushed_more}
use Rattle.symbols_paths.proofs.replace_definitions.push_branches.Goals as goal

pub loop-left-init : goal.loop-left-init
loop-left-init c = (
  pushed_last c.args.stack.now.items c.push.new.self.items c.args.branches.now _ c.args.last c.in_ok-push.ensures.items refl,
  omega arith,
)

pub loop-left-preserved : goal.loop-left-preserved
loop-left-preserved c = (
  pushed_more c.loop-left.stack.items c.push-in-loop-left.new.self.items c.args.branches.now
      (c.args.last.now ∷ reverse (builders_now c.args.stack.now.items)) c.loop-left.left _ _ c.in_ok-push-2.ensures.items
      (omega (arith, c.loop-left-test.true)) (omega (arith, c.loop-left-test.true, c.loop-left.invariant.1)) c.index-branches-left.is c.loop-left.invariant.0,
  omega (arith, c.loop-left.invariant.1),
)

pub returns : goal.returns
returns c =
    let none : c.loop-left.left ≡ 0 = omega (arith, c.loop-left-test.false) in
    c.loop-left.invariant.0 ∙ ap (λ n. drop n c.args.branches.now ++ c.args.last.now ∷ reverse (builders_now c.args.stack.now.items)) none
