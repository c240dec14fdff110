use Rattle.std.proofs.Common.{sym, ◌∙◌, arith}
use Rattle.std.proofs.lemmas.Bool.{not-true, not-false}
use Rattle.std.proofs.lemmas.Grind.{common_steps}
use Rattle.symbols_graph.proofs.RepeatLemmas.{repeat_at, none_more, none_all}
use Rattle.symbols_graph.proofs.duplicates.first_repeat.Goals as goal

pub returns-then-not-branch : goal.returns-then-not-branch
returns-then-not-branch g c =
    let found = not-false _ (sym c.in_ok-insert.ensures.added ∙ c.if-not-branch.true) in (
      c.loop-key.key-index,
      repeat_at g.K.PartialEq.eq c.args.keys.now c.loop-key.key-index c.key-item.result c.loop-key-test.true c.key-item.is
          (sym (c.loop-key.invariant.same c.key-item.result) ∙ found),
      c.loop-key.invariant.none,
    )

pub loop-key-preserved : goal.loop-key-preserved
loop-key-preserved g c =
    let new = not-true _ (sym c.in_ok-insert.ensures.added ∙ c.if-not-branch.false) in
    record {
      same = λ q. grind (arith, common_steps, c.loop-key.invariant.same q, c.in_ok-insert.ensures.updates.0 q);
      none = none_more g.K.PartialEq.eq c.args.keys.now c.loop-key.key-index c.key-item.result c.loop-key-test.true c.key-item.is
          (sym (c.loop-key.invariant.same c.key-item.result) ∙ new) c.loop-key.invariant.none;
    }

pub returns : goal.returns
returns g c = none_all g.K.PartialEq.eq c.args.keys.now c.loop-key.key-index c.loop-key-test.false c.loop-key.invariant.none
