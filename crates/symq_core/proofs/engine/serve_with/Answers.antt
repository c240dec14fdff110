use Rattle.std.proofs.Common.{◌≡◌, ◌<◌, ◌≤◌, ◌++◌, take, length, ap, subst, ◌∙◌, arith, append-nil}
use Rattle.std.proofs.lemmas.Result.{err_from_is_err_and, on_ok_weaker}
use Rattle.std.proofs.lemmas.Grind.{common_steps}
use Rattle.std.proofs.KnownBytes.{Consumes-trans}
use Rattle.std.specs.Io.KnownBytes.{Consumes}
use Rattle.symq_core.specs.AnswerTexts.{answer_text}
use Rattle.symq_core.specs.Lines.{all_but_last, nonempty_line}
use Rattle.symq_core.specs.inner.Sessions.{split_with_partial_line}
use Rattle.symq_core.specs.Devices.{COUNT_LIMIT}
use Rattle.symq_core.proofs.Outputs.{block_sent, block_line, block_begun, begun_output, served_at_end, begun_at_end, read_within}
use Rattle.symq_core.proofs.Outputs.{fails_from, fails_if, block_first, last_first}
use Rattle.symq_core.proofs.engine.serve_with.Goals as goal

pub returns-then-read-eq0-clause-fails : goal.returns-then-read-eq0-clause-fails
returns-then-read-eq0-clause-fails g c =
    let l = c.loop-read_index in
    let v = l.invariant in
    let answer = answer_text c.args.rules c.args.graph.now in
    let start = g.R.Input.remaining c.args.reader.now in
    let left = g.R.Input.remaining c.read.new.self in
    let before = g.W.Output.written c.args.writer.now in
    let after = g.W.Output.written c.finish.new.writer in
    let none : v.0 ++ take c.in-Ok.read c.read.new.buffer ≡ v.0 = ap (λ k. v.0 ++ take k c.read.new.buffer) c.if-read-eq0.true ∙ append-nil v.0 in
    let all : Consumes start left v.0 = subst (Consumes start left) none
    (Consumes-trans start (g.R.Input.remaining l.reader) left v.0 (take c.in-Ok.read c.read.new.buffer) v.1 c.in-Ok.ensures.consumed.0) in
    let room : 0 < length c.read.new.buffer = grind (arith, common_steps) in
    fails_if answer (nonempty_line l.session.line.items) c.finish.result l.session.answers.items _ _ start left before (g.W.Output.written l.writer) after
    (rw v.8 at c.finish.ensures.err)
    (λ q. last_first answer start left before (g.W.Output.written l.writer) after v.0 l.session.line.items l.session.answers.items all
    (c.in-Ok.ensures.consumed.1 c.if-read-eq0.true room) v.3 v.4 v.2 q)
    (λ q. begun_at_end answer start left before (g.W.Output.written l.writer) after v.0 l.session.line.items l.session.answers.items all
    (c.in-Ok.ensures.consumed.1 c.if-read-eq0.true room) v.3 v.4 v.2 q)

pub returns-then-read-eq0-clause-served : goal.returns-then-read-eq0-clause-served
returns-then-read-eq0-clause-served g c =
    let l = c.loop-read_index in
    let v = l.invariant in
    let answer = answer_text c.args.rules c.args.graph.now in
    let start = g.R.Input.remaining c.args.reader.now in
    let left = g.R.Input.remaining c.read.new.self in
    let before = g.W.Output.written c.args.writer.now in
    let after = g.W.Output.written c.finish.new.writer in
    let none : v.0 ++ take c.in-Ok.read c.read.new.buffer ≡ v.0 = ap (λ k. v.0 ++ take k c.read.new.buffer) c.if-read-eq0.true ∙ append-nil v.0 in
    let all : Consumes start left v.0 = subst (Consumes start left) none
    (Consumes-trans start (g.R.Input.remaining l.reader) left v.0 (take c.in-Ok.read c.read.new.buffer) v.1 c.in-Ok.ensures.consumed.0) in
    let room : 0 < length c.read.new.buffer = grind (arith, common_steps) in
    on_ok_weaker c.finish.result
    (λ sent. served_at_end answer start left before (g.W.Output.written l.writer) after v.0 l.session.line.items l.session.answers.items all
    (c.in-Ok.ensures.consumed.1 c.if-read-eq0.true room) v.3 v.4 v.2 sent.0)
    (rw v.8 at c.finish.ensures.ok)

pub returns-clause-fails : goal.returns-clause-fails
returns-clause-fails g c =
    let l = c.loop-read_index in
    let v = l.invariant in
    let long : COUNT_LIMIT ≤ length v.0 = grind (arith, common_steps) in
    ((v.0, v.1, v.2), read_within COUNT_LIMIT (g.R.Input.remaining c.args.reader.now) (g.R.Input.remaining l.reader) v.0 v.1 long)

pub returns-in_err-take_block-clause-fails : goal.returns-in_err-take_block-clause-fails
returns-in_err-take_block-clause-fails g c =
    let l = c.loop-read_index in
    let v = l.invariant in
    let answer = answer_text c.args.rules c.args.graph.now in
    let p = err_from_is_err_and c.from_residual-in_err-take_block.result c.from_residual-in_err-take_block.ensures.1 in
    let e = rw v.8 at c.in_err-take_block.ensures.err in
    let block = take c.in-Ok.read c.read.new.buffer in
    let start = g.R.Input.remaining c.args.reader.now in
    let left = g.R.Input.remaining c.read.new.self in
    let before = g.W.Output.written c.args.writer.now in
    let middle = g.W.Output.written l.writer in
    let after = g.W.Output.written c.take_block.new.writer in
    let all = Consumes-trans start (g.R.Input.remaining l.reader) left v.0 block v.1 c.in-Ok.ensures.consumed.0 in
    rw (p.1, p.2) (fails_from answer (all_but_last (split_with_partial_line l.session.line.items block)) c.in_err-take_block.field-0.0
    l.session.answers.items _ _ start left before middle after e
    (λ q. block_first answer start left before middle after v.0 l.session.line.items l.session.answers.items block all v.3 v.4 v.2 q)
    (λ q. begun_output answer start left before after (v.0 ++ block) all
    (block_begun answer before middle after v.0 l.session.line.items l.session.answers.items block v.3 v.4 v.2 q)))

pub loop-read_index-preserved : goal.loop-read_index-preserved
loop-read_index-preserved g c =
    let l = c.loop-read_index in
    let v = l.invariant in
    let answer = answer_text c.args.rules c.args.graph.now in
    let done = rw v.8 at c.in_ok-take_block.ensures.ok in
    let block = take c.in-Ok.read c.read.new.buffer in (
      v.0 ++ block,
      Consumes-trans _ _ _ v.0 block v.1 c.in-Ok.ensures.consumed.0,
      block_sent answer _ _ _ v.0 l.session.line.items l.session.answers.items block v.3 v.4 v.2 done.0,
      done.1,
      block_line v.0 l.session.line.items c.take_block.new.self.line.items block v.4 done.2,
      grind (arith, common_steps),
      grind arith,
      done.3 ∙ v.7,
      c.in_ok-take_block.ensures.same ∙ v.8,
    )
