use Rattle.std.proofs.Common.{◌≡◌, ◌≤◌, ℕ, List, [], length}
use Rattle.std.specs.Io.KnownBytes.{Appends, Consumes}
use Rattle.symq_core.specs.AnswerTexts.{answer_text}
use Rattle.symq_core.specs.Lines.{split_at_newlines, last_or_empty, terminated_lines, answer_lines}
use Rattle.symq_core.specs.inner.Sessions.{line_answer}
use Rattle.symq_core.proofs.engine.serve_with.Given as goal

abbrev pub invariant-loop-read_index : goal.invariant-loop-read_index
invariant-loop-read_index g l =
    (read : List ℕ) × Consumes (g.R.Input.remaining l.initial.reader) (g.R.Input.remaining l.reader) read
    × Appends (g.W.Output.written l.initial.writer) (g.W.Output.written l.writer) (answer_lines (answer_text l.fn.rules l.graph) (terminated_lines read))
    × (l.session.answers.items ≡ []) × (l.session.line.items ≡ last_or_empty (split_at_newlines read)) × (l.read_index ≤ length read)
    × (g.R.Input.failures l.reader ≡ g.R.Input.failures l.initial.reader) × (g.W.Output.failures l.writer ≡ g.W.Output.failures l.initial.writer)
    × (line_answer l.session.root ≡ answer_text l.fn.rules l.graph)
