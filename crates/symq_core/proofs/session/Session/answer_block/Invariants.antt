use Rattle.std.proofs.Common.{◌≡◌, ◌++◌, ℕ, List, length}
use Rattle.symq_core.specs.Lines.{answer_lines}
use Rattle.symq_core.specs.inner.Sessions.{SendsText, split_with_partial_line, line_answer}
use Rattle.symq_core.proofs.session.Session.answer_block.Given as goal

abbrev pub invariant-lines : goal.invariant-lines
invariant-lines g l =
    (ended : List (List ℕ)) × (split_with_partial_line l.initial.self.line.items l.block ≡ ended ++ split_with_partial_line l.self.line.items l.rest)
    × SendsText (g.W.Output.written l.initial.writer) (g.W.Output.written l.writer) l.initial.self.answers.items l.self.answers.items (answer_lines
    (line_answer l.initial.self.root) ended)
    × (g.W.Output.failures l.writer ≡ g.W.Output.failures l.initial.writer) × (line_answer l.self.root ≡ line_answer l.initial.self.root)

abbrev pub decreases-lines : goal.decreases-lines
decreases-lines g l = length l.rest
