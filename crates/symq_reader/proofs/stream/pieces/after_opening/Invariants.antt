use Rattle.std.proofs.Common.{◌≡◌, ◌++◌, take}
use Rattle.symq_reader.specs.inner.Pieces.{graph_text_opening}
use Rattle.symq_reader.proofs.stream.pieces.after_opening.Given as goal

-- this much of the opening was found
abbrev pub invariant-graph_text_opening : goal.invariant-graph_text_opening
invariant-graph_text_opening l = l.fn.bytes ≡ take l.byte-index graph_text_opening ++ l.list
