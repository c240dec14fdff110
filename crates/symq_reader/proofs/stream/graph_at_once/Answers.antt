use Rattle.std.proofs.Common.{◌≡◌, [], rules}
use Rattle.symq_reader.specs.GraphText.{raw_graph_view}
use Rattle.symq_reader.proofs.Texts.{text_outcome}
use Rattle.symq_reader.proofs.stream.graph_at_once.Goals as goal

pub returns : goal.returns
returns c =
    let utf8 = c.in-Ok.ensures.cases in
    let over : c.graph_value.new.reader ≡ [] = search rules in
    text_outcome c.args.bytes.now c.in-Ok.text.now c.in_ok-reader.reader c.graph_value.new.reader (raw_graph_view c.in_ok-graph.graph) utf8.1 utf8.0
    c.in_ok-reader.ensures.ok over c.in_ok-graph.ensures
