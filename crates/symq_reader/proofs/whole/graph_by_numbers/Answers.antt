use Rattle.std.proofs.Common.{◌≡◌, false, true, refl, ap, ◌∙◌, rules}
use Rattle.json.specs.Value.{value_view}
use Rattle.serde_json.specs.View.{view}
use Rattle.symq_reader.specs.GraphText.{read_outcome_of_json}
use Rattle.symq_reader.specs.Numbers.{has_whole_numbers}
use Rattle.symq_reader.proofs.Outcomes.{json_of_bytes-read, json_of_bytes-refused}
use Rattle.symq_reader.proofs.Texts.{again_outcome, no_graph}
use Rattle.symq_reader.proofs.whole.graph_by_numbers.Goals as goal

pub returns-else-not-has_whole_numbers : goal.returns-else-not-has_whole_numbers
returns-else-not-has_whole_numbers c =
    let read = c.in-Ok.ensures.ok in
    let d = view c.in-Ok.read in
    let whole : has_whole_numbers d ≡ true = search rules in
    again_outcome c.args.bytes.now c.args.bytes.now (value_view c.args.found.now) d c.graph.result c.requires.utf8 refl c.requires.read
    (json_of_bytes-read c.args.bytes.now d read.0 read.1) whole c.graph.ensures

pub returns-then-not-has_whole_numbers : goal.returns-then-not-has_whole_numbers
returns-then-not-has_whole_numbers c =
    let read = c.in-Ok.ensures.ok in
    let d = view c.in-Ok.read in
    let broken : has_whole_numbers d ≡ false = search rules in
    ap read_outcome_of_json (json_of_bytes-read c.args.bytes.now d read.0 read.1) ∙ no_graph d broken

pub returns-in-Err-2 : goal.returns-in-Err-2
returns-in-Err-2 c =
    ap read_outcome_of_json (json_of_bytes-refused c.args.bytes.now (c.in-Err.ensures.err (λ memory. search (rules, c.if-is_memory.ensures.1 memory))))
