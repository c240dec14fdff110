use Rattle.std.proofs.Common.{◌≡◌, [], None, Some, true, ap, sym, ◌∙◌, rules}
use Rattle.json.specs.Json.{value}
use Rattle.json.specs.Lex.{tokens}
use Rattle.json.specs.Value.{value_view}
use Rattle.serde_json.specs.Read.{read}
use Rattle.symq_reader.specs.GraphText.{read_outcome_of_json}
use Rattle.symq_reader.specs.inner.JsonData.{json_has_whole_numbers}
use Rattle.symq_reader.proofs.Outcomes.{json_of_bytes-refused}
use Rattle.symq_reader.proofs.Texts.{fitting_outcome}
use Rattle.symq_reader.proofs.whole.graph_of_any_form.Goals as goal

pub returns-in_default : goal.returns-in_default
returns-in_default c = ap read_outcome_of_json (json_of_bytes-refused c.args.bytes.now (λ utf8. absurd (c.in_default.ensures.cases.0 utf8)))

pub returns-in_default-2 : goal.returns-in_default-2
returns-in_default-2 c =
    let same = c.in-Ok.ensures.cases.0 in
    let refused : read c.in-Ok.text.now ≡ None = search rules in
    ap read_outcome_of_json (json_of_bytes-refused c.args.bytes.now (λ utf8. ap read (sym same) ∙ refused))

pub graph_by_numbers-requires-clause-utf8 : goal.graph_by_numbers-requires-clause-utf8
graph_by_numbers-requires-clause-utf8 c = c.in-Ok.ensures.cases.1

pub graph_by_numbers-requires-clause-read : goal.graph_by_numbers-requires-clause-read
graph_by_numbers-requires-clause-read c =
    let all : value 127 (tokens c.in-Ok.text.now) ≡ Some (value_view c.in-Some.found, []) = search rules in
    ap (λ t. value 127 (tokens t)) (sym c.in-Ok.ensures.cases.0) ∙ all

pub returns-then-fits : goal.returns-then-fits
returns-then-fits c =
    let utf8 = c.in-Ok.ensures.cases in
    let j = value_view c.in-Some.found in
    let all : value 127 (tokens c.in-Ok.text.now) ≡ Some (j, []) = search rules in
    let fit : json_has_whole_numbers j ≡ true = search rules in
    fitting_outcome c.args.bytes.now c.in-Ok.text.now j c.graph.result utf8.1 utf8.0 all fit c.graph.ensures
