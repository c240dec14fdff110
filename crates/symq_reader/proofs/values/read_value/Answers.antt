use Rattle.std.proofs.Common.{◌≡◌, [], None, Some, true, false, ap, sym, ◌∙◌, rules}
use Rattle.json.specs.Json.{value}
use Rattle.json.specs.Lex.{tokens}
use Rattle.json.specs.Value.{value_view}
use Rattle.serde_json.specs.Read.{read}
use Rattle.symq_reader.specs.inner.JsonData.{json_has_whole_numbers}
use Rattle.symq_reader.proofs.Outcomes.{json_of_bytes-refused}
use Rattle.symq_reader.proofs.Texts.{fitting_value, misfitting_value, no_value}
use Rattle.symq_reader.proofs.values.read_value.Goals as goal

pub returns-in_default : goal.returns-in_default
returns-in_default c = no_value c.args.bytes.now (json_of_bytes-refused c.args.bytes.now (λ utf8. absurd (c.in_default.ensures.cases.0 utf8)))

pub returns-in_default-2 : goal.returns-in_default-2
returns-in_default-2 c =
    let same = c.in-Ok.ensures.cases.0 in
    let refused : read c.in-Ok.text.now ≡ None = search rules in
    no_value c.args.bytes.now (json_of_bytes-refused c.args.bytes.now (λ utf8. ap read (sym same) ∙ refused))

pub returns-then-fits : goal.returns-then-fits
returns-then-fits c =
    let utf8 = c.in-Ok.ensures.cases in
    let j = value_view c.in-Some.found in
    let all : value 127 (tokens c.in-Ok.text.now) ≡ Some (j, []) = search rules in
    let fit : json_has_whole_numbers j ≡ true = search rules in
    fitting_value c.args.bytes.now c.in-Ok.text.now j utf8.1 utf8.0 all fit

pub returns : goal.returns
returns c =
    let utf8 = c.in-Ok.ensures.cases in
    let j = value_view c.in-Some.found in
    let all : value 127 (tokens c.in-Ok.text.now) ≡ Some (j, []) = search rules in
    let misfits : json_has_whole_numbers j ≡ false = search rules in
    misfitting_value c.args.bytes.now c.in-Ok.text.now j utf8.1 utf8.0 all misfits
