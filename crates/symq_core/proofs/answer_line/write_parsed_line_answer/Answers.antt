use Rattle.std.proofs.Common.{◌≡◌, Option, Some, false, option_and_then, sym, subst, rules}
use Rattle.std.specs.Prelude.{IfSome}
use Rattle.serde_json.specs.Data.{Data}
use Rattle.symq_reader.specs.GraphText.{json_of_bytes}
use Rattle.symq_reader.specs.Lists.{has_no_object_and_whole_numbers}
use Rattle.symq_reader.specs.JsonData.{value_data}
use Rattle.symbols_root.specs.laws.Growing.{has_grown_refl}
use Rattle.symbols_answers.specs.Questions.{QueryView}
use Rattle.symq_core.specs.Queries.{query_result_json, query_of_json}
use Rattle.symq_core.specs.inner.JsonWriting.{AppendsValueTokensIfOk}
use Rattle.symq_core.proofs.Listed.{no_query}
use Rattle.symq_core.proofs.answer_line.write_parsed_line_answer.Goals as goal

pub returns-in_err-value-clause-grown : goal.returns-in_err-value-clause-grown
returns-in_err-value-clause-grown c = has_grown_refl c.args.root.now

pub returns-clause-grown : goal.returns-clause-grown
returns-clause-grown c = has_grown_refl c.args.root.now

pub returns-in-Some-clause-value : goal.returns-in-Some-clause-value
returns-in-Some-clause-value c =
    let is : json_of_bytes c.args.line.now ≡ Some (value_data c.in-Some.value) = search rules in
    subst (λ (o : Option Data). AppendsValueTokensIfOk c.write_value_answer.result c.args.out.now c.write_value_answer.new.out
    (query_result_json c.args.root.now.rules c.args.root.now.graph (option_and_then query_of_json o))) (sym is) c.write_value_answer.ensures.value

pub returns-clause-value : goal.returns-clause-value
returns-clause-value c =
    let other_items : IfSome (json_of_bytes c.args.line.now) (λ d. has_no_object_and_whole_numbers d ≡ false) = search rules in
    subst (λ (q : Option QueryView). AppendsValueTokensIfOk c.write_text.result c.args.out.now c.write_text.new.out
    (query_result_json c.args.root.now.rules c.args.root.now.graph q)) (sym (no_query (json_of_bytes c.args.line.now) other_items)) c.write_text.ensures
