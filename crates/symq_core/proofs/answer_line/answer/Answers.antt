use Rattle.std.proofs.Common.{◌∙◌}
use Rattle.std.specs.Option.{option_and_then}
use Rattle.symq_reader.specs.GraphText.{json_of_bytes}
use Rattle.symq_core.specs.Queries.{query_of_json, query_result_json}
use Rattle.symq_core.specs.AnswerTexts.{answer_text}
use Rattle.symq_core.proofs.Texts.{text_after}
use Rattle.symq_core.proofs.answer_line.answer.Goals as goal

pub returns-clause-text : goal.returns-clause-text
unfolding answer_text
returns-clause-text c =
    let value = query_result_json c.args.root.now.rules c.args.root.now.graph (option_and_then query_of_json (json_of_bytes c.args.line.now)) in
    c.into_inner.ensures.items ∙ text_after c.new-out.result c.write_line_answer.new.out c.args.bytes.items value c.new-out.ensures.before
    c.new-out.ensures.tokens c.in_ok-write_line_answer.ensures.value
