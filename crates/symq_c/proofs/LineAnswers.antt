-- The answer to a line is the same over graphs in which each query has the same answer.
use Rattle.std.proofs.Common.{◌≡◌, ℕ, List, Option, None, Some, refl, ap}
use Rattle.std.specs.Prelude.{option_and_then}
use Rattle.serde_json.specs.Written.{compact_text}
use Rattle.symbols_ast.specs.Graph.{GraphView}
use Rattle.symbols_root.specs.declared.rules.Rules.{Rules}
use Rattle.symbols_answers.specs.Questions.{QueryView}
use Rattle.symbols_answers.specs.Answers.{query_answer}
use Rattle.symq_reader.specs.GraphText.{json_of_bytes}
use Rattle.symq_core.specs.Queries.{query_of_json, answer_or_fault_json, query_result_json}
use Rattle.symq_core.specs.AnswerTexts.{answer_text}

pub line_answer_same : (rules : Rules) (graph other : GraphView) → ((query : QueryView) → query_answer rules graph query ≡ query_answer rules other query)
    → (line : List ℕ) → answer_text rules graph line ≡ answer_text rules other line
unfolding answer_text
line_answer_same rules graph other same line = ap compact_text (by (option_and_then query_of_json (json_of_bytes line)))
  where
    by : (query : Option QueryView) → query_result_json rules graph query ≡ query_result_json rules other query
    by None = refl
    by (Some query) = ap answer_or_fault_json (same query)
