-- The text of the answer to a line.
use Rattle.std.specs.Prelude.{ℕ, List, option_and_then}
use Rattle.serde_json.specs.Written.{compact_text}
use Rattle.symbols_ast.specs.Graph.{GraphView}
use Rattle.symbols_root.specs.declared.rules.Rules.{Rules}
use Rattle.symq_reader.specs.GraphText.{json_of_bytes}
use Rattle.symq_core.specs.Queries.{query_of_json, query_result_json}

-- the answer to a line by these rules as compact JSON, without a line end
unfoldable pub answer_text : Rules → GraphView → List ℕ → List ℕ
answer_text rules graph line = compact_text (query_result_json rules graph (option_and_then query_of_json (json_of_bytes line)))
