use Rattle.symq_reader.specs.GraphText.{json_of_bytes}
use Rattle.symq_core.proofs.FastPathLines.{queried_fast}
use Rattle.symq_core.proofs.fast_path.fast_path_query.Goals as goal

pub returns-in-Some : goal.returns-in-Some
returns-in-Some c = queried_fast (json_of_bytes c.args.line.now) c.in-Some.list c.query_of_tail.result c.in-Some.ensures c.query_of_tail.ensures
