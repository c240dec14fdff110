use Rattle.std.proofs.Common.{◌≡◌, ℕ, List, Ok, IfOk, sym, subst}
use Rattle.symq_reader.specs.GraphText.{raw_graph_view, read_outcome_of_bytes}
use Rattle.symq_reader.proofs.stream.graph.Goals as goal

pub returns-in-Some : goal.returns-in-Some
returns-in-Some c = subst (λ (bytes : List ℕ). IfOk c.graph.result (λ graph. read_outcome_of_bytes bytes ≡ Ok (raw_graph_view graph))) (sym c.in-Some.ensures)
    c.graph.ensures
