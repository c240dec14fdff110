use Rattle.symq_c.proofs.LineAnswers.{line_answer_same}
use Rattle.symq_c.proofs.SameGraphs.{alike_for_query}
use Rattle.symq_c.proofs.laws.same_graphs_answer_alike.Goals as goal

pub returns : goal.returns
returns c = λ rules line same.
    let graph = c.args.root.now.graph in
    let other = c.args.other.now.graph in
    line_answer_same rules graph other (λ query. c.answers_are_local.ensures.answers rules query (alike_for_query graph other same query)) line
