use Rattle.symbols_locality.proofs.SameAnswers.{same_query_answer, same_answer}
use Rattle.symbols_locality.proofs.answers_are_local.Goals as goal

pub returns-clause-answers : goal.returns-clause-answers
returns-clause-answers c = λ rules query alike.
    same_query_answer rules c.args.root.now.graph c.args.other.now.graph c.exports_are_listed.ensures c.exports_are_listed-2.ensures query alike

pub returns-clause-means : goal.returns-clause-means
returns-clause-means c = λ rules query one two alike x y.
    same_answer rules c.args.root.now.graph c.args.other.now.graph c.exports_are_listed.ensures c.exports_are_listed-2.ensures query alike one two x y
