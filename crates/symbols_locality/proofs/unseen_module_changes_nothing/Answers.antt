use Rattle.symbols_locality.proofs.ChangedModule.{alike_if_unseen}
use Rattle.symbols_locality.proofs.unseen_module_changes_nothing.Goals as goal

pub returns-clause-answers : goal.returns-clause-answers
returns-clause-answers c = λ rules query changed differs unseen.
    c.answers_are_local.ensures.answers rules query (alike_if_unseen c.args.root.now.graph c.args.other.now.graph changed query differs unseen)

pub returns-clause-means : goal.returns-clause-means
returns-clause-means c = λ rules query changed one two differs unseen x y.
    c.answers_are_local.ensures.means rules query one two (alike_if_unseen c.args.root.now.graph c.args.other.now.graph changed query differs unseen) x y
