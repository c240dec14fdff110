use Rattle.std.proofs.Common.{sym, ap, subst, ◌∙◌}
use Rattle.std.proofs.lemmas.Result.{IfOk-weaker}
use Rattle.symbols_paths.specs.Views.{AreModulesStored}
use Rattle.symbols_paths.specs.DepAnswers.{path_entries}
use Rattle.symbols_paths.proofs.symbol_dep.entries_of_builders.Goals as goal

pub returns-clause-view : goal.returns-clause-view
returns-clause-view c = IfOk-weaker c.entries_of_paths.result _ _ (λ entries view root. view root
    ∙ ap path_entries (c.in_ok-paths.ensures.view root)) c.entries_of_paths.ensures.view

pub returns-clause-stored : goal.returns-clause-stored
returns-clause-stored c = IfOk-weaker c.entries_of_paths.result _ _
    (λ entries same root a. subst (AreModulesStored root) (sym same) (c.in_ok-paths.ensures.stored root a)) c.entries_of_paths.ensures.modules
