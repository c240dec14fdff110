use Rattle.std.proofs.Common.{ap, ◌∙◌}
use Rattle.symbols_paths.specs.PathTrees.{leaves_of_forest}
use Rattle.symbols_paths.specs.Answers.{IsFindDefinitionPathsFault}
use Rattle.symbols_paths.specs.inner.PathBuilders.{built_paths}
use Rattle.symbols_paths.proofs.Answering.{memory_refused}
use Rattle.symbols_paths.proofs.Results.{on_memory}
use Rattle.symbols_paths.proofs.find_definitions.RootSymbolFindDefinitions.go_to_definitions_or_unresolveds.Goals as goal

pub returns-in_ok-ends_of_builders-in-Ok-clause-answers : goal.returns-in_ok-ends_of_builders-in-Ok-clause-answers
returns-in_ok-ends_of_builders-in-Ok-clause-answers c =
    let root = c.path_builders.new.root in
    (built_paths root c.in-Ok.builders.items, c.in-Ok.ensures.answers, c.in_ok-ends_of_builders-in-Ok.ensures.view root)

pub returns-in_ok-ends_of_builders-in-Ok-clause-listed : goal.returns-in_ok-ends_of_builders-in-Ok-clause-listed
returns-in_ok-ends_of_builders-in-Ok-clause-listed c = c.in_ok-ends_of_builders-in-Ok.ensures.view c.path_builders.new.root
    ∙ ap leaves_of_forest c.in-Ok.ensures.listed

pub returns-in_err-ends_of_builders-in-Ok-clause-faults : goal.returns-in_err-ends_of_builders-in-Ok-clause-faults
returns-in_err-ends_of_builders-in-Ok-clause-faults c = on_memory
    (IsFindDefinitionPathsFault c.args.self.now c.path_builders.new.root c.args.module_id c.args.symbol_id)
    c.from_residual.result c.from_residual.ensures.1 (memory_refused c.in-Ok.ensures.known)

pub returns-in_ok-ends_of_builders-in-Ok-clause-stored : goal.returns-in_ok-ends_of_builders-in-Ok-clause-stored
returns-in_ok-ends_of_builders-in-Ok-clause-stored c = c.in_ok-ends_of_builders-in-Ok.ensures.stored c.path_builders.new.root c.in-Ok.ensures.stored
