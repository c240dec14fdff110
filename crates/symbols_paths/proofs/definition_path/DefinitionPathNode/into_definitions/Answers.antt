use Rattle.std.proofs.Common.{ap, ◌∙◌}
use Rattle.std.proofs.lemmas.Result.{IfOk-weaker}
use Rattle.symbols_paths.specs.PathTrees.{definitions_among}
use Rattle.symbols_paths.proofs.definition_path.DefinitionPathNode.into_definitions.Goals as goal

pub returns : goal.returns
returns c = IfOk-weaker c.definitions_of_ends.result _ _ (λ definitions view root. view root
    ∙ ap definitions_among (c.in_ok-ends.ensures root)) c.definitions_of_ends.ensures.view
