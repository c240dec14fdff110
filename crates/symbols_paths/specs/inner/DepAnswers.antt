-- Definitions of inner functions and proofs, beside those of `DepAnswers`.
use Rattle.std.specs.Prelude.{◌≡◌, Option, MatchOption}
use Rattle.symbols_ast.specs.Graph.{GraphView}
use Rattle.symbols_root.specs.declared.rules.Rules.{Rules}
use Rattle.symbols_paths.specs.PathTrees.{PathForest}
use Rattle.symbols_paths.specs.Computed.{paths_with_parts}
use Rattle.symbols_paths.specs.Answers.{AreDefinitionPathsWithAnyParts}
use Rattle.symbols_paths.specs.DepAnswers.{ReferencedSymbolWithParts}

-- the paths of the referenced symbol under its parts, or `otherwise` if there is no such symbol
abbrev pub ArePathsOfReference : Rules → GraphView → Option ReferencedSymbolWithParts → PathForest → PathForest → Type 0
ArePathsOfReference rules graph referenced otherwise paths =
    MatchOption referenced (paths ≡ otherwise) (λ it. AreDefinitionPathsWithAnyParts rules graph it.0 it.1 paths ×
    (paths ≡ paths_with_parts rules graph it.0 it.1))
