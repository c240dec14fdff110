use Rattle.std.proofs.Common.{[], sym, subst, ◌∙◌}
use Rattle.symbols_paths.specs.PartTargets.{search_targets_of_root}
use Rattle.symbols_paths.specs.Answers.{AreDefinitionPaths, IsFindDefinitionPathsFault}
use Rattle.symbols_paths.specs.Views.{symbol_by_specifier}
use Rattle.symbols_paths.proofs.Answering.{memory_refused}
use Rattle.symbols_paths.specs.laws.OneOutcome.{found_forest_is_unique}
use Rattle.symbols_paths.proofs.Results.{on_memory}
use Rattle.symbols_paths.proofs.find_definitions.RootSymbolFindDefinitions.find_definition_paths.Goals as goal

pub returns-in-Err-clause-only : goal.returns-in-Err-clause-only
returns-in-Err-clause-only c = found_forest_is_unique (search_targets_of_root c.args.self.now)
    (symbol_by_specifier c.args.self.now c.args.module_id c.args.symbol_id) []

pub returns-in_err-build_paths-in-Ok-clause-only : goal.returns-in_err-build_paths-in-Ok-clause-only
returns-in_err-build_paths-in-Ok-clause-only c =
    found_forest_is_unique (search_targets_of_root c.args.self.now) (symbol_by_specifier c.args.self.now c.args.module_id c.args.symbol_id) []

pub returns-in_err-build_paths-in-Ok-clause-faults : goal.returns-in_err-build_paths-in-Ok-clause-faults
returns-in_err-build_paths-in-Ok-clause-faults c = on_memory
    (IsFindDefinitionPathsFault c.args.self.now c.path_builders.new.root c.args.module_id c.args.symbol_id)
    c.from_residual.result c.from_residual.ensures.1 (memory_refused c.in-Ok.ensures.known)

pub returns-in_ok-build_paths-in-Ok-clause-only : goal.returns-in_ok-build_paths-in-Ok-clause-only
returns-in_ok-build_paths-in-Ok-clause-only c =
    found_forest_is_unique (search_targets_of_root c.args.self.now) (symbol_by_specifier c.args.self.now c.args.module_id c.args.symbol_id) []

pub returns-in_ok-build_paths-in-Ok-clause-answers : goal.returns-in_ok-build_paths-in-Ok-clause-answers
returns-in_ok-build_paths-in-Ok-clause-answers c =
    let root = c.path_builders.new.root in
    record {
      known = c.in-Ok.ensures.known.0;
      has_symbol = c.in-Ok.ensures.known.1;
      are_paths = subst (AreDefinitionPaths c.args.self.now.rules c.args.self.now.graph (symbol_by_specifier c.args.self.now c.args.module_id c.args.symbol_id))
          (sym (c.in_ok-build_paths-in-Ok.ensures.view root)) c.in-Ok.ensures.answers;
      stored = c.in_ok-build_paths-in-Ok.ensures.stored root c.in-Ok.ensures.stored;
    }

pub returns-in_ok-build_paths-in-Ok-clause-listed : goal.returns-in_ok-build_paths-in-Ok-clause-listed
returns-in_ok-build_paths-in-Ok-clause-listed c = c.in_ok-build_paths-in-Ok.ensures.view c.path_builders.new.root ∙ c.in-Ok.ensures.listed
