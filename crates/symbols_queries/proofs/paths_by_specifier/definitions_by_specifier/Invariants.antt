use Rattle.std.proofs.Common.{map}
use Rattle.symbols_paths.specs.Views.{definition_by_specifier, remaining_definitions, module_of_definition, AreModulesStored}
use Rattle.symbols_queries.specs.Queries.{definition_by_specifier_view}
use Rattle.symbols_queries.proofs.Naming.{AreNamed}
use Rattle.symbols_queries.proofs.paths_by_specifier.definitions_by_specifier.Given as goal

abbrev pub invariant-loop-definition : goal.invariant-loop-definition
invariant-loop-definition l = record {
  named : AreNamed definition_by_specifier_view (definition_by_specifier l.root) l.named.items (remaining_definitions l.definition-iterator)
      (remaining_definitions l.fn.definitions);
  known : AreModulesStored l.root (map module_of_definition (remaining_definitions l.definition-iterator));
}
