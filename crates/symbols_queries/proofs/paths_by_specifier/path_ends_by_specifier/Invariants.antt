use Rattle.std.proofs.Common.{map}
use Rattle.symbols_paths.specs.Views.{path_leaf_of_end, remaining_ends, module_of_end, AreModulesStored}
use Rattle.symbols_queries.specs.Queries.{path_end_view}
use Rattle.symbols_queries.proofs.Naming.{AreNamed}
use Rattle.symbols_queries.proofs.paths_by_specifier.path_ends_by_specifier.Given as goal

abbrev pub invariant-loop-end : goal.invariant-loop-end
invariant-loop-end l = record {
  named : AreNamed path_end_view (path_leaf_of_end l.root) l.named.items (remaining_ends l.end-iterator) (remaining_ends l.fn.ends);
  known : AreModulesStored l.root (map module_of_end (remaining_ends l.end-iterator));
}
