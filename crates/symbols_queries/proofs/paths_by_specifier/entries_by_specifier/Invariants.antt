use Rattle.symbols_paths.specs.DepAnswers.{resolved_dep_entry_view, modules_of_entries}
use Rattle.symbols_paths.specs.Views.{AreModulesStored}
use Rattle.symbols_queries.specs.Queries.{dep_entry_view}
use Rattle.symbols_queries.proofs.Naming.{AreNamed}
use Rattle.symbols_queries.proofs.paths_by_specifier.entries_by_specifier.Given as goal

abbrev pub invariant-loop-entry : goal.invariant-loop-entry
invariant-loop-entry l = record {
  named : AreNamed dep_entry_view (resolved_dep_entry_view l.root) l.named.items l.entry-iterator.rest.items l.fn.entries.items;
  known : AreModulesStored l.root (modules_of_entries l.entry-iterator.rest.items);
}
