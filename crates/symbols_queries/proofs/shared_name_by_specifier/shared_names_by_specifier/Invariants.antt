use Rattle.symbols_exports.specs.SharedNameLists.{shared_name_view_of_resolved, AreExporterModulesStored}
use Rattle.symbols_exports.specs.CollectedNames.{resolved_shared_name_views}
use Rattle.symbols_queries.specs.Queries.{shared_name_view}
use Rattle.symbols_queries.proofs.Naming.{AreNamed}
use Rattle.symbols_queries.proofs.shared_name_by_specifier.shared_names_by_specifier.Given as goal

abbrev pub invariant-loop-shared : goal.invariant-loop-shared
invariant-loop-shared l = record {
  named : AreNamed shared_name_view (shared_name_view_of_resolved l.root) l.named.items (resolved_shared_name_views l.shared-iterator.rest.items)
      (resolved_shared_name_views l.fn.sharing.items);
  known : AreExporterModulesStored l.root (resolved_shared_name_views l.shared-iterator.rest.items);
}
