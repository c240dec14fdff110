use Rattle.std.proofs.Common.{◌≡◌, ◌++◌, map}
use Rattle.symbols_exports.specs.CollectedNames.{resolved_export_views}
use Rattle.symbols_exports.specs.ExportViews.{export_by_specifier, AreModulesOfExportsStored}
use Rattle.symbols_queries.specs.Queries.{export_view}
use Rattle.symbols_queries.proofs.exports_by_specifier.export_list_by_specifier.Given as goal

abbrev pub invariant-loop-name : goal.invariant-loop-name
invariant-loop-name l = record {
  named : map export_view l.exports.items ++ map (export_by_specifier l.root) (resolved_export_views l.name-iterator)
      ≡ map (export_by_specifier l.root) (resolved_export_views l.fn.resolved.entries);
  known : AreModulesOfExportsStored l.root (resolved_export_views l.name-iterator);
}
