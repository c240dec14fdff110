use Rattle.std.proofs.Common.{◌≡◌, ◌++◌, map}
use Rattle.std.specs.Prelude.{All, flat_map}
use Rattle.symbols_exports.specs.PublicNames.{public_name_view}
use Rattle.symbols_exports.specs.inner.PublicNames.{public_names_of_export, IsExplicitExport}
use Rattle.symbols_exports.specs.CollectedNames.{ResolvedExportView, resolved_export_views}
use Rattle.symbols_exports.proofs.public_name.list_names.Given as goal

abbrev pub invariant-loop-name : goal.invariant-loop-name
invariant-loop-name l = record {
  explicit : All (λ (name : ResolvedExportView). IsExplicitExport l.root name.export) (resolved_export_views l.name-iterator);
  listed : map public_name_view l.names.items
      ++ flat_map (public_names_of_export l.root) (resolved_export_views l.name-iterator) ≡ flat_map (public_names_of_export l.root)
      (resolved_export_views l.resolved.entries);
}
