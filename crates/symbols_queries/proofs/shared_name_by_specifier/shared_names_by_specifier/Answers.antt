use Rattle.std.proofs.Common.{◌≡◌, List, subst}
use Rattle.std.specs.Prelude.{string_bytes}
use Rattle.symbols_exports.specs.declared.shared_name.SharedName.{SharedName}
use Rattle.symbols_exports.specs.SharedNames.{NameWithExporters}
use Rattle.symbols_exports.specs.SharedNameLists.{shared_name_view_of_resolved}
use Rattle.symbols_exports.specs.CollectedNames.{ResolvedExportView, resolved_shared_name_view as borrowed_view, resolved_shared_name_views}
use Rattle.symbols_exports.specs.ExportViews.{AreModulesOfExportsStored}
use Rattle.symbols_queries.specs.Queries.{shared_name_view}
use Rattle.symbols_queries.proofs.Naming.{AreNamed, named_next}
use Rattle.symbols_queries.proofs.Known.{mapped_first, mapped_rest}
use Rattle.symbols_queries.proofs.shared_name_by_specifier.shared_names_by_specifier.Goals as goal

pub exporters_by_specifier-requires : goal.exporters_by_specifier-requires
exporters_by_specifier-requires c = mapped_first (λ (shared : NameWithExporters ResolvedExportView). AreModulesOfExportsStored c.args.root.now shared.exporters)
    borrowed_view
    c.loop-shared.shared-iterator.rest.items c.in-Some.shared c.next.new.self.rest.items c.in-Some.ensures.steps.0 c.loop-shared.invariant.known

pub loop-shared-preserved : goal.loop-shared-preserved
loop-shared-preserved c =
    let root = c.args.root.now in
    let shared : SharedName = c.in-Some.shared in
    let rest = c.next.new.self.rest.items in
    let same : shared_name_view (record { name = shared.name; exporters = c.in_ok-exporters.exporters }) ≡ shared_name_view_of_resolved root
    (borrowed_view shared) =
    λ i. record { name = string_bytes shared.name; exporters = c.in_ok-exporters.ensures i } in
    let so = subst (λ (left : List SharedName). AreNamed shared_name_view (shared_name_view_of_resolved root) c.loop-shared.named.items
    (resolved_shared_name_views left)
    (resolved_shared_name_views c.args.sharing.items)) c.in-Some.ensures.steps.0 c.loop-shared.invariant.named in
    record {
      named = named_next shared_name_view (shared_name_view_of_resolved root) c.loop-shared.named.items c.push.new.self.items
          (record { name = shared.name; exporters = c.in_ok-exporters.exporters }) (borrowed_view shared) (resolved_shared_name_views rest)
          (resolved_shared_name_views c.args.sharing.items) so c.in_ok-push.ensures.items same;
      known = mapped_rest (λ (name : NameWithExporters ResolvedExportView). AreModulesOfExportsStored root name.exporters) borrowed_view
          c.loop-shared.shared-iterator.rest.items shared rest
          c.in-Some.ensures.steps.0 c.loop-shared.invariant.known;
    }
