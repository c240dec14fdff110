use Rattle.std.proofs.Common.{List, subst}
use Rattle.std.specs.Prelude.{String}
use Rattle.std.specs.Global.{Global}
use Rattle.symbols_exports.specs.declared.export_chain.ResolvedExportOrReExportAllPath.{ResolvedExportOrReExportAllPath}
use Rattle.symbols_exports.specs.CollectedNames.{resolved_export_view, resolved_export_views}
use Rattle.symbols_exports.specs.ExportViews.{export_by_specifier, AreModulesOfExportStored}
use Rattle.symbols_queries.specs.Queries.{export_view}
use Rattle.symbols_queries.proofs.Naming.{AreNamed, named_next}
use Rattle.symbols_queries.proofs.Known.{mapped_first, mapped_rest}
use Rattle.symbols_queries.proofs.exports_by_specifier.export_list_by_specifier.Goals as goal

pub export_by_specifier-requires : goal.export_by_specifier-requires
export_by_specifier-requires c = mapped_first (AreModulesOfExportStored c.args.root.now) resolved_export_view c.loop-name.name-iterator
    (c.in-Some.name, c.in-Some.chain)
    c.next.new.self
    c.in-Some.ensures.steps c.loop-name.invariant.known

pub loop-name-preserved : goal.loop-name-preserved
loop-name-preserved c =
    let root = c.args.root.now in
    let item : String Global × ResolvedExportOrReExportAllPath = (c.in-Some.name, c.in-Some.chain) in
    let rest = c.next.new.self in
    let so = subst (λ (left : List (String Global × ResolvedExportOrReExportAllPath)). AreNamed export_view (export_by_specifier root) c.loop-name.exports.items
    (resolved_export_views left) (resolved_export_views c.args.resolved.entries)) c.in-Some.ensures.steps c.loop-name.invariant.named in
    record {
      named = named_next export_view (export_by_specifier root) c.loop-name.exports.items c.push.new.self.items c.in_ok-export_by_specifier.field-0
          (resolved_export_view item)
          (resolved_export_views rest) (resolved_export_views c.args.resolved.entries) so c.in_ok-push.ensures.items c.in_ok-export_by_specifier.ensures;
      known = mapped_rest (AreModulesOfExportStored root) resolved_export_view c.loop-name.name-iterator item rest c.in-Some.ensures.steps
          c.loop-name.invariant.known;
    }
