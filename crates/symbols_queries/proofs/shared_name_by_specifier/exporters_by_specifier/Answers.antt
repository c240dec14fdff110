use Rattle.std.proofs.Common.{sym, subst, arith}
use Rattle.std.specs.Prelude.{string_bytes}
use Rattle.symbols_exports.specs.CollectedNames.{resolved_chain_view}
use Rattle.symbols_exports.specs.ExportViews.{export_by_specifier, AreModulesOfExportStored}
use Rattle.symbols_queries.specs.Queries.{exporter_view}
use Rattle.symbols_queries.proofs.Known.{mapped_at}
use Rattle.symbols_queries.proofs.Naming.{named_more}
use Rattle.symbols_queries.proofs.shared_name_by_specifier.exporters_by_specifier.Goals as goal

pub exporter_by_specifier-requires-clause-statements : goal.exporter_by_specifier-requires-clause-statements
exporter_by_specifier-requires-clause-statements c =
    let exporters = c.deref-chain-items.result.now in
    let viewed = resolved_chain_view (string_bytes c.args.shared.now.name) in
    let all = rw (← c.deref-chain-items.ensures.value) at c.requires in
    let here = mapped_at (AreModulesOfExportStored c.args.root.now) viewed exporters c.loop-chain.chain-index c.chain-item.result
    (omega (arith, c.loop-chain-test.true))
    all in
    (subst (λ chain. AreModulesOfExportStored c.args.root.now (viewed chain)) (sym c.chain-item.is) here).statements_are_stored

pub exporter_by_specifier-requires-clause-exporter : goal.exporter_by_specifier-requires-clause-exporter
exporter_by_specifier-requires-clause-exporter c =
    let exporters = c.deref-chain-items.result.now in
    let viewed = resolved_chain_view (string_bytes c.args.shared.now.name) in
    let all = rw (← c.deref-chain-items.ensures.value) at c.requires in
    let here = mapped_at (AreModulesOfExportStored c.args.root.now) viewed exporters c.loop-chain.chain-index c.chain-item.result
    (omega (arith, c.loop-chain-test.true))
    all in
    (subst (λ chain. AreModulesOfExportStored c.args.root.now (viewed chain)) (sym c.chain-item.is) here).export_is_stored

pub loop-chain-preserved : goal.loop-chain-preserved
loop-chain-preserved c =
    let name = string_bytes c.args.shared.now.name in
    named_more (exporter_view name) (export_by_specifier c.args.root.now) (resolved_chain_view name) c.loop-chain.exporters.items c.push.new.self.items
    c.in_ok-exporter_by_specifier.field-0 c.deref-chain-items.result.now c.loop-chain.chain-index c.chain-item.result (omega (arith, c.loop-chain-test.true))
    c.chain-item.is c.loop-chain.invariant c.in_ok-push.ensures.items (c.in_ok-exporter_by_specifier.ensures name)
