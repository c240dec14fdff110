use Rattle.std.proofs.Common.{◌≡◌, map, take}
use Rattle.std.specs.Prelude.{string_bytes}
use Rattle.symbols_exports.specs.CollectedNames.{resolved_chain_view}
use Rattle.symbols_exports.specs.ExportViews.{export_by_specifier}
use Rattle.symbols_queries.specs.Queries.{exporter_view}
use Rattle.symbols_queries.proofs.shared_name_by_specifier.exporters_by_specifier.Given as goal

abbrev pub invariant-loop-chain : goal.invariant-loop-chain
invariant-loop-chain l = map (exporter_view (string_bytes l.shared.name)) l.exporters.items
    ≡ map (export_by_specifier l.root) (map (resolved_chain_view (string_bytes l.shared.name)) (take l.chain-index l.chain-items))
