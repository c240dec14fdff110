use Rattle.std.proofs.Common.{◌≡◌}
use Rattle.symbols_exports.specs.ExportChains.{resolved_export}
use Rattle.symbols_exports.proofs.export_chain.ResolvedExportOrReExportAllPath.as_resolved_export.Given as goal

abbrev pub invariant-loop-chain : goal.invariant-loop-chain
invariant-loop-chain l = resolved_export l.chain ≡ resolved_export l.self
