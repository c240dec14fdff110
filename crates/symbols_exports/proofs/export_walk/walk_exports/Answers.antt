use Rattle.std.proofs.Common.{◌<◌, length, not, ap, ◌∙◌, arith}
use Rattle.symbols_table.specs.declared.info.fault.SymbolsFault.TheVariants.{OutOfMemory}
use Rattle.symbols_exports.proofs.StepsByCalls.{begun_cut}
use Rattle.symbols_exports.proofs.WalkEndsByFilter.{Broken, on_memory, broken_off}
use Rattle.symbols_exports.proofs.export_walk.walk_exports.Goals as goal

pub returns-in_err-collect_without_stars-in-None-clause-faults : goal.returns-in_err-collect_without_stars-in-None-clause-faults
returns-in_err-collect_without_stars-in-None-clause-faults c =
    let root = c.args.root.now in
    let count = c.args.counter.now.count in
    let known : c.args.module_id.0 < length root.stored = c.module_from_id.ensures.found.0 (c.is_none.ensures ∙ ap not c.if-is_none.false) in
    on_memory (Broken c.args.name_filter root c.args.module_id root count count) c.from_residual.result c.from_residual.ensures.1
    (broken_off c.args.name_filter root c.args.module_id root count count 0 OutOfMemory (omega arith)
    (begun_cut c.args.name_filter root c.args.module_id known))
