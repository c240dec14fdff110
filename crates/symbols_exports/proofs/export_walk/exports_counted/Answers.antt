use Rattle.std.proofs.Common.{map}
use Rattle.symbols_exports.specs.CollectedNames.{resolved_export_views, resolved_shared_name_views, unresolved_star_view}
use Rattle.symbols_exports.specs.declared.module_exports.ModuleExports.{ModuleExports}
use Rattle.symbols_exports.proofs.WalkEndsOrBreaks.{are_listed, all_grown}
use Rattle.symbols_exports.proofs.export_walk.exports_counted.Goals as goal

pub returns-clause-grown : goal.returns-clause-grown
returns-clause-grown c = all_grown c.walk_exports.result c.args.root.now c.walk_exports.new.root c.args.module_id c.args.counter.now.count
    c.walk_exports.new.counter.count (λ (answer : ModuleExports). resolved_export_views answer.resolved.entries) (λ (answer : ModuleExports).
    resolved_shared_name_views answer.shared.items) (λ (answer : ModuleExports). map unresolved_star_view answer.unresolved_specifiers.items)
    c.walk_exports.ensures.answers
    c.walk_exports.ensures.faults

pub returns-clause-listed : goal.returns-clause-listed
returns-clause-listed c = λ start. are_listed c.args.root.now.graph start
