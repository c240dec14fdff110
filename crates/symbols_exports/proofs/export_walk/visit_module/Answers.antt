use Rattle.std.proofs.Common.{arith}
use Rattle.symbols_exports.proofs.StepsByCalls as walking
use Rattle.symbols_exports.proofs.export_walk.visit_module.Goals as goal

pub returns-in_ok-collect_from_module-clause-few : goal.returns-in_ok-collect_from_module-clause-few
returns-in_ok-collect_from_module-clause-few c = λ new. walking.new_few c.args.visited.now.keys c.args.target c.in_ok-is_new.is_new c.in_ok-is_new.field-0-0
    c.in_ok-is_new.ensures.added c.in_ok-is_new.ensures.index (omega arith) new
