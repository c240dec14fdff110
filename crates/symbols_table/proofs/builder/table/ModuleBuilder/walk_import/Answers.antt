use Rattle.std.proofs.Common.{ℕ, List, take, drop, suc, subst}
use Rattle.symbols_table.specs.EventsByHolderAndStart.{events_of_each}
use Rattle.symbols_table.specs.ModuleEvents.{import_specifier_events_at}
use Rattle.symbols_table.specs.inner.Tables.{AppliesEventsUnderHolder}
use Rattle.symbols_table.proofs.Walks.{take_item, split_item, each_none, each_next, each_fault}
use Rattle.symbols_table.proofs.builder.table.ModuleBuilder.walk_import.Goals as goal

pub loop-n-init : goal.loop-n-init
loop-n-init c = each_none _ (import_specifier_events_at c.args.src.now c.args.node.tree.now) _ c.requires.filled

pub loop-n-preserved : goal.loop-n-preserved
loop-n-preserved c =
    rw (take_item c.args.specifiers.now c.loop-n.n-index c.n-item.result c.loop-n-test.true c.n-item.is)
    (each_next (import_specifier_events_at c.args.src.now c.args.node.tree.now) (take c.loop-n.n-index c.args.specifiers.now) c.loop-n.invariant
    c.walk_import_specifier.new.self
    c.n-item.result c.in_ok-walk_import_specifier.field-0 c.in_ok-walk_import_specifier.ensures.keeps c.in_ok-walk_import_specifier.ensures.table)

pub returns-in_err-walk_import_specifier-clause-table : goal.returns-in_err-walk_import_specifier-clause-table
returns-in_err-walk_import_specifier-clause-table c =
    let items = c.args.specifiers.now in
    let P : List ℕ → Type 0 = λ ms. AppliesEventsUnderHolder c.from_residual.result c.args.self.now c.walk_import_specifier.new.self (events_of_each
    (import_specifier_events_at c.args.src.now c.args.node.tree.now) ms) c.args.holder in
    subst P (split_item items c.loop-n.n-index c.n-item.result c.loop-n-test.true c.n-item.is)
    (each_fault (Unit {0}) (import_specifier_events_at c.args.src.now c.args.node.tree.now) (take c.loop-n.n-index items) c.loop-n.invariant
    c.walk_import_specifier.new.self
    c.walk_import_specifier.new.self c.n-item.result (drop (suc c.loop-n.n-index) items) c.in_err-walk_import_specifier.field-0.0 c.from_residual.result
    c.from_residual.ensures.1 c.in_err-walk_import_specifier.ensures.table)
