use Rattle.std.proofs.Common.{ℕ, List, take, drop, suc, subst}
use Rattle.std.specs.Option.{option_copied}
use Rattle.symbols_table.specs.EventsByHolderAndStart.{events_of_each}
use Rattle.symbols_table.specs.ModuleEvents.{export_specifier_events_at}
use Rattle.symbols_table.specs.inner.Tables.{AppliesEventsUnderHolder}
use Rattle.symbols_table.proofs.Walks.{take_item, split_item, each_none, each_next, each_fault}
use Rattle.symbols_table.proofs.builder.table.ModuleBuilder.walk_export_named.Goals as goal

pub loop-n-init : goal.loop-n-init
loop-n-init c = each_none _ (export_specifier_events_at (option_copied c.args.src) c.args.node.tree.now) _ c.requires.filled

pub loop-n-preserved : goal.loop-n-preserved
loop-n-preserved c =
    rw (take_item c.args.specifiers.now c.loop-n.n-index c.n-item.result c.loop-n-test.true c.n-item.is)
    (each_next (export_specifier_events_at (option_copied c.args.src) c.args.node.tree.now) (take c.loop-n.n-index c.args.specifiers.now) c.loop-n.invariant
    c.walk_export_name.new.self c.n-item.result c.in_ok-walk_export_name.field-0 c.in_ok-walk_export_name.ensures.keeps
    c.in_ok-walk_export_name.ensures.table)

pub returns-in_err-walk_export_name-clause-table : goal.returns-in_err-walk_export_name-clause-table
returns-in_err-walk_export_name-clause-table c =
    let items = c.args.specifiers.now in
    let P : List ℕ → Type 0 = λ ms. AppliesEventsUnderHolder c.from_residual.result c.args.self.now c.walk_export_name.new.self (events_of_each
    (export_specifier_events_at (option_copied c.args.src) c.args.node.tree.now) ms) c.args.holder in
    subst P (split_item items c.loop-n.n-index c.n-item.result c.loop-n-test.true c.n-item.is)
    (each_fault (Unit {0}) (export_specifier_events_at (option_copied c.args.src) c.args.node.tree.now) (take c.loop-n.n-index items) c.loop-n.invariant
    c.walk_export_name.new.self c.walk_export_name.new.self c.n-item.result (drop (suc c.loop-n.n-index) items) c.in_err-walk_export_name.field-0.0
    c.from_residual.result c.from_residual.ensures.1 c.in_err-walk_export_name.ensures.table)
