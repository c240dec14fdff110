use Rattle.std.proofs.Common.{ℕ, List, take, drop, suc, subst}
use Rattle.symbols_table.specs.EventsByHolderAndStart.{events_of_each}
use Rattle.symbols_table.specs.MemberEvents.{member_events_at}
use Rattle.symbols_table.specs.inner.Tables.{AppliesEventsUnderHolder}
use Rattle.symbols_table.proofs.Walks.{take_item, split_item, each_none, each_next, each_fault}
use Rattle.symbols_table.proofs.builder.table.ModuleBuilder.walk_members.Goals as goal

pub loop-n-init : goal.loop-n-init
loop-n-init c = each_none _ (member_events_at c.args.parent.tree.now) _ c.requires.filled

pub loop-n-preserved : goal.loop-n-preserved
loop-n-preserved c =
    rw (take_item c.args.members.now c.loop-n.n-index c.n-item.result c.loop-n-test.true c.n-item.is)
    (each_next (member_events_at c.args.parent.tree.now) (take c.loop-n.n-index c.args.members.now) c.loop-n.invariant c.walk_member.new.self c.n-item.result
    c.in_ok-walk_member.field-0 c.in_ok-walk_member.ensures.keeps c.in_ok-walk_member.ensures.table)

pub returns-in_err-walk_member-clause-table : goal.returns-in_err-walk_member-clause-table
returns-in_err-walk_member-clause-table c =
    let items = c.args.members.now in
    let P : List ℕ → Type 0 = λ ms. AppliesEventsUnderHolder c.from_residual.result c.args.self.now c.walk_member.new.self
    (events_of_each (member_events_at c.args.parent.tree.now)
    ms) c.args.holder in
    subst P (split_item items c.loop-n.n-index c.n-item.result c.loop-n-test.true c.n-item.is)
    (each_fault (Unit {0}) (member_events_at c.args.parent.tree.now) (take c.loop-n.n-index items) c.loop-n.invariant c.walk_member.new.self
    c.walk_member.new.self
    c.n-item.result (drop (suc c.loop-n.n-index) items) c.in_err-walk_member.field-0.0 c.from_residual.result c.from_residual.ensures.1
    c.in_err-walk_member.ensures.table)
