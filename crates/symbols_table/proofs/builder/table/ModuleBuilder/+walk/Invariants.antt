use Rattle.std.proofs.Common.{ℕ, suc, ◌+◌, ◌-◌, ◌*◌, ◌≤◌, length, take}
use Rattle.symbols_table.specs.EventsByHolderAndStart.{events_of_each}
use Rattle.symbols_table.specs.TreeEvents.{item_events_within_levels}
use Rattle.symbols_table.proofs.Walks.{IsWalked}
use Rattle.symbols_table.proofs.builder.table.ModuleBuilder.+walk.Given as goal

abbrev pub decreases-walk_item : goal.decreases-walk_item
decreases-walk_item l = 4 * (length l.parent.tree.now.nodes.items - l.n) + 3

abbrev pub decreases-walk_namespace : goal.decreases-walk_namespace
decreases-walk_namespace l = 4 * (length l.namespace.decl.tree.now.nodes.items - l.namespace.decl.number) + 2

abbrev pub decreases-walk_inside : goal.decreases-walk_inside
decreases-walk_inside l = 4 * (length l.whole.tree.now.nodes.items - l.whole.number) + 1

abbrev pub decreases-walk_body : goal.decreases-walk_body
decreases-walk_body l = 4 * (length l.whole.tree.now.nodes.items - l.n) + 1

abbrev pub decreases-walk_items : goal.decreases-walk_items
decreases-walk_items l = 4 * (length l.parent.tree.now.nodes.items - l.parent.number)

abbrev pub invariant-walk_items-loop-n : goal.invariant-walk_items-loop-n
invariant-walk_items-loop-n l =
    (levels : ℕ) → length l.parent.tree.now.nodes.items ≤ l.parent.number + suc levels
    → IsWalked l.fn.self l.self (events_of_each (item_events_within_levels l.parent.tree.now levels l.scope) (take l.n-index l.items)) l.holder
