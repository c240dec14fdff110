use Rattle.std.proofs.Common.{take}
use Rattle.symbols_table.specs.EventsByHolderAndStart.{events_of_each}
use Rattle.symbols_table.specs.MemberEvents.{member_events_at}
use Rattle.symbols_table.proofs.Walks.{IsWalked}
use Rattle.symbols_table.proofs.builder.table.ModuleBuilder.walk_members.Given as goal

abbrev pub invariant-loop-n : goal.invariant-loop-n
invariant-loop-n l = IsWalked l.fn.self l.self (events_of_each (member_events_at l.parent.tree.now) (take l.n-index l.members)) l.holder
