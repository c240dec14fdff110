use Rattle.std.proofs.Common.{take}
use Rattle.std.specs.Option.{option_copied}
use Rattle.symbols_table.specs.EventsByHolderAndStart.{events_of_each}
use Rattle.symbols_table.specs.ModuleEvents.{export_specifier_events_at}
use Rattle.symbols_table.proofs.Walks.{IsWalked}
use Rattle.symbols_table.proofs.builder.table.ModuleBuilder.walk_export_named.Given as goal

abbrev pub invariant-loop-n : goal.invariant-loop-n
invariant-loop-n l = IsWalked l.fn.self l.self (events_of_each (export_specifier_events_at (option_copied l.src) l.node.tree.now) (take l.n-index l.specifiers))
    l.holder
