use Rattle.std.proofs.Common.{take}
use Rattle.symbols_ast.specs.NodeRefs.{node_view}
use Rattle.symbols_table.specs.EventsByHolderAndStart.{events_of_each}
use Rattle.symbols_table.specs.DeclarationEvents.{binding_events_at}
use Rattle.symbols_table.specs.inner.VariablesViews.{variable_statement_view}
use Rattle.symbols_table.proofs.Walks.{IsWalked}
use Rattle.symbols_table.proofs.builder.table.ModuleBuilder.walk_bindings.Given as goal

abbrev pub invariant-loop-n : goal.invariant-loop-n
invariant-loop-n l =
    IsWalked l.fn.self l.self (events_of_each (binding_events_at (variable_statement_view l.variables) (node_view l.declarator)) (take l.n-index l.names))
    l.holder
