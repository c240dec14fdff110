use Rattle.std.proofs.Common.{◌≡◌, [], length, rules}
use Rattle.std.specs.Option.{option_map}
use Rattle.symbols_ast.specs.NodeRefs.{node_view, kind_of}
use Rattle.symbols_table.specs.EventsByHolderAndStart.{events_if_some}
use Rattle.symbols_table.specs.DeclarationEvents.{declaration_events}
use Rattle.symbols_table.proofs.Walks.{none_read}
use Rattle.symbols_table.proofs.builder.table.ModuleBuilder.walk_declaration.Goals as goal

pub returns-in-None-clause-table : goal.returns-in-None-clause-table
returns-in-None-clause-table c = λ rows h is at.
    let none : events_if_some (kind_of (node_view c.args.node)) (declaration_events c.args.scope (option_map node_view c.args.exported)
    (node_view c.args.node)) h (length rows) ≡ [] = search rules in
    rw none (none_read c.args.self.now rows is)
