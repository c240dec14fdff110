use Rattle.std.proofs.Common.{sym}
use Rattle.symbols_ast.specs.NodeRefs.{node_view}
use Rattle.symbols_table.specs.DeclarationEvents.{declared_name}
use Rattle.symbols_table.proofs.Walks.{on_none}
use Rattle.symbols_table.proofs.builder.table.ModuleBuilder.walk_named.Goals as goal

pub returns-in_default-clause-table : goal.returns-in_default-clause-table
returns-in_default-clause-table c = λ rows h is at. on_none _ rows (declared_name (node_view c.args.node)) _ _ _ (sym c.in_default.ensures) is
