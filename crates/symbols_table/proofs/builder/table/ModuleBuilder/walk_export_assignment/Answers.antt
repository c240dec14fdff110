use Rattle.std.proofs.Common.{length, rules}
use Rattle.symbols_ast.specs.NodeRefs.{node_view, kind_of}
use Rattle.symbols_table.specs.EventsByHolderAndStart.{events_if_some}
use Rattle.symbols_table.specs.ModuleEvents.{export_assignment_of_ident_events}
use Rattle.symbols_table.proofs.ModuleBuilderSteps.{keeps_same}
use Rattle.symbols_table.proofs.ModuleWalks.{no_events}
use Rattle.symbols_table.proofs.builder.table.ModuleBuilder.walk_export_assignment.Goals as goal

pub returns-in_default : goal.returns-in_default
returns-in_default c = record {
  keeps = keeps_same _ _ c.requires.filled;
  table = λ rows h is at. no_events c.args.self.now rows
      (events_if_some (kind_of (node_view c.args.expr)) (export_assignment_of_ident_events (node_view c.args.expr)) h (length rows)) (search rules) is;
}

pub returns-in_default-2 : goal.returns-in_default-2
returns-in_default-2 c = record {
  keeps = keeps_same _ _ c.requires.filled;
  table = λ rows h is at. no_events c.args.self.now rows
      (events_if_some (kind_of (node_view c.args.expr)) (export_assignment_of_ident_events (node_view c.args.expr)) h (length rows)) (search rules) is;
}
