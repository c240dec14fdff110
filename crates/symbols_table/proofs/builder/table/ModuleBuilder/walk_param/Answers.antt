use Rattle.std.proofs.Common.{◌≡◌, [], Some, sym, length, rules}
use Rattle.symbols_ast.specs.NodeRefs.{node_in}
use Rattle.symbols_table.specs.MemberEvents.{constructor_param_events_at}
use Rattle.symbols_table.proofs.ModuleBuilderSteps.{keeps_same}
use Rattle.symbols_table.proofs.Walks.{on_none, none_read}
use Rattle.symbols_table.proofs.builder.table.ModuleBuilder.walk_param.Goals as goal

pub returns-in_default-clause-table : goal.returns-in_default-clause-table
returns-in_default-clause-table c = λ rows h is at. on_none _ rows (node_in c.args.constructor.tree.now (Some c.args.n)) _ _ _ (sym c.in_default.ensures) is

pub returns-in_default-kind : goal.returns-in_default-kind
returns-in_default-kind c = record {
  keeps = keeps_same _ _ c.requires.filled;
  table = λ rows h is at.
      let none : constructor_param_events_at c.args.constructor.tree.now c.args.n h (length rows) ≡ [] = search rules in
      rw none (none_read c.args.self.now rows is);
}

pub returns-in_default-kind-2 : goal.returns-in_default-kind-2
returns-in_default-kind-2 c = record {
  keeps = keeps_same _ _ c.requires.filled;
  table = λ rows h is at.
      let none : constructor_param_events_at c.args.constructor.tree.now c.args.n h (length rows) ≡ [] = search rules in
      rw none (none_read c.args.self.now rows is);
}
