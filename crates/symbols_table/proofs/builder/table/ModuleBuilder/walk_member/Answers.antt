use Rattle.std.proofs.Common.{◌≡◌, [], Some, sym, length, rules}
use Rattle.symbols_ast.specs.NodeRefs.{node_in}
use Rattle.symbols_table.specs.MemberEvents.{member_events_at}
use Rattle.symbols_table.proofs.Walks.{on_none, none_read}
use Rattle.symbols_table.proofs.builder.table.ModuleBuilder.walk_member.Goals as goal

pub returns-in_default-clause-table : goal.returns-in_default-clause-table
returns-in_default-clause-table c = λ rows h is at. on_none _ rows (node_in c.args.parent.tree.now (Some c.args.n)) _ _ _ (sym c.in_default.ensures) is

pub returns-in-None-clause-table : goal.returns-in-None-clause-table
returns-in-None-clause-table c = λ rows h is at.
    let none : member_events_at c.args.parent.tree.now c.args.n h (length rows) ≡ [] = search rules in
    rw none (none_read c.args.self.now rows is)
