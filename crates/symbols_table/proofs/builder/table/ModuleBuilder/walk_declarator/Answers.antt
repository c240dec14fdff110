use Rattle.std.proofs.Common.{Some, sym}
use Rattle.symbols_ast.specs.Fields.{name_child_of}
use Rattle.symbols_ast.specs.NodeRefs.{node_view, node_in, child_in_field}
use Rattle.symbols_table.proofs.Walks.{on_none, on_some}
use Rattle.symbols_table.proofs.builder.table.ModuleBuilder.walk_declarator.Goals as goal

pub returns-in_default-clause-table : goal.returns-in_default-clause-table
returns-in_default-clause-table c = λ rows h is at. on_none _ rows (node_in c.args.variables.decl.tree.now (Some c.args.n)) _ _ _ (sym c.in_default.ensures) is

pub returns-in_default-name-clause-table : goal.returns-in_default-name-clause-table
returns-in_default-name-clause-table c = λ rows h is at.
    let declarator = node_view c.in-Some.declarator in
    on_some _ rows (node_in c.args.variables.decl.tree.now (Some c.args.n)) declarator _ _ _ (sym c.in-Some.ensures)
    (on_none _ rows (child_in_field declarator name_child_of) _ _ _ (sym c.in_default-name.ensures) is)
