use Rattle.std.proofs.Common.{◌≡◌, None, Some, sym}
use Rattle.std.specs.Option.{option_and_then}
use Rattle.symbols_ast.specs.Ids.{ident_id}
use Rattle.symbols_ast.specs.NodeRefs.{node_view, node_in, kind_of}
use Rattle.symbols_table.proofs.Walks.{on_none, on_some}
use Rattle.symbols_table.proofs.builder.table.ModuleBuilder.walk_binding.Goals as goal

pub returns-in_default-clause-table : goal.returns-in_default-clause-table
returns-in_default-clause-table c = λ rows h is at. on_none _ rows (node_in c.args.variables.decl.tree.now (Some c.args.n)) _ _ _ (sym c.in_default.ensures) is

pub returns-in_default-sym-clause-table : goal.returns-in_default-sym-clause-table
returns-in_default-sym-clause-table c = λ rows h is at.
    let ident = node_view c.in-Some.ident in
    let none : option_and_then ident_id (kind_of ident) ≡ None = sym c.in_default-sym.ensures in
    on_some _ rows (node_in c.args.variables.decl.tree.now (Some c.args.n)) ident _ _ _ (sym c.in-Some.ensures)
    (on_none _ rows (option_and_then ident_id (kind_of ident)) _ _ _ none is)
