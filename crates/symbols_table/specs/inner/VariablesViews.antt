-- The view of a variable statement that contracts use.
use Rattle.std.specs.Option.{option_map}
use Rattle.symbols_ast.specs.NodeRefs.{node_view}
use Rattle.symbols_table.specs.declared.builder.declarations.VariableStatement.{VariableStatement as Statement}
use Rattle.symbols_table.specs.DeclarationEvents.{VariableStatement}

abbrev pub variable_statement_view : Statement → VariableStatement
variable_statement_view vars =
    record { scope = vars.scope; exported = option_map node_view vars.exported; is_using = vars.is_using; decl = node_view vars.decl }
