-- The view of a member that contracts use.
use Rattle.std.specs.Prelude.{Bool}
use Rattle.symbols_nodes.specs.NodeViews.{SymbolNodeView, symbol_node_view}
use Rattle.symbols_table.specs.declared.builder.members.SimpleMember.{SimpleMember}

abbrev pub member_view : SimpleMember → SymbolNodeView × Bool
member_view member = (symbol_node_view member.form, member.is_static)
