use Rattle.std.proofs.Common.{◌-◌, length}
use Rattle.symbols_nodes.proofs.deps.dotted_names.+member_expr_name.Given as goal

abbrev pub decreases-member_expr_name : goal.decreases-member_expr_name
decreases-member_expr_name l = length l.node.tree.now.nodes.items - l.node.number
