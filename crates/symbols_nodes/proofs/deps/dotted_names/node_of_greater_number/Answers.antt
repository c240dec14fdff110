use Rattle.std.proofs.Common.{arith}
use Rattle.symbols_nodes.proofs.deps.dotted_names.node_of_greater_number.Goals as goal

pub returns-else-node-id-clause-checked : goal.returns-else-node-id-clause-checked
returns-else-node-id-clause-checked c = λ formed has. absurd (omega (arith, (formed.ordered c.args.node.number c.args.id c.args.node.inside has).0))
