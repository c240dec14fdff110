use Rattle.std.proofs.Common.{◌-◌, length}
use Rattle.symbols_nodes.proofs.deps.dotted_names.+entity_name.Given as goal

abbrev pub decreases-entity_name : goal.decreases-entity_name
decreases-entity_name l = length l.node.tree.now.nodes.items - l.node.number
