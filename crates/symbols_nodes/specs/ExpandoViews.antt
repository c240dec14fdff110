-- The view of expando properties that contracts use.
use Rattle.symbols_ast.specs.NodeRefs.{TreeNode, node_view}
use Rattle.symbols_nodes.specs.declared.nodes.refs.ExpandoPropertyRef.{ExpandoPropertyRef}

-- The node of the assignment.
abbrev pub expando_property_view : ExpandoPropertyRef → TreeNode
expando_property_view expando = node_view expando.inner
