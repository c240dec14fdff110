-- The view of an expando assignment's parts, for inner functions and proofs.
use Rattle.symbols_ast.specs.NodeRefs.{node_view}
use Rattle.symbols_nodes.specs.declared.nodes.expando.Parts.{Parts}
use Rattle.symbols_nodes.specs.Expando.{Expando}

abbrev pub expando_view : Parts → Expando
expando_view parts = record {
  member = node_view parts.member;
  object = node_view parts.object;
  prop = node_view parts.prop;
  name = parts.name.now;
  right = node_view parts.right;
}
