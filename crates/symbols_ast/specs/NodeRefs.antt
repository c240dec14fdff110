-- Nodes with their trees.
use Rattle.std.specs.Prelude.{ℕ, nat_lt, List, [], length, if◌then◌else◌, Option, Some, None}
use Rattle.std.specs.Option.{option_map_or, option_and_then}
use Rattle.symbols_ast.specs.declared.tree.arena.Tree.{Tree}
use Rattle.symbols_ast.specs.declared.tree.arena.SourceRange.{SourceRange}
use Rattle.symbols_ast.specs.declared.tree.kinds.Kind.{Kind}
use Rattle.symbols_ast.specs.declared.tree.node_ref.NodeRef.{NodeRef}
use Rattle.symbols_ast.specs.Nodes.{kind_at, range_at}

-- A node of a tree, by its number.
pub record TreeNode : Type 0 where
  pub tree : Tree
  pub number : ℕ

-- The view of a `NodeRef`.
abbrev pub node_view : NodeRef → TreeNode
node_view node = record { tree = node.tree.now; number = node.number }

abbrev pub kind_of : TreeNode → Option Kind
kind_of node = kind_at node.tree.nodes.items node.number

abbrev pub range_of : TreeNode → Option SourceRange
range_of node = range_at node.tree.nodes.items node.number

-- The node of an optional number; `None` without a number or if the tree has no such node.
abbrev pub node_in : Tree → Option ℕ → Option TreeNode
node_in tree None = None
node_in tree (Some n) = if nat_lt n (length tree.nodes.items) then Some (record { tree = tree; number = n }) else None

-- The child in a field, if there is one.
abbrev pub child_in_field : TreeNode → (Kind → Option ℕ) → Option TreeNode
child_in_field node field = node_in node.tree (option_and_then field (kind_of node))

-- The children in a list field.
abbrev pub child_list_in_field : TreeNode → (Kind → List ℕ) → List ℕ
child_list_in_field node field = option_map_or field (kind_of node) []
