-- Readings: partial functions on nodes that are defined by recursion on children, which have greater numbers than their parent.
use Rattle.std.specs.Prelude.{ℕ, suc, zero, nat_lt, length, if◌then◌else◌, Option, None, Some}
use Rattle.std.specs.Option.{option_and_then}
use Rattle.symbols_ast.specs.declared.tree.kinds.Kind.{Kind}
use Rattle.symbols_ast.specs.NodeRefs.{TreeNode, kind_of, node_in}

-- The node of number n, if n is greater than this node's number. In a checked tree every child is such a node.
abbrev pub node_of_greater_number : TreeNode → ℕ → Option TreeNode
node_of_greater_number node n = if nat_lt node.number n then node_in node.tree (Some n) else None

-- The value of a reading at the node of a greater number.
abbrev pub evaluate_node_of_greater_number : {A : Type 0} → (TreeNode → Option A) → TreeNode → ℕ → Option A
evaluate_node_of_greater_number read node n = option_and_then read (node_of_greater_number node n)

-- One step of a reading: the value at a node of a kind, from the values at the numbers of its children.
abbrev pub NodeRecursionStep : Type 0 → Type 0
NodeRecursionStep A = (ℕ → Option A) → TreeNode → Kind → Option A

-- The value computed with a bounded number of levels.
unfoldable pub evaluate_node_within_levels : {A : Type 0} → NodeRecursionStep A → ℕ → TreeNode → Option A
evaluate_node_within_levels reading zero node = None
evaluate_node_within_levels reading (suc levels) node = option_and_then
    (reading (evaluate_node_of_greater_number (evaluate_node_within_levels reading levels) node) node)
    (kind_of node)

-- The value of the reading. No path down the tree has more levels than the tree has nodes.
unfoldable pub evaluate_node_recursively : {A : Type 0} → NodeRecursionStep A → TreeNode → Option A
evaluate_node_recursively reading node = evaluate_node_within_levels reading (length node.tree.nodes.items) node
