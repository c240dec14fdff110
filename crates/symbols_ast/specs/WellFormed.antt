-- What the crates above know of a tree that passed the check.
use Rattle.std.specs.Prelude.{◌≡◌, ℕ, ◌<◌, ◌^◌, true, false, List, length, Contains}
use Rattle.symbols_ast.specs.declared.tree.arena.Node.{Node}
use Rattle.symbols_ast.specs.Nodes.{children}
use Rattle.symbols_ast.specs.Shapes.{has_misplaced_child_or_breaks_rule}
use Rattle.symbols_ast.specs.TreeFaults.{begins_with_program}

-- Node 0 is a program. Each child exists, has a greater number than its parent, and has no second parent. Each node has a good shape.
pub record IsWellFormedTree (nodes : List Node) : Type 0 where
  pub begins : begins_with_program nodes ≡ true
  pub few : length nodes < 2 ^ 32
  pub ordered : (m c : ℕ) → m < length nodes → Contains (children nodes m) c → (m < c) × (c < length nodes)
  pub has_one_parent : (m m' c : ℕ) → m < length nodes → m' < length nodes → Contains (children nodes m) c → Contains (children nodes m') c → m ≡ m'
  pub is_well_shaped : (n : ℕ) → has_misplaced_child_or_breaks_rule nodes n ≡ false
