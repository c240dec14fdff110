-- The depths that the check of a tree computes. The depth of a node is 1 more than the number of its ancestors.
use Rattle.std.specs.Prelude.{◌≡◌, ◌≢◌, ℕ, ◌+◌, ◌<◌, ◌⊎◌, List, length, Contains, slice_index, take}
use Rattle.symbols_ast.specs.declared.tree.arena.Node.{Node}
use Rattle.symbols_ast.specs.Nodes.{children}

-- No node of a number less than n has c as a child.
abbrev pub HasNoParentBelow : List Node → ℕ → ℕ → Type 0
HasNoParentBelow nodes n c = (m : ℕ) → m < n → Contains (children nodes m) c → ⊥

-- The number m is less than n, node m has c as a child, and c is one deeper than m.
pub record IsParentWithDepth (nodes : List Node) (n : ℕ) (depths : List ℕ) (c m : ℕ) : Type 0 where
  pub lower : m < n
  pub holds : Contains (children nodes m) c
  pub deeper : slice_index depths c ≡ slice_index depths m + 1

-- The depths after the nodes less than n were checked: 1 for each node that is no child of theirs.
pub record AreDepthsAfterCheckedNodes (nodes : List Node) (n : ℕ) (depths : List ℕ) : Type 0 where
  pub covers : length depths ≡ length nodes
  pub depth_of_each : (c : ℕ) → c < length nodes → ((slice_index depths c ≡ 1) × HasNoParentBelow nodes n c) ⊎ ((m : ℕ) × IsParentWithDepth nodes n depths c m)

-- Child i has a depth other than 1 already, or is repeated in the list.
abbrev pub IsSharedChildByDepths : List ℕ → List ℕ → ℕ → Type 0
IsSharedChildByDepths depths ids i = let id = slice_index ids i in (slice_index depths id ≢ 1) ⊎ Contains (take i ids) id

-- The new depths are the old ones, except that the listed nodes have this depth.
abbrev pub SetsDepth : List ℕ → List ℕ → List ℕ → ℕ → Type 0
SetsDepth old new ids depth = (c : ℕ) → (Contains ids c × (slice_index new c ≡ depth)) ⊎ ((Contains ids c → ⊥) × (slice_index new c ≡ slice_index old c))
