-- The conditions of each fault of a tree, and which fault is the first.
use Rattle.std.specs.Prelude.{◌≡◌, ℕ, ◌+◌, ◌*◌, ◌<◌, ◌≤◌, ◌^◌, ◌⊎◌, Bool, true, false, List, length}
use Rattle.std.specs.Prelude.{Option, Some, None, Contains, SomeIndex, slice_index, slice_get, take}
use Rattle.std.specs.Option.{option_map_or}
use Rattle.std.specs.Str.{IsCharBoundary}
use Rattle.symbols_ast.specs.declared.tree.arena.Node.{Node}
use Rattle.symbols_ast.specs.declared.tree.arena.SourceRange.{SourceRange}
use Rattle.symbols_ast.specs.declared.tree.kinds.Kind.{Kind}
use Rattle.symbols_ast.specs.declared.tree.kinds.Item.TheVariants as Item
use Rattle.symbols_ast.specs.declared.graph.faults.TreeFault.{TreeFault}
use Rattle.symbols_ast.specs.declared.graph.faults.TreeFault.TheVariants.{NoProgram, TooManyNodes, BadChild, SharedChild, BadRange, BadShape, TooDeep}
use Rattle.symbols_ast.specs.Nodes.{kind_at, children, HasAtLeastAncestors}
use Rattle.symbols_ast.specs.Shapes.{has_misplaced_child_or_breaks_rule}

abbrev pub is_program : Kind → Bool
is_program (Kind.Item (Item.Program _)) = true
is_program _ = false

-- Node 0 is a program.
abbrev pub begins_with_program : List Node → Bool
begins_with_program nodes = option_map_or is_program (kind_at nodes 0) false

-- The number `child` is no valid child of n among `count` nodes: it does not exist, or is not greater than n.
abbrev pub IsBadChild : ℕ → ℕ → ℕ → Type 0
IsBadChild count n child = (child ≤ n) ⊎ (count ≤ child)

abbrev pub HasBadChild : List Node → ℕ → Type 0
HasBadChild nodes n = SomeIndex (children nodes n) (λ i. IsBadChild (length nodes) n (slice_index (children nodes n) i))

-- Child i of n is also a child of a node less than n, or an earlier child of n.
abbrev pub IsChildSharedAt : List Node → ℕ → ℕ → Type 0
IsChildSharedAt nodes n i =
    let child = slice_index (children nodes n) i in
    ((m : ℕ) × (m < n) × Contains (children nodes m) child) ⊎ Contains (take i (children nodes n)) child

abbrev pub HasSharedChild : List Node → ℕ → Type 0
HasSharedChild nodes n = SomeIndex (children nodes n) (IsChildSharedAt nodes n)

-- The range lies in the text and splits no character.
abbrev pub IsRangeInText : List ℕ → SourceRange → Type 0
IsRangeInText text range = (range.start ≤ range.end) × IsCharBoundary text range.start × IsCharBoundary text range.end

abbrev pub HasBadRange : List ℕ → List Node → ℕ → Type 0
HasBadRange text nodes n = (node : Node) × (slice_get nodes n ≡ Some node) × (IsRangeInText text node.range → ⊥)

-- Node n has more than 4,095 ancestors.
abbrev pub IsTooDeep : List Node → ℕ → Type 0
IsTooDeep nodes n = (n < length nodes) × HasAtLeastAncestors nodes n 4096

-- The condition of each fault.
abbrev pub IsFaultOfTree : List ℕ → List Node → TreeFault → Type 0
IsFaultOfTree text nodes NoProgram = begins_with_program nodes ≡ false
IsFaultOfTree text nodes TooManyNodes = 2 ^ 32 ≤ length nodes
IsFaultOfTree text nodes (BadChild n) = HasBadChild nodes n
IsFaultOfTree text nodes (SharedChild n) = HasSharedChild nodes n
IsFaultOfTree text nodes (BadRange n) = HasBadRange text nodes n
IsFaultOfTree text nodes (BadShape n) = has_misplaced_child_or_breaks_rule nodes n ≡ true
IsFaultOfTree text nodes (TooDeep n) = IsTooDeep nodes n

-- The position of a fault in the order: those of the whole tree, then node by node.
abbrev pub tree_fault_rank : TreeFault → ℕ
tree_fault_rank NoProgram = 0
tree_fault_rank TooManyNodes = 1
tree_fault_rank (BadChild n) = 5 * n + 2
tree_fault_rank (SharedChild n) = 5 * n + 3
tree_fault_rank (BadRange n) = 5 * n + 4
tree_fault_rank (BadShape n) = 5 * n + 5
tree_fault_rank (TooDeep n) = 5 * n + 6

-- The tree has no fault before this position.
abbrev pub HasNoTreeFaultBelowRank : List ℕ → List Node → ℕ → Type 0
HasNoTreeFaultBelowRank text nodes index = (fault : TreeFault) → tree_fault_rank fault < index → IsFaultOfTree text nodes fault → ⊥

-- The tree has no fault.
abbrev pub IsFaultlessTree : List ℕ → List Node → Type 0
IsFaultlessTree text nodes = (fault : TreeFault) → IsFaultOfTree text nodes fault → ⊥

-- The first fault of a tree over its text; `None` if it has no fault.
abbrev pub IsFirstTreeFault : List ℕ → List Node → Option TreeFault → Type 0
IsFirstTreeFault text nodes None = IsFaultlessTree text nodes
IsFirstTreeFault text nodes (Some fault) = IsFaultOfTree text nodes fault × HasNoTreeFaultBelowRank text nodes (tree_fault_rank fault)
