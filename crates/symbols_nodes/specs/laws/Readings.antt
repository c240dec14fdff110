-- Readings by levels: as many levels as the tree has nodes are enough.
use Rattle.std.proofs.Common.{◌≡◌, ℕ, suc, zero, ◌+◌, ◌<◌, ◌≤◌, Bool, true, false, length, Option, None, Some, refl, sym, ◌∙◌, ap, arith}
use Rattle.std.specs.Prelude.{nat_lt, if◌then◌else◌}
use Rattle.std.specs.Option.{option_and_then}
use Rattle.std.proofs.lemmas.Bool.{ltb-true}
use Rattle.std.proofs.lemmas.Option.{slice_get_past}
use Rattle.symbols_ast.specs.declared.tree.kinds.Kind.{Kind}
use Rattle.symbols_ast.specs.NodeRefs.{TreeNode, kind_of}
use Rattle.symbols_nodes.specs.Readings.{evaluate_node_of_greater_number, NodeRecursionStep, evaluate_node_within_levels, evaluate_node_recursively}

same_function : {A B : Type 0} (f g : A → B) → ((x : A) → f x ≡ g x) → f ≡ g
same_function f g same = λ i. λ x. same x i

-- Two readings agree on the nodes of the tree with greater numbers than a node's.
abbrev AgreeOnGreaterNodes : {A : Type 0} → TreeNode → (TreeNode → Option A) → (TreeNode → Option A) → Type 0
AgreeOnGreaterNodes node f g = (child : TreeNode) → child.tree ≡ node.tree → node.number < child.number → f child ≡ g child

reads_agree_if : {A : Type 0} (node : TreeNode) (f g : TreeNode → Option A) (n : ℕ) → AgreeOnGreaterNodes node f g → (greater inside : Bool)
    → (greater ≡ true → node.number < n)
    → option_and_then f (if greater then (if inside then Some (let t : TreeNode = record { tree = node.tree; number = n } in t) else None) else None)
    ≡ option_and_then g (if greater then (if inside then Some (let t : TreeNode = record { tree = node.tree; number = n } in t) else None) else None)
reads_agree_if node f g n agree true true below = agree (record { tree = node.tree; number = n }) refl (below refl)
reads_agree_if node f g n agree true false below = refl
reads_agree_if node f g n agree false inside below = refl

reads_agree : {A : Type 0} (node : TreeNode) (f g : TreeNode → Option A) → AgreeOnGreaterNodes node f g → (n : ℕ)
    → evaluate_node_of_greater_number f node n ≡ evaluate_node_of_greater_number g node n
reads_agree node f g agree n = reads_agree_if node f g n agree (nat_lt node.number n) (nat_lt n (length node.tree.nodes.items)) (λ e. ltb-true node.number n e)

readings_agree : {A : Type 0} (reading : NodeRecursionStep A) (node : TreeNode) (f g : TreeNode → Option A) → AgreeOnGreaterNodes node f g
    → (kind : Option Kind)
    → option_and_then (reading (evaluate_node_of_greater_number f node) node) kind ≡ option_and_then
    (reading (evaluate_node_of_greater_number g node) node) kind
readings_agree {A} reading node f g agree kind =
    ap (λ (below : ℕ → Option A). option_and_then (reading below node) kind)
    (same_function (evaluate_node_of_greater_number f node) (evaluate_node_of_greater_number g node) (reads_agree node f g agree))

read_past_tree : {A : Type 0} (reading : NodeRecursionStep A) (levels : ℕ) (node : TreeNode) → length node.tree.nodes.items ≤ node.number
    → evaluate_node_within_levels reading levels node ≡ None
unfolding evaluate_node_within_levels
read_past_tree reading zero node past = refl
read_past_tree reading (suc levels) node past = rw (slice_get_past node.tree.nodes.items node.number past) refl

levels_suffice : {A : Type 0} (reading : NodeRecursionStep A) (levels more : ℕ) (node : TreeNode) → length node.tree.nodes.items ≤ node.number + levels
    → length node.tree.nodes.items ≤ node.number + more
    → evaluate_node_within_levels reading levels node ≡ evaluate_node_within_levels reading more node
unfolding evaluate_node_within_levels
levels_suffice reading zero more node enough also = sym (read_past_tree reading more node (omega arith))
levels_suffice reading (suc levels) zero node enough also = read_past_tree reading (suc levels) node (omega arith)
levels_suffice reading (suc levels) (suc more) node enough also =
    readings_agree reading node (evaluate_node_within_levels reading levels) (evaluate_node_within_levels reading more)
    (λ child same below. levels_suffice reading levels more child (rw same (omega arith)) (rw same (omega arith)))
    (kind_of node)

read_as_levels : {A : Type 0} (reading : NodeRecursionStep A) (node : TreeNode)
    → evaluate_node_recursively reading node ≡ evaluate_node_within_levels reading (length node.tree.nodes.items) node
unfolding evaluate_node_recursively
read_as_levels reading node = refl

read_level : {A : Type 0} (reading : NodeRecursionStep A) (levels : ℕ) (node : TreeNode) → length node.tree.nodes.items ≤ levels
    → evaluate_node_within_levels reading (suc levels) node ≡ option_and_then
    (reading (evaluate_node_of_greater_number (evaluate_node_recursively reading) node) node)
    (kind_of node)
unfolding evaluate_node_within_levels
read_level reading levels node enough =
    readings_agree reading node (evaluate_node_within_levels reading levels) (evaluate_node_recursively reading)
    (λ child same below. levels_suffice reading levels (length child.tree.nodes.items) child (rw same (omega arith)) (omega arith)
    ∙ sym (read_as_levels reading child))
    (kind_of node)

-- The value of a reading at a node is one step applied to its values at greater numbers.
pub recursive_evaluation_unfolds : {A : Type 0} (reading : NodeRecursionStep A) (node : TreeNode)
    → evaluate_node_recursively reading node ≡ option_and_then (reading (evaluate_node_of_greater_number (evaluate_node_recursively reading) node) node)
    (kind_of node)
recursive_evaluation_unfolds reading node =
    let all = length node.tree.nodes.items in
    read_as_levels reading node ∙ (levels_suffice reading all (suc all) node (omega arith) (omega arith) ∙ read_level reading all node (omega arith))

-- The value of a reading at a node of a known kind.
pub recursive_evaluation_unfolds_at_kind : {A : Type 0} (reading : NodeRecursionStep A) (node : TreeNode) (kind : Kind) (result : Option A) → kind_of node
    ≡ Some kind
    → result ≡ reading (evaluate_node_of_greater_number (evaluate_node_recursively reading) node) node kind → result ≡ evaluate_node_recursively reading node
recursive_evaluation_unfolds_at_kind reading node kind result is read = rw (recursive_evaluation_unfolds reading node, is) read
