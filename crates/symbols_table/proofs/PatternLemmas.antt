-- Lemmas about nodes of greater numbers, and about patterns by levels.
use Rattle.std.proofs.Common.{◌≡◌, ℕ, suc, zero, ◌+◌, ◌<◌, ◌≤◌, Bool, true, false, List, [], ◌∷◌}
use Rattle.std.proofs.Common.{◌++◌, length, None, Some, refl, sym, ◌∙◌, ap, arith, append_assoc}
use Rattle.std.specs.Prelude.{Contains, nat_lt, if◌then◌else◌}
use Rattle.std.specs.List.{flat_map}
use Rattle.std.specs.Option.{option_to_list}
use Rattle.std.proofs.lemmas.List.{append-nil}
use Rattle.std.proofs.lemmas.Bool.{ltb-true, ltb-false}
use Rattle.std.proofs.lemmas.Option.{slice_get_past}
use Rattle.std.proofs.lemmas.List.Concat.{flat_map-append}
use Rattle.std.proofs.lemmas.List.Elements.{Contains-append_left, Contains-append_right}
use Rattle.symbols_ast.specs.declared.tree.arena.Tree.{Tree}
use Rattle.symbols_ast.specs.declared.tree.kinds.Kind.{Kind}
use Rattle.symbols_ast.specs.declared.tree.kinds.Pat.TheVariants as Pat
use Rattle.symbols_ast.specs.Nodes.{kind_at, children, child_numbers}
use Rattle.symbols_ast.specs.NodeRefs.{TreeNode, kind_of, node_in}
use Rattle.symbols_ast.specs.WellFormed.{IsWellFormedTree}
use Rattle.symbols_table.specs.Patterns.{pattern_parts, pattern_bindings_below, pattern_bindings_within_levels}
use Rattle.symbols_table.specs.inner.Patterns.{is_identifier_pattern}

-- ---- nodes

-- The found node is the one of the number in the tree.
pub record IsFound (tree : Tree) (n : ℕ) (found : TreeNode) : Type 0 where
  pub same : found ≡ (let t : TreeNode = record { tree = tree; number = n } in t)
  pub same_tree : found.tree ≡ tree
  pub number_is : found.number ≡ n
  pub inside : n < length tree.nodes.items

found_if : (tree : Tree) (n : ℕ) (found : TreeNode) (test : Bool) → (test ≡ true → n < length tree.nodes.items)
    → (if test then Some (let t : TreeNode = record { tree = tree; number = n } in t) else None) ≡ Some found → IsFound tree n found
found_if tree n found true inside is =
    let e : (let t : TreeNode = record { tree = tree; number = n } in t) ≡ found = cc in
    record { same = sym e; same_tree = sym (ap (λ (t : TreeNode). t.tree) e); number_is = sym (ap (λ (t : TreeNode). t.number) e); inside = inside refl }
found_if tree n found false inside is = absurd (let e : ⊥ = cc in e)

pub is_found : (tree : Tree) (n : ℕ) (found : TreeNode) → Some found ≡ node_in tree (Some n) → IsFound tree n found
is_found tree n found is = found_if tree n found (nat_lt n (length tree.nodes.items)) (λ e. ltb-true n (length tree.nodes.items) e) (sym is)

-- A number without a node has no kind.
missing_if : (tree : Tree) (n : ℕ) (test : Bool) → nat_lt n (length tree.nodes.items) ≡ test
    → None ≡ (if test then Some (let t : TreeNode = record { tree = tree; number = n } in t) else None) → kind_at tree.nodes.items n ≡ None
missing_if tree n true is found = absurd (let e : ⊥ = cc in e)
missing_if tree n false is found = rw (slice_get_past tree.nodes.items n (ltb-false n (length tree.nodes.items) is)) refl

pub is_missing : (tree : Tree) (n : ℕ) → None ≡ node_in tree (Some n) → kind_at tree.nodes.items n ≡ None
is_missing tree n found = missing_if tree n (nat_lt n (length tree.nodes.items)) refl found

-- A child has a greater number than its parent.
pub is_greater : (node : TreeNode) (kind : Kind) (c : ℕ) → IsWellFormedTree node.tree.nodes.items → node.number < length node.tree.nodes.items
    → kind_of node ≡ Some kind → Contains (child_numbers kind) c → node.number < c
unfolding children
is_greater node kind c formed inside is holds =
    let here : Contains (children node.tree.nodes.items node.number) c = rw is holds in
    (formed.ordered node.number c inside here).0

-- ---- patterns

pub parts_are_children : (kind : Kind) (c : ℕ) → Contains (pattern_parts kind) c → Contains (child_numbers kind) c
parts_are_children (Kind.Pat (Pat.ArrayPat elems ann)) c has = Contains-append_left elems.items (option_to_list ann ++ []) c has
parts_are_children (Kind.Pat (Pat.ObjectPat props ann)) c has = Contains-append_left props.items (option_to_list ann ++ []) c has
parts_are_children (Kind.Pat (Pat.RestPat arg ann)) c has = Contains-append_left (arg ∷ []) (option_to_list ann ++ []) c has
parts_are_children (Kind.Pat (Pat.KeyValuePatProp key value)) c has = Contains-append_right (key ∷ []) (value ∷ []) c has
parts_are_children (Kind.Pat (Pat.AssignPatProp key value)) c has = Contains-append_left (key ∷ []) (option_to_list value ++ []) c has
parts_are_children (Kind.Pat (Pat.AssignPat left right)) c has = Contains-append_left (left ∷ []) (right ∷ []) c has
parts_are_children kind c has = absurd (omega (arith, has.1))

leaves_name : (inner : ℕ → List ℕ) (n : ℕ) (kind : Kind) → is_identifier_pattern kind ≡ true → pattern_bindings_below inner n kind ≡ n ∷ []
leaves_name inner n (Kind.Pat (Pat.BindingIdent _ _)) is = refl
leaves_name inner n kind is = absurd (let e : ⊥ = cc in e)

leaves_other : (inner : ℕ → List ℕ) (n : ℕ) (kind : Kind) → is_identifier_pattern kind ≡ false
    → pattern_bindings_below inner n kind ≡ flat_map inner (pattern_parts kind)
leaves_other inner n (Kind.Pat (Pat.BindingIdent _ _)) is = absurd (let e : ⊥ = cc in e)
leaves_other inner n kind is = refl

pub leaves_opened : (tree : Tree) (levels left n : ℕ) (kind : Kind) → levels ≡ suc left → kind_at tree.nodes.items n ≡ Some kind
    → pattern_bindings_within_levels tree levels n ≡ pattern_bindings_below (pattern_bindings_within_levels tree left) n kind
unfolding pattern_bindings_within_levels
leaves_opened tree levels left n kind more is = rw (more, is) refl

pub leaves_at_name : (tree : Tree) (levels n : ℕ) (kind : Kind) → n < length tree.nodes.items → length tree.nodes.items ≤ n + levels
    → kind_at tree.nodes.items n ≡ Some kind → is_identifier_pattern kind ≡ true → pattern_bindings_within_levels tree levels n ≡ n ∷ []
leaves_at_name tree zero n kind inside enough is name = absurd (omega arith)
leaves_at_name tree (suc levels) n kind inside enough is name =
    leaves_opened tree (suc levels) levels n kind refl is ∙ leaves_name (pattern_bindings_within_levels tree levels) n kind name

pub leaves_at_parts : (tree : Tree) (levels n : ℕ) (kind : Kind) (old new : List ℕ) → n < length tree.nodes.items → length tree.nodes.items ≤ n + levels
    → kind_at tree.nodes.items n ≡ Some kind → is_identifier_pattern kind ≡ false
    → ((left : ℕ) → length tree.nodes.items ≤ n + suc left → new ≡ old ++ flat_map (pattern_bindings_within_levels tree left) (pattern_parts kind))
    → new ≡ old ++ pattern_bindings_within_levels tree levels n
leaves_at_parts tree zero n kind old new inside enough is name read = absurd (omega arith)
leaves_at_parts tree (suc levels) n kind old new inside enough is name read =
    read levels enough ∙ ap (λ (xs : List ℕ). old
    ++ xs) (sym (leaves_opened tree (suc levels) levels n kind refl is ∙ leaves_other (pattern_bindings_within_levels tree levels) n kind name))

-- A number outside the tree binds nothing.
pub leaves_outside : (tree : Tree) (levels n : ℕ) → kind_at tree.nodes.items n ≡ None → pattern_bindings_within_levels tree levels n ≡ []
unfolding pattern_bindings_within_levels
leaves_outside tree zero n is = refl
leaves_outside tree (suc levels) n is = rw is refl

-- The identifiers after one more part of a pattern.
pub leaves_more : (inner : ℕ → List ℕ) (parts : List ℕ) (n : ℕ) (old so_far new : List ℕ) → so_far ≡ old ++ flat_map inner parts → new ≡ so_far ++ inner n
    → new ≡ old ++ flat_map inner (parts ++ n ∷ [])
leaves_more inner parts n old so_far new before here =
    rw (flat_map-append inner parts (n ∷ []), append-nil (inner n)) (here ∙ rw before (append_assoc old (flat_map inner parts) (inner n)))
