-- Lemmas about nodes by their numbers.
use Rattle.std.proofs.Common.{◌≡◌, ℕ, ◌<◌, ◌≤◌, List, [], length, get_or, Option, true, false, refl, ap, sym, ◌∙◌, arith}
use Rattle.std.specs.Prelude.{◌||◌}
use Rattle.std.specs.Option.{option_map, option_map_or}
use Rattle.std.specs.List.{flat_map}
use Rattle.std.proofs.lemmas.Option.{slice_get_past, slice_get_read}
use Rattle.symbols_ast.specs.declared.tree.arena.Node.{Node}
use Rattle.symbols_ast.specs.declared.tree.field.Field.{Field}
use Rattle.symbols_ast.specs.FieldViews.{field_view, field_views}
use Rattle.symbols_ast.specs.Fields.{fields}
use Rattle.symbols_ast.specs.Nodes.{children, child_numbers}
use Rattle.symbols_ast.specs.Shapes.{has_misplaced_child, breaks_rule_of_its_kind, has_misplaced_child_or_breaks_rule}
use Rattle.symbols_graph.proofs.FieldLists.{flat_map_present}

-- The children in a node's fields are the children of the node.
pub children_in_fields : (nodes : List Node) (n : ℕ) (node : Node) (slots : List (Option Field)) → n < length nodes → node ≡ get_or nodes n node
    → field_views slots ≡ fields node.kind
    → flat_map (λ slot. option_map_or (λ field. field.children) (option_map field_view slot) []) slots ≡ children nodes n
unfolding children
children_in_fields nodes n node slots inside at same =
    let here = slice_get_read nodes (length nodes) n node refl inside at in
    sym (flat_map_present (λ field. field.children) (option_map field_view) slots)
    ∙ ap (flat_map (λ field. field.children)) same
    ∙ sym (ap (λ o. option_map_or child_numbers (option_map (λ x. x.kind) o) []) here)

-- A number past the end has no children.
pub no_children_past_end : (nodes : List Node) (n : ℕ) → length nodes ≤ n → children nodes n ≡ []
unfolding children
no_children_past_end nodes n past = ap (λ o. option_map_or child_numbers (option_map (λ x. x.kind) o) []) (slice_get_past nodes n past)

-- Only a node of the tree has a child.
pub inside_where_child : (nodes : List Node) (n i : ℕ) → i < length (children nodes n) → n < length nodes
inside_where_child nodes n i below =
    let past : length nodes ≤ n → ⊥ = λ p. let none : length (children nodes n) ≡ 0 = ap length (no_children_past_end nodes n p) in omega arith in
    omega arith

-- Only a node of the tree has a bad shape.
pub inside_where_bad_shape : (nodes : List Node) (n : ℕ) → has_misplaced_child_or_breaks_rule nodes n ≡ true → n < length nodes
unfolding has_misplaced_child_or_breaks_rule
inside_where_bad_shape nodes n bad =
    let past : length nodes ≤ n → ⊥ = λ p. let none : has_misplaced_child_or_breaks_rule nodes n ≡ false = ap (λ o.
    option_map_or (λ kind. has_misplaced_child nodes kind || breaks_rule_of_its_kind nodes kind)
    (option_map (λ x. x.kind) o) false) (slice_get_past nodes n p) in cc
    in
    omega arith
