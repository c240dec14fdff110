-- The nodes of a tree by their numbers, and the relations of parents and ancestors.
use Rattle.std.specs.Prelude.{ℕ, suc, ◌<◌, List, [], Option, Contains, slice_get}
use Rattle.std.specs.Option.{option_map, option_map_or}
use Rattle.std.specs.List.{flat_map}
use Rattle.symbols_ast.specs.declared.tree.arena.Node.{Node}
use Rattle.symbols_ast.specs.declared.tree.arena.SourceRange.{SourceRange}
use Rattle.symbols_ast.specs.declared.tree.kinds.Kind.{Kind}
use Rattle.symbols_ast.specs.Fields.{fields}

-- The kind of node n; `None` past the end.
abbrev pub kind_at : List Node → ℕ → Option Kind
kind_at nodes n = option_map (λ node. node.kind) (slice_get nodes n)

-- The range of node n in the source text; `None` past the end.
abbrev pub range_at : List Node → ℕ → Option SourceRange
range_at nodes n = option_map (λ node. node.range) (slice_get nodes n)

-- The numbers of the children of a kind, field by field.
abbrev pub child_numbers : Kind → List ℕ
child_numbers kind = flat_map (λ field. field.children) (fields kind)

-- The children of node n; empty past the end.
unfoldable pub children : List Node → ℕ → List ℕ
children nodes n = option_map_or child_numbers (kind_at nodes n) []

-- Node m has a lower number than n, and has n as a child.
pub record IsParent (nodes : List Node) (m n : ℕ) : Type 0 where
  pub lower : m < n
  pub child : Contains (children nodes m) n

-- Node n has at least `count` ancestors, each the parent of the next.
pub data HasAtLeastAncestors (nodes : List Node) : ℕ → ℕ → Type 0 where
  no_ancestor : {n : ℕ} → HasAtLeastAncestors nodes n 0
  one_more : {m n count : ℕ} → IsParent nodes m n → HasAtLeastAncestors nodes m count → HasAtLeastAncestors nodes n (suc count)
