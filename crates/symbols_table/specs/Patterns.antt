-- The identifiers that a destructuring pattern binds.
use Rattle.std.specs.Prelude.{ℕ, suc, zero, List, [], ◌∷◌, length}
use Rattle.std.specs.Option.{option_map_or}
use Rattle.std.specs.List.{flat_map}
use Rattle.symbols_ast.specs.declared.tree.arena.Tree.{Tree}
use Rattle.symbols_ast.specs.declared.tree.kinds.Kind.{Kind}
use Rattle.symbols_ast.specs.declared.tree.kinds.Pat.TheVariants as Pat
use Rattle.symbols_ast.specs.Nodes.{kind_at}

-- The parts of a pattern that may bind identifiers: for a property its value, or its key if it is a shorthand.
abbrev pub pattern_parts : Kind → List ℕ
pattern_parts (Kind.Pat (Pat.ArrayPat elems _)) = elems.items
pattern_parts (Kind.Pat (Pat.ObjectPat props _)) = props.items
pattern_parts (Kind.Pat (Pat.RestPat arg _)) = arg ∷ []
pattern_parts (Kind.Pat (Pat.KeyValuePatProp _ value)) = value ∷ []
pattern_parts (Kind.Pat (Pat.AssignPatProp key _)) = key ∷ []
pattern_parts (Kind.Pat (Pat.AssignPat left _)) = left ∷ []
pattern_parts _ = []

abbrev pub pattern_bindings_below : (ℕ → List ℕ) → ℕ → Kind → List ℕ
pattern_bindings_below inner n (Kind.Pat (Pat.BindingIdent _ _)) = n ∷ []
pattern_bindings_below inner n kind = flat_map inner (pattern_parts kind)

-- The identifiers that pattern n binds, in order, down to a number of levels.
unfoldable pub pattern_bindings_within_levels : Tree → ℕ → ℕ → List ℕ
pattern_bindings_within_levels tree zero n = []
pattern_bindings_within_levels tree (suc levels) n = option_map_or (pattern_bindings_below (pattern_bindings_within_levels tree levels) n)
    (kind_at tree.nodes.items n) []

-- All identifiers that pattern n binds: no path down the tree has more levels than the tree has nodes.
abbrev pub pattern_bindings : Tree → ℕ → List ℕ
pattern_bindings tree n = pattern_bindings_within_levels tree (length tree.nodes.items) n
