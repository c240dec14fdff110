-- A definition about patterns that only inner functions and proofs use.
use Rattle.std.specs.Prelude.{Bool, true, false}
use Rattle.symbols_ast.specs.declared.tree.kinds.Kind.{Kind}
use Rattle.symbols_ast.specs.declared.tree.kinds.Pat.TheVariants as Pat

-- The pattern is an identifier.
abbrev pub is_identifier_pattern : Kind → Bool
is_identifier_pattern (Kind.Pat (Pat.BindingIdent _ _)) = true
is_identifier_pattern _ = false
