-- Identifiers: names with their scopes.
use Rattle.std.specs.Prelude.{ℕ, Bool, ◌&&◌, ◌==◌, List, Option, Some, None, string_bytes}
use Rattle.std.specs.Str.{bytes_eq}
use Rattle.symbols_ast.specs.declared.tree.arena.Id.{Id}
use Rattle.symbols_ast.specs.declared.tree.kinds.Kind.{Kind}
use Rattle.symbols_ast.specs.declared.tree.kinds.Expr.TheVariants as Expr
use Rattle.symbols_ast.specs.declared.tree.kinds.Pat.TheVariants as Pat

-- The view of an identifier: the bytes of its name and its scope.
pub record IdView : Type 0 where
  pub name : List ℕ
  pub scope : ℕ

abbrev pub id_view : Id → IdView
id_view id = record { name = string_bytes id.name; scope = id.scope }

-- Two identifiers are the same variable if their names and their scopes are equal.
abbrev pub is_same_id : IdView → IdView → Bool
is_same_id a b = bytes_eq a.name b.name && (a.scope == b.scope)

-- The identifier that an `Ident` or a `BindingIdent` is; `None` for any other kind.
abbrev pub ident_id : Kind → Option Id
ident_id (Kind.Expr (Expr.Ident sym)) = Some sym
ident_id (Kind.Pat (Pat.BindingIdent sym _)) = Some sym
ident_id _ = None
