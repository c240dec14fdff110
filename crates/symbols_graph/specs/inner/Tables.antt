-- A definition about maps that only inner functions and proofs use.
use Rattle.std.specs.Prelude.{◌≡◌, List, map, String, string_bytes}
use Rattle.std.specs.Global.{Global}
use Rattle.symbols_ast.specs.Graph.{ModuleView}

-- Each module's key is its specifier.
abbrev pub AreKeyedBySpecifier : List (String Global × ModuleView) → Type 0
AreKeyedBySpecifier entries = map (λ e. string_bytes e.0) entries ≡ map (λ e. e.1.specifier) entries
