-- Modules by their own specifiers.
use Rattle.std.specs.Prelude.{ℕ, Bool, List, Option, find}
use Rattle.std.specs.List.{list_any}
use Rattle.std.specs.Str.{bytes_eq}
use Rattle.symbols_ast.specs.Graph.{GraphView, ModuleView}

-- the module that has this very specifier; redirects aren't followed
abbrev pub module_with_specifier : GraphView → List ℕ → Option ModuleView
module_with_specifier graph specifier = find (λ m. bytes_eq specifier m.specifier) graph.modules

-- whether the specifier is in the list
abbrev pub contains_specifier : List (List ℕ) → List ℕ → Bool
contains_specifier specifiers specifier = list_any (bytes_eq specifier) specifiers
