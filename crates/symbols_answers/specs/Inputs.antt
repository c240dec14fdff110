-- What a graph has under a specifier that a query looks up.
use Rattle.std.specs.Prelude.{ℕ, List, Option, Some, None, if◌then◌else◌}
use Rattle.std.specs.Str.{bytes_eq}
use Rattle.symbols_ast.specs.Graph.{GraphView, ModuleView, module_after_redirect}

-- the module that has this specifier; another module, by its own specifier, to which it redirects; or no module after one redirect
pub data FoundView : Type 0 where
  found_module : FoundView
  found_redirect : List ℕ → FoundView
  found_absent : FoundView

-- an input of a query: a specifier that it looks up, with what the graph has under it
pub record InputView : Type 0 where
  pub specifier : List ℕ
  pub found : FoundView

abbrev pub found_under_specifier : List ℕ → Option ModuleView → FoundView
found_under_specifier specifier None = found_absent
found_under_specifier specifier (Some m) = if bytes_eq m.specifier specifier then found_module else found_redirect m.specifier

abbrev pub input_of_specifier : GraphView → List ℕ → InputView
input_of_specifier graph specifier = record { specifier = specifier; found = found_under_specifier specifier (module_after_redirect graph specifier) }
