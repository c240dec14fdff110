-- Parts of a graph that have all modules that their modules refer to.
use Rattle.std.specs.Prelude.{◌≡◌, ℕ, Bool, true, List, Some}
use Rattle.symbols_ast.specs.Graph.{GraphView, ModuleView, module_after_redirect, content_types_dependency, resolved_dependency}

-- the second graph has for each specifier that passes the test the same module after one redirect, or none, and the same resolutions of it.
-- The types dependency and the resolutions of such a module pass the test, too
pub record IsClosedPart (graph part : GraphView) (is_inside : List ℕ → Bool) : Type 0 where
  pub same_modules : (key : List ℕ) → is_inside key ≡ true → module_after_redirect graph key ≡ module_after_redirect part key
  pub same_resolutions : (key : List ℕ) (m : ModuleView) (specifier_text : List ℕ) → is_inside key ≡ true → module_after_redirect graph key ≡ Some m
      → resolved_dependency graph m.specifier specifier_text ≡ resolved_dependency part m.specifier specifier_text
  pub types_dependencies_are_inside : (key : List ℕ) (m : ModuleView) (next : List ℕ) → is_inside key ≡ true → module_after_redirect graph key ≡ Some m
      → content_types_dependency m.content ≡ Some next → is_inside next ≡ true
  pub resolutions_are_inside : (key : List ℕ) (m : ModuleView) (specifier_text next : List ℕ) → is_inside key ≡ true → module_after_redirect graph key ≡ Some m
      → resolved_dependency graph m.specifier specifier_text ≡ Some next → is_inside next ≡ true
