-- Graphs that differ in one module, and modules that nothing in a graph refers to.
use Rattle.std.specs.Prelude.{◌≡◌, ℕ, List, Contains, Some}
use Rattle.symbols_ast.specs.Graph.{GraphView, ModuleView, Resolution, module_after_redirect, specifier_after_redirect, content_types_dependency}
use Rattle.symbols_ast.specs.Graph.{resolved_dependency}

-- the graphs differ in the module of this specifier alone, and in what the specifiers written in it resolve to
pub record DiffersOnlyIn (graph other : GraphView) (specifier : List ℕ) : Type 0 where
  pub same_modules : (key : List ℕ) → (specifier_after_redirect graph key ≡ specifier → ⊥) → module_after_redirect graph key ≡ module_after_redirect other key
  pub same_resolutions : (referrer specifier_text : List ℕ) → (referrer ≡ specifier → ⊥)
      → resolved_dependency graph referrer specifier_text ≡ resolved_dependency other referrer specifier_text

-- no types dependency and no resolution is, after one redirect, the specifier
pub record IsUnreferenced (graph : GraphView) (specifier : List ℕ) : Type 0 where
  pub is_no_types_dependency : (m : ModuleView) (next : List ℕ) → Contains graph.modules m → content_types_dependency m.content ≡ Some next
      → specifier_after_redirect graph next ≡ specifier → ⊥
  pub is_no_resolution_target : (resolution : Resolution) → Contains graph.resolutions resolution
      → specifier_after_redirect graph resolution.specifier ≡ specifier → ⊥
