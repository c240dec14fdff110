-- The modules that a query finds.
use Rattle.std.specs.Prelude.{◌≡◌, ℕ, List, Some}
use Rattle.symbols_ast.specs.Graph.{GraphView, ModuleView, module_after_redirect}
use Rattle.symbols_root.specs.TypesChains.{resolved_module_specifier}
use Rattle.symbols_answers.specs.Seen.{FollowedSpecifierRelation, IsSpecifierReachedByFollowing}

-- a requested specifier resolves to the module of this own specifier
pub record IsFound (graph : GraphView) (Follows : FollowedSpecifierRelation) (queried : List ℕ) (specifier : List ℕ) : Type 0 where
  pub key : List ℕ
  pub requested : IsSpecifierReachedByFollowing graph Follows queried key
  pub resolves : resolved_module_specifier graph key ≡ Some specifier

-- the module of this own specifier is there under a specifier with the property
pub record IsUnder (graph : GraphView) (Has : List ℕ → Type 0) (specifier : List ℕ) : Type 0 where
  pub key : List ℕ
  pub found : ModuleView
  pub has : Has key
  pub under : module_after_redirect graph key ≡ Some found
  pub specifier_is : found.specifier ≡ specifier
