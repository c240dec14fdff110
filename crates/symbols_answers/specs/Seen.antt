-- The specifiers that a query looks up in a graph, and graphs that agree on all of them.
use Rattle.std.specs.Prelude.{◌≡◌, ℕ, List, Contains, Some}
use Rattle.symbols_ast.specs.Graph.{GraphView, ModuleView, module_after_redirect, content_types_dependency, resolved_dependency}
use Rattle.symbols_root.specs.TypesChains.{resolved_module_specifier}
use Rattle.symbols_exports.specs.StarStatements.{star_specifiers}

-- for each module, by its own specifier, the specifiers written in it that are followed
abbrev pub FollowedSpecifierRelation : Type 1
FollowedSpecifierRelation = List ℕ → List ℕ → Type 0

-- those of its `export *` statements
abbrev pub IsStarSpecifierOfModule : GraphView → FollowedSpecifierRelation
IsStarSpecifierOfModule graph specifier specifier_text = Contains (star_specifiers graph specifier) specifier_text

-- the specifiers that are requested: the queried one; and for each module that one of them resolves to, what its followed specifiers resolve
-- to
pub data IsSpecifierReachedByFollowing (graph : GraphView) (Follows : FollowedSpecifierRelation) (queried : List ℕ) : List ℕ → Type 0 where
  queried_specifier_is_looked_up : IsSpecifierReachedByFollowing graph Follows queried queried
  resolved_specifier_is_looked_up : {next : List ℕ} (key specifier specifier_text : List ℕ) → IsSpecifierReachedByFollowing graph Follows queried key
      → resolved_module_specifier graph key ≡ Some specifier → Follows specifier specifier_text
      → resolved_dependency graph specifier specifier_text ≡ Some next → IsSpecifierReachedByFollowing graph Follows queried next

-- the specifiers that are looked up: the requested ones; and the types dependency of each module that is found under one of them
pub data IsSpecifierLookedUp (graph : GraphView) (Follows : FollowedSpecifierRelation) (queried : List ℕ) : List ℕ → Type 0 where
  is_requested : {key : List ℕ} → IsSpecifierReachedByFollowing graph Follows queried key → IsSpecifierLookedUp graph Follows queried key
  types_dependency_is_looked_up : {next : List ℕ} (key : List ℕ) (m : ModuleView) → IsSpecifierLookedUp graph Follows queried key
      → module_after_redirect graph key ≡ Some m
      → content_types_dependency m.content ≡ Some next → IsSpecifierLookedUp graph Follows queried next

-- the graphs agree there: each specifier that is looked up has the same module after one redirect, or none, in both; and the followed
-- specifiers of the modules that requested ones resolve to resolve to the same specifiers, or to none
pub record AreAlikeWhereLookedUp (graph other : GraphView) (Follows : FollowedSpecifierRelation) (queried : List ℕ) : Type 0 where
  pub same_modules : (key : List ℕ) → IsSpecifierLookedUp graph Follows queried key → module_after_redirect graph key ≡ module_after_redirect other key
  pub same_resolutions : (key specifier specifier_text : List ℕ) → IsSpecifierReachedByFollowing graph Follows queried key
      → resolved_module_specifier graph key ≡ Some specifier → Follows specifier specifier_text
      → resolved_dependency graph specifier specifier_text ≡ resolved_dependency other specifier specifier_text
