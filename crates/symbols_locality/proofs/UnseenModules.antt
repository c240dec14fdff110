-- A query on another module doesn't look up a module that nothing refers to.
use Rattle.std.proofs.Common.{◌≡◌, ℕ, Bool, List, find, Option, None, Some, option_map, refl, ap, ◌∙◌}
use Rattle.std.specs.Prelude.{◌&&◌}
use Rattle.std.specs.Str.{bytes_eq}
use Rattle.std.proofs.lemmas.Option.{none-some, same_Some}
use Rattle.symbols_ast.specs.Graph.{GraphView, ModuleView, Resolution, specifier_after_redirect}
use Rattle.symbols_ast.specs.Graph.{resolved_dependency}
use Rattle.symbols_answers.specs.Questions.{QueryView, IsSpecifierFollowedForQuestion, IsModuleNotLookedUpByQuery}
use Rattle.symbols_answers.specs.Seen.{FollowedSpecifierRelation, IsSpecifierReachedByFollowing, queried_specifier_is_looked_up}
use Rattle.symbols_answers.specs.Seen.{resolved_specifier_is_looked_up, IsSpecifierLookedUp, is_requested, types_dependency_is_looked_up}
use Rattle.symbols_locality.specs.ChangedModule.{IsUnreferenced}
use Rattle.symbols_locality.proofs.Lists.{found_there}

module _ (graph : GraphView) (specifier : List ℕ) (unreferenced : IsUnreferenced graph specifier) where
  abbrev IsIt : List ℕ → Type 0
  IsIt key = specifier_after_redirect graph key ≡ specifier

  not_resolved : (referrer specifier_text next : List ℕ) → resolved_dependency graph referrer specifier_text ≡ Some next → IsIt next → ⊥
  not_resolved referrer specifier_text next = by (find is_it graph.resolutions) refl
    where
      is_it : Resolution → Bool
      is_it r = bytes_eq referrer r.referrer && bytes_eq specifier_text r.specifier_text

      by : (found : Option Resolution) → find is_it graph.resolutions ≡ found → option_map (λ r. r.specifier) found ≡ Some next → IsIt next → ⊥
      by None is e it = none-some next e
      by (Some r) is e it =
          unreferenced.is_no_resolution_target r (found_there is_it graph.resolutions r is) (ap (specifier_after_redirect graph) (same_Some r.specifier next e)
          ∙ it)

  unrequested : (Follows : FollowedSpecifierRelation) (queried : List ℕ) → (IsIt queried → ⊥) → (key : List ℕ) → IsSpecifierReachedByFollowing graph Follows
      queried key
      → IsIt key → ⊥
  unrequested Follows queried other key queried_specifier_is_looked_up it = other it
  unrequested Follows queried other key (resolved_specifier_is_looked_up before referrer specifier_text requested at follows resolves) it =
      not_resolved referrer specifier_text key resolves it

  unseen : (Follows : FollowedSpecifierRelation) (queried : List ℕ) → (IsIt queried → ⊥) → (key : List ℕ) → IsSpecifierLookedUp graph Follows queried key
      → IsIt key
      → ⊥
  unseen Follows queried other key (is_requested requested) it = unrequested Follows queried other key requested it
  unseen Follows queried other key (types_dependency_is_looked_up before m seen under types) it =
      unreferenced.is_no_types_dependency m key (found_there
      (λ (x : ModuleView). bytes_eq (specifier_after_redirect graph before) x.specifier) graph.modules m under) types it

pub unseen_by_query : (graph : GraphView) (query : QueryView) (specifier : List ℕ) → IsUnreferenced graph specifier
    → (specifier_after_redirect graph query.specifier ≡ specifier → ⊥) → IsModuleNotLookedUpByQuery graph query specifier
unseen_by_query graph query specifier unreferenced other =
    unseen graph specifier unreferenced (IsSpecifierFollowedForQuestion graph query.specifier query.question) query.specifier other
