-- A graph and a closed part of it agree on what a query on a module of the part looks up.
use Rattle.std.proofs.Common.{◌≡◌, ℕ, Bool, true, List, Some, sym, subst}
use Rattle.symbols_ast.specs.Graph.{GraphView, resolved_dependency}
use Rattle.symbols_root.specs.TypesChains.{resolved_module_specifier}
use Rattle.symbols_answers.specs.Questions.{QueryView, IsSpecifierFollowedForQuestion, AreAlikeForQuery}
use Rattle.symbols_answers.specs.Seen.{FollowedSpecifierRelation, IsSpecifierReachedByFollowing, queried_specifier_is_looked_up}
use Rattle.symbols_answers.specs.Seen.{resolved_specifier_is_looked_up, IsSpecifierLookedUp, is_requested, types_dependency_is_looked_up}
use Rattle.symbols_locality.specs.ClosedPart.{IsClosedPart}
use Rattle.symbols_locality.proofs.FoundModules.{IsUnder}
use Rattle.symbols_locality.proofs.SeenAlike.{resolved_under}

module _ (graph part : GraphView) (is_inside : List ℕ → Bool) (closed : IsClosedPart graph part is_inside) where
  abbrev IsInside : List ℕ → Type 0
  IsInside key = is_inside key ≡ true

  -- the module that a specifier inside resolves to is under one inside
  under_inside : (key : List ℕ) → IsInside key → (specifier : List ℕ) → resolved_module_specifier graph key ≡ Some specifier → IsUnder graph IsInside specifier
  under_inside key inside specifier resolves =
      resolved_under graph IsInside (λ before m next at under types. closed.types_dependencies_are_inside before m next at under types) key inside specifier
      resolves

  target_inside : (key specifier specifier_text next : List ℕ) → IsInside key → resolved_module_specifier graph key ≡ Some specifier
      → resolved_dependency graph specifier specifier_text ≡ Some next → IsInside next
  target_inside key specifier specifier_text next inside resolves part_is_symbol =
      let at = under_inside key inside specifier resolves in
      closed.resolutions_are_inside at.key at.found specifier_text next at.has at.under
      (subst (λ w. resolved_dependency graph w specifier_text ≡ Some next) (sym at.specifier_is) part_is_symbol)

  pub same_resolution : (key specifier specifier_text : List ℕ) → IsInside key → resolved_module_specifier graph key ≡ Some specifier
      → resolved_dependency graph specifier specifier_text ≡ resolved_dependency part specifier specifier_text
  same_resolution key specifier specifier_text inside resolves =
      let at = under_inside key inside specifier resolves in
      subst (λ w. resolved_dependency graph w specifier_text ≡ resolved_dependency part w specifier_text) at.specifier_is
      (closed.same_resolutions at.key at.found specifier_text at.has at.under)

  module _ (Follows : FollowedSpecifierRelation) (queried : List ℕ) (inside : IsInside queried) where
    pub requested_inside : (key : List ℕ) → IsSpecifierReachedByFollowing graph Follows queried key → IsInside key
    requested_inside key queried_specifier_is_looked_up = inside
    requested_inside key (resolved_specifier_is_looked_up before specifier specifier_text requested at follows part_is_symbol) =
        target_inside before specifier specifier_text key (requested_inside before requested) at part_is_symbol

    pub seen_inside : (key : List ℕ) → IsSpecifierLookedUp graph Follows queried key → IsInside key
    seen_inside key (is_requested requested) = requested_inside key requested
    seen_inside key (types_dependency_is_looked_up before m seen under types) = closed.types_dependencies_are_inside before m key
        (seen_inside before seen) under types

pub alike_in_part : (graph part : GraphView) (is_inside : List ℕ → Bool) (query : QueryView) → IsClosedPart graph part is_inside
    → is_inside query.specifier ≡ true → AreAlikeForQuery graph part query
alike_in_part graph part is_inside query closed inside = record {
  same_modules = λ key seen. closed.same_modules key (seen_inside graph part is_inside closed Follows query.specifier inside key seen);
  same_resolutions = λ key specifier specifier_text requested at follows. same_resolution graph part is_inside closed key specifier specifier_text
      (requested_inside graph part is_inside closed Follows query.specifier inside key requested) at;
}
  where
    Follows : FollowedSpecifierRelation
    Follows = IsSpecifierFollowedForQuestion graph query.specifier query.question
