-- A search that reaches no alias is the only one of its query.
use Rattle.std.proofs.Common.{◌≡◌, ℕ, List, [], ◌∷◌, refl, sym, subst, ◌∙◌}
use Rattle.symbols_paths.specs.PathTrees.{SymbolBySpecifier, DeclBySpecifier, QualifiedNameParts}
use Rattle.symbols_paths.specs.PartTargets.{SearchTargets}
use Rattle.symbols_paths.specs.AliasSearches.{IsReachedWithParts, at_search_start, via_candidate, via_next_symbol, IsMainOrAliasSearchOfQuery}
use Rattle.symbols_paths.specs.AliasSearches.{main_search_of_query, within}
use Rattle.symbols_paths.specs.AliasSearches.{HasNoAliasCycle, HasUniqueRemainingPartsInEachSearch, HasUniqueRemainingPartsInMainSearch, ReachesNoAlias}

record IsExplicit (queried : SymbolBySpecifier) (under : QualifiedNameParts) (run : List DeclBySpecifier) (s : SymbolBySpecifier)
    (r : QualifiedNameParts) : Type 0 where
  within_none : run ≡ []
  symbol : s ≡ queried
  parts : r ≡ under

module _ {routes : SearchTargets} {queried : SymbolBySpecifier} {under : QualifiedNameParts} where
  reached_itself : {run : List DeclBySpecifier} {s u : SymbolBySpecifier} {r q : QualifiedNameParts} → IsExplicit queried under run s r
      → IsReachedWithParts routes s r u q
      → IsReachedWithParts routes queried under u q
  reached_itself {u = u} {r = r} {q = q} is reached = subst (λ (ps : QualifiedNameParts). IsReachedWithParts routes queried ps u q) is.parts
      (subst (λ (t : SymbolBySpecifier). IsReachedWithParts routes t r u q) is.symbol reached)

  only_explicit : ReachesNoAlias routes queried under → {run : List DeclBySpecifier} {s : SymbolBySpecifier} {r : QualifiedNameParts}
      → IsMainOrAliasSearchOfQuery routes queried under run s r
      → IsExplicit queried under run s r
  only_explicit without_alias main_search_of_query = record { within_none = refl; symbol = refl; parts = refl }
  only_explicit without_alias (within u i t q ps is reached occurs) =
      absurd (without_alias.reaches_no_alias u i t q ps (reached_itself (only_explicit without_alias is) reached) occurs)

  pub without_alias_apart : ReachesNoAlias routes queried under → HasNoAliasCycle routes queried under
  without_alias_apart without_alias = record {
    no_alias_resolves_itself = λ run s r u i t q ps is reached occurs has.
        without_alias.reaches_no_alias u i t q ps (reached_itself (only_explicit without_alias is) reached) occurs;
  }

  pub without_alias_remaining : ReachesNoAlias routes queried under → HasUniqueRemainingPartsInMainSearch routes queried under
      → HasUniqueRemainingPartsInEachSearch routes queried under
  without_alias_remaining without_alias itself = record {
    remaining_parts_are_equal = λ run s r u q o is a b.
        itself.remaining_parts_are_equal u q o (reached_itself (only_explicit without_alias is) a) (reached_itself (only_explicit without_alias is) b);
  }

-- a search without parts reaches each symbol without parts
nothing_left : {routes : SearchTargets} {queried u : SymbolBySpecifier} {q : QualifiedNameParts} → IsReachedWithParts routes queried [] u q → q ≡ []
nothing_left at_search_start = refl
nothing_left (via_candidate s i decl_target is occurs decl_targets) = nothing_left is
nothing_left (via_next_symbol s i decl_target x p is occurs may_give decl_targets) = absurd (some_left (nothing_left is))
  where
    some_left : {p : List ℕ} {r : QualifiedNameParts} → p ∷ r ≡ [] → ⊥
    some_left e = cc

pub one_remaining_without_parts : (routes : SearchTargets) (queried : SymbolBySpecifier) → HasUniqueRemainingPartsInMainSearch routes queried []
one_remaining_without_parts routes queried = record { remaining_parts_are_equal = λ u q o a b. nothing_left a ∙ sym (nothing_left b) }
