-- The searches of a query, its own and those of the aliases within it, and the leaves that none of them may lose.
use Rattle.std.specs.Prelude.{◌≡◌, ℕ, List, [], ◌∷◌, Contains}
use Rattle.symbols_paths.specs.PathTrees.{SymbolBySpecifier, DeclBySpecifier, QualifiedNameParts, DefinitionView, PathLeaf, definition}
use Rattle.symbols_paths.specs.DeclTargets.{DeclTargetView, defines, forwards, alias, IsTargetOfNthDecl}
use Rattle.symbols_paths.specs.PartTargets.{part_is_symbol, SearchTargets}
use Rattle.symbols_paths.specs.Derived.{decl_of_symbol_at_index}
use Rattle.symbols_paths.specs.FirstReach.{IsLeafOfDecl, HasSymbolAsCandidate, IsLeafWithParts, IsLeafOfDeclWithoutCandidates, HasSymbolAsFirstCandidate}
use Rattle.symbols_paths.specs.FirstReach.{IsLeafWithPartsResolved}

-- leaves as `IsLeafOfSymbol` and `IsLeafWithParts` of `FirstReach`, but by first candidates only, and by an unresolved entry only if there is no
-- candidate
mutual
  pub data IsLeafByFirstCandidatesOrAlias (routes : SearchTargets) : SymbolBySpecifier → PathLeaf → Type 0 where
    leaf_of_decl_itself : {s : SymbolBySpecifier} {x : PathLeaf} (i : ℕ) (decl_target : DeclTargetView) → IsTargetOfNthDecl routes.decl_targets s i decl_target
        → IsLeafOfDeclWithoutCandidates s i decl_target x
        → IsLeafByFirstCandidatesOrAlias routes s x
    via_candidate : {s : SymbolBySpecifier} {x : PathLeaf} (i : ℕ) (decl_target : DeclTargetView) (t : SymbolBySpecifier)
        → IsTargetOfNthDecl routes.decl_targets s i decl_target
        → HasSymbolAsFirstCandidate decl_target t → IsLeafByFirstCandidatesOrAlias routes t x → IsLeafByFirstCandidatesOrAlias routes s x
    via_alias : {s : SymbolBySpecifier} {x : PathLeaf} (i : ℕ) (t : SymbolBySpecifier) (ps : QualifiedNameParts)
        → IsTargetOfNthDecl routes.decl_targets s i (alias t ps)
        → IsLeafByFirstCandidatesWithParts routes t ps x → IsLeafByFirstCandidatesOrAlias routes s x

  pub data IsLeafByFirstCandidatesWithParts (routes : SearchTargets) : SymbolBySpecifier → QualifiedNameParts → PathLeaf → Type 0 where
    no_parts : {s : SymbolBySpecifier} {x : PathLeaf} → IsLeafByFirstCandidatesOrAlias routes s x → IsLeafByFirstCandidatesWithParts routes s [] x
    changes : {s : SymbolBySpecifier} {p : List ℕ} {r : QualifiedNameParts} {y : PathLeaf} (x : PathLeaf) → IsLeafByFirstCandidatesOrAlias routes s x
        → IsLeafWithPartsResolved routes p r x y
        → IsLeafByFirstCandidatesWithParts routes s (p ∷ r) y
    via_next_symbol : {s : SymbolBySpecifier} {p : List ℕ} {r : QualifiedNameParts} {y : PathLeaf} (x : DefinitionView) (t : SymbolBySpecifier)
        → IsLeafByFirstCandidatesOrAlias routes s (definition x)
        → routes.part x p r ≡ part_is_symbol t → IsLeafByFirstCandidatesWithParts routes t r y → IsLeafByFirstCandidatesWithParts routes s (p ∷ r) y

-- a leaf of a declaration itself: for an alias each leaf of its symbol under its parts, by any candidates
abbrev pub IsLeafOfDeclOrItsAlias : SearchTargets → SymbolBySpecifier → ℕ → DeclTargetView → PathLeaf → Type 0
IsLeafOfDeclOrItsAlias routes s i (alias t ps) x = IsLeafWithParts routes t ps x
IsLeafOfDeclOrItsAlias routes s i (defines range star) x = IsLeafOfDecl s i (defines range star) x
IsLeafOfDeclOrItsAlias routes s i (forwards forward) x = IsLeafOfDecl s i (forwards forward) x

-- the wide reach of one search: a symbol that it reaches, by any candidates, and the parts that remain there. An alias is resolved by a
-- search of its own, whose leaves this search goes on from.
pub data IsReachedWithParts (routes : SearchTargets) (start : SymbolBySpecifier) (parts : QualifiedNameParts) : SymbolBySpecifier → QualifiedNameParts
    → Type 0 where
  at_search_start : IsReachedWithParts routes start parts start parts
  via_candidate : {t : SymbolBySpecifier} {r : QualifiedNameParts} (s : SymbolBySpecifier) (i : ℕ) (decl_target : DeclTargetView)
      → IsReachedWithParts routes start parts s r
      → IsTargetOfNthDecl routes.decl_targets s i decl_target → HasSymbolAsCandidate decl_target t → IsReachedWithParts routes start parts t r
  via_next_symbol : {t : SymbolBySpecifier} {r : QualifiedNameParts} (s : SymbolBySpecifier) (i : ℕ) (decl_target : DeclTargetView) (x : DefinitionView)
      (p : List ℕ)
      → IsReachedWithParts routes start parts s (p ∷ r) → IsTargetOfNthDecl routes.decl_targets s i decl_target
      → IsLeafOfDeclOrItsAlias routes s i decl_target (definition x)
      → routes.part x p r ≡ part_is_symbol t → IsReachedWithParts routes start parts t r

-- the searches of a query: its own, and that of each alias reached. Each is given by the aliases that it is within, its symbol and its
-- parts.
pub data IsMainOrAliasSearchOfQuery (routes : SearchTargets) (queried : SymbolBySpecifier) (under : QualifiedNameParts) : List DeclBySpecifier
    → SymbolBySpecifier
    → QualifiedNameParts → Type 0 where
  main_search_of_query : IsMainOrAliasSearchOfQuery routes queried under [] queried under
  within : {run : List DeclBySpecifier} {s : SymbolBySpecifier} {r : QualifiedNameParts} (u : SymbolBySpecifier) (i : ℕ) (t : SymbolBySpecifier)
      (q ps : QualifiedNameParts)
      → IsMainOrAliasSearchOfQuery routes queried under run s r → IsReachedWithParts routes s r u q → IsTargetOfNthDecl routes.decl_targets u i (alias t ps)
      → IsMainOrAliasSearchOfQuery routes queried under (decl_of_symbol_at_index u i ∷ run) t ps

-- no alias takes part in resolving itself, directly or through others
pub record HasNoAliasCycle (routes : SearchTargets) (queried : SymbolBySpecifier) (under : QualifiedNameParts) : Type 0 where
  pub no_alias_resolves_itself : (run : List DeclBySpecifier) (s : SymbolBySpecifier) (r : QualifiedNameParts) (u : SymbolBySpecifier) (i : ℕ)
      (t : SymbolBySpecifier)
      (q ps : QualifiedNameParts)
      → IsMainOrAliasSearchOfQuery routes queried under run s r → IsReachedWithParts routes s r u q → IsTargetOfNthDecl routes.decl_targets u i (alias t ps)
      → Contains run (decl_of_symbol_at_index u i) → ⊥

-- no search of the query reaches a symbol with two different lists of remaining parts
pub record HasUniqueRemainingPartsInEachSearch (routes : SearchTargets) (queried : SymbolBySpecifier) (under : QualifiedNameParts) : Type 0 where
  pub remaining_parts_are_equal : (run : List DeclBySpecifier) (s : SymbolBySpecifier) (r : QualifiedNameParts) (u : SymbolBySpecifier)
      (q o : QualifiedNameParts)
      → IsMainOrAliasSearchOfQuery routes queried under run s r
      → IsReachedWithParts routes s r u q → IsReachedWithParts routes s r u o → q ≡ o

-- the query's own search reaches no symbol with two different lists of remaining parts
pub record HasUniqueRemainingPartsInMainSearch (routes : SearchTargets) (queried : SymbolBySpecifier) (under : QualifiedNameParts) : Type 0 where
  pub remaining_parts_are_equal : (u : SymbolBySpecifier) (q o : QualifiedNameParts) → IsReachedWithParts routes queried under u q
      → IsReachedWithParts routes queried under u o → q ≡ o

-- the query's own search reaches no alias
pub record ReachesNoAlias (routes : SearchTargets) (queried : SymbolBySpecifier) (under : QualifiedNameParts) : Type 0 where
  pub reaches_no_alias : (u : SymbolBySpecifier) (i : ℕ) (t : SymbolBySpecifier) (q ps : QualifiedNameParts) → IsReachedWithParts routes queried under u q
      → IsTargetOfNthDecl routes.decl_targets u i (alias t ps) → ⊥
