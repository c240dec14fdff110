-- A search visits symbols of its wide reach only, and each definition it gives is a leaf of a declaration of such a symbol.
use Rattle.std.proofs.Common.{◌≡◌, ℕ, suc, inl, inr, Bool, true, false, List, [], ◌∷◌, ◌++◌, Option, None, Some, refl, sym, ◌∙◌, subst, arith, true≢false}
use Rattle.std.specs.Prelude.{Contains, slice_get}
use Rattle.std.proofs.lemmas.List.Elements.{Contains-append_cases}
use Rattle.symbols_paths.specs.PathTrees.{SymbolBySpecifier, DeclBySpecifier, QualifiedNameParts, DefinitionView, UnresolvedEntry, LinkHead, PathForest}
use Rattle.symbols_paths.specs.PathTrees.{PathLeaf, definition, no_trees, joined_forests, forest_below_link_unless_empty, leaves_of_forest}
use Rattle.symbols_paths.specs.DeclTargets.{ForwardTarget, DeclTargetView, defines, forwards, alias, IsTargetOfNthDecl}
use Rattle.symbols_paths.specs.PartTargets.{SearchTargets}
use Rattle.symbols_paths.specs.Derived.{definition_of_decl, link_head_of_forward, alias_link_head}
use Rattle.symbols_paths.specs.FirstReach.{IsLeafOfDecl, HasSymbolAsCandidate, IsLeafOfSymbol, IsLeafWithParts, IsLeafOfDeclWithoutCandidates}
use Rattle.symbols_paths.specs.FirstReach.{HasSymbolAsFirstCandidate, unresolved_leaf_stays}
use Rattle.symbols_paths.specs.FirstReach.{definition_stays_itself, leaf_lacks_part}
use Rattle.symbols_paths.specs.FirstReach as reach
use Rattle.symbols_paths.specs.AliasSearches.{IsLeafByFirstCandidatesOrAlias, IsLeafByFirstCandidatesWithParts, IsLeafOfDeclOrItsAlias, IsReachedWithParts}
use Rattle.symbols_paths.specs.AliasSearches as near
use Rattle.symbols_paths.specs.Choice.{is_visited, IsOutcomeOfSymbolSearch, already_visited, is_new, IsOutcomeOfDeclListSearch, no_decl_left, step}
use Rattle.symbols_paths.specs.Choice.{IsOutcomeOfDeclSearch, decl_is_definition}
use Rattle.symbols_paths.specs.Choice.{decl_forwards, by_alias_being_resolved, via_alias, IsOutcomeOfCandidateSearch, no_candidate_left}
use Rattle.symbols_paths.specs.Choice.{first_candidate_with_paths, candidate_has_no_path, forest_of_unresolved}
use Rattle.symbols_paths.proofs.VisitedSymbols.{only_one}
use Rattle.symbols_paths.proofs.Leaves.{leaves_of_forest-join, leaves_of_forest-link_unless_empty, IsTail, later, here, whole, walks_leaf, none_in, not_missing}
use Rattle.symbols_paths.proofs.Leaves.{only_this}

pub first_gives : (s : SymbolBySpecifier) (i : ℕ) (decl_target : DeclTargetView) (x : PathLeaf) → IsLeafOfDeclWithoutCandidates s i decl_target x
    → IsLeafOfDecl s i decl_target x
first_gives s i (defines range star) x h = h
first_gives s i (forwards forward) x h = h.1
first_gives s i (alias t ps) x h = h

first_of : (cs : List SymbolBySpecifier) (t : SymbolBySpecifier) → slice_get cs 0 ≡ Some t → Contains cs t
first_of [] t e = absurd cc
first_of (c ∷ cs) t e = let same : c ≡ t = cc in (0, omega arith, same)

pub first_candidate : (decl_target : DeclTargetView) (t : SymbolBySpecifier) → HasSymbolAsFirstCandidate decl_target t → HasSymbolAsCandidate decl_target t
first_candidate (defines range star) t h = h
first_candidate (forwards forward) t h = first_of forward.candidates t h
first_candidate (alias u ps) t h = h

-- a leaf by first candidates is a leaf
mutual
  pub first_leaf_is : (routes : SearchTargets) {s : SymbolBySpecifier} {x : PathLeaf} → IsLeafByFirstCandidatesOrAlias routes s x → IsLeafOfSymbol routes s x
  first_leaf_is routes (near.leaf_of_decl_itself {s = s} {x = x} i decl_target st g) = reach.leaf_of_decl_itself i decl_target st
      (first_gives s i decl_target x g)
  first_leaf_is routes (near.via_candidate i decl_target t st l h) = reach.via_candidate i decl_target t st (first_candidate decl_target t l)
      (first_leaf_is routes h)
  first_leaf_is routes (near.via_alias i t ps st h) = reach.via_alias i t ps st (first_walk_is routes h)

  pub first_walk_is : (routes : SearchTargets) {s : SymbolBySpecifier} {r : QualifiedNameParts} {x : PathLeaf} → IsLeafByFirstCandidatesWithParts routes s r x
      → IsLeafWithParts routes s r x
  first_walk_is routes (near.no_parts h) = reach.no_parts (first_leaf_is routes h)
  first_walk_is routes (near.changes x h (unresolved_leaf_stays {m = m})) = reach.unresolved_leaf_stays m (first_leaf_is routes h)
  first_walk_is routes (near.changes x h (definition_stays_itself {y = y} e)) = reach.definition_stays_itself y (first_leaf_is routes h) e
  first_walk_is routes (near.changes x h (leaf_lacks_part {y = y} {m = m} e)) = reach.definition_lacks_part y m (first_leaf_is routes h) e
  first_walk_is routes (near.via_next_symbol x t h e n) = reach.via_next_symbol x t (first_leaf_is routes h) e (first_walk_is routes n)

-- a leaf of a declaration itself as `IsLeafOfDeclOrItsAlias`, but by first candidates
abbrev pub MayGiveFirst : SearchTargets → SymbolBySpecifier → ℕ → DeclTargetView → PathLeaf → Type 0
MayGiveFirst routes s i (alias t ps) x = IsLeafByFirstCandidatesWithParts routes t ps x
MayGiveFirst routes s i (defines range star) x = IsLeafOfDeclWithoutCandidates s i (defines range star) x
MayGiveFirst routes s i (forwards forward) x = IsLeafOfDeclWithoutCandidates s i (forwards forward) x

pub given_named : (routes : SearchTargets) (s : SymbolBySpecifier) (i : ℕ) (decl_target : DeclTargetView) (x : PathLeaf)
    → IsLeafOfDeclWithoutCandidates s i decl_target x
    → MayGiveFirst routes s i decl_target x
given_named routes s i (defines range star) x h = h
given_named routes s i (forwards forward) x h = h
given_named routes s i (alias t ps) x h = absurd h

pub first_may_give : (routes : SearchTargets) (s : SymbolBySpecifier) (i : ℕ) (decl_target : DeclTargetView) (x : PathLeaf)
    → MayGiveFirst routes s i decl_target x
    → IsLeafOfDeclOrItsAlias routes s i decl_target x
first_may_give routes s i (defines range star) x h = h
first_may_give routes s i (forwards forward) x h = h.1
first_may_give routes s i (alias t ps) x h = first_walk_is routes h

none_missing : (otherwise : Option UnresolvedEntry) (y : DefinitionView) → Contains (leaves_of_forest (forest_of_unresolved otherwise)) (definition y) → ⊥
none_missing None y h = none_in (definition y) h
none_missing (Some m) y h = not_missing m y h

module _ (routes : SearchTargets) (limit : ℕ) (start : SymbolBySpecifier) (parts : QualifiedNameParts) where
  -- a declaration of a symbol that is reached with these parts has the definition
  pub record IsNamed (r : QualifiedNameParts) (y : DefinitionView) : Type 0 where
    pub s : SymbolBySpecifier
    pub i : ℕ
    pub decl_target : DeclTargetView
    pub reached : IsReachedWithParts routes start parts s r
    pub occurs : IsTargetOfNthDecl routes.decl_targets s i decl_target
    pub may_give : IsLeafOfDeclOrItsAlias routes s i decl_target (definition y)

  -- the symbols visited by this step are reached with these parts, and each definition is a leaf of a declaration of one
  pub record AreReached (r : QualifiedNameParts) (visited : List SymbolBySpecifier) (f : PathForest) (after : List SymbolBySpecifier) : Type 0 where
    pub leaves : (y : DefinitionView) → Contains (leaves_of_forest f) (definition y) → IsNamed r y
    pub visited_now : (u : SymbolBySpecifier) → is_visited visited u ≡ false → is_visited after u ≡ true → IsReachedWithParts routes start parts u r

  reached_still : (r : QualifiedNameParts) (visited : List SymbolBySpecifier) → AreReached r visited no_trees visited
  reached_still r visited = record { leaves = λ y h. absurd (none_in (definition y) h); visited_now = λ u a b. absurd (true≢false (sym b ∙ a)) }

  reached_both : {r : QualifiedNameParts} {a b c : List SymbolBySpecifier} (f g : PathForest) → AreReached r a f b → AreReached r b g c
      → AreReached r a (joined_forests f g) c
  reached_both {r = r} {a = a} {b = b} {c = c} f g x y = record {
    leaves = λ d h. elim (Contains-append_cases (leaves_of_forest f) (leaves_of_forest g) (definition d) (rw (leaves_of_forest-join f g) at h))
        [ inl p ↦ x.leaves d p | inr p ↦ y.leaves d p ];
    visited_now = λ u m n. go u m n (is_visited b u) refl;
  }
    where
      go : (u : SymbolBySpecifier) → is_visited a u ≡ false → is_visited c u ≡ true → (v : Bool) → is_visited b u ≡ v
          → IsReachedWithParts routes start parts u r
      go u m n true e = x.visited_now u m e
      go u m n false e = y.visited_now u e n

  reached_link : {r : QualifiedNameParts} {a b : List SymbolBySpecifier} (head : LinkHead) (f : PathForest) → AreReached r a f b
      → AreReached r a (forest_below_link_unless_empty head f) b
  reached_link head f x = record { leaves = λ y h. x.leaves y (rw (leaves_of_forest-link_unless_empty head f) at h); visited_now = x.visited_now }

  mutual
    pub finds_reached : {running : List DeclBySpecifier} {visited after : List SymbolBySpecifier} {s : SymbolBySpecifier} {f : PathForest}
        (r : QualifiedNameParts)
        → IsReachedWithParts routes start parts s r → IsOutcomeOfSymbolSearch routes limit running visited s f after → AreReached r visited f after
    finds_reached r w (already_visited {visited = visited} e) = reached_still r visited
    finds_reached r w (is_new {visited = visited} {after = after} {s = s} e x) =
        let h = expands_reached r w (whole routes s) x in
        record { leaves = h.leaves; visited_now = λ u m n. go h u m n (is_visited (visited ++ s ∷ []) u) refl }
      where
        go : {f : PathForest} → AreReached r (visited ++ s ∷ []) f after → (u : SymbolBySpecifier) → is_visited visited u ≡ false → is_visited after u ≡ true
            → (v : Bool)
            → is_visited (visited ++ s ∷ []) u ≡ v → IsReachedWithParts routes start parts u r
        go h u m n true q = subst (λ z. IsReachedWithParts routes start parts z r) (sym (only_one visited s u m q)) w
        go h u m n false q = h.visited_now u q n

    expands_reached : {running : List DeclBySpecifier} {visited after : List SymbolBySpecifier} {s : SymbolBySpecifier} {i : ℕ} {xs : List DeclTargetView}
        {f : PathForest}
        (r : QualifiedNameParts) → IsReachedWithParts routes start parts s r → IsTail routes s i xs
        → IsOutcomeOfDeclListSearch routes limit running visited s i xs f after
        → AreReached r visited f after
    expands_reached r w st (no_decl_left {visited = visited}) = reached_still r visited
    expands_reached r w st (step {f = f} {rest = g} x y) = reached_both f g (follows_reached r w (here st) x) (expands_reached r w (later st) y)

    follows_reached : {running : List DeclBySpecifier} {visited after : List SymbolBySpecifier} {s : SymbolBySpecifier} {i : ℕ} {decl_target : DeclTargetView}
        {f : PathForest}
        (r : QualifiedNameParts) → IsReachedWithParts routes start parts s r → IsTargetOfNthDecl routes.decl_targets s i decl_target
        → IsOutcomeOfDeclSearch routes limit running visited s i decl_target f after → AreReached r visited f after
    follows_reached r w st (decl_is_definition {visited = visited} {s = s} {i = i} {range = range} {star = star}) =
        record {
          leaves = λ y h. record {
            s = s;
            i = i;
            decl_target = defines range star;
            reached = w;
            occurs = st;
            may_give = sym (only_this (definition (definition_of_decl s i range star)) (definition y) h);
          };
          visited_now = λ u a b. absurd (true≢false (sym b ∙ a));
        }
    follows_reached r w st (decl_forwards {s = s} {i = i} {forward = forward} {f = f} x) =
        reached_link (link_head_of_forward s i forward) f (tries_reached r i forward w st (λ c h. h) x)
    follows_reached r w st (by_alias_being_resolved {visited = visited} e) = reached_still r visited
    follows_reached r w st (via_alias {visited = visited} {s = s} {t = t} {i = i} {ps = ps} {f = f} e few fits x) =
        record {
          leaves = λ y h. record {
            s = s;
            i = i;
            decl_target = alias t ps;
            reached = w;
            occurs = st;
            may_give = (walks_leaf routes limit x).each
                (definition y) (rw (leaves_of_forest-link_unless_empty (alias_link_head s i ps) f) at h);
          };
          visited_now = λ u a b. absurd (true≢false (sym b ∙ a));
        }

    tries_reached : {running : List DeclBySpecifier} {visited after : List SymbolBySpecifier} {s : SymbolBySpecifier} {cs : List SymbolBySpecifier}
        {otherwise : Option UnresolvedEntry}
        {f : PathForest} (r : QualifiedNameParts) (i : ℕ) (forward : ForwardTarget) → IsReachedWithParts routes start parts s r
        → IsTargetOfNthDecl routes.decl_targets s i (forwards forward)
        → ((c : SymbolBySpecifier) → Contains cs c → Contains forward.candidates c)
        → IsOutcomeOfCandidateSearch routes limit running visited cs otherwise f after
        → AreReached r visited f after
    tries_reached r i forward w st of (no_candidate_left {visited = visited} {otherwise = otherwise}) =
        record { leaves = λ y h. absurd (none_missing otherwise y h); visited_now = λ u a b. absurd (true≢false (sym b ∙ a)) }
    tries_reached {s = s} r i forward w st of (first_candidate_with_paths {c = c} x) = finds_reached r (near.via_candidate s i (forwards forward) w st
        (of c (0, omega arith, refl))) x
    tries_reached {s = s} r i forward w st of (candidate_has_no_path {c = c} {f = f} x y) = reached_both no_trees f
        (finds_reached r (near.via_candidate s i (forwards forward) w st
        (of c (0, omega arith, refl))) x) (tries_reached r i forward w st (λ d q. of d (suc q.0, omega (arith, q.1), q.2)) y)
