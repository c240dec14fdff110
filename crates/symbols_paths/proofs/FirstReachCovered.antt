-- No leaf of first reach is lost.
use Rattle.std.proofs.Common.{◌≡◌, ℕ, zero, suc, ◌+◌, Bool, true, false, List, [], ◌∷◌, ◌++◌, Option, Some, refl, sym, ◌∙◌, subst, arith, true≢false}
use Rattle.std.specs.Prelude.{Contains, slice_get}
use Rattle.std.proofs.lemmas.List.Elements.{Contains-append_left, Contains-append_right}
use Rattle.std.proofs.lemmas.Option.{same_Some}
use Rattle.symbols_paths.specs.PathTrees.{SymbolBySpecifier, DeclBySpecifier, UnresolvedEntry, LinkHead, PathForest, PathLeaf, definition}
use Rattle.symbols_paths.specs.PathTrees.{unresolved, no_trees, joined_forests, forest_below_link_unless_empty, leaves_of_forest}
use Rattle.symbols_paths.specs.DeclTargets.{DeclTargetView, IsTargetOfNthDecl}
use Rattle.symbols_paths.specs.PartTargets.{SearchTargets}
use Rattle.symbols_paths.specs.Derived.{definition_of_decl, link_head_of_forward}
use Rattle.symbols_paths.specs.FirstReach.{HasSymbolAsFirstCandidate, IsLeafOfDeclWithoutCandidates, IsReachedByFirstCandidates, at_search_start}
use Rattle.symbols_paths.specs.FirstReach.{via_next_symbol, IsLeafByFirstCandidatesNoAlias}
use Rattle.symbols_paths.specs.Choice.{is_visited, IsOutcomeOfSymbolSearch, already_visited, is_new, IsOutcomeOfDeclListSearch, no_decl_left, step}
use Rattle.symbols_paths.specs.Choice.{IsOutcomeOfDeclSearch, decl_is_definition}
use Rattle.symbols_paths.specs.Choice.{decl_forwards, by_alias_being_resolved, via_alias, IsOutcomeOfCandidateSearch, no_candidate_left}
use Rattle.symbols_paths.specs.Choice.{first_candidate_with_paths, candidate_has_no_path, forest_of_unresolved}
use Rattle.symbols_paths.proofs.Leaves.{leaves_of_forest-join, leaves_of_forest-link_unless_empty, first_leaf}
use Rattle.symbols_paths.proofs.VisitedSymbols.{retained_by_one, one_visited, only_one}

-- a declaration is covered: its first candidate is visited, and its leaf of first reach is in the paths
pub record IsDone (s : SymbolBySpecifier) (i : ℕ) (decl_target : DeclTargetView) (f : PathForest) (after : List SymbolBySpecifier) : Type 0 where
  pub first_is_candidate : (t : SymbolBySpecifier) → HasSymbolAsFirstCandidate decl_target t → is_visited after t ≡ true
  pub gives_first : (x : PathLeaf) → IsLeafOfDeclWithoutCandidates s i decl_target x → Contains (leaves_of_forest f) x

-- visited symbols stay visited, and the declarations of those that this step visited are covered
pub record IsCovering (routes : SearchTargets) (visited : List SymbolBySpecifier) (f : PathForest) (after : List SymbolBySpecifier) : Type 0 where
  pub retained : (u : SymbolBySpecifier) → is_visited visited u ≡ true → is_visited after u ≡ true
  pub done : (u : SymbolBySpecifier) → is_visited visited u ≡ false → is_visited after u ≡ true → (i : ℕ) (decl_target : DeclTargetView)
      → IsTargetOfNthDecl routes.decl_targets u i decl_target → IsDone u i decl_target f after

still : (routes : SearchTargets) (visited : List SymbolBySpecifier) (f : PathForest) → IsCovering routes visited f visited
still routes visited f = record { retained = λ u h. h; done = λ u m n. absurd (true≢false (sym n ∙ m)) }

widen : {s : SymbolBySpecifier} {i : ℕ} {decl_target : DeclTargetView} {f g : PathForest} {mid after : List SymbolBySpecifier} → IsDone s i decl_target f mid
    → ((x : PathLeaf) → Contains (leaves_of_forest f) x → Contains (leaves_of_forest g) x)
    → ((u : SymbolBySpecifier) → is_visited mid u ≡ true → is_visited after u ≡ true)
    → IsDone s i decl_target g after
widen is wider retained = record { first_is_candidate = λ t h. retained t (is.first_is_candidate t h); gives_first = λ x h. wider x (is.gives_first x h) }

pub in_left : (f g : PathForest) (x : PathLeaf) → Contains (leaves_of_forest f) x → Contains (leaves_of_forest (joined_forests f g)) x
in_left f g x h = rw (leaves_of_forest-join f g) (Contains-append_left (leaves_of_forest f) (leaves_of_forest g) x h)

pub in_right : (f g : PathForest) (x : PathLeaf) → Contains (leaves_of_forest g) x → Contains (leaves_of_forest (joined_forests f g)) x
in_right f g x h = rw (leaves_of_forest-join f g) (Contains-append_right (leaves_of_forest f) (leaves_of_forest g) x h)

both : {routes : SearchTargets} {a b c : List SymbolBySpecifier} (f g : PathForest) → IsCovering routes a f b → IsCovering routes b g c
    → IsCovering routes a (joined_forests f g) c
both {routes = routes} {a = a} {b = b} {c = c} f g x y =
    record { retained = λ u h. y.retained u (x.retained u h); done = λ u m n. go u m n (is_visited b u) refl }
  where
    go : (u : SymbolBySpecifier) → is_visited a u ≡ false → is_visited c u ≡ true → (v : Bool) → is_visited b u ≡ v → (i : ℕ) (decl_target : DeclTargetView)
        → IsTargetOfNthDecl routes.decl_targets u i decl_target → IsDone u i decl_target (joined_forests f g) c
    go u m n true e i decl_target st = widen (x.done u m e i decl_target st) (in_left f g) y.retained
    go u m n false e i decl_target st = widen (y.done u e n i decl_target st) (in_right f g) (λ v h. h)

linked : {routes : SearchTargets} {a b : List SymbolBySpecifier} (head : LinkHead) (f : PathForest) → IsCovering routes a f b
    → IsCovering routes a (forest_below_link_unless_empty head f) b
linked head f x = record {
  retained = x.retained;
  done = λ u m n j decl_target st. widen (x.done u m n j decl_target st) (λ y h. rw (leaves_of_forest-link_unless_empty head f) h) (λ v h. h);
}

pub missing_occurs : (otherwise : Option UnresolvedEntry) (missing : UnresolvedEntry) → otherwise ≡ Some missing
    → Contains (leaves_of_forest (forest_of_unresolved otherwise)) (unresolved missing)
missing_occurs otherwise missing e = rw e (first_leaf (unresolved missing))

mutual
  pub finds_covers : (routes : SearchTargets) (limit : ℕ) {running : List DeclBySpecifier} {visited after : List SymbolBySpecifier} {s : SymbolBySpecifier}
      {f : PathForest}
      → IsOutcomeOfSymbolSearch routes limit running visited s f after → IsCovering routes visited f after × (is_visited after s ≡ true)
  finds_covers routes limit (already_visited {visited = visited} e) = (still routes visited no_trees, e)
  finds_covers routes limit (is_new {visited = visited} {after = after} {s = s} {f = f} e x) =
      let h = expands_covers routes limit x in (
        record { retained = λ u k. h.0.retained u (retained_by_one visited s u k); done = λ u m n. go h u m n (is_visited (visited ++ s ∷ []) u) refl },
        h.0.retained s (one_visited visited s),
      )
    where
      go : IsCovering routes (visited ++ s ∷ []) f after × ((k : ℕ) (decl_target : DeclTargetView) → slice_get (routes.decl_targets s) k ≡ Some decl_target
          → IsDone s (0 + k) decl_target f after) → (u : SymbolBySpecifier) → is_visited visited u ≡ false → is_visited after u ≡ true → (v : Bool)
          → is_visited (visited ++ s ∷ []) u ≡ v → (i : ℕ) (decl_target : DeclTargetView) → IsTargetOfNthDecl routes.decl_targets u i decl_target
          → IsDone u i decl_target f after
      go h u m n false q i decl_target st = h.0.done u q n i decl_target st
      go h u m n true q i decl_target st =
          let same : u ≡ s = only_one visited s u m q in
          let zero_on : 0 + i ≡ i = omega arith in
          let there : IsTargetOfNthDecl routes.decl_targets s i decl_target = subst (λ z. IsTargetOfNthDecl routes.decl_targets z i decl_target) same st in
          subst (λ z. IsDone z i decl_target f after) (sym same) (subst (λ z. IsDone s z decl_target f after) zero_on (h.1 i decl_target there))

  pub expands_covers : (routes : SearchTargets) (limit : ℕ) {running : List DeclBySpecifier} {visited after : List SymbolBySpecifier} {s : SymbolBySpecifier}
      {i : ℕ} {xs : List
      DeclTargetView} {f : PathForest} → IsOutcomeOfDeclListSearch routes limit running visited s i xs f after
      → IsCovering routes visited f after × ((k : ℕ) (decl_target : DeclTargetView) → slice_get xs k ≡ Some decl_target → IsDone s (i + k) decl_target f after)
  expands_covers routes limit (no_decl_left {visited = visited}) = (still routes visited no_trees, λ k decl_target e. cc)
  expands_covers routes limit (step {mid = mid} {after = after} {s = s} {i = i} {x = decl_target} {xs = xs} {f = f} {rest = g} x y) =
      let h = follows_covers routes limit x in
      let k = expands_covers routes limit y in
      (both f g h.0 k.0, go h.1 k)
    where
      go : IsDone s i decl_target f mid → IsCovering routes mid g after × ((k : ℕ) (e : DeclTargetView) → slice_get xs k ≡ Some e
          → IsDone s (i + 1 + k) e g after) → (k : ℕ) (e : DeclTargetView) → slice_get (decl_target ∷ xs) k ≡ Some e
          → IsDone s (i + k) e (joined_forests f g) after
      go h k zero e q =
          let same : decl_target ≡ e = cc in
          let without_alias : i ≡ i + 0 = omega arith in
          subst (λ z. IsDone s (i + 0) z (joined_forests f g) after) same
          (subst (λ z. IsDone s z decl_target (joined_forests f g) after) without_alias (widen h (in_left f g) k.0.retained))
      go h k (suc n) e q =
          let over : i + 1 + n ≡ i + suc n = omega arith in
          subst (λ z. IsDone s z e (joined_forests f g) after) over (widen (k.1 n e q) (in_right f g) (λ v p. p))

  pub follows_covers : (routes : SearchTargets) (limit : ℕ) {running : List DeclBySpecifier} {visited after : List SymbolBySpecifier} {s : SymbolBySpecifier}
      {i : ℕ}
      {decl_target : DeclTargetView} {f : PathForest} → IsOutcomeOfDeclSearch routes limit running visited s i decl_target f after
      → IsCovering routes visited f after × IsDone s i decl_target f after
  follows_covers routes limit (decl_is_definition {visited = visited} {s = s} {i = i} {range = range} {star = star}) = (
    still routes visited _,
    record {
      first_is_candidate = λ t h. absurd h;
      gives_first =
          λ x h. rw h (first_leaf (definition (definition_of_decl s i range star)));
    },
  )
  follows_covers routes limit (by_alias_being_resolved {visited = visited} e) =
      (still routes visited no_trees, record { first_is_candidate = λ t h. absurd h; gives_first = λ x h. absurd h })
  follows_covers routes limit (via_alias {visited = visited} e few fits x) =
      (still routes visited _, record { first_is_candidate = λ t h. absurd h; gives_first = λ x h. absurd h })
  follows_covers routes limit (decl_forwards {s = s} {i = i} {forward = forward} {f = f} x) =
      let h = tries_covers routes limit x in (
        linked (link_head_of_forward s i forward) f h.0,
        record {
          first_is_candidate = h.1;
          gives_first =
              λ y g. rw (leaves_of_forest-link_unless_empty (link_head_of_forward s i forward) f, g.1.2) (h.2 g.0 g.1.0 g.1.1);
        },
      )

  pub tries_covers : (routes : SearchTargets) (limit : ℕ) {running : List DeclBySpecifier} {visited after : List SymbolBySpecifier}
      {cs : List SymbolBySpecifier}
      {otherwise : Option
      UnresolvedEntry} {f : PathForest} → IsOutcomeOfCandidateSearch routes limit running visited cs otherwise f after → IsCovering routes visited f after
      × ((t : SymbolBySpecifier)
      → slice_get cs 0 ≡ Some t → is_visited after t ≡ true)
      × (cs ≡ [] → (missing : UnresolvedEntry) → otherwise ≡ Some missing → Contains (leaves_of_forest f) (unresolved missing))
  tries_covers routes limit (no_candidate_left {visited = visited} {otherwise = otherwise}) =
      (still routes visited _, λ t e. cc, λ e missing is. missing_occurs otherwise missing is)
  tries_covers routes limit (first_candidate_with_paths {after = after} {c = c} x) =
      let h = finds_covers routes limit x in
      (h.0, λ t e. subst (λ z. is_visited after z ≡ true) (same_Some c t e) h.1, λ e. cc)
  tries_covers routes limit (candidate_has_no_path {after = after} {c = c} {f = f} x y) =
      let h = finds_covers routes limit x in
      let k = tries_covers routes limit y in
      (both no_trees f h.0 k.0, λ t e. subst (λ z. is_visited after z ≡ true) (same_Some c t e) (k.0.retained c h.1), λ e. cc)

-- a search from no visited symbols: the symbols of first reach are visited, and their leaves are in the paths
module _ {routes : SearchTargets} {limit : ℕ} {running : List DeclBySpecifier} {after : List SymbolBySpecifier} {start : SymbolBySpecifier} {f : PathForest}
    (x : IsOutcomeOfSymbolSearch routes limit
    running [] start f after) where
  near_visited : {c u : SymbolBySpecifier} → is_visited after c ≡ true → IsReachedByFirstCandidates routes c u → is_visited after u ≡ true
  near_visited m at_search_start = m
  near_visited m (via_next_symbol {t = t} s i decl_target near st first) =
      ((finds_covers routes limit x).0.done s refl (near_visited m near) i decl_target st).first_is_candidate t first

  pub visited_given : (c : SymbolBySpecifier) → is_visited after c ≡ true → (y : PathLeaf) → IsLeafByFirstCandidatesNoAlias routes c y → Contains
      (leaves_of_forest f) y
  visited_given c m y is = ((finds_covers routes limit x).0.done is.symbol refl
      (near_visited m is.is_reached_by_first_candidates) is.index is.decl_target is.occurs).gives_first y
      is.is_leaf_of_decl

  pub near_given : (y : PathLeaf) → IsLeafByFirstCandidatesNoAlias routes start y → Contains (leaves_of_forest f) y
  near_given y is = visited_given start (finds_covers routes limit x).1 y is
