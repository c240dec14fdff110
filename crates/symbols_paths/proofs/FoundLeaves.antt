-- The leaves that a finished search gives.
use Rattle.std.proofs.Common.{◌≡◌, ℕ, Bool, true, false, List, [], ◌∷◌, refl, sym, ◌∙◌, ap, true≢false}
use Rattle.std.specs.Prelude.{Contains}
use Rattle.symbols_paths.specs.PathTrees.{SymbolBySpecifier, QualifiedNameParts, DefinitionView, LinkHead, PathForest, PathLeaf, definition, joined_forests}
use Rattle.symbols_paths.specs.PathTrees.{forest_below_link_unless_empty, leaves_of_forest}
use Rattle.symbols_paths.specs.DeclTargets.{DeclTargetView, alias, IsTargetOfNthDecl}
use Rattle.symbols_paths.specs.PartTargets.{part_is_symbol, SearchTargets}
use Rattle.symbols_paths.specs.FirstReach.{HasSymbolAsFirstCandidate, IsLeafWithPartsResolved}
use Rattle.symbols_paths.specs.AliasSearches.{IsLeafByFirstCandidatesOrAlias, IsLeafByFirstCandidatesWithParts, IsReachedWithParts}
use Rattle.symbols_paths.specs.AliasSearches as near
use Rattle.symbols_paths.specs.Choice.{is_visited}
use Rattle.symbols_paths.proofs.Leaves.{leaves_of_forest-link_unless_empty, only_definition}
use Rattle.symbols_paths.proofs.FirstReachCovered.{in_left, in_right}
use Rattle.symbols_paths.proofs.ReachedSymbols.{first_candidate, MayGiveFirst, given_named, first_may_give}

module _ (routes : SearchTargets) where
  -- a declaration is covered: its first candidate is visited, and its leaves by first candidates are in the paths
  pub record HasNamed (s : SymbolBySpecifier) (i : ℕ) (decl_target : DeclTargetView) (f : PathForest) (after : List SymbolBySpecifier) : Type 0 where
    pub first_is_candidate : (t : SymbolBySpecifier) → HasSymbolAsFirstCandidate decl_target t → is_visited after t ≡ true
    pub may_give_first : (x : PathLeaf) → MayGiveFirst routes s i decl_target x → Contains (leaves_of_forest f) x

  -- visited symbols stay visited, and the declarations of those that this step visited are covered
  pub record AreNaming (visited : List SymbolBySpecifier) (f : PathForest) (after : List SymbolBySpecifier) : Type 0 where
    pub retained : (u : SymbolBySpecifier) → is_visited visited u ≡ true → is_visited after u ≡ true
    pub done : (u : SymbolBySpecifier) → is_visited visited u ≡ false → is_visited after u ≡ true → (i : ℕ) (decl_target : DeclTargetView)
        → IsTargetOfNthDecl routes.decl_targets u i decl_target → HasNamed u i decl_target f after

  pub widen_named : {s : SymbolBySpecifier} {i : ℕ} {decl_target : DeclTargetView} {f g : PathForest} {mid after : List SymbolBySpecifier}
      → HasNamed s i decl_target f mid
      → ((x : PathLeaf) → Contains (leaves_of_forest f) x → Contains (leaves_of_forest g) x)
      → ((u : SymbolBySpecifier) → is_visited mid u ≡ true → is_visited after u ≡ true)
      → HasNamed s i decl_target g after
  widen_named is wider retained =
      record { first_is_candidate = λ t h. retained t (is.first_is_candidate t h); may_give_first = λ x h. wider x (is.may_give_first x h) }

  pub naming_still : (visited : List SymbolBySpecifier) (f : PathForest) → AreNaming visited f visited
  naming_still visited f = record { retained = λ u h. h; done = λ u m n. absurd (true≢false (sym n ∙ m)) }

  pub naming_both : {a b c : List SymbolBySpecifier} (f g : PathForest) → AreNaming a f b → AreNaming b g c → AreNaming a (joined_forests f g) c
  naming_both {a = a} {b = b} {c = c} f g x y = record { retained = λ u h. y.retained u (x.retained u h); done = λ u m n. go u m n (is_visited b u) refl }
    where
      go : (u : SymbolBySpecifier) → is_visited a u ≡ false → is_visited c u ≡ true → (v : Bool) → is_visited b u ≡ v → (i : ℕ) (decl_target : DeclTargetView)
          → IsTargetOfNthDecl routes.decl_targets u i decl_target → HasNamed u i decl_target (joined_forests f g) c
      go u m n true e i decl_target st = widen_named (x.done u m e i decl_target st) (in_left f g) y.retained
      go u m n false e i decl_target st = widen_named (y.done u e n i decl_target st) (in_right f g) (λ v h. h)

  pub naming_link : {a b : List SymbolBySpecifier} (head : LinkHead) (f : PathForest) → AreNaming a f b → AreNaming a (forest_below_link_unless_empty head f) b
  naming_link head f x = record {
    retained = x.retained;
    done = λ u m n j decl_target st. widen_named (x.done u m n j decl_target st) (λ y h. rw (leaves_of_forest-link_unless_empty head f) h) (λ v h. h);
  }

  -- a symbol is covered with the parts `r` remaining: its first candidates are visited, and its leaves under the parts are in the paths
  pub record IsDoneUnder (u : SymbolBySpecifier) (r : QualifiedNameParts) (f : PathForest) (after : List SymbolBySpecifier) : Type 0 where
    pub first_is_candidate : (i : ℕ) (decl_target : DeclTargetView) (t : SymbolBySpecifier) → IsTargetOfNthDecl routes.decl_targets u i decl_target
        → HasSymbolAsFirstCandidate decl_target t → is_visited after t ≡ true
    pub at_last : r ≡ [] → (i : ℕ) (decl_target : DeclTargetView) (x : PathLeaf) → IsTargetOfNthDecl routes.decl_targets u i decl_target
        → MayGiveFirst routes u i decl_target x → Contains (leaves_of_forest f) x
    pub changes : (p : List ℕ) (q : QualifiedNameParts) → r ≡ p ∷ q → (i : ℕ) (decl_target : DeclTargetView) (x y : PathLeaf)
        → IsTargetOfNthDecl routes.decl_targets u i decl_target
        → MayGiveFirst routes u i decl_target x → IsLeafWithPartsResolved routes p q x y → Contains (leaves_of_forest f) y
    pub via_next_symbol : (p : List ℕ) (q : QualifiedNameParts) → r ≡ p ∷ q → (i : ℕ) (decl_target : DeclTargetView) (x : DefinitionView)
        (t : SymbolBySpecifier)
        → IsTargetOfNthDecl routes.decl_targets u i decl_target → MayGiveFirst routes u i decl_target (definition x) → routes.part x p q ≡ part_is_symbol t
        → is_visited after t ≡ true

  -- the symbols that the part resolves to in these definitions are visited
  pub record AreFollowed (p : List ℕ) (q : QualifiedNameParts) (xs : List PathLeaf) (after : List SymbolBySpecifier) : Type 0 where
    pub visited_now : (x : DefinitionView) (t : SymbolBySpecifier) → Contains xs (definition x) → routes.part x p q ≡ part_is_symbol t → is_visited after t
        ≡ true

  pub at_leaf : (x y : DefinitionView) (p : List ℕ) (q : QualifiedNameParts) → Contains (definition x ∷ []) (definition y)
      → routes.part y p q ≡ routes.part x p q
  at_leaf x y p q h = ap (λ z. routes.part z p q) (sym (only_definition x y h))

  -- one search
  module _ (start : SymbolBySpecifier) (parts : QualifiedNameParts) where
    pub record IsDoneSomehow (u : SymbolBySpecifier) (f : PathForest) (after : List SymbolBySpecifier) : Type 0 where
      pub parts_left : QualifiedNameParts
      pub reached : IsReachedWithParts routes start parts u parts_left
      pub done : IsDoneUnder u parts_left f after

    pub record CoversUnder (visited : List SymbolBySpecifier) (f : PathForest) (after : List SymbolBySpecifier) : Type 0 where
      pub retained : (u : SymbolBySpecifier) → is_visited visited u ≡ true → is_visited after u ≡ true
      pub done : (u : SymbolBySpecifier) → is_visited visited u ≡ false → is_visited after u ≡ true → IsDoneSomehow u f after

    widen : {u : SymbolBySpecifier} {f g : PathForest} {mid after : List SymbolBySpecifier} → IsDoneSomehow u f mid
        → ((x : PathLeaf) → Contains (leaves_of_forest f) x
        → Contains (leaves_of_forest g) x) → ((v : SymbolBySpecifier) → is_visited mid v ≡ true → is_visited after v ≡ true) → IsDoneSomehow u g after
    widen is wider retained = record {
      parts_left = is.parts_left;
      reached = is.reached;
      done = record {
        first_is_candidate = λ i decl_target t st h. retained t (is.done.first_is_candidate i decl_target t st h);
        at_last = λ e i decl_target x st h. wider x (is.done.at_last e i decl_target x st h);
        changes = λ p q e i decl_target x y st h k. wider y (is.done.changes p q e i decl_target x y st h k);
        via_next_symbol = λ p q e i decl_target x t st h k. retained t (is.done.via_next_symbol p q e i decl_target x t st h k);
      };
    }

    pub under_still : (visited : List SymbolBySpecifier) (f : PathForest) → CoversUnder visited f visited
    under_still visited f = record { retained = λ u h. h; done = λ u m n. absurd (true≢false (sym n ∙ m)) }

    pub under_both : {a b c : List SymbolBySpecifier} (f g : PathForest) → CoversUnder a f b → CoversUnder b g c → CoversUnder a (joined_forests f g) c
    under_both {a = a} {b = b} {c = c} f g x y = record { retained = λ u h. y.retained u (x.retained u h); done = λ u m n. go u m n (is_visited b u) refl }
      where
        go : (u : SymbolBySpecifier) → is_visited a u ≡ false → is_visited c u ≡ true → (v : Bool) → is_visited b u ≡ v → IsDoneSomehow u (joined_forests f g) c
        go u m n true e = widen (x.done u m e) (in_left f g) y.retained
        go u m n false e = widen (y.done u e n) (in_right f g) (λ v h. h)

    pub under_linked : {a b : List SymbolBySpecifier} (head : LinkHead) (f : PathForest) → CoversUnder a f b
        → CoversUnder a (forest_below_link_unless_empty head f) b
    under_linked head f x =
        record { retained = x.retained; done = λ u m n. widen (x.done u m n) (λ y h. rw (leaves_of_forest-link_unless_empty head f) h) (λ v h. h) }

    -- a search from no visited symbols
    module _ {after : List SymbolBySpecifier} {f : PathForest} (once : (u : SymbolBySpecifier) (q o : QualifiedNameParts)
        → IsReachedWithParts routes start parts u q
        → IsReachedWithParts routes start parts u o → q ≡ o) (covers : CoversUnder [] f after) where
      here_done : (s : SymbolBySpecifier) → is_visited after s ≡ true → IsDoneSomehow s f after
      here_done s m = covers.done s refl m

      -- a declaration of a symbol that is reached with these parts has the leaf
      record NamedBy (r : QualifiedNameParts) (x : PathLeaf) : Type 0 where
        s : SymbolBySpecifier
        i : ℕ
        decl_target : DeclTargetView
        reached : IsReachedWithParts routes start parts s r
        is_now : is_visited after s ≡ true
        occurs : IsTargetOfNthDecl routes.decl_targets s i decl_target
        may_give : MayGiveFirst routes s i decl_target x

      view : {s : SymbolBySpecifier} {r : QualifiedNameParts} {x : PathLeaf} → IsReachedWithParts routes start parts s r → is_visited after s ≡ true
          → IsLeafByFirstCandidatesOrAlias routes s x
          → NamedBy r x
      view w m (near.leaf_of_decl_itself {s = s} {x = x} i decl_target st g) =
          record { s = s; i = i; decl_target = decl_target; reached = w; is_now = m; occurs = st; may_give = given_named routes s i decl_target x g }
      view w m (near.via_candidate {s = s} i decl_target t st l h) =
          view (near.via_candidate s i decl_target w st (first_candidate decl_target t l)) ((here_done s m).done.first_is_candidate i decl_target t st l) h
      view w m (near.via_alias {s = s} i t ps st h) = record { s = s; i = i; decl_target = alias t ps; reached = w; is_now = m; occurs = st; may_give = h }

      pub walk_given : {s : SymbolBySpecifier} {r : QualifiedNameParts} {y : PathLeaf} → IsReachedWithParts routes start parts s r → is_visited after s ≡ true
          → IsLeafByFirstCandidatesWithParts routes s r y → Contains (leaves_of_forest f) y
      walk_given {y = y} w m (near.no_parts h) =
          let k = view w m h in
          let q = here_done k.s k.is_now in
          q.done.at_last (once k.s q.parts_left [] q.reached k.reached) k.i k.decl_target y k.occurs k.may_give
      walk_given {y = y} w m (near.changes {p = p} {r = r} x h gl) =
          let k = view w m h in
          let q = here_done k.s k.is_now in
          q.done.changes p r (once k.s q.parts_left (p ∷ r) q.reached k.reached) k.i k.decl_target x y k.occurs k.may_give gl
      walk_given w m (near.via_next_symbol {p = p} {r = r} x t h e n) =
          let k = view w m h in
          let q = here_done k.s k.is_now in
          walk_given
          (near.via_next_symbol k.s k.i k.decl_target x p k.reached k.occurs (first_may_give routes k.s k.i k.decl_target (definition x) k.may_give) e)
          (q.done.via_next_symbol p r (once k.s q.parts_left (p ∷ r) q.reached k.reached) k.i k.decl_target x t k.occurs k.may_give e)
          n
