-- No leaf is lost under parts and aliases.
use Rattle.std.proofs.Common.{◌≡◌, ℕ, zero, suc, ◌+◌, inl, inr, Bool, true, false, List, [], ◌∷◌}
use Rattle.std.proofs.Common.{◌++◌, Option, Some, refl, sym, ◌∙◌, ap, subst, arith, true≢false}
use Rattle.std.specs.Prelude.{Contains, slice_get}
use Rattle.std.proofs.lemmas.List.Elements.{Contains-append_left, Contains-append_right, Contains-append_cases}
use Rattle.std.proofs.lemmas.Option.{same_Some}
use Rattle.symbols_paths.specs.PathTrees.{SymbolBySpecifier, DeclBySpecifier, QualifiedNameParts, DefinitionView, UnresolvedEntry, PathTree, PathForest}
use Rattle.symbols_paths.specs.PathTrees.{PathLeaf}
use Rattle.symbols_paths.specs.PathTrees.{definition, unresolved, no_trees, joined_forests, leaves_of_tree, leaves_of_forest}
use Rattle.symbols_paths.specs.DeclTargets.{ForwardTarget, DeclTargetView, forwards, alias, IsTargetOfNthDecl}
use Rattle.symbols_paths.specs.PartTargets.{part_is_symbol, SearchTargets}
use Rattle.symbols_paths.specs.Derived.{decl_of_symbol_at_index, definition_of_decl, link_head_of_forward, alias_link_head, part_link_head}
use Rattle.symbols_paths.specs.Derived.{link_head_with_parts_replaced}
use Rattle.symbols_paths.specs.FirstReach.{IsLeafWithPartsResolved}
use Rattle.symbols_paths.specs.AliasSearches.{IsLeafByFirstCandidatesWithParts, IsReachedWithParts, IsMainOrAliasSearchOfQuery, HasNoAliasCycle}
use Rattle.symbols_paths.specs.AliasSearches.{HasUniqueRemainingPartsInEachSearch}
use Rattle.symbols_paths.specs.AliasSearches as near
use Rattle.symbols_paths.specs.Choice.{is_visited, is_alias_being_resolved, IsOutcomeOfSymbolSearch, already_visited, is_new, IsOutcomeOfDeclListSearch}
use Rattle.symbols_paths.specs.Choice.{no_decl_left, step, IsOutcomeOfDeclSearch}
use Rattle.symbols_paths.specs.Choice.{decl_is_definition}
use Rattle.symbols_paths.specs.Choice.{decl_forwards, by_alias_being_resolved, via_alias, IsOutcomeOfCandidateSearch, no_candidate_left}
use Rattle.symbols_paths.specs.Choice.{first_candidate_with_paths, candidate_has_no_path, IsOutcomeOfSearchWithParts, no_parts, under}
use Rattle.symbols_paths.specs.Choice.{IsOutcomeOfPartsInForest, no_tree_left, tree_then_forest, IsOutcomeOfPartsInTree, unresolved_leaf_is_unchanged}
use Rattle.symbols_paths.specs.Choice.{link_gets_resolved_forest, definition_has_part, definition_is_part_itself, definition_has_no_part}
use Rattle.symbols_paths.proofs.VisitedSymbols.{retained_by_one, one_visited, only_one}
use Rattle.symbols_paths.proofs.ResolvingAliases.{running_or_one}
use Rattle.symbols_paths.specs.laws.OneOutcome.{symbols_of_same_part_target}
use Rattle.symbols_paths.proofs.Leaves.{leaves_of_forest-link_unless_empty, IsTail, later, here, whole, changes_gives, first_leaf, none_in}
use Rattle.symbols_paths.proofs.Leaves.{not_missing}
use Rattle.symbols_paths.proofs.FirstReachCovered.{in_left, in_right, missing_occurs}
use Rattle.symbols_paths.proofs.ReachedSymbols.{AreReached, finds_reached}
use Rattle.symbols_paths.proofs.FoundLeaves.{HasNamed, AreNaming, widen_named, naming_still, naming_both, naming_link, AreFollowed}
use Rattle.symbols_paths.proofs.FoundLeaves.{at_leaf, IsDoneSomehow, CoversUnder, under_still, under_both, under_linked, walk_given}

module _ (routes : SearchTargets) (limit : ℕ) (queried : SymbolBySpecifier) (queried_under : QualifiedNameParts)
    (apart : HasNoAliasCycle routes queried queried_under) (once : HasUniqueRemainingPartsInEachSearch
    routes queried queried_under) where
  -- a search of the query, within the aliases `run`; all aliases being resolved (`running`) are among these
  record IsUnderPartTarget (run running : List DeclBySpecifier) (start : SymbolBySpecifier) (parts : QualifiedNameParts) : Type 0 where
    search : IsMainOrAliasSearchOfQuery routes queried queried_under run start parts
    runs : (d : DeclBySpecifier) → is_alias_being_resolved running d ≡ true → Contains run d

  -- the search of an alias that this search reaches
  nested : {run running : List DeclBySpecifier} {start u : SymbolBySpecifier} {parts q : QualifiedNameParts} (i : ℕ) (t : SymbolBySpecifier)
      (ps : QualifiedNameParts)
      → IsUnderPartTarget run running start parts → IsReachedWithParts routes start parts u q → IsTargetOfNthDecl routes.decl_targets u i (alias t ps)
      → IsUnderPartTarget (decl_of_symbol_at_index u i ∷ run) (running ++ decl_of_symbol_at_index u i ∷ []) t ps
  nested {run = run} {running = running} {u = u} {q = q} i t ps w r st = record { search = near.within u i t q ps w.search r st; runs = go }
    where
      go : (d : DeclBySpecifier) → is_alias_being_resolved (running ++ decl_of_symbol_at_index u i ∷ []) d ≡ true → Contains
          (decl_of_symbol_at_index u i ∷ run) d
      go d m = elim (running_or_one running (decl_of_symbol_at_index u i) d m) [
        | inl before ↦ let h = w.runs d before in (suc h.0, omega (arith, h.1), h.2)
        | inr one ↦ (0, omega arith, sym one)
      ]

  mutual
    finds_cover : {run running : List DeclBySpecifier} {start : SymbolBySpecifier} {parts r : QualifiedNameParts} {visited after : List SymbolBySpecifier}
        {s : SymbolBySpecifier} {f : PathForest}
        → IsUnderPartTarget run running start parts → IsReachedWithParts routes start parts s r → IsOutcomeOfSymbolSearch routes limit running visited s f after
        → AreNaming routes visited f after × (is_visited after s ≡ true)
    finds_cover w r (already_visited {visited = visited} e) = (naming_still routes visited no_trees, e)
    finds_cover w r (is_new {visited = visited} {after = after} {s = s} {f = f} e x) =
        let h = expands_cover w r (whole routes s) x in (
          record { retained = λ u k. h.0.retained u (retained_by_one visited s u k); done = λ u m n. go h u m n (is_visited (visited ++ s ∷ []) u) refl },
          h.0.retained s (one_visited visited s),
        )
      where
        go : AreNaming routes (visited ++ s ∷ []) f after × ((k : ℕ) (decl_target : DeclTargetView) → slice_get (routes.decl_targets s) k ≡ Some decl_target
            → HasNamed routes s (0 + k) decl_target f after) → (u : SymbolBySpecifier) → is_visited visited u ≡ false → is_visited after u ≡ true → (v : Bool)
            → is_visited (visited ++ s ∷ []) u ≡ v → (i : ℕ) (decl_target : DeclTargetView) → IsTargetOfNthDecl routes.decl_targets u i decl_target
            → HasNamed routes u i decl_target f after
        go h u m n false q i decl_target st = h.0.done u q n i decl_target st
        go h u m n true q i decl_target st =
            let same : u ≡ s = only_one visited s u m q in
            let zero_on : 0 + i ≡ i = omega arith in
            let there : IsTargetOfNthDecl routes.decl_targets s i decl_target = subst (λ z. IsTargetOfNthDecl routes.decl_targets z i decl_target) same st in
            subst (λ z. HasNamed routes z i decl_target f after) (sym same)
            (subst (λ z. HasNamed routes s z decl_target f after) zero_on (h.1 i decl_target there))

    expands_cover : {run running : List DeclBySpecifier} {start : SymbolBySpecifier} {parts r : QualifiedNameParts} {visited after : List SymbolBySpecifier}
        {s : SymbolBySpecifier} {i : ℕ}
        {xs : List DeclTargetView} {f : PathForest} → IsUnderPartTarget run running start parts → IsReachedWithParts routes start parts s r
        → IsTail routes s i xs
        → IsOutcomeOfDeclListSearch routes limit running visited s i xs f after → AreNaming routes visited f after
        × ((k : ℕ) (decl_target : DeclTargetView) → slice_get xs k ≡ Some decl_target → HasNamed routes s (i + k) decl_target f after)
    expands_cover w r st (no_decl_left {visited = visited}) = (naming_still routes visited no_trees, λ k decl_target e. cc)
    expands_cover w r st (step {mid = mid} {after = after} {s = s} {i = i} {x = decl_target} {xs = xs} {f = f} {rest = g} x y) =
        let h = follows_cover w r (here st) x in
        let k = expands_cover w r (later st) y in
        (naming_both routes f g h.0 k.0, go h.1 k)
      where
        go : HasNamed routes s i decl_target f mid → AreNaming routes mid g after × ((k : ℕ) (e : DeclTargetView) → slice_get xs k ≡ Some e
            → HasNamed routes s (i + 1 + k) e g after) → (k : ℕ) (e : DeclTargetView) → slice_get (decl_target ∷ xs) k ≡ Some e
            → HasNamed routes s (i + k) e (joined_forests f g) after
        go h k zero e q =
            let same : decl_target ≡ e = cc in
            let without_alias : i ≡ i + 0 = omega arith in
            subst (λ z. HasNamed routes s (i + 0) z (joined_forests f g) after) same
            (subst (λ z. HasNamed routes s z decl_target (joined_forests f g) after) without_alias (widen_named routes h (in_left f g) k.0.retained))
        go h k (suc n) e q =
            let over : i + 1 + n ≡ i + suc n = omega arith in
            subst (λ z. HasNamed routes s z e (joined_forests f g) after) over (widen_named routes (k.1 n e q) (in_right f g) (λ v p. p))

    follows_cover : {run running : List DeclBySpecifier} {start : SymbolBySpecifier} {parts r : QualifiedNameParts} {visited after : List SymbolBySpecifier}
        {s : SymbolBySpecifier} {i : ℕ}
        {decl_target : DeclTargetView} {f : PathForest} → IsUnderPartTarget run running start parts → IsReachedWithParts routes start parts s r
        → IsTargetOfNthDecl routes.decl_targets s i decl_target → IsOutcomeOfDeclSearch routes limit running visited s i decl_target f after
        → AreNaming routes visited f after × HasNamed routes s i decl_target f after
    follows_cover w r st (decl_is_definition {visited = visited} {s = s} {i = i} {range = range} {star = star}) = (
      naming_still routes visited _,
      record {
        first_is_candidate = λ t h. absurd h;
        may_give_first = λ x h. rw h (first_leaf (definition (definition_of_decl s i range star)));
      },
    )
    follows_cover w r st (decl_forwards {s = s} {i = i} {forward = forward} {f = f} x) =
        let h = tries_cover i forward w r st (λ c p. p) x in (
          naming_link routes (link_head_of_forward s i forward) f h.0,
          record {
            first_is_candidate = h.1;
            may_give_first =
                λ y g. rw (leaves_of_forest-link_unless_empty (link_head_of_forward s i forward) f, g.1.2) (h.2 g.0 g.1.0 g.1.1);
          },
        )
    follows_cover {run = run} {start = start} {parts = parts} {r = r} w reached st (by_alias_being_resolved {s = s} {t = t} {i = i} {ps = ps} e) =
        absurd (apart.no_alias_resolves_itself run start parts s i t r ps w.search reached st (w.runs (decl_of_symbol_at_index s i) e))
    follows_cover {run = run} w r st (via_alias {visited = visited} {s = s} {t = t} {i = i} {ps = ps} {f = f} e few fits x) =
        let inner = nested i t ps w r st in
        let k = walks_cover inner near.at_search_start x in (
          naming_still routes visited _,
          record {
            first_is_candidate = λ u h. absurd h;
            may_give_first = λ y h. rw (leaves_of_forest-link_unless_empty (alias_link_head s i ps) f)
                (walk_given routes t ps (λ u q o m n. once.remaining_parts_are_equal (decl_of_symbol_at_index s i ∷ run) t ps u q o inner.search m n) k.0
                near.at_search_start k.1 h);
          },
        )

    tries_cover : {run running : List DeclBySpecifier} {start : SymbolBySpecifier} {parts r : QualifiedNameParts} {visited after : List SymbolBySpecifier}
        {s : SymbolBySpecifier} {cs : List
        SymbolBySpecifier} {otherwise : Option UnresolvedEntry} {f : PathForest} (i : ℕ) (forward : ForwardTarget) → IsUnderPartTarget run running start parts
        → IsReachedWithParts routes start parts s r → IsTargetOfNthDecl routes.decl_targets s i (forwards forward) → ((c : SymbolBySpecifier) → Contains cs c
        → Contains forward.candidates c) → IsOutcomeOfCandidateSearch routes limit running visited cs otherwise f after → AreNaming routes visited f after
        × ((t : SymbolBySpecifier) → slice_get cs 0 ≡ Some t → is_visited after t ≡ true)
        × (cs ≡ [] → (missing : UnresolvedEntry) → otherwise ≡ Some missing → Contains (leaves_of_forest f) (unresolved missing))
    tries_cover i forward w r st of (no_candidate_left {visited = visited} {otherwise = otherwise}) =
        (naming_still routes visited _, λ t e. cc, λ e missing is. missing_occurs otherwise missing is)
    tries_cover {s = s} i forward w r st of (first_candidate_with_paths {after = after} {c = c} x) =
        let h = finds_cover w (near.via_candidate s i (forwards forward) r st (of c (0, omega arith, refl))) x in
        (h.0, λ t e. subst (λ z. is_visited after z ≡ true) (same_Some c t e) h.1, λ e. cc)
    tries_cover {s = s} i forward w r st of (candidate_has_no_path {after = after} {c = c} {f = f} x y) =
        let h = finds_cover w (near.via_candidate s i (forwards forward) r st (of c (0, omega arith, refl))) x in
        let k = tries_cover i forward w r st (λ d q. of d (suc q.0, omega (arith, q.1), q.2)) y in
        (naming_both routes no_trees f h.0 k.0, λ t e. subst (λ z. is_visited after z ≡ true) (same_Some c t e) (k.0.retained c h.1), λ e. cc)

    walks_cover : {run running : List DeclBySpecifier} {start : SymbolBySpecifier} {parts r : QualifiedNameParts} {visited after : List SymbolBySpecifier}
        {s : SymbolBySpecifier} {f : PathForest}
        → IsUnderPartTarget run running start parts → IsReachedWithParts routes start parts s r
        → IsOutcomeOfSearchWithParts routes limit running visited s r f after
        → CoversUnder routes start parts visited f after × (is_visited after s ≡ true)
    walks_cover {start = start} {parts = parts} w r (no_parts {visited = visited} {after = after} {f = f} x) =
        let h = finds_cover w r x in
        let v = finds_reached routes limit start parts [] r x in (
          record {
            retained = h.0.retained;
            done = λ u m n. record {
              parts_left = [];
              reached = v.visited_now u m n;
              done = record {
                first_is_candidate = λ i decl_target t st l. (h.0.done u m n i decl_target st).first_is_candidate t l;
                at_last = λ e i decl_target y st g. (h.0.done u m n i decl_target st).may_give_first y g;
                changes = λ p q e. cc;
                via_next_symbol = λ p q e. cc;
              };
            };
          },
          h.1,
        )
    walks_cover {start = start} {parts = parts} w r (under {visited = visited} {mid = mid} {after = after} {p = p} {ps = ps} {f = f} {g = g} x y) =
        let h = finds_cover w r x in
        let v = finds_reached routes limit start parts (p ∷ ps) r x in
        let k = changes_cover w (λ d t at target_specifier.
        let b = v.leaves d at in near.via_next_symbol b.s b.i b.decl_target d p b.reached b.occurs b.may_give target_specifier) y in
        (record { retained = λ u m. k.0.retained u (h.0.retained u m); done = λ u m n. go h.0 v k u m n (is_visited mid u) refl }, k.0.retained _ h.1)
      where
        go : AreNaming routes visited f mid → AreReached routes limit start parts (p ∷ ps) visited f mid → CoversUnder routes start parts mid g after
            × AreFollowed routes p ps (leaves_of_forest f) after → (u : SymbolBySpecifier) → is_visited visited u ≡ false → is_visited after u ≡ true
            → (b : Bool)
            → is_visited mid u ≡ b → IsDoneSomehow routes start parts u g after
        go h v k u m n false e = k.0.done u e n
        go h v k u m n true e = record {
          parts_left = p ∷ ps;
          reached = v.visited_now u m e;
          done = record {
            first_is_candidate = λ i decl_target t st l. k.0.retained t ((h.done u m e i decl_target st).first_is_candidate t l);
            at_last = λ q. cc;
            changes = λ a b q i decl_target z o st gv gl.
                changes_gives routes limit y z o ((h.done u m e i decl_target st).may_give_first z gv) (gives_at q gl);
            via_next_symbol = λ a b q i decl_target d t st gv ex. k.1.visited_now d t ((h.done u m e i decl_target st).may_give_first (definition d) gv)
                (part_at d q ex);
          };
        }
          where
            gives_at : {a : List ℕ} {b : QualifiedNameParts} {z o : PathLeaf} → p ∷ ps ≡ a ∷ b → IsLeafWithPartsResolved routes a b z o
                → IsLeafWithPartsResolved routes p ps z o
            gives_at {a = a} {b = b} {z = z} {o = o} q gl = let c : a ≡ p = cc in let d : b ≡ ps = cc in
                subst (λ n. IsLeafWithPartsResolved routes n ps z o) c (subst (λ n. IsLeafWithPartsResolved routes a n z o) d gl)

            part_at : {a : List ℕ} {b : QualifiedNameParts} {t : SymbolBySpecifier} (d : DefinitionView) → p ∷ ps ≡ a ∷ b → routes.part d a b ≡ part_is_symbol t
                → routes.part d p ps ≡ part_is_symbol t
            part_at {a = a} {b = b} {t = t} d q ex = let c : p ≡ a = cc in let o : ps ≡ b = cc in
                ap (λ n. routes.part d n ps) c ∙ (ap (λ n. routes.part d a n) o ∙ ex)

    changes_cover : {run running : List DeclBySpecifier} {start : SymbolBySpecifier} {parts : QualifiedNameParts} {visited after : List SymbolBySpecifier}
        {p : List ℕ} {q : QualifiedNameParts} {f
        g : PathForest} → IsUnderPartTarget run running start parts
        → ((d : DefinitionView) (t : SymbolBySpecifier) → Contains (leaves_of_forest f) (definition d) → routes.part d p q
        ≡ part_is_symbol t → IsReachedWithParts routes start parts t q) → IsOutcomeOfPartsInForest routes limit running visited p q f g after
        → CoversUnder routes start parts visited g after × AreFollowed routes p q (leaves_of_forest f) after
    changes_cover {start = start} {parts = parts} w r (no_tree_left {visited = visited}) =
        (under_still routes start parts visited no_trees, record { visited_now = λ d t h e. absurd (none_in (definition d) h) })
    changes_cover {start = start} {parts = parts} w r (tree_then_forest {t = t} {f = f} {g = g} {h = l} x y) =
        let a = change_cover w (λ d v h. r d v (Contains-append_left (leaves_of_tree t) (leaves_of_forest f) (definition d) h)) x in
        let b = changes_cover w (λ d v h. r d v (Contains-append_right (leaves_of_tree t) (leaves_of_forest f) (definition d) h)) y in (
          under_both routes start parts g l a.0 b.0,
          record {
            visited_now = λ d v h e. elim (Contains-append_cases (leaves_of_tree t) (leaves_of_forest f) (definition d) h)
                [ inl n ↦ b.0.retained v (a.1.visited_now d v n e) | inr n ↦ b.1.visited_now d v n e ];
          },
        )

    change_cover : {run running : List DeclBySpecifier} {start : SymbolBySpecifier} {parts : QualifiedNameParts} {visited after : List SymbolBySpecifier}
        {p : List ℕ} {q : QualifiedNameParts}
        {t : PathTree} {g : PathForest} → IsUnderPartTarget run running start parts
        → ((d : DefinitionView) (v : SymbolBySpecifier) → Contains (leaves_of_tree t) (definition d)
        → routes.part d p q ≡ part_is_symbol v → IsReachedWithParts routes start parts v q) → IsOutcomeOfPartsInTree routes limit running visited p q t g after
        → CoversUnder routes start parts visited g after × AreFollowed routes p q (leaves_of_tree t) after
    change_cover {start = start} {parts = parts} w r (unresolved_leaf_is_unchanged {visited = visited} {m = m}) =
        (under_still routes start parts visited _, record { visited_now = λ d t h e. absurd (not_missing m d h) })
    change_cover {start = start} {parts = parts} w r (link_gets_resolved_forest {p = p} {ps = ps} {head = head} {g = g} x) = let a = changes_cover w r x in
        (under_linked routes start parts (link_head_with_parts_replaced head (p ∷ ps)) g a.0, a.1)
    change_cover {start = start} {parts = parts} w r (definition_has_part {after = after} {p = p} {ps = ps} {x = y} {t = v} {f = f} e x) =
        let a = walks_cover w (r y v (0, omega arith, refl) e) x in (
          under_linked routes start parts (part_link_head y (p ∷ ps)) f a.0,
          record {
            visited_now = λ d t h ex. subst (λ z. is_visited after z ≡ true)
                (symbols_of_same_part_target v t (sym e ∙ (sym (at_leaf routes y d p ps h) ∙ ex))) a.1;
          },
        )
    change_cover {start = start} {parts = parts} w r (definition_is_part_itself {visited = visited} {p = p} {ps = ps} {x = y} e) =
        (under_still routes start parts visited _, record { visited_now = λ d t h ex. let z = sym e ∙ (sym (at_leaf routes y d p ps h) ∙ ex) in absurd cc })
    change_cover {start = start} {parts = parts} w r (definition_has_no_part {visited = visited} {p = p} {ps = ps} {x = y} e) =
        (under_still routes start parts visited _, record { visited_now = λ d t h ex. let z = sym e ∙ (sym (at_leaf routes y d p ps h) ∙ ex) in absurd cc })

  pub no_leaf_lost : (found : PathForest) (after : List SymbolBySpecifier) → IsOutcomeOfSearchWithParts routes limit [] [] queried queried_under found after →
      (x : PathLeaf)
      → IsLeafByFirstCandidatesWithParts routes queried queried_under x → Contains (leaves_of_forest found) x
  no_leaf_lost found after walk x h =
      let w : IsUnderPartTarget [] [] queried queried_under = record { search = near.main_search_of_query; runs = λ d e. absurd (true≢false (sym e)) } in
      let k = walks_cover w near.at_search_start walk in
      walk_given routes queried queried_under (λ u q o m n. once.remaining_parts_are_equal [] queried queried_under u q o near.main_search_of_query m n) k.0
      near.at_search_start k.1 h
