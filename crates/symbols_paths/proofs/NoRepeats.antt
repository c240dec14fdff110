-- No declaration is a definition twice.
use Rattle.std.proofs.Common.{◌≡◌, ℕ, suc, ◌+◌, ◌≤◌, ◌⊎◌, inl, inr, Bool, true, false, List, [], ◌∷◌}
use Rattle.std.proofs.Common.{◌++◌, Option, None, Some, refl, sym, ◌∙◌, ap, subst, arith, true≢false}
use Rattle.std.specs.Prelude.{Contains}
use Rattle.std.proofs.lemmas.List.Elements.{Contains-append_cases}
use Rattle.symbols_paths.specs.PathTrees.{SymbolBySpecifier, DeclBySpecifier, QualifiedNameParts, DefinitionView, UnresolvedEntry, LinkHead, PathForest}
use Rattle.symbols_paths.specs.PathTrees.{PathLeaf, definition, unresolved, no_trees, joined_forests, forest_below_link_unless_empty, leaves_of_forest}
use Rattle.symbols_paths.specs.PathTrees.{HasDistinctDefinitions}
use Rattle.symbols_paths.specs.DeclTargets.{ForwardTarget, DeclTargetView, forwards, IsTargetOfNthDecl}
use Rattle.symbols_paths.specs.PartTargets.{SearchTargets}
use Rattle.symbols_paths.specs.AliasSearches.{IsReachedWithParts, at_search_start, via_candidate, ReachesNoAlias}
use Rattle.symbols_paths.specs.Derived.{definition_of_decl, link_head_of_forward}
use Rattle.symbols_paths.specs.Choice.{is_visited, IsOutcomeOfSymbolSearch, already_visited, is_new, IsOutcomeOfDeclListSearch, no_decl_left, step}
use Rattle.symbols_paths.specs.Choice.{IsOutcomeOfDeclSearch, decl_is_definition}
use Rattle.symbols_paths.specs.Choice.{decl_forwards, by_alias_being_resolved, via_alias, IsOutcomeOfCandidateSearch, no_candidate_left}
use Rattle.symbols_paths.specs.Choice.{first_candidate_with_paths, candidate_has_no_path, forest_of_unresolved}
use Rattle.symbols_paths.proofs.VisitedSymbols.{retained_by_one, one_visited}
use Rattle.symbols_paths.proofs.Leaves.{leaves_of_forest-join, leaves_of_forest-link_unless_empty, IsTail, later, here, whole, none_in, not_missing}
use Rattle.symbols_paths.proofs.Leaves.{only_definition}

-- the symbol was visited by this step
record IsFresh (visited after : List SymbolBySpecifier) (u : SymbolBySpecifier) : Type 0 where
  before : is_visited visited u ≡ false
  now : is_visited after u ≡ true

-- each definition is of a symbol visited by this step
record AreFresh (visited : List SymbolBySpecifier) (f : PathForest) (after : List SymbolBySpecifier) : Type 0 where
  all : (y : DefinitionView) → Contains (leaves_of_forest f) (definition y) → IsFresh visited after y.decl.symbol
  retained : (u : SymbolBySpecifier) → is_visited visited u ≡ true → is_visited after u ≡ true
  has_no_duplicates : HasDistinctDefinitions (leaves_of_forest f)

-- or it is of `s` itself: by a declaration from the index on (`AreFrom`), or at the index (`AreOf`)
record AreFrom (visited : List SymbolBySpecifier) (s : SymbolBySpecifier) (i : ℕ) (f : PathForest) (after : List SymbolBySpecifier) : Type 0 where
  all : (y : DefinitionView) → Contains (leaves_of_forest f) (definition y) → ((y.decl.symbol ≡ s) × (i ≤ y.decl.index)) ⊎ IsFresh visited after y.decl.symbol
  retained : (u : SymbolBySpecifier) → is_visited visited u ≡ true → is_visited after u ≡ true
  has_no_duplicates : HasDistinctDefinitions (leaves_of_forest f)

record AreOf (visited : List SymbolBySpecifier) (s : SymbolBySpecifier) (i : ℕ) (f : PathForest) (after : List SymbolBySpecifier) : Type 0 where
  all : (y : DefinitionView) → Contains (leaves_of_forest f) (definition y) → ((y.decl.symbol ≡ s) × (y.decl.index ≡ i)) ⊎ IsFresh visited after y.decl.symbol
  retained : (u : SymbolBySpecifier) → is_visited visited u ≡ true → is_visited after u ≡ true
  has_no_duplicates : HasDistinctDefinitions (leaves_of_forest f)

once_append : (xs ys : List PathLeaf) → HasDistinctDefinitions xs → HasDistinctDefinitions ys
    → ((x y : DefinitionView) → Contains xs (definition x) → Contains ys (definition y) → y.decl ≡ x.decl → ⊥)
    → HasDistinctDefinitions (xs ++ ys)
once_append [] ys a b h = b
once_append (definition x ∷ xs) ys a b h = (
  λ y k e. elim (Contains-append_cases xs ys (definition y) k)
      [ inl p ↦ a.0 y p e | inr p ↦ h x y (0, omega arith, refl) p e ],
  once_append xs ys a.1 b (λ v y p q. h v y (suc p.0, omega (arith, p.1), p.2) q),
)
once_append (unresolved x ∷ xs) ys a b h = once_append xs ys a b (λ v y p q. h v y (suc p.0, omega (arith, p.1), p.2) q)

-- an unresolved entry has no definition
left_over : (visited : List SymbolBySpecifier) (otherwise : Option UnresolvedEntry) → AreFresh visited (forest_of_unresolved otherwise) visited
left_over visited None = record { all = λ y h. absurd (none_in (definition y) h); retained = λ u h. h; has_no_duplicates = tt }
left_over visited (Some m) = record { all = λ y h. absurd (not_missing m y h); retained = λ u h. h; has_no_duplicates = tt }

linked : {visited after : List SymbolBySpecifier} (head : LinkHead) (s : SymbolBySpecifier) (i : ℕ) (f : PathForest) → AreFresh visited f after
    → AreOf visited s i (forest_below_link_unless_empty head f) after
linked head s i f x = record {
  all = λ y h. inr (x.all y (rw (leaves_of_forest-link_unless_empty head f) at h));
  retained = x.retained;
  has_no_duplicates = rw (leaves_of_forest-link_unless_empty head f) x.has_no_duplicates;
}

-- a symbol that is not visited after a step was not visited before it
unvisited : (a b : List SymbolBySpecifier) (u : SymbolBySpecifier) → (is_visited a u ≡ true → is_visited b u ≡ true) → is_visited b u ≡ false
    → is_visited a u ≡ false
unvisited a b u retained e = by (is_visited a u) refl
  where
    by : (v : Bool) → is_visited a u ≡ v → is_visited a u ≡ false
    by true q = absurd (true≢false (sym (retained q) ∙ e))
    by false q = q

both : {visited mid after : List SymbolBySpecifier} (s : SymbolBySpecifier) (i : ℕ) (f g : PathForest) → is_visited visited s ≡ true → AreOf visited s i f mid
    → AreFrom mid s (i + 1) g after → AreFrom visited s i (joined_forests f g) after
both {visited = visited} {mid = mid} {after = after} s i f g m x y = record {
  all = all_of;
  retained = λ u h. y.retained u (x.retained u h);
  has_no_duplicates = rw (leaves_of_forest-join f g) (once_append (leaves_of_forest f) (leaves_of_forest g) x.has_no_duplicates y.has_no_duplicates apart);
}
  where
    all_of : (d : DefinitionView) → Contains (leaves_of_forest (joined_forests f g)) (definition d)
        → ((d.decl.symbol ≡ s) × (i ≤ d.decl.index)) ⊎ IsFresh visited after d.decl.symbol
    all_of d h = elim (Contains-append_cases (leaves_of_forest f) (leaves_of_forest g) (definition d) (rw (leaves_of_forest-join f g) at h)) [
      | inl a ↦ elim (x.all d a) [ inl p ↦ inl (p.0, omega (arith, p.1)) | inr p ↦ inr (record { before = p.before; now = y.retained d.decl.symbol p.now }) ]
      | inr a ↦ elim (y.all d a) [
        | inl p ↦ inl (p.0, omega (arith, p.1))
        | inr p ↦
            inr (record { before = unvisited _ _ d.decl.symbol (x.retained d.decl.symbol) p.before; now = p.now })
      ]
    ]

    clash : (c d : DefinitionView) → d.decl ≡ c.decl → ((c.decl.symbol ≡ s) × (c.decl.index ≡ i)) ⊎ IsFresh visited mid c.decl.symbol
        → ((d.decl.symbol ≡ s) × (i + 1 ≤ d.decl.index)) ⊎ IsFresh mid after d.decl.symbol → ⊥
    clash c d e (inl p) (inl q) = omega (arith, p.1, q.1, ap (λ z. z.index) e)
    clash c d e (inl p) (inr q) = true≢false (sym (x.retained s m) ∙ (ap (is_visited mid) (sym (ap (λ z. z.symbol) e ∙ p.0)) ∙ q.before))
    clash c d e (inr p) (inl q) = true≢false (sym m ∙ (ap (is_visited visited) (sym (sym (ap (λ z. z.symbol) e) ∙ q.0)) ∙ p.before))
    clash c d e (inr p) (inr q) = true≢false (sym p.now ∙ (ap (is_visited mid) (sym (ap (λ z. z.symbol) e)) ∙ q.before))

    apart : (c d : DefinitionView) → Contains (leaves_of_forest f) (definition c) → Contains (leaves_of_forest g) (definition d) → d.decl ≡ c.decl → ⊥
    apart c d a b e = clash c d e (x.all c a) (y.all d b)

in_order : {a b c : List SymbolBySpecifier} (f : PathForest) → AreFresh a no_trees b → AreFresh b f c → AreFresh a f c
in_order f x y = record {
  all = λ d h. let p = y.all d h in record { before = unvisited _ _ d.decl.symbol (x.retained d.decl.symbol) p.before; now = p.now };
  retained = λ u h. y.retained u (x.retained u h);
  has_no_duplicates = y.has_no_duplicates;
}

module _ (routes : SearchTargets) (limit : ℕ) (start : SymbolBySpecifier) (parts : QualifiedNameParts) (without_alias : ReachesNoAlias routes start parts) where
  mutual
    finds_fresh : {running : List DeclBySpecifier} {visited after : List SymbolBySpecifier} {s : SymbolBySpecifier} {f : PathForest} (r : QualifiedNameParts)
        → IsReachedWithParts routes start parts s r → IsOutcomeOfSymbolSearch routes limit running visited s f after → AreFresh visited f after
    finds_fresh r w (already_visited {visited = visited} e) = left_over visited None
    finds_fresh r w (is_new {visited = visited} {after = after} {s = s} {f = f} e x) =
        let h = expands_fresh r w (whole routes s) (one_visited visited s) x in
        record { all = λ d p. go h d (h.all d p); retained = λ u k. h.retained u (retained_by_one visited s u k); has_no_duplicates = h.has_no_duplicates }
      where
        go : AreFrom (visited ++ s ∷ []) s 0 f after → (d : DefinitionView)
            → ((d.decl.symbol ≡ s) × (0 ≤ d.decl.index)) ⊎ IsFresh (visited ++ s ∷ []) after d.decl.symbol → IsFresh visited after d.decl.symbol
        go h d (inl p) = subst (λ z. IsFresh visited after z) (sym p.0) (record { before = e; now = h.retained s (one_visited visited s) })
        go h d (inr p) = record { before = unvisited _ _ d.decl.symbol (retained_by_one visited s d.decl.symbol) p.before; now = p.now }

    expands_fresh : {running : List DeclBySpecifier} {visited after : List SymbolBySpecifier} {s : SymbolBySpecifier} {i : ℕ} {xs : List DeclTargetView}
        {f : PathForest} (r : QualifiedNameParts)
        → IsReachedWithParts routes start parts s r → IsTail routes s i xs → is_visited visited s ≡ true
        → IsOutcomeOfDeclListSearch routes limit running visited s i xs f after → AreFrom visited s i f after
    expands_fresh r w st m (no_decl_left {visited = visited}) = record {
      all = λ d h. absurd (none_in (definition d) h);
      retained =
          λ u h. h;
      has_no_duplicates = tt;
    }
    expands_fresh r w st m (step {s = s} {i = i} {f = f} {rest = g} x y) =
        let h = follows_fresh r w (here st) x in
        both s i f g m h (expands_fresh r w (later st) (h.retained s m) y)

    follows_fresh : {running : List DeclBySpecifier} {visited after : List SymbolBySpecifier} {s : SymbolBySpecifier} {i : ℕ} {decl_target : DeclTargetView}
        {f : PathForest}
        (r : QualifiedNameParts) → IsReachedWithParts routes start parts s r → IsTargetOfNthDecl routes.decl_targets s i decl_target
        → IsOutcomeOfDeclSearch routes limit running visited s i decl_target f after → AreOf visited s i f after
    follows_fresh r w st (decl_is_definition {visited = visited} {s = s} {i = i} {range = range} {star = star}) = record {
      all = λ y h. let e = sym (only_definition (definition_of_decl s i range star) y h) in inl (ap (λ z. z.decl.symbol) e, ap (λ z. z.decl.index) e);
      retained = λ u h. h;
      has_no_duplicates = (λ y h e. none_in (definition y) h, tt);
    }
    follows_fresh r w st (decl_forwards {s = s} {i = i} {forward = forward} {f = f} x) =
        linked (link_head_of_forward s i forward) s i f (tries_fresh r w i forward st (λ c h. h) x)
    follows_fresh r w st (by_alias_being_resolved {s = s} {t = t} {i = i} {ps = ps} e) = absurd (without_alias.reaches_no_alias s i t r ps w st)
    follows_fresh r w st (via_alias {s = s} {t = t} {i = i} {ps = ps} e few fits x) = absurd (without_alias.reaches_no_alias s i t r ps w st)

    tries_fresh : {running : List DeclBySpecifier} {visited after : List SymbolBySpecifier} {s : SymbolBySpecifier} {cs : List SymbolBySpecifier}
        {otherwise : Option UnresolvedEntry}
        {f : PathForest} (r : QualifiedNameParts) → IsReachedWithParts routes start parts s r → (i : ℕ) (forward : ForwardTarget)
        → IsTargetOfNthDecl routes.decl_targets s i (forwards forward) → ((c : SymbolBySpecifier) → Contains cs c → Contains forward.candidates c)
        → IsOutcomeOfCandidateSearch routes limit running visited cs otherwise f after → AreFresh visited f after
    tries_fresh r w i forward st of (no_candidate_left {visited = visited} {otherwise = otherwise}) = left_over visited otherwise
    tries_fresh {s = s} r w i forward st of (first_candidate_with_paths {c = c} x) = finds_fresh r (via_candidate s i (forwards forward) w st
        (of c (0, omega arith, refl))) x
    tries_fresh {s = s} r w i forward st of (candidate_has_no_path {c = c} {f = f} x y) = in_order f (finds_fresh r
        (via_candidate s i (forwards forward) w st (of c (0, omega arith, refl))) x) (tries_fresh r w i forward st
        (λ d q. of d (suc q.0, omega (arith, q.1), q.2)) y)

-- no declaration is a definition twice
pub given_once : (routes : SearchTargets) (limit : ℕ) {running : List DeclBySpecifier} {visited after : List SymbolBySpecifier} {s : SymbolBySpecifier}
    {f : PathForest}
    → ReachesNoAlias routes s [] → IsOutcomeOfSymbolSearch routes limit running visited s f after → HasDistinctDefinitions (leaves_of_forest f)
given_once routes limit {s = s} without_alias x = (finds_fresh routes limit s [] without_alias [] at_search_start x).has_no_duplicates
