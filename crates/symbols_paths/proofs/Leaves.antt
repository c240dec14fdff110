-- Each leaf of the chosen paths is one of the symbol's, and is replaced under a part as `IsLeafWithPartsResolved` says.
use Rattle.std.proofs.Common.{◌≡◌, ℕ, zero, suc, ◌+◌, inl, inr, List, [], ◌∷◌, ◌++◌, Option, None, Some, refl, sym, ◌∙◌, subst, arith, append_assoc, append-nil}
use Rattle.std.specs.Prelude.{Contains, slice_get}
use Rattle.std.proofs.lemmas.List.Elements.{Contains-append_left, Contains-append_right, Contains-append_cases}
use Rattle.symbols_paths.specs.PathTrees.{SymbolBySpecifier, DeclBySpecifier, QualifiedNameParts, DefinitionView, UnresolvedEntry, LinkHead, PathTree}
use Rattle.symbols_paths.specs.PathTrees.{PathForest, PathLeaf, definition, unresolved, leaf, no_trees, more_trees, forest_of_tree, joined_forests}
use Rattle.symbols_paths.specs.PathTrees.{forest_below_link_unless_empty, leaves_of_tree, leaves_of_forest}
use Rattle.symbols_paths.specs.DeclTargets.{ForwardTarget, DeclTargetView, defines, forwards, IsTargetOfNthDecl}
use Rattle.symbols_paths.specs.PartTargets.{part_is_symbol, itself, part_is_unresolved, SearchTargets}
use Rattle.symbols_paths.specs.Derived.{definition_of_decl, link_head_of_forward, alias_link_head, part_link_head, link_head_with_parts_replaced}
use Rattle.symbols_paths.specs.FirstReach.{IsLeafOfSymbol, IsLeafWithParts, IsLeafWithPartsResolved, unresolved_leaf_stays, definition_stays_itself}
use Rattle.symbols_paths.specs.FirstReach.{leaf_lacks_part}
use Rattle.symbols_paths.specs.FirstReach as reach
use Rattle.symbols_paths.specs.Choice.{IsOutcomeOfSymbolSearch, already_visited, is_new, IsOutcomeOfDeclListSearch, no_decl_left, step, IsOutcomeOfDeclSearch}
use Rattle.symbols_paths.specs.Choice.{decl_is_definition, decl_forwards, by_alias_being_resolved}
use Rattle.symbols_paths.specs.Choice.{via_alias, IsOutcomeOfCandidateSearch, no_candidate_left, first_candidate_with_paths, candidate_has_no_path}
use Rattle.symbols_paths.specs.Choice.{IsOutcomeOfSearchWithParts, no_parts, under, IsOutcomeOfPartsInForest}
use Rattle.symbols_paths.specs.Choice.{no_tree_left, tree_then_forest, IsOutcomeOfPartsInTree, unresolved_leaf_is_unchanged, link_gets_resolved_forest}
use Rattle.symbols_paths.specs.Choice.{definition_has_part, definition_is_part_itself, definition_has_no_part, forest_of_unresolved}
use Rattle.symbols_paths.specs.laws.OneOutcome.{entries_of_same_part_target}

-- ---- constructors are injective, and the items of a list of one

pub decl_targets_same : (a b : ForwardTarget) → forwards a ≡ forwards b → a ≡ b
decl_targets_same a b e = cc

pub none_in : {A : Type 0} (x : A) → Contains [] x → ⊥
none_in x h = omega (arith, h.1)

pub only_this : {A : Type 0} (x y : A) → Contains (x ∷ []) y → x ≡ y
only_this x y (zero, lt, e) = e
only_this x y (suc k, lt, e) = absurd (omega (arith, lt))

pub only_definition : (x y : DefinitionView) → Contains (definition x ∷ []) (definition y) → x ≡ y
only_definition x y h = let e : definition x ≡ definition y = only_this (definition x) (definition y) h in cc

pub not_missing : (m : UnresolvedEntry) (y : DefinitionView) → Contains (unresolved m ∷ []) (definition y) → ⊥
not_missing m y h = let e : unresolved m ≡ definition y = only_this (unresolved m) (definition y) h in cc

pub first_leaf : (x : PathLeaf) → Contains (leaves_of_forest (forest_of_tree (leaf x))) x
first_leaf x = (0, omega arith, refl)

-- ---- leaves of forests

pub leaves_of_forest-join : (f g : PathForest) → leaves_of_forest (joined_forests f g) ≡ leaves_of_forest f ++ leaves_of_forest g
leaves_of_forest-join no_trees g = refl
leaves_of_forest-join (more_trees t f) g = rw (leaves_of_forest-join f g, append_assoc) refl

pub leaves_of_forest-link_unless_empty : (head : LinkHead) (f : PathForest) → leaves_of_forest (forest_below_link_unless_empty head f) ≡ leaves_of_forest f
leaves_of_forest-link_unless_empty head no_trees = refl
leaves_of_forest-link_unless_empty head (more_trees t f) = append-nil (leaves_of_forest (more_trees t f))

-- `xs` are the targets of the symbol's declarations from the index on
pub record IsTail (routes : SearchTargets) (s : SymbolBySpecifier) (i : ℕ) (xs : List DeclTargetView) : Type 0 where
  pub occurs : (k : ℕ) (x : DeclTargetView) → slice_get xs k ≡ Some x → IsTargetOfNthDecl routes.decl_targets s (i + k) x

pub later : {routes : SearchTargets} {s : SymbolBySpecifier} {i : ℕ} {x : DeclTargetView} {xs : List DeclTargetView} → IsTail routes s i (x ∷ xs)
    → IsTail routes s (i + 1) xs
later {routes = routes} {s = s} {i = i} h =
    record {
      occurs = λ k x q. let over : i + suc k ≡ i + 1 + k =
          omega arith in subst (λ z. IsTargetOfNthDecl routes.decl_targets s z x) over (h.occurs (suc k) x q);
    }

pub here : {routes : SearchTargets} {s : SymbolBySpecifier} {i : ℕ} {x : DeclTargetView} {xs : List DeclTargetView} → IsTail routes s i (x ∷ xs)
    → IsTargetOfNthDecl routes.decl_targets s i x
here {routes = routes} {s = s} {i = i} {x = x} h =
    let without_alias : i + 0 ≡ i = omega arith in
    subst (λ z. IsTargetOfNthDecl routes.decl_targets s z x) without_alias (h.occurs 0 x refl)

pub whole : (routes : SearchTargets) (s : SymbolBySpecifier) → IsTail routes s 0 (routes.decl_targets s)
whole routes s =
    record { occurs = λ k x q. let without_alias : k ≡ 0 + k = omega arith in subst (λ z. IsTargetOfNthDecl routes.decl_targets s z x) without_alias q }

-- each leaf has the property
pub record AllIn (P : PathLeaf → Type 0) (f : PathForest) : Type 0 where
  pub each : (x : PathLeaf) → Contains (leaves_of_forest f) x → P x

in_none : {P : PathLeaf → Type 0} → AllIn P no_trees
in_none = record { each = λ x h. absurd (omega (arith, h.1)) }

in_join : {P : PathLeaf → Type 0} (f g : PathForest) → AllIn P f → AllIn P g → AllIn P (joined_forests f g)
in_join f g a b = record {
  each = λ x h.
      elim (Contains-append_cases (leaves_of_forest f) (leaves_of_forest g) x (rw (leaves_of_forest-join f g) at h))
      [ inl p ↦ a.each x p | inr p ↦ b.each x p ];
}

in_link : {P : PathLeaf → Type 0} (head : LinkHead) (f : PathForest) → AllIn P f → AllIn P (forest_below_link_unless_empty head f)
in_link head f a = record { each = λ x h. a.each x (rw (leaves_of_forest-link_unless_empty head f) at h) }

in_one : {P : PathLeaf → Type 0} (x : PathLeaf) → P x → AllIn P (forest_of_tree (leaf x))
in_one {P = P} x p = record { each = λ y h. subst P (only_this x y h) p }

in_missing : {P : PathLeaf → Type 0} (otherwise : Option UnresolvedEntry) → ((m : UnresolvedEntry) → otherwise ≡ Some m → P (unresolved m))
    → AllIn P (forest_of_unresolved otherwise)
in_missing None h = in_none
in_missing (Some m) h = in_one (unresolved m) (h m refl)

pub onward : {P Q : PathLeaf → Type 0} {f : PathForest} → ((x : PathLeaf) → P x → Q x) → AllIn P f → AllIn Q f
onward h a = record { each = λ x p. h x (a.each x p) }

tree_and_forest : {P : PathLeaf → Type 0} (t : PathTree) (f : PathForest) → AllIn P (more_trees t f) → AllIn P (forest_of_tree t) × AllIn P f
tree_and_forest t f a = (
  record { each = λ x h. a.each x (Contains-append_left (leaves_of_tree t) (leaves_of_forest f) x (rw append-nil at h)) },
  record { each = λ x h. a.each x (Contains-append_right (leaves_of_tree t) (leaves_of_forest f) x h) },
)

module _ (routes : SearchTargets) (limit : ℕ) where
  mutual
    pub finds_leaf : {running : List DeclBySpecifier} {visited after : List SymbolBySpecifier} {s : SymbolBySpecifier} {f : PathForest}
        → IsOutcomeOfSymbolSearch routes limit running visited s f after → AllIn (IsLeafOfSymbol routes s) f
    finds_leaf (already_visited e) = in_none
    finds_leaf (is_new {s = s} e x) = expands_leaf (whole routes s) x

    expands_leaf : {running : List DeclBySpecifier} {visited after : List SymbolBySpecifier} {s : SymbolBySpecifier} {i : ℕ} {xs : List DeclTargetView}
        {f : PathForest}
        → IsTail routes s i xs → IsOutcomeOfDeclListSearch routes limit running visited s i xs f after → AllIn (IsLeafOfSymbol routes s) f
    expands_leaf st no_decl_left = in_none
    expands_leaf st (step {f = f} {rest = g} x y) = in_join f g (follows_leaf (here st) x) (expands_leaf (later st) y)

    follows_leaf : {running : List DeclBySpecifier} {visited after : List SymbolBySpecifier} {s : SymbolBySpecifier} {i : ℕ} {decl_target : DeclTargetView}
        {f : PathForest}
        → IsTargetOfNthDecl routes.decl_targets s i decl_target → IsOutcomeOfDeclSearch routes limit running visited s i decl_target f after
        → AllIn (IsLeafOfSymbol routes s) f
    follows_leaf st (decl_is_definition {s = s} {i = i} {range = range} {star = star}) =
        in_one (definition (definition_of_decl s i range star)) (reach.leaf_of_decl_itself i (defines range star) st refl)
    follows_leaf st (decl_forwards {s = s} {i = i} {forward = forward} {f = f} x) =
        in_link (link_head_of_forward s i forward) f (tries_leaf i forward st (λ c h. h) (λ m e. e) x)
    follows_leaf st (by_alias_being_resolved e) = in_none
    follows_leaf st (via_alias {s = s} {t = t} {i = i} {ps = ps} {f = f} e few fits x) =
        in_link (alias_link_head s i ps) f (onward (λ y h. reach.via_alias i t ps st h) (walks_leaf x))

    tries_leaf : {running : List DeclBySpecifier} {visited after : List SymbolBySpecifier} {s : SymbolBySpecifier} {cs : List SymbolBySpecifier}
        {otherwise : Option UnresolvedEntry}
        {f : PathForest} (i : ℕ) (forward : ForwardTarget) → IsTargetOfNthDecl routes.decl_targets s i (forwards forward)
        → ((c : SymbolBySpecifier) → Contains cs c
        → Contains forward.candidates c) → ((m : UnresolvedEntry) → otherwise ≡ Some m → forward.otherwise ≡ Some m)
        → IsOutcomeOfCandidateSearch routes limit running visited cs otherwise f after → AllIn (IsLeafOfSymbol routes s) f
    tries_leaf i forward st h k (no_candidate_left {otherwise = otherwise}) = in_missing otherwise (λ m e. reach.leaf_of_decl_itself i (forwards forward) st
        (m, k m e, refl))
    tries_leaf i forward st h k (first_candidate_with_paths {c = c} x) = onward (λ y p. reach.via_candidate i (forwards forward) c st
        (h c (0, omega arith, refl)) p) (finds_leaf x)
    tries_leaf i forward st h k (candidate_has_no_path x y) = tries_leaf i forward st (λ c q. h c (suc q.0, omega (arith, q.1), q.2)) k y

    pub walks_leaf : {running : List DeclBySpecifier} {visited after : List SymbolBySpecifier} {s : SymbolBySpecifier} {ps : QualifiedNameParts}
        {f : PathForest}
        → IsOutcomeOfSearchWithParts routes limit running visited s ps f after → AllIn (IsLeafWithParts routes s ps) f
    walks_leaf (no_parts x) = onward (λ y h. reach.no_parts h) (finds_leaf x)
    walks_leaf (under {s = s} x y) = changes_leaf s (finds_leaf x) y

    changes_leaf : {running : List DeclBySpecifier} {visited after : List SymbolBySpecifier} {p : List ℕ} {ps : QualifiedNameParts} {f g : PathForest}
        (s : SymbolBySpecifier)
        → AllIn (IsLeafOfSymbol routes s) f → IsOutcomeOfPartsInForest routes limit running visited p ps f g after → AllIn (IsLeafWithParts routes s (p ∷ ps)) g
    changes_leaf s a no_tree_left = in_none
    changes_leaf s a (tree_then_forest {t = t} {f = f} {g = g} {h = h} x y) = let b = tree_and_forest t f a in in_join g h (change_leaf s b.0 x)
        (changes_leaf s b.1 y)

    change_leaf : {running : List DeclBySpecifier} {visited after : List SymbolBySpecifier} {p : List ℕ} {ps : QualifiedNameParts} {t : PathTree}
        {g : PathForest} (s : SymbolBySpecifier)
        → AllIn (IsLeafOfSymbol routes s) (forest_of_tree t) → IsOutcomeOfPartsInTree routes limit running visited p ps t g after
        → AllIn (IsLeafWithParts routes s (p ∷ ps)) g
    change_leaf s a (unresolved_leaf_is_unchanged {m = m}) = in_one (unresolved m)
        (reach.unresolved_leaf_stays m (a.each (unresolved m) (0, omega arith, refl)))
    change_leaf s a (link_gets_resolved_forest {p = p} {ps = ps} {head = head} {f = f} {g = g} x) =
        in_link (link_head_with_parts_replaced head (p ∷ ps)) g (changes_leaf s
        (record { each = λ y h. a.each y (Contains-append_left (leaves_of_forest f) [] y h) }) x)
    change_leaf s a (definition_has_part {p = p} {ps = ps} {x = d} {t = t} {f = f} e x) =
        in_link (part_link_head d (p ∷ ps)) f (onward (λ y h. reach.via_next_symbol d t (a.each (definition d) (0, omega arith, refl)) e h) (walks_leaf x))
    change_leaf s a (definition_is_part_itself {x = d} e) = in_one (definition d)
        (reach.definition_stays_itself d (a.each (definition d) (0, omega arith, refl)) e)
    change_leaf s a (definition_has_no_part {p = p} {ps = ps} {x = d} {m = m} e) = in_link (part_link_head d (p ∷ ps)) (forest_of_tree (leaf (unresolved m)))
        (in_one (unresolved m) (reach.definition_lacks_part d m (a.each (definition d) (0, omega arith, refl)) e))

-- ---- the leaf that a leaf comes to under a part

module _ (routes : SearchTargets) (limit : ℕ) where
  at_leaf : {p : List ℕ} {ps : QualifiedNameParts} (z x y : PathLeaf) → Contains (z ∷ []) x → IsLeafWithPartsResolved routes p ps x y
      → IsLeafWithPartsResolved routes p ps z y
  at_leaf {p = p} {ps = ps} z x y h is = subst (λ w. IsLeafWithPartsResolved routes p ps w y) (sym (only_this z x h)) is

  given_unresolved : {p : List ℕ} {ps : QualifiedNameParts} {m : UnresolvedEntry} {y : PathLeaf} → IsLeafWithPartsResolved routes p ps (unresolved m) y
      → Contains (leaves_of_forest (forest_of_tree (leaf (unresolved m)))) y
  given_unresolved (unresolved_leaf_stays {m = m}) = first_leaf (unresolved m)

  given_walk : {p : List ℕ} {ps : QualifiedNameParts} {d : DefinitionView} {t : SymbolBySpecifier} {y : PathLeaf} → routes.part d p ps ≡ part_is_symbol t
      → IsLeafWithPartsResolved routes p ps (definition d) y → ⊥
  given_walk e (definition_stays_itself q) = cc
  given_walk e (leaf_lacks_part q) = cc

  given_itself : {p : List ℕ} {ps : QualifiedNameParts} {d : DefinitionView} {y : PathLeaf} → routes.part d p ps ≡ itself
      → IsLeafWithPartsResolved routes p ps (definition d) y
      → Contains (leaves_of_forest (forest_of_tree (leaf (definition d)))) y
  given_itself e (definition_stays_itself {y = d} q) = first_leaf (definition d)
  given_itself e (leaf_lacks_part q) = cc

  given_lack : {p : List ℕ} {ps : QualifiedNameParts} {d : DefinitionView} {m : UnresolvedEntry} {y : PathLeaf} → routes.part d p ps ≡ part_is_unresolved m
      → IsLeafWithPartsResolved routes p ps (definition d) y
      → Contains (leaves_of_forest (forest_of_tree (leaf (unresolved m)))) y
  given_lack e (definition_stays_itself q) = cc
  given_lack {m = m} e (leaf_lacks_part {m = n} q) =
      subst (λ z. Contains (leaves_of_forest (forest_of_tree (leaf (unresolved m)))) (unresolved z)) (entries_of_same_part_target m n (sym e ∙ q))
      (first_leaf (unresolved m))

  mutual
    pub changes_gives : {running : List DeclBySpecifier} {visited after : List SymbolBySpecifier} {p : List ℕ} {ps : QualifiedNameParts} {f g : PathForest}
        → IsOutcomeOfPartsInForest routes limit running visited p ps f g after → (x y : PathLeaf) → Contains (leaves_of_forest f) x
        → IsLeafWithPartsResolved routes p ps x y
        → Contains (leaves_of_forest g) y
    changes_gives no_tree_left x y h is = absurd (omega (arith, h.1))
    changes_gives (tree_then_forest {t = t} {f = f} {g = g} {h = k} a b) x y h is =
        rw (leaves_of_forest-join g k) (elim (Contains-append_cases (leaves_of_tree t) (leaves_of_forest f) x h) [
          | inl q ↦ Contains-append_left (leaves_of_forest g) (leaves_of_forest k) y (change_gives a x y q is)
          | inr q ↦ Contains-append_right (leaves_of_forest g) (leaves_of_forest k) y (changes_gives b x y q is)
        ])

    change_gives : {running : List DeclBySpecifier} {visited after : List SymbolBySpecifier} {p : List ℕ} {ps : QualifiedNameParts} {t : PathTree}
        {g : PathForest}
        → IsOutcomeOfPartsInTree routes limit running visited p ps t g after → (x y : PathLeaf) → Contains (leaves_of_tree t) x
        → IsLeafWithPartsResolved routes p ps x y
        → Contains (leaves_of_forest g) y
    change_gives (unresolved_leaf_is_unchanged {m = m}) x y h is = given_unresolved (at_leaf (unresolved m) x y h is)
    change_gives (link_gets_resolved_forest {p = p} {ps = ps} {head = head} {g = g} a) x y h is =
        rw (leaves_of_forest-link_unless_empty (link_head_with_parts_replaced head (p ∷ ps)) g) (changes_gives a x y h is)
    change_gives (definition_has_part {x = d} e a) x y h is = absurd (given_walk e (at_leaf (definition d) x y h is))
    change_gives (definition_is_part_itself {x = d} e) x y h is = given_itself e (at_leaf (definition d) x y h is)
    change_gives (definition_has_no_part {x = d} e) x y h is = given_lack e (at_leaf (definition d) x y h is)
