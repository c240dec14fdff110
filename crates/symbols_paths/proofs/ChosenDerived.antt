-- The chosen list of paths is derived.
use Rattle.std.proofs.Common.{◌≡◌, ℕ, suc, ◌+◌, ◌⊎◌, inl, inr, List, [], ◌∷◌, Option, None, Some, refl, subst, arith}
use Rattle.std.specs.Prelude.{Contains}
use Rattle.symbols_paths.specs.PathTrees.{SymbolBySpecifier, DeclBySpecifier, QualifiedNameParts, UnresolvedEntry, LinkHead, PathTree}
use Rattle.symbols_paths.specs.PathTrees.{PathForest, link, no_trees, more_trees, joined_forests, forest_below_link_unless_empty}
use Rattle.symbols_paths.specs.DeclTargets.{ForwardTarget, DeclTargetView, forwards}
use Rattle.symbols_paths.specs.PartTargets.{SearchTargets}
use Rattle.symbols_paths.specs.Derived.{link_head_of_forward, alias_link_head, part_link_head, link_head_with_parts_replaced, IsForestByAnyCandidates}
use Rattle.symbols_paths.specs.Derived.{IsForestOfDeclsByAnyCandidates, decl_without_path, decl_with_path, IsPathOfDeclByAnyCandidate, path_is_definition}
use Rattle.symbols_paths.specs.Derived.{via_any_candidate, by_unresolved_entry, IsForestWithPartsByAnyCandidates, IsForestWithPartsResolved}
use Rattle.symbols_paths.specs.Derived.{IsTreeWithPartsResolved}
use Rattle.symbols_paths.specs.Derived as derived
use Rattle.symbols_paths.specs.Choice.{IsOutcomeOfSymbolSearch, already_visited, is_new, IsOutcomeOfDeclListSearch, no_decl_left, step, IsOutcomeOfDeclSearch}
use Rattle.symbols_paths.specs.Choice.{decl_is_definition, decl_forwards, by_alias_being_resolved}
use Rattle.symbols_paths.specs.Choice.{via_alias, IsOutcomeOfCandidateSearch, no_candidate_left, first_candidate_with_paths, candidate_has_no_path}
use Rattle.symbols_paths.specs.Choice.{IsOutcomeOfSearchWithParts, no_parts, under, IsOutcomeOfPartsInForest}
use Rattle.symbols_paths.specs.Choice.{no_tree_left, tree_then_forest, IsOutcomeOfPartsInTree, unresolved_leaf_is_unchanged, link_gets_resolved_forest}
use Rattle.symbols_paths.specs.Choice.{definition_has_part, definition_is_part_itself, definition_has_no_part, forest_of_unresolved}

module _ (routes : SearchTargets) (limit : ℕ) where
  derived_none : (s : SymbolBySpecifier) (i : ℕ) (xs : List DeclTargetView) → IsForestOfDeclsByAnyCandidates routes s i xs no_trees
  derived_none s i [] = derived.no_decl_left
  derived_none s i (x ∷ xs) = decl_without_path (derived_none s (i + 1) xs)

  -- the paths of candidates: those derived for one of them, or those of the unresolved entry if there is one
  abbrev IsTriedBy : List SymbolBySpecifier → Option UnresolvedEntry → PathForest → Type 0
  IsTriedBy cs otherwise f = (f ≡ forest_of_unresolved otherwise) ⊎ ((c : SymbolBySpecifier) × Contains cs c × IsForestByAnyCandidates routes c f)

  missing_case : {s : SymbolBySpecifier} {i : ℕ} (forward : ForwardTarget) (otherwise : Option UnresolvedEntry) → forward.otherwise ≡ otherwise
      → (rest : PathForest) {xs : List DeclTargetView} → IsForestOfDeclsByAnyCandidates routes s (i + 1) xs rest
      → IsForestOfDeclsByAnyCandidates routes s i (forwards forward ∷ xs)
      (joined_forests (forest_below_link_unless_empty (link_head_of_forward s i forward) (forest_of_unresolved otherwise)) rest)
  missing_case forward None e rest r = decl_without_path r
  missing_case forward (Some missing) e rest r = decl_with_path (by_unresolved_entry missing e) r

  -- a declaration has one path if `f` has any, and else none
  link_case : {s : SymbolBySpecifier} {i : ℕ} {x : DeclTargetView} {xs : List DeclTargetView} (head : LinkHead) (f rest : PathForest)
      → ((t : PathTree) (g : PathForest)
      → f ≡ more_trees t g → IsPathOfDeclByAnyCandidate routes s i x (link head (more_trees t g))) → IsForestOfDeclsByAnyCandidates routes s (i + 1) xs rest
      → IsForestOfDeclsByAnyCandidates routes s i (x ∷ xs) (joined_forests (forest_below_link_unless_empty head f) rest)
  link_case head no_trees rest h r = decl_without_path r
  link_case head (more_trees t g) rest h r = decl_with_path (h t g refl) r

  link_change : {p : List ℕ} {ps : QualifiedNameParts} {z : PathTree} {k : PathForest} (head : LinkHead) (f rest : PathForest)
      → ((t : PathTree) (g : PathForest) → f ≡ more_trees t g
      → IsTreeWithPartsResolved routes p ps z (link head (more_trees t g))) → IsForestWithPartsResolved routes p ps k rest
      → IsForestWithPartsResolved routes p ps (more_trees z k) (joined_forests (forest_below_link_unless_empty head f) rest)
  link_change head no_trees rest h r = derived.dropped r
  link_change head (more_trees t g) rest h r = derived.changed (h t g refl) r

  mutual
    pub finds_derived : {running : List DeclBySpecifier} {visited after : List SymbolBySpecifier} {s : SymbolBySpecifier} {f : PathForest}
        → IsOutcomeOfSymbolSearch routes limit running visited s f after → IsForestByAnyCandidates routes s f
    finds_derived (already_visited {s = s} e) = derived_none s 0 (routes.decl_targets s)
    finds_derived (is_new e x) = expands_derived x

    expands_derived : {running : List DeclBySpecifier} {visited after : List SymbolBySpecifier} {s : SymbolBySpecifier} {i : ℕ} {xs : List DeclTargetView}
        {f : PathForest}
        → IsOutcomeOfDeclListSearch routes limit running visited s i xs f after → IsForestOfDeclsByAnyCandidates routes s i xs f
    expands_derived no_decl_left = derived.no_decl_left
    expands_derived (step {rest = rest} x y) = follows_derived rest x (expands_derived y)

    follows_derived : {running : List DeclBySpecifier} {visited after : List SymbolBySpecifier} {s : SymbolBySpecifier} {i : ℕ} {x : DeclTargetView}
        {f : PathForest} (rest : PathForest)
        → IsOutcomeOfDeclSearch routes limit running visited s i x f after → {xs : List DeclTargetView} → IsForestOfDeclsByAnyCandidates routes s
        (i + 1) xs rest
        → IsForestOfDeclsByAnyCandidates routes s i (x ∷ xs) (joined_forests f rest)
    follows_derived rest decl_is_definition r = decl_with_path path_is_definition r
    follows_derived rest (decl_forwards {s = s} {i = i} {forward = forward} {f = f} x) r = elim (tries_derived x) [
      | inl e ↦ rw e (missing_case forward forward.otherwise refl rest r)
      | inr h ↦ link_case (link_head_of_forward s i forward) f rest (λ t g e. via_any_candidate h.0 h.1 (subst (IsForestByAnyCandidates routes h.0) e h.2)) r
    ]
    follows_derived rest (by_alias_being_resolved e) r = decl_without_path r
    follows_derived rest (via_alias {s = s} {t = t} {i = i} {ps = ps} {f = f} e few fits x) r =
        link_case (alias_link_head s i ps) f rest (λ y g q. derived.via_alias (subst (IsForestWithPartsByAnyCandidates routes t ps) q (walks_derived x))) r

    tries_derived : {running : List DeclBySpecifier} {visited after : List SymbolBySpecifier} {cs : List SymbolBySpecifier} {otherwise : Option UnresolvedEntry}
        {f : PathForest}
        → IsOutcomeOfCandidateSearch routes limit running visited cs otherwise f after → IsTriedBy cs otherwise f
    tries_derived no_candidate_left = inl refl
    tries_derived (first_candidate_with_paths {c = c} x) = inr (c, (0, omega arith, refl), finds_derived x)
    tries_derived (candidate_has_no_path x y) = elim (tries_derived y) [
      | inl e ↦ inl e
      | inr h ↦ inr (h.0, (suc h.1.0, omega (arith, h.1.1), h.1.2), h.2)
    ]

    pub walks_derived : {running : List DeclBySpecifier} {visited after : List SymbolBySpecifier} {s : SymbolBySpecifier} {ps : QualifiedNameParts}
        {f : PathForest}
        → IsOutcomeOfSearchWithParts routes limit running visited s ps f after → IsForestWithPartsByAnyCandidates routes s ps f
    walks_derived (no_parts x) = derived.no_parts (finds_derived x)
    walks_derived (under x y) = derived.under (finds_derived x) (changes_derived y)

    changes_derived : {running : List DeclBySpecifier} {visited after : List SymbolBySpecifier} {p : List ℕ} {ps : QualifiedNameParts} {f g : PathForest}
        → IsOutcomeOfPartsInForest routes limit running visited p ps f g after → IsForestWithPartsResolved routes p ps f g
    changes_derived no_tree_left = derived.no_path_left
    changes_derived (tree_then_forest {h = h} x y) = change_derived h x (changes_derived y)

    change_derived : {running : List DeclBySpecifier} {visited after : List SymbolBySpecifier} {p : List ℕ} {ps : QualifiedNameParts} {t : PathTree}
        {g k : PathForest} (rest : PathForest)
        → IsOutcomeOfPartsInTree routes limit running visited p ps t g after → IsForestWithPartsResolved routes p ps k rest
        → IsForestWithPartsResolved routes p ps (more_trees t k) (joined_forests g rest)
    change_derived rest unresolved_leaf_is_unchanged r = derived.changed derived.unresolved_leaf_stays r
    change_derived rest (link_gets_resolved_forest {p = p} {ps = ps} {head = head} {f = f} {g = g} x) r =
        link_change (link_head_with_parts_replaced head (p ∷ ps)) g rest
        (λ y n e. derived.link_gets_parts (subst (IsForestWithPartsResolved routes p ps f) e (changes_derived x))) r
    change_derived rest (definition_has_part {p = p} {ps = ps} {x = d} {t = t} {f = f} q x) r =
        link_change (part_link_head d (p ∷ ps)) f rest (λ y n e. derived.via_next_symbol q (subst (IsForestWithPartsByAnyCandidates routes t ps) e
        (walks_derived x))) r
    change_derived rest (definition_is_part_itself e) r = derived.changed (derived.definition_stays_itself e) r
    change_derived rest (definition_has_no_part e) r = derived.changed (derived.definition_lacks_part e) r
