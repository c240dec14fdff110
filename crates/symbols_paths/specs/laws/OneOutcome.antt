-- Law of the search for definitions: it has one outcome, whatever the limit. It is proved.
use Rattle.std.proofs.Common.{◌≡◌, ℕ, ◌+◌, ◌≤◌, List, ◌∷◌, Option, refl, sym, ◌∙◌, ap, subst, arith}
use Rattle.symbols_paths.specs.PathTrees.{SymbolBySpecifier, DeclBySpecifier, QualifiedNameParts, UnresolvedEntry, PathTree, PathForest, unresolved, leaf, link}
use Rattle.symbols_paths.specs.PathTrees.{forest_of_tree, joined_forests, forest_below_link_unless_empty}
use Rattle.symbols_paths.specs.DeclTargets.{DeclTargetView}
use Rattle.symbols_paths.specs.PartTargets.{part_is_symbol, part_is_unresolved, SearchTargets}
use Rattle.symbols_paths.specs.Derived.{link_head_of_forward, alias_link_head, part_link_head, link_head_with_parts_replaced}
use Rattle.symbols_paths.specs.Choice.{IsOutcomeOfSymbolSearch, already_visited, is_new, IsOutcomeOfDeclListSearch, no_decl_left, step, IsOutcomeOfDeclSearch}
use Rattle.symbols_paths.specs.Choice.{decl_is_definition, decl_forwards, by_alias_being_resolved}
use Rattle.symbols_paths.specs.Choice.{via_alias, IsOutcomeOfCandidateSearch, no_candidate_left, first_candidate_with_paths, candidate_has_no_path}
use Rattle.symbols_paths.specs.Choice.{IsOutcomeOfSearchWithParts, no_parts, under, IsOutcomeOfPartsInForest}
use Rattle.symbols_paths.specs.Choice.{no_tree_left, tree_then_forest, IsOutcomeOfPartsInTree, unresolved_leaf_is_unchanged, link_gets_resolved_forest}
use Rattle.symbols_paths.specs.Choice.{definition_has_part, definition_is_part_itself, definition_has_no_part}
use Rattle.symbols_paths.specs.Choice.{IsForestFoundBySearchWithParts}

pub symbols_of_same_part_target : (u v : SymbolBySpecifier) → part_is_symbol u ≡ part_is_symbol v → u ≡ v
symbols_of_same_part_target u v e = cc

pub entries_of_same_part_target : (x y : UnresolvedEntry) → part_is_unresolved x ≡ part_is_unresolved y → x ≡ y
entries_of_same_part_target x y e = cc

module _ (routes : SearchTargets) (limit : ℕ) where
  expands_at : {running : List DeclBySpecifier} {m n after : List SymbolBySpecifier} {s : SymbolBySpecifier} {i : ℕ} {xs : List DeclTargetView} {f : PathForest}
      → m ≡ n
      → IsOutcomeOfDeclListSearch routes limit running m s i xs f after → IsOutcomeOfDeclListSearch routes limit running n s i xs f after
  expands_at {running = running} {after = after} {s = s} {i = i} {xs = xs} {f = f} e x = subst
      (λ m. IsOutcomeOfDeclListSearch routes limit running m s i xs f after) e x

  tries_at : {running : List DeclBySpecifier} {m n after : List SymbolBySpecifier} {cs : List SymbolBySpecifier} {otherwise : Option UnresolvedEntry}
      {f : PathForest} → m ≡ n
      → IsOutcomeOfCandidateSearch routes limit running m cs otherwise f after → IsOutcomeOfCandidateSearch routes limit running n cs otherwise f after
  tries_at {running = running} {after = after} {cs = cs} {otherwise = otherwise} {f = f} e x =
      subst (λ m. IsOutcomeOfCandidateSearch routes limit running m cs otherwise f after) e x

  replaces_at : {running : List DeclBySpecifier} {m n after : List SymbolBySpecifier} {p : List ℕ} {ps : QualifiedNameParts} {f k g : PathForest} → m ≡ n
      → f ≡ k
      → IsOutcomeOfPartsInForest routes limit running m p ps f g after → IsOutcomeOfPartsInForest routes limit running n p ps k g after
  replaces_at {running = running} {m = m} {n = n} {after = after} {p = p} {ps = ps} {f = f} {k = k} {g = g} e q x =
      subst (λ z. IsOutcomeOfPartsInForest routes limit running n p ps z g after) q
      (subst (λ z. IsOutcomeOfPartsInForest routes limit running z p ps f g after) e x)

  resolves_at : {running : List DeclBySpecifier} {visited after : List SymbolBySpecifier} {u v : SymbolBySpecifier} {ps : QualifiedNameParts} {f : PathForest}
      → u ≡ v
      → IsOutcomeOfSearchWithParts routes limit running visited u ps f after → IsOutcomeOfSearchWithParts routes limit running visited v ps f after
  resolves_at {running = running} {visited = visited} {after = after} {u = u} {v = v} {ps = ps} {f = f} e x =
      subst (λ z. IsOutcomeOfSearchWithParts routes limit running visited z ps f after) e x

  mutual
    finds_once : {running : List DeclBySpecifier} {visited a b : List SymbolBySpecifier} {s : SymbolBySpecifier} {f g : PathForest}
        → IsOutcomeOfSymbolSearch routes limit running visited s f a
        → IsOutcomeOfSymbolSearch routes limit running visited s g b → (f ≡ g) × (a ≡ b)
    finds_once (already_visited e) (already_visited e') = (refl, refl)
    finds_once (already_visited e) (is_new e' x) = cc
    finds_once (is_new e x) (already_visited e') = cc
    finds_once (is_new e x) (is_new e' y) = expands_once x y

    expands_once : {running : List DeclBySpecifier} {visited a b : List SymbolBySpecifier} {s : SymbolBySpecifier} {i : ℕ} {xs : List DeclTargetView}
        {f g : PathForest}
        → IsOutcomeOfDeclListSearch routes limit running visited s i xs f a → IsOutcomeOfDeclListSearch routes limit running visited s i xs g b → (f ≡ g) ×
        (a ≡ b)
    expands_once no_decl_left no_decl_left = (refl, refl)
    expands_once (step {f = f} {rest = r} x y) (step {f = g} {rest = q} x' y') =
        let h = follows_once x x' in
        let k = expands_once y (expands_at (sym h.1) y') in
        (ap (λ z. joined_forests z r) h.0 ∙ ap (joined_forests g) k.0, k.1)

    follows_once : {running : List DeclBySpecifier} {visited a b : List SymbolBySpecifier} {s : SymbolBySpecifier} {i : ℕ} {x : DeclTargetView}
        {f g : PathForest}
        → IsOutcomeOfDeclSearch routes limit running visited s i x f a → IsOutcomeOfDeclSearch routes limit running visited s i x g b → (f ≡ g) × (a ≡ b)
    follows_once decl_is_definition decl_is_definition = (refl, refl)
    follows_once (decl_forwards {s = s} {i = i} {forward = forward} x) (decl_forwards y) = let h =
        tries_once x y in (ap (forest_below_link_unless_empty (link_head_of_forward s i forward)) h.0, h.1)
    follows_once (by_alias_being_resolved e) (by_alias_being_resolved e') = (refl, refl)
    follows_once (by_alias_being_resolved e) (via_alias e' few fits x) = cc
    follows_once (via_alias e' few fits x) (by_alias_being_resolved e) = cc
    follows_once (via_alias {s = s} {i = i} {ps = ps} e few fits x) (via_alias e' few' fits' y) = let h = search_with_parts_has_one_outcome x y in
        (ap (forest_below_link_unless_empty (alias_link_head s i ps)) h.0, refl)

    tries_once : {running : List DeclBySpecifier} {visited a b : List SymbolBySpecifier} {cs : List SymbolBySpecifier} {otherwise : Option UnresolvedEntry}
        {f g : PathForest}
        → IsOutcomeOfCandidateSearch routes limit running visited cs otherwise f a → IsOutcomeOfCandidateSearch routes limit running visited cs otherwise g b →
        (f ≡ g) × (a ≡ b)
    tries_once no_candidate_left no_candidate_left = (refl, refl)
    tries_once (first_candidate_with_paths x) (first_candidate_with_paths y) = finds_once x y
    tries_once (first_candidate_with_paths x) (candidate_has_no_path y z) = let h = finds_once x y in cc
    tries_once (candidate_has_no_path y z) (first_candidate_with_paths x) = let h = finds_once y x in cc
    tries_once (candidate_has_no_path x y) (candidate_has_no_path x' y') =
        let h = finds_once x x' in
        tries_once y (tries_at (sym h.1) y')

    pub search_with_parts_has_one_outcome : {running : List DeclBySpecifier} {visited a b : List SymbolBySpecifier} {s : SymbolBySpecifier}
        {ps : QualifiedNameParts}
        {f g : PathForest}
        → IsOutcomeOfSearchWithParts routes limit running visited s ps f a → IsOutcomeOfSearchWithParts routes limit running visited s ps g b → (f ≡ g) ×
        (a ≡ b)
    search_with_parts_has_one_outcome (no_parts x) (no_parts y) = finds_once x y
    search_with_parts_has_one_outcome (under x y) (under x' y') = let h = finds_once x x' in replaces_all_once y (replaces_at (sym h.1) (sym h.0) y')

    replaces_all_once : {running : List DeclBySpecifier} {visited a b : List SymbolBySpecifier} {p : List ℕ} {ps : QualifiedNameParts} {f g h : PathForest}
        → IsOutcomeOfPartsInForest routes limit running visited p ps f g a → IsOutcomeOfPartsInForest routes limit running visited p ps f h b → (g ≡ h) ×
        (a ≡ b)
    replaces_all_once no_tree_left no_tree_left = (refl, refl)
    replaces_all_once (tree_then_forest {g = g} {h = r} x y) (tree_then_forest {g = k} {h = q} x' y') =
        let h = replaces_once x x' in
        let l = replaces_all_once y (replaces_at (sym h.1) refl y') in
        (ap (λ z. joined_forests z r) h.0 ∙ ap (joined_forests k) l.0, l.1)

    replaces_once : {running : List DeclBySpecifier} {visited a b : List SymbolBySpecifier} {p : List ℕ} {ps : QualifiedNameParts} {t : PathTree}
        {g h : PathForest}
        → IsOutcomeOfPartsInTree routes limit running visited p ps t g a → IsOutcomeOfPartsInTree routes limit running visited p ps t h b → (g ≡ h) × (a ≡ b)
    replaces_once unresolved_leaf_is_unchanged unresolved_leaf_is_unchanged = (refl, refl)
    replaces_once (link_gets_resolved_forest {p = p} {ps = ps} {head = head} x) (link_gets_resolved_forest y) = let h =
        replaces_all_once x y in (ap (forest_below_link_unless_empty (link_head_with_parts_replaced head (p ∷ ps))) h.0, h.1)
    replaces_once (definition_has_part {p = p} {ps = ps} {x = d} {t = u} e x) (definition_has_part {t = v} e' y) =
        let same : v ≡ u = symbols_of_same_part_target v u (sym e' ∙ e) in
        let h = search_with_parts_has_one_outcome x (resolves_at same y) in
        (ap (forest_below_link_unless_empty (part_link_head d (p ∷ ps))) h.0, h.1)
    replaces_once (definition_is_part_itself e) (definition_is_part_itself e') = (refl, refl)
    replaces_once (definition_has_no_part {p = p} {ps = ps} {x = d} {m = m} e) (definition_has_no_part {m = n} e') =
        let same : m ≡ n = entries_of_same_part_target m n (sym e ∙ e') in
        (ap (λ z. forest_of_tree (link (part_link_head d (p ∷ ps)) (forest_of_tree (leaf (unresolved z))))) same, refl)
    replaces_once (definition_has_part e x) (definition_is_part_itself e') = cc
    replaces_once (definition_has_part e x) (definition_has_no_part e') = cc
    replaces_once (definition_is_part_itself e) (definition_has_part e' x) = cc
    replaces_once (definition_is_part_itself e) (definition_has_no_part e') = cc
    replaces_once (definition_has_no_part e) (definition_has_part e' x) = cc
    replaces_once (definition_has_no_part e) (definition_is_part_itself e') = cc

-- ---- a higher limit has the same outcome

module _ (routes : SearchTargets) (low high : ℕ) (within : low ≤ high) where
  mutual
    finds_within : {running : List DeclBySpecifier} {visited after : List SymbolBySpecifier} {s : SymbolBySpecifier} {f : PathForest}
        → IsOutcomeOfSymbolSearch routes low running visited s f after → IsOutcomeOfSymbolSearch routes high running visited s f after
    finds_within (already_visited e) = already_visited e
    finds_within (is_new e x) = is_new e (expands_within x)

    expands_within : {running : List DeclBySpecifier} {visited after : List SymbolBySpecifier} {s : SymbolBySpecifier} {i : ℕ} {xs : List DeclTargetView}
        {f : PathForest}
        → IsOutcomeOfDeclListSearch routes low running visited s i xs f after → IsOutcomeOfDeclListSearch routes high running visited s i xs f after
    expands_within no_decl_left = no_decl_left
    expands_within (step x y) = step (follows_within x) (expands_within y)

    follows_within : {running : List DeclBySpecifier} {visited after : List SymbolBySpecifier} {s : SymbolBySpecifier} {i : ℕ} {x : DeclTargetView}
        {f : PathForest}
        → IsOutcomeOfDeclSearch routes low running visited s i x f after → IsOutcomeOfDeclSearch routes high running visited s i x f after
    follows_within decl_is_definition = decl_is_definition
    follows_within (decl_forwards x) = decl_forwards (tries_within x)
    follows_within (by_alias_being_resolved e) = by_alias_being_resolved e
    follows_within (via_alias e few fits x) = via_alias e (omega (arith, few, within)) (omega (arith, fits, within)) (higher_limit_has_same_outcome x)

    tries_within : {running : List DeclBySpecifier} {visited after : List SymbolBySpecifier} {cs : List SymbolBySpecifier} {otherwise : Option UnresolvedEntry}
        {f : PathForest}
        → IsOutcomeOfCandidateSearch routes low running visited cs otherwise f after
        → IsOutcomeOfCandidateSearch routes high running visited cs otherwise f after
    tries_within no_candidate_left = no_candidate_left
    tries_within (first_candidate_with_paths x) = first_candidate_with_paths (finds_within x)
    tries_within (candidate_has_no_path x y) = candidate_has_no_path (finds_within x) (tries_within y)

    pub higher_limit_has_same_outcome : {running : List DeclBySpecifier} {visited after : List SymbolBySpecifier} {s : SymbolBySpecifier}
        {ps : QualifiedNameParts}
        {f : PathForest}
        → IsOutcomeOfSearchWithParts routes low running visited s ps f after → IsOutcomeOfSearchWithParts routes high running visited s ps f after
    higher_limit_has_same_outcome (no_parts x) = no_parts (finds_within x)
    higher_limit_has_same_outcome (under x y) = under (finds_within x) (replaces_all_within y)

    replaces_all_within : {running : List DeclBySpecifier} {visited after : List SymbolBySpecifier} {p : List ℕ} {ps : QualifiedNameParts} {f g : PathForest}
        → IsOutcomeOfPartsInForest routes low running visited p ps f g after → IsOutcomeOfPartsInForest routes high running visited p ps f g after
    replaces_all_within no_tree_left = no_tree_left
    replaces_all_within (tree_then_forest x y) = tree_then_forest (replaces_within x) (replaces_all_within y)

    replaces_within : {running : List DeclBySpecifier} {visited after : List SymbolBySpecifier} {p : List ℕ} {ps : QualifiedNameParts} {t : PathTree}
        {g : PathForest}
        → IsOutcomeOfPartsInTree routes low running visited p ps t g after → IsOutcomeOfPartsInTree routes high running visited p ps t g after
    replaces_within unresolved_leaf_is_unchanged = unresolved_leaf_is_unchanged
    replaces_within (link_gets_resolved_forest x) = link_gets_resolved_forest (replaces_all_within x)
    replaces_within (definition_has_part e x) = definition_has_part e (higher_limit_has_same_outcome x)
    replaces_within (definition_is_part_itself e) = definition_is_part_itself e
    replaces_within (definition_has_no_part e) = definition_has_no_part e

pub found_forest_is_unique : (routes : SearchTargets) (s : SymbolBySpecifier) (ps : QualifiedNameParts) (f g : PathForest)
    → IsForestFoundBySearchWithParts routes s ps f
    → IsForestFoundBySearchWithParts routes s ps g → f ≡ g
found_forest_is_unique routes s ps f g (a, after, x) (b, other, y) =
    let left : a ≤ a + b = omega arith in
    let right : b ≤ a + b = omega arith in
    (search_with_parts_has_one_outcome routes (a + b) (higher_limit_has_same_outcome routes a (a + b) left x) (higher_limit_has_same_outcome routes b
    (a + b) right y)).0
