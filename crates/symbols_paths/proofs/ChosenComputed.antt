-- The chosen list of paths is the computed one.
use Rattle.std.proofs.Common.{◌≡◌, ℕ, zero, suc, ◌+◌, ◌≤◌, true, false, List, [], ◌∷◌, ◌++◌, length, Option, refl, sym, ◌∙◌, ap, arith}
use Rattle.std.proofs.lemmas.List.{length-append}
use Rattle.symbols_paths.specs.PathTrees.{SymbolBySpecifier, DeclBySpecifier, QualifiedNameParts, UnresolvedEntry, PathTree, PathForest, no_trees, more_trees}
use Rattle.symbols_paths.specs.PathTrees.{joined_forests, forest_below_link_unless_empty}
use Rattle.symbols_paths.specs.DeclTargets.{DeclTargetView}
use Rattle.symbols_paths.specs.PartTargets.{SearchTargets}
use Rattle.symbols_paths.specs.Derived.{decl_of_symbol_at_index, link_head_of_forward, alias_link_head, part_link_head, link_head_with_parts_replaced}
use Rattle.symbols_paths.specs.Choice.{is_visited, is_alias_being_resolved, IsOutcomeOfSymbolSearch, already_visited, is_new, IsOutcomeOfDeclListSearch}
use Rattle.symbols_paths.specs.Choice.{no_decl_left, step, IsOutcomeOfDeclSearch}
use Rattle.symbols_paths.specs.Choice.{decl_is_definition}
use Rattle.symbols_paths.specs.Choice.{decl_forwards, by_alias_being_resolved, via_alias, IsOutcomeOfCandidateSearch, no_candidate_left}
use Rattle.symbols_paths.specs.Choice.{first_candidate_with_paths, candidate_has_no_path, IsOutcomeOfSearchWithParts, no_parts, under}
use Rattle.symbols_paths.specs.Choice.{IsOutcomeOfPartsInForest, no_tree_left, tree_then_forest, IsOutcomeOfPartsInTree, unresolved_leaf_is_unchanged}
use Rattle.symbols_paths.specs.Choice.{link_gets_resolved_forest, definition_has_part, definition_is_part_itself, definition_has_no_part}
use Rattle.symbols_paths.specs.Computed.{SearchResult, SymbolSearch, AliasSearch, first_result_with_paths, search_candidates, search_decl_target}
use Rattle.symbols_paths.specs.Computed.{search_decl_targets}
use Rattle.symbols_paths.specs.Computed.{search_symbol_to_depth, resolve_parts_in_tree, resolve_parts_in_forest, search_with_parts, search_limit}
use Rattle.symbols_paths.specs.Computed.{alias_paths_to_depth}

-- ---- a search doesn't reduce the number of visited symbols

module _ (routes : SearchTargets) (limit : ℕ) where
  mutual
    pub finds_longer : {running : List DeclBySpecifier} {visited after : List SymbolBySpecifier} {s : SymbolBySpecifier} {f : PathForest}
        → IsOutcomeOfSymbolSearch routes limit running visited s f after → length visited ≤ length after
    finds_longer (already_visited e) = omega arith
    finds_longer (is_new {visited = visited} {s = s} e x) = omega (arith, expands_longer x, length-append visited (s ∷ []))

    expands_longer : {running : List DeclBySpecifier} {visited after : List SymbolBySpecifier} {s : SymbolBySpecifier} {i : ℕ} {xs : List DeclTargetView}
        {f : PathForest}
        → IsOutcomeOfDeclListSearch routes limit running visited s i xs f after → length visited ≤ length after
    expands_longer no_decl_left = omega arith
    expands_longer (step x y) = omega (arith, follows_longer x, expands_longer y)

    follows_longer : {running : List DeclBySpecifier} {visited after : List SymbolBySpecifier} {s : SymbolBySpecifier} {i : ℕ} {x : DeclTargetView}
        {f : PathForest}
        → IsOutcomeOfDeclSearch routes limit running visited s i x f after → length visited ≤ length after
    follows_longer decl_is_definition = omega arith
    follows_longer (decl_forwards x) = tries_longer x
    follows_longer (by_alias_being_resolved e) = omega arith
    follows_longer (via_alias e few fits x) = omega arith

    tries_longer : {running : List DeclBySpecifier} {visited after : List SymbolBySpecifier} {cs : List SymbolBySpecifier} {otherwise : Option UnresolvedEntry}
        {f : PathForest}
        → IsOutcomeOfCandidateSearch routes limit running visited cs otherwise f after → length visited ≤ length after
    tries_longer no_candidate_left = omega arith
    tries_longer (first_candidate_with_paths x) = finds_longer x
    tries_longer (candidate_has_no_path x y) = omega (arith, finds_longer x, tries_longer y)

    pub walks_longer : {running : List DeclBySpecifier} {visited after : List SymbolBySpecifier} {s : SymbolBySpecifier} {ps : QualifiedNameParts} {f :
        PathForest}
        → IsOutcomeOfSearchWithParts routes limit running visited s ps f after → length visited ≤ length after
    walks_longer (no_parts x) = finds_longer x
    walks_longer (under x y) = omega (arith, finds_longer x, changes_longer y)

    changes_longer : {running : List DeclBySpecifier} {visited after : List SymbolBySpecifier} {p : List ℕ} {ps : QualifiedNameParts} {f g : PathForest}
        → IsOutcomeOfPartsInForest routes limit running visited p ps f g after → length visited ≤ length after
    changes_longer no_tree_left = omega arith
    changes_longer (tree_then_forest x y) = omega (arith, change_longer x, changes_longer y)

    change_longer : {running : List DeclBySpecifier} {visited after : List SymbolBySpecifier} {p : List ℕ} {ps : QualifiedNameParts} {t : PathTree}
        {g : PathForest}
        → IsOutcomeOfPartsInTree routes limit running visited p ps t g after → length visited ≤ length after
    change_longer unresolved_leaf_is_unchanged = omega arith
    change_longer (link_gets_resolved_forest x) = changes_longer x
    change_longer (definition_has_part e x) = walks_longer x
    change_longer (definition_is_part_itself e) = omega arith
    change_longer (definition_has_no_part e) = omega arith

-- ---- a depth that is enough

-- the computed paths and visited symbols are these
abbrev pub Gives : SearchResult → PathForest → List SymbolBySpecifier → Type 0
Gives found f after = (found.paths ≡ f) × (found.visited ≡ after)

module _ (routes : SearchTargets) (resolve : AliasSearch) where
  new_one : (depth : ℕ) (visited : List SymbolBySpecifier) (s : SymbolBySpecifier) (f : PathForest) (after : List SymbolBySpecifier)
      → is_visited visited s ≡ false
      → Gives (search_decl_targets resolve (search_symbol_to_depth routes resolve depth) (visited ++ s ∷ []) s 0 (routes.decl_targets s)) f after
      → Gives (search_symbol_to_depth routes resolve (suc depth) visited s) f after
  unfolding search_symbol_to_depth
  new_one depth visited s f after e h = rw e h

  old_one : (depth : ℕ) (visited : List SymbolBySpecifier) (s : SymbolBySpecifier) → is_visited visited s ≡ true
      → Gives (search_symbol_to_depth routes resolve depth visited s) no_trees visited
  unfolding search_symbol_to_depth
  old_one zero visited s e = (refl, refl)
  old_one (suc depth) visited s e = rw e (refl, refl)

  two_steps : (search : SymbolSearch) (visited mid after : List SymbolBySpecifier) (s : SymbolBySpecifier) (i : ℕ) (x : DeclTargetView)
      (xs : List DeclTargetView) (f
      rest : PathForest) → Gives (search_decl_target resolve search visited s i x) f mid
      → Gives (search_decl_targets resolve search mid s (i + 1) xs) rest after
      → Gives (search_decl_targets resolve search visited s i (x ∷ xs)) (joined_forests f rest) after
  two_steps search visited mid after s i x xs f rest h k =
      let on : search_decl_targets resolve search (search_decl_target resolve search visited s i x).visited s (i + 1) xs
      ≡ search_decl_targets resolve search mid s (i + 1) xs = ap (λ m. search_decl_targets resolve search m s (i + 1) xs) h.1 in
      ((λ j. joined_forests (h.0 j) (on j).paths) ∙ ap (joined_forests f) k.0, ap (λ (y : SearchResult). y.visited) on ∙ k.1)

by_first : (search : SymbolSearch) (visited after : List SymbolBySpecifier) (c : SymbolBySpecifier) (cs : List SymbolBySpecifier)
    (otherwise : Option UnresolvedEntry) (f : PathForest)
    → (f ≡ no_trees → ⊥) → Gives (search visited c) f after → Gives (search_candidates search visited (c ∷ cs) otherwise) f after
by_first search visited after c cs otherwise f some h = go (search visited c).paths refl
  where
    go : (g : PathForest) → (search visited c).paths ≡ g
        → Gives (first_result_with_paths g (search visited c) (search_candidates search (search visited c).visited cs otherwise)) f after
    go no_trees e = absurd (some (sym h.0 ∙ e))
    go (more_trees t g) e = h

by_next : (search : SymbolSearch) (visited mid after : List SymbolBySpecifier) (c : SymbolBySpecifier) (cs : List SymbolBySpecifier)
    (otherwise : Option UnresolvedEntry) (f : PathForest)
    → Gives (search visited c) no_trees mid → Gives (search_candidates search mid cs otherwise) f after
    → Gives (search_candidates search visited (c ∷ cs) otherwise) f after
by_next search visited mid after c cs otherwise f h k = rw (h.0, h.1) k

-- ---- aliases

resolved_running : (routes : SearchTargets) (depth : ℕ) (running : List DeclBySpecifier) (decl : DeclBySpecifier) (t : SymbolBySpecifier)
    (ps : QualifiedNameParts) → is_alias_being_resolved running decl ≡ true
    → alias_paths_to_depth routes depth running decl t ps ≡ no_trees
unfolding alias_paths_to_depth
resolved_running routes zero running decl t ps e = refl
resolved_running routes (suc depth) running decl t ps e = rw e refl

resolved_walk : (routes : SearchTargets) (depth : ℕ) (running : List DeclBySpecifier) (decl : DeclBySpecifier) (t : SymbolBySpecifier) (ps : QualifiedNameParts)
    → is_alias_being_resolved running decl ≡ false
    → alias_paths_to_depth routes (suc depth) running decl t ps
    ≡ (search_with_parts routes (search_symbol_to_depth routes (alias_paths_to_depth routes depth (running ++ decl ∷ [])) search_limit) ps [] t).paths
unfolding alias_paths_to_depth
resolved_walk routes depth running decl t ps e = rw e refl

-- ---- under parts

change_next : (routes : SearchTargets) (walk : SymbolSearch) (p : List ℕ) (ps : QualifiedNameParts) (t : PathTree) (f : PathForest)
    (visited mid after : List SymbolBySpecifier) (g
    h : PathForest) → Gives (resolve_parts_in_tree routes walk p ps t visited) g mid → Gives (resolve_parts_in_forest routes walk p ps f mid) h after
    → Gives (resolve_parts_in_forest routes walk p ps (more_trees t f) visited) (joined_forests g h) after
change_next routes walk p ps t f visited mid after g h a b =
    let on : resolve_parts_in_forest routes walk p ps f (resolve_parts_in_tree routes walk p ps t visited).visited ≡ resolve_parts_in_forest routes walk p ps f
    mid =
    ap (resolve_parts_in_forest routes walk p ps f) a.1 in
    ((λ j. joined_forests (a.0 j) (on j).paths) ∙ ap (joined_forests g) b.0, ap (λ (y : SearchResult). y.visited) on ∙ b.1)

walk_under : (routes : SearchTargets) (search : SymbolSearch) (p : List ℕ) (ps : QualifiedNameParts) (visited mid after : List SymbolBySpecifier)
    (s : SymbolBySpecifier) (f g : PathForest)
    → Gives (search visited s) f mid → Gives (resolve_parts_in_forest routes (search_with_parts routes search ps) p ps f mid) g after
    → Gives (search_with_parts routes search (p ∷ ps) visited s) g after
walk_under routes search p ps visited mid after s f g a b = rw (a.0, a.1) b

-- the depth is enough if it allows as many visited symbols, and as many aliases within one another, as the search has
module _ (routes : SearchTargets) (limit : ℕ) (fits_all : limit ≤ search_limit) where
  mutual
    finds_computed : (deep depth : ℕ) {running : List DeclBySpecifier} {visited after : List SymbolBySpecifier} {s : SymbolBySpecifier} {f : PathForest}
        → IsOutcomeOfSymbolSearch routes limit running visited s f after → limit ≤ deep + length running → length after ≤ depth + length visited
        → Gives (search_symbol_to_depth routes (alias_paths_to_depth routes deep running) depth visited s) f after
    finds_computed deep depth {running = running} (already_visited {visited = visited} {s = s} e) d h =
        old_one routes (alias_paths_to_depth routes deep running) depth visited s e
    finds_computed deep zero (is_new {visited = visited} {s = s} e x) d h =
        absurd (omega (arith, h, expands_longer routes limit x, length-append visited (s ∷ [])))
    finds_computed deep (suc depth) {running = running} (is_new {visited = visited} {after = after} {s = s} {f = f} e x) d h =
        new_one routes (alias_paths_to_depth routes deep running) depth visited s f after e
        (expands_computed deep depth x d (omega (arith, h, length-append visited (s ∷ []))))

    expands_computed : (deep depth : ℕ) {running : List DeclBySpecifier} {visited after : List SymbolBySpecifier} {s : SymbolBySpecifier} {i : ℕ}
        {xs : List DeclTargetView}
        {f : PathForest} → IsOutcomeOfDeclListSearch routes limit running visited s i xs f after → limit ≤ deep + length running → length after
        ≤ depth + length visited
        → Gives (search_decl_targets (alias_paths_to_depth routes deep running) (search_symbol_to_depth routes (alias_paths_to_depth routes deep running) depth)
        visited s i
        xs) f after
    expands_computed deep depth no_decl_left d h = (refl, refl)
    expands_computed deep depth {running = running}
        (step {visited = visited} {mid = mid} {after = after} {s = s} {i = i} {x = decl_target} {xs = xs} {f = f} {rest = rest} x y) d h =
        two_steps routes (alias_paths_to_depth routes deep running) (search_symbol_to_depth routes (alias_paths_to_depth routes deep running) depth) visited mid
        after s i
        decl_target xs f rest (follows_computed deep depth x d (omega (arith, h, expands_longer routes limit y)))
        (expands_computed deep depth y d (omega (arith, h, follows_longer routes limit x)))

    follows_computed : (deep depth : ℕ) {running : List DeclBySpecifier} {visited after : List SymbolBySpecifier} {s : SymbolBySpecifier} {i : ℕ}
        {x : DeclTargetView}
        {f : PathForest} → IsOutcomeOfDeclSearch routes limit running visited s i x f after → limit ≤ deep + length running → length after
        ≤ depth + length visited
        → Gives (search_decl_target (alias_paths_to_depth routes deep running) (search_symbol_to_depth routes (alias_paths_to_depth routes deep running) depth)
        visited s i
        x) f after
    follows_computed deep depth decl_is_definition d h = (refl, refl)
    follows_computed deep depth (decl_forwards {s = s} {i = i} {forward = forward} x) d h = let k = tries_computed deep depth x d h in
        (ap (forest_below_link_unless_empty (link_head_of_forward s i forward)) k.0, k.1)
    follows_computed deep depth (by_alias_being_resolved {running = running} {s = s} {t = t} {i = i} {ps = ps} e) d h =
        (ap (forest_below_link_unless_empty (alias_link_head s i ps)) (resolved_running routes deep running (decl_of_symbol_at_index s i) t ps e), refl)
    follows_computed zero depth (via_alias e few fits x) d h = absurd (omega (arith, few, d))
    follows_computed (suc deep) depth (via_alias {running = running} {after = after} {s = s} {t = t} {i = i} {ps = ps} e few fits x) d h =
        let k = walks_computed deep search_limit x (omega (arith, d, length-append running (decl_of_symbol_at_index s i ∷ [])))
        (omega (arith, fits, fits_all)) in
        (ap (forest_below_link_unless_empty (alias_link_head s i ps)) (resolved_walk routes deep running (decl_of_symbol_at_index s i) t ps e ∙ k.0), refl)

    tries_computed : (deep depth : ℕ) {running : List DeclBySpecifier} {visited after : List SymbolBySpecifier} {cs : List SymbolBySpecifier}
        {otherwise : Option UnresolvedEntry}
        {f : PathForest} → IsOutcomeOfCandidateSearch routes limit running visited cs otherwise f after → limit ≤ deep + length running
        → length after ≤ depth + length visited
        → Gives (search_candidates (search_symbol_to_depth routes (alias_paths_to_depth routes deep running) depth) visited cs otherwise) f after
    tries_computed deep depth no_candidate_left d h = (refl, refl)
    tries_computed deep depth {running = running} (first_candidate_with_paths {visited = visited} {after = after} {c = c} {cs = cs} {otherwise = otherwise}
        {t = t} {f = f} x) d
        h = by_first (search_symbol_to_depth routes (alias_paths_to_depth routes deep running) depth) visited after c cs otherwise (more_trees t f) (λ e. cc)
        (finds_computed deep depth x d h)
    tries_computed deep depth {running = running} (candidate_has_no_path {visited = visited} {mid = mid} {after = after} {c = c} {cs = cs}
        {otherwise = otherwise} {f = f} x y)
        d h =
        by_next (search_symbol_to_depth routes (alias_paths_to_depth routes deep running) depth) visited mid after c cs otherwise f
        (finds_computed deep depth x d
        (omega (arith, h, tries_longer routes limit y))) (tries_computed deep depth y d (omega (arith, h, finds_longer routes limit x)))

    pub walks_computed : (deep depth : ℕ) {running : List DeclBySpecifier} {visited after : List SymbolBySpecifier} {s : SymbolBySpecifier}
        {ps : QualifiedNameParts} {f : PathForest}
        → IsOutcomeOfSearchWithParts routes limit running visited s ps f after → limit ≤ deep + length running → length after ≤ depth + length visited
        → Gives (search_with_parts routes (search_symbol_to_depth routes (alias_paths_to_depth routes deep running) depth) ps visited s) f after
    walks_computed deep depth (no_parts x) d h = finds_computed deep depth x d h
    walks_computed deep depth {running = running} (under {visited = visited} {mid = mid} {after = after} {s = s} {p = p} {ps = ps} {f = f} {g = g} x y) d h =
        walk_under routes (search_symbol_to_depth routes (alias_paths_to_depth routes deep running) depth) p ps visited mid after s f g
        (finds_computed deep depth x d
        (omega (arith, h, changes_longer routes limit y))) (changes_computed deep depth y d (omega (arith, h, finds_longer routes limit x)))

    changes_computed : (deep depth : ℕ) {running : List DeclBySpecifier} {visited after : List SymbolBySpecifier} {p : List ℕ} {ps : QualifiedNameParts}
        {f g : PathForest}
        → IsOutcomeOfPartsInForest routes limit running visited p ps f g after → limit ≤ deep + length running → length after ≤ depth + length visited
        → Gives (resolve_parts_in_forest routes (search_with_parts routes (search_symbol_to_depth routes (alias_paths_to_depth routes deep running) depth) ps) p
        ps f
        visited) g after
    changes_computed deep depth no_tree_left d h = (refl, refl)
    changes_computed deep depth {running = running}
        (tree_then_forest {visited = visited} {mid = mid} {after = after} {p = p} {ps = ps} {t = t} {f = f} {g = g} {h = k} x y) d h =
        change_next routes (search_with_parts routes (search_symbol_to_depth routes (alias_paths_to_depth routes deep running) depth) ps) p ps t f visited mid
        after g
        k
        (change_computed deep depth x d (omega (arith, h, changes_longer routes limit y)))
        (changes_computed deep depth y d (omega (arith, h, change_longer routes limit x)))

    change_computed : (deep depth : ℕ) {running : List DeclBySpecifier} {visited after : List SymbolBySpecifier} {p : List ℕ} {ps : QualifiedNameParts}
        {t : PathTree} {g : PathForest}
        → IsOutcomeOfPartsInTree routes limit running visited p ps t g after → limit ≤ deep + length running → length after ≤ depth + length visited
        → Gives (resolve_parts_in_tree routes (search_with_parts routes (search_symbol_to_depth routes (alias_paths_to_depth routes deep running) depth) ps) p
        ps t
        visited) g after
    change_computed deep depth unresolved_leaf_is_unchanged d h = (refl, refl)
    change_computed deep depth (link_gets_resolved_forest {p = p} {ps = ps} {head = head} x) d h = let k = changes_computed deep depth x d h in
        (ap (forest_below_link_unless_empty (link_head_with_parts_replaced head (p ∷ ps))) k.0, k.1)
    change_computed deep depth (definition_has_part {p = p} {ps = ps} {x = y} {t = t} e x) d h = let k = walks_computed deep depth x d h in
        rw e (ap (forest_below_link_unless_empty (part_link_head y (p ∷ ps))) k.0, k.1)
    change_computed deep depth (definition_is_part_itself e) d h = rw e (refl, refl)
    change_computed deep depth (definition_has_no_part e) d h = rw e (refl, refl)
