-- What comes of a step, from what comes of the next one.
use Rattle.std.proofs.Common.{◌≡◌, ℕ, ◌+◌, ◌<◌, ◌≤◌, true, false, List, [], ◌∷◌, ◌++◌, length, drop, slice_get, Option, None, Some}
use Rattle.std.proofs.Common.{refl, sym, subst, append_assoc, append-nil}
use Rattle.symbols_paths.specs.PathTrees.{SymbolBySpecifier, DeclBySpecifier, QualifiedNameParts, DefinitionView, UnresolvedEntry, definition}
use Rattle.symbols_paths.specs.PathTrees.{PathForest, leaf, no_trees, more_trees, joined_forests, forest_below_link_unless_empty}
use Rattle.symbols_paths.specs.DeclTargets.{ForwardTarget, DeclTargetView, forwards, alias}
use Rattle.symbols_paths.specs.PartTargets.{SearchTargets, part_is_symbol}
use Rattle.symbols_paths.specs.Derived.{decl_of_symbol_at_index, link_head_of_forward, alias_link_head, part_link_head}
use Rattle.symbols_paths.specs.Choice.{is_visited, is_alias_being_resolved, IsOutcomeOfSymbolSearch, already_visited, is_new, IsOutcomeOfDeclListSearch}
use Rattle.symbols_paths.specs.Choice.{no_decl_left, step, IsOutcomeOfDeclSearch}
use Rattle.symbols_paths.specs.Choice.{decl_forwards, by_alias_being_resolved, via_alias, no_candidate_left, first_candidate_with_paths, candidate_has_no_path}
use Rattle.symbols_paths.specs.Choice.{IsOutcomeOfSearchWithParts, no_parts, under}
use Rattle.symbols_paths.specs.Choice.{IsOutcomeOfPartsInTree, definition_has_part, forest_of_unresolved}
use Rattle.symbols_paths.specs.Computed.{search_limit}
use Rattle.symbols_paths.specs.inner.ReplacedDefinitions.{definitions_of_forest, forest_with_definitions_replaced, ReplacesInOrder, no_step, a_step}
use Rattle.symbols_paths.specs.inner.StillToCome.{HoldsAfterSymbolSearch, HoldsAfterDeclListSearch, HoldsAfterLinkAndLaterDecls, HoldsAfterCandidateSearch}
use Rattle.symbols_paths.specs.inner.StillToCome.{HoldsAfterFirstCandidatePaths, HoldsAfterPartsInForest, HoldsAfterReplacedDefinitions}
use Rattle.symbols_paths.proofs.LoopInvariants.{join_none, join_assoc, drop_at, drop_past}
use Rattle.symbols_paths.proofs.ReplacedPaths.{rebuilt_is, no_steps_left}

module _ (routes : SearchTargets) (running : List DeclBySpecifier) (go : PathForest → List SymbolBySpecifier → Type 0) where
  -- ---- a symbol and its declarations

  pub came_visited : {visited : List SymbolBySpecifier} {s : SymbolBySpecifier} → is_visited visited s ≡ true → go no_trees visited
      → HoldsAfterSymbolSearch routes go running visited s
  came_visited {visited = visited} e k = (no_trees, visited, already_visited e, k)

  pub came_new : {visited : List SymbolBySpecifier} {s : SymbolBySpecifier} → is_visited visited s ≡ false
      → HoldsAfterDeclListSearch routes go running (visited ++ s ∷ []) s 0 no_trees → HoldsAfterSymbolSearch routes go running visited s
  came_new e y = (y.0, y.1, is_new e y.2, y.3)

  pub came_followed : {visited mid : List SymbolBySpecifier} {s : SymbolBySpecifier} {i : ℕ} {d : DeclTargetView} {f : PathForest} (found : PathForest)
      → slice_get (routes.decl_targets s) i ≡ Some d → IsOutcomeOfDeclSearch routes search_limit running visited s i d f mid
      → HoldsAfterDeclListSearch routes go running mid s (i + 1) (joined_forests found f) → HoldsAfterDeclListSearch routes go running visited s i found
  came_followed {visited = visited} {s = s} {i = i} {d = d} {f = f} found at x y =
      let here : IsOutcomeOfDeclListSearch routes search_limit running visited s i (drop i (routes.decl_targets s)) (joined_forests f y.0) y.1 =
      subst (λ xs. IsOutcomeOfDeclListSearch routes search_limit running visited s i xs (joined_forests f y.0) y.1)
      (sym (drop_at (routes.decl_targets s) i d at))
      (step x y.2) in
      (joined_forests f y.0, y.1, here, subst (λ z. go z y.1) (join_assoc found f y.0) y.3)

  pub came_last : {visited : List SymbolBySpecifier} {s : SymbolBySpecifier} {i : ℕ} (found : PathForest) → slice_get (routes.decl_targets s) i ≡ None
      → go found visited → HoldsAfterDeclListSearch routes go running visited s i found
  came_last {visited = visited} {s = s} {i = i} found past k =
      let here : IsOutcomeOfDeclListSearch routes search_limit running visited s i (drop i (routes.decl_targets s)) no_trees visited =
      subst (λ xs. IsOutcomeOfDeclListSearch routes search_limit running visited s i xs no_trees visited)
      (sym (drop_past (routes.decl_targets s) i past)) no_decl_left in
      (no_trees, visited, here, subst (λ z. go z visited) (sym (join_none found)) k)

  -- ---- candidates

  pub came_tried : {visited : List SymbolBySpecifier} {s : SymbolBySpecifier} {i : ℕ} (found : PathForest) (forward : ForwardTarget)
      → slice_get (routes.decl_targets s) i ≡ Some (forwards forward)
      → HoldsAfterCandidateSearch routes (HoldsAfterLinkAndLaterDecls routes go running s i found (link_head_of_forward s i forward)) running visited
      forward.candidates forward.otherwise
      → HoldsAfterDeclListSearch routes go running visited s i found
  came_tried found forward at y = came_followed found at (decl_forwards {forward = forward} y.2) y.3

  pub came_candidate : {visited : List SymbolBySpecifier} {c : SymbolBySpecifier} {cs : List SymbolBySpecifier} {otherwise : Option UnresolvedEntry}
      → HoldsAfterSymbolSearch routes (HoldsAfterFirstCandidatePaths routes go running cs otherwise) running visited c
      → HoldsAfterCandidateSearch routes go running visited (c ∷ cs) otherwise
  came_candidate {visited = visited} {c = c} {cs = cs} {otherwise = otherwise} y = by y.0 y.1 y.2 y.3
    where
      by : (f : PathForest) (after : List SymbolBySpecifier) → IsOutcomeOfSymbolSearch routes search_limit running visited c f after
          → HoldsAfterFirstCandidatePaths routes go running cs otherwise f after → HoldsAfterCandidateSearch routes go running visited (c ∷ cs) otherwise
      by no_trees after x z = (z.0, z.1, candidate_has_no_path x z.2, z.3)
      by (more_trees t f) after x z = (more_trees t f, after, first_candidate_with_paths x, z)

  pub came_no_candidate : {visited : List SymbolBySpecifier} (otherwise : Option UnresolvedEntry) → go (forest_of_unresolved otherwise) visited
      → HoldsAfterCandidateSearch routes go running visited [] otherwise
  came_no_candidate {visited = visited} otherwise k = (forest_of_unresolved otherwise, visited, no_candidate_left, k)

  -- of the only one
  pub came_only : {visited : List SymbolBySpecifier} {c : SymbolBySpecifier} → HoldsAfterSymbolSearch routes go running visited c
      → HoldsAfterCandidateSearch routes go running visited (c ∷ []) None
  came_only {visited = visited} {c = c} y = by y.0 y.1 y.2 y.3
    where
      by : (f : PathForest) (after : List SymbolBySpecifier) → IsOutcomeOfSymbolSearch routes search_limit running visited c f after → go f after
          → HoldsAfterCandidateSearch routes go running visited (c ∷ []) None
      by no_trees after x z = (no_trees, after, candidate_has_no_path x no_candidate_left, z)
      by (more_trees t f) after x z = (more_trees t f, after, first_candidate_with_paths x, z)

  -- ---- an alias

  pub came_running : {visited : List SymbolBySpecifier} {s t : SymbolBySpecifier} {i : ℕ} {ps : QualifiedNameParts} (found : PathForest)
      → slice_get (routes.decl_targets s) i ≡ Some (alias t ps) → is_alias_being_resolved running (decl_of_symbol_at_index s i) ≡ true
      → HoldsAfterDeclListSearch routes go running visited s (i + 1) (joined_forests found no_trees) → HoldsAfterDeclListSearch routes go running visited s i
      found
  came_running found at open_now y = came_followed found at (by_alias_being_resolved open_now) y

  abbrev AliasFound : List SymbolBySpecifier → SymbolBySpecifier → ℕ → QualifiedNameParts → PathForest → PathForest → List SymbolBySpecifier → Type 0
  AliasFound outer s i ps found f after = (length after ≤ search_limit) × HoldsAfterLinkAndLaterDecls routes go running s i found (alias_link_head s i ps) f
      outer

  pub came_alias : {outer : List SymbolBySpecifier} {s t : SymbolBySpecifier} {i : ℕ} (ps : QualifiedNameParts) (found : PathForest)
      → slice_get (routes.decl_targets s) i ≡ Some (alias t ps) → is_alias_being_resolved running (decl_of_symbol_at_index s i) ≡ false → length running
      < search_limit
      → HoldsAfterSymbolSearch routes (HoldsAfterPartsInForest routes (AliasFound outer s i ps found) (running ++ decl_of_symbol_at_index s i ∷ []) ps)
      (running ++ decl_of_symbol_at_index s i ∷ []) [] t
      → HoldsAfterDeclListSearch routes go running outer s i found
  came_alias {outer = outer} {s = s} {t = t} {i = i} ps found at closed few y = by ps refl y.0 y.1 y.2 y.3
    where
      all : List DeclBySpecifier
      all = running ++ decl_of_symbol_at_index s i ∷ []

      by : (qs : QualifiedNameParts) → ps ≡ qs → (f : PathForest) (after : List SymbolBySpecifier)
          → IsOutcomeOfSymbolSearch routes search_limit all [] t f after
          → HoldsAfterPartsInForest routes (AliasFound outer s i ps found) all qs f after → HoldsAfterDeclListSearch routes go running outer s i found
      by [] is f after x z =
          came_followed found at (via_alias closed few z.0 (subst (λ qs. IsOutcomeOfSearchWithParts routes search_limit all [] t qs f after) (sym is)
          (no_parts x))) z.1
      by (q ∷ qs) is f after x z =
          came_followed found at (via_alias closed few z.3.0 (subst (λ rs. IsOutcomeOfSearchWithParts routes search_limit all [] t rs z.0 z.1) (sym is)
          (under x z.2))) z.3.1

  -- ---- parts

  pub came_listed : (visited : List SymbolBySpecifier) (ps : QualifiedNameParts) (f : PathForest)
      → HoldsAfterReplacedDefinitions routes go running ps f [] (definitions_of_forest f) visited → HoldsAfterPartsInForest routes go running ps f visited
  came_listed visited [] f y = y
  came_listed visited (p ∷ ps) f y =
      let whole : ReplacesInOrder routes search_limit running visited p ps (definitions_of_forest f ++ []) y.0 y.1 =
      subst (λ xs. ReplacesInOrder routes search_limit running visited p ps xs y.0 y.1) (sym (append-nil (definitions_of_forest f))) y.2 in
      let h = rebuilt_is routes search_limit running visited y.1 p ps f [] y.0 whole in (
        (forest_with_definitions_replaced (p ∷ ps) f y.0).0,
        h.mid,
        h.changes,
        subst (go (forest_with_definitions_replaced (p ∷ ps) f y.0).0) (sym (no_steps_left routes search_limit running h.left)) y.3,
      )

  pub came_replaced : {visited mid : List SymbolBySpecifier} {x : DefinitionView} {p : List ℕ} {ps : QualifiedNameParts} {g : PathForest} (f : PathForest)
      (gs : List PathForest) (left : List DefinitionView) → IsOutcomeOfPartsInTree routes search_limit running visited p ps (leaf (definition x)) g mid
      → HoldsAfterReplacedDefinitions routes go running (p ∷ ps) f (gs ++ g ∷ []) left mid → HoldsAfterReplacedDefinitions routes go running (p ∷ ps) f gs
      (x ∷ left) visited
  came_replaced {p = p} {ps = ps} {g = g} f gs left x y =
      (g ∷ y.0, y.1, a_step x y.2, subst (λ z. go (forest_with_definitions_replaced (p ∷ ps) f z).0 y.1) (append_assoc gs (g ∷ []) y.0) y.3)

  pub came_all_replaced : {visited : List SymbolBySpecifier} {p : List ℕ} {ps : QualifiedNameParts} (f : PathForest) (gs : List PathForest)
      → go (forest_with_definitions_replaced (p ∷ ps) f gs).0 visited → HoldsAfterReplacedDefinitions routes go running (p ∷ ps) f gs [] visited
  came_all_replaced {visited = visited} {p = p} {ps = ps} f gs k =
      ([], visited, no_step, subst (λ z. go (forest_with_definitions_replaced (p ∷ ps) f z).0 visited) (sym (append-nil gs)) k)

  abbrev PartFound : List ℕ → QualifiedNameParts → PathForest → List PathForest → DefinitionView → List DefinitionView → PathForest → List SymbolBySpecifier
      → Type 0
  PartFound p ps f gs x left g mid = HoldsAfterReplacedDefinitions routes go running (p ∷ ps) f
      (gs ++ forest_below_link_unless_empty (part_link_head x (p ∷ ps)) g ∷ []) left mid

  pub came_part : {visited : List SymbolBySpecifier} {u : SymbolBySpecifier} {p : List ℕ} (ps : QualifiedNameParts) (f : PathForest) (gs : List PathForest)
      (x : DefinitionView) (left : List DefinitionView) → routes.part x p ps ≡ part_is_symbol u
      → HoldsAfterSymbolSearch routes (HoldsAfterPartsInForest routes (PartFound p ps f gs x left) running ps) running visited u
      → HoldsAfterReplacedDefinitions routes go running (p ∷ ps) f gs (x ∷ left) visited
  came_part {visited = visited} {u = u} {p = p} ps f gs x left there y = by ps refl y.0 y.1 y.2 y.3
    where
      by : (qs : QualifiedNameParts) → ps ≡ qs → (h : PathForest) (after : List SymbolBySpecifier)
          → IsOutcomeOfSymbolSearch routes search_limit running visited u h after
          → HoldsAfterPartsInForest routes (PartFound p ps f gs x left) running qs h after → HoldsAfterReplacedDefinitions routes go running (p ∷ ps) f gs
          (x ∷ left) visited
      by [] is h after z rest =
          came_replaced f gs left (definition_has_part there (subst (λ qs. IsOutcomeOfSearchWithParts routes search_limit running visited u qs h after) (sym is)
          (no_parts
          z))) rest
      by (q ∷ qs) is h after z rest = came_replaced f gs left
          (definition_has_part there (subst (λ rs. IsOutcomeOfSearchWithParts routes search_limit running visited u rs rest.0 rest.1) (sym is)
          (under z rest.2))) rest.3
