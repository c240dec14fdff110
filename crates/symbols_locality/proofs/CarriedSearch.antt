-- A search by one of two alike routes has the outcome of the search by the other.
use Rattle.std.proofs.Common.{ℕ, List, [], ◌∷◌, ◌++◌, Option, sym, subst, ◌∙◌}
use Rattle.std.specs.Prelude.{Contains}
use Rattle.symbols_paths.specs.PathTrees.{SymbolBySpecifier, DeclBySpecifier, QualifiedNameParts, UnresolvedEntry, PathTree, PathForest}
use Rattle.symbols_paths.specs.DeclTargets.{DeclTargetView}
use Rattle.symbols_paths.specs.PartTargets.{SearchTargets}
use Rattle.symbols_paths.specs.Derived.{link_head_of_forward, alias_link_head, part_link_head, link_head_with_parts_replaced}
use Rattle.symbols_paths.specs.Choice.{IsOutcomeOfSymbolSearch, already_visited, is_new, IsOutcomeOfDeclListSearch, no_decl_left, step, IsOutcomeOfDeclSearch}
use Rattle.symbols_paths.specs.Choice.{decl_is_definition}
use Rattle.symbols_paths.specs.Choice.{decl_forwards, by_alias_being_resolved, via_alias, IsOutcomeOfCandidateSearch, no_candidate_left}
use Rattle.symbols_paths.specs.Choice.{first_candidate_with_paths, candidate_has_no_path, IsOutcomeOfSearchWithParts, no_parts, under}
use Rattle.symbols_paths.specs.Choice.{IsOutcomeOfPartsInForest, no_tree_left, tree_then_forest, IsOutcomeOfPartsInTree, unresolved_leaf_is_unchanged}
use Rattle.symbols_paths.specs.Choice.{link_gets_resolved_forest, definition_has_part, definition_is_part_itself, definition_has_no_part}
use Rattle.symbols_paths.specs.Choice.{IsForestFoundBySearchWithParts}
use Rattle.symbols_locality.proofs.AlikeRoutes.{Marks, IsMarkedForest, IsMarkedTree, IsMarkedTarget, AreMarkedTargets, AreRoutesAlike}
use Rattle.symbols_locality.proofs.Lists.{contains_first, contains_later}
use Rattle.symbols_locality.proofs.MarkedForests.{joined_marked, linked_marked, missing_marked}

module _ (r q : SearchTargets) (marks : Marks) (alike : AreRoutesAlike r q marks) (limit : ℕ) where
  mutual
    finds_there : {running : List DeclBySpecifier} {visited after : List SymbolBySpecifier} {s : SymbolBySpecifier} {f : PathForest} → marks.symbol s
        → IsOutcomeOfSymbolSearch r limit running visited s f after → IsOutcomeOfSymbolSearch q limit running visited s f after × IsMarkedForest marks f
    finds_there is (already_visited e) = (already_visited e, tt)
    finds_there {running = running} {visited = visited} {after = after} {s = s} {f = f} is (is_new e x) =
        let there = expands_there is (alike.marked_targets s is) x in (
          is_new e (subst (λ (xs : List DeclTargetView). IsOutcomeOfDeclListSearch q limit running (visited ++ s ∷ []) s 0 xs f after)
              (alike.same_targets s is) there.0),
          there.1,
        )

    expands_there : {running : List DeclBySpecifier} {visited after : List SymbolBySpecifier} {s : SymbolBySpecifier} {i : ℕ} {xs : List DeclTargetView}
        {f : PathForest} → marks.symbol s → AreMarkedTargets marks s xs → IsOutcomeOfDeclListSearch r limit running visited s i xs f after
        → IsOutcomeOfDeclListSearch q limit running visited s i xs f after × IsMarkedForest marks f
    expands_there is all no_decl_left = (no_decl_left, tt)
    expands_there is all (step {f = f} {rest = remaining} x y) =
        let one = follows_there is all.0 x in
        let more = expands_there is all.1 y in
        (step one.0 more.0, joined_marked marks f remaining one.1 more.1)

    follows_there : {running : List DeclBySpecifier} {visited after : List SymbolBySpecifier} {s : SymbolBySpecifier} {i : ℕ} {x : DeclTargetView}
        {f : PathForest} → marks.symbol s → IsMarkedTarget marks s x → IsOutcomeOfDeclSearch r limit running visited s i x f after
        → IsOutcomeOfDeclSearch q limit running visited s i x f after × IsMarkedForest marks f
    follows_there {s = s} {i = i} is decl_target (decl_is_definition {range = range} {star = star}) = (decl_is_definition, (decl_target i, tt))
    follows_there {s = s} {i = i} is decl_target (decl_forwards {forward = forward} {f = f} x) = let there =
        tries_there decl_target x in (decl_forwards there.0, linked_marked marks (link_head_of_forward s i forward) f there.1)
    follows_there is decl_target (by_alias_being_resolved e) = (by_alias_being_resolved e, tt)
    follows_there {s = s} {i = i} is decl_target (via_alias {ps = ps} {f = f} e few fits x) = let there =
        resolves_there decl_target x in (via_alias e few fits there.0, linked_marked marks (alias_link_head s i ps) f there.1)

    tries_there : {running : List DeclBySpecifier} {visited after : List SymbolBySpecifier} {cs : List SymbolBySpecifier} {otherwise : Option UnresolvedEntry}
        {f : PathForest} → ((c : SymbolBySpecifier) → Contains cs c → marks.symbol c) → IsOutcomeOfCandidateSearch r limit running visited cs otherwise f after
        → IsOutcomeOfCandidateSearch q limit running visited cs otherwise f after × IsMarkedForest marks f
    tries_there {otherwise = otherwise} are no_candidate_left = (no_candidate_left, missing_marked marks otherwise)
    tries_there are (first_candidate_with_paths {c = c} {cs = cs} x) = let there = finds_there (are c (contains_first c cs)) x in
        (first_candidate_with_paths there.0, there.1)
    tries_there are (candidate_has_no_path {c = c} {cs = cs} x y) =
        let one = finds_there (are c (contains_first c cs)) x in
        let more = tries_there (λ d has. are d (contains_later c cs d has)) y in
        (candidate_has_no_path one.0 more.0, more.1)

    resolves_there : {running : List DeclBySpecifier} {visited after : List SymbolBySpecifier} {s : SymbolBySpecifier} {ps : QualifiedNameParts}
        {f : PathForest} → marks.symbol s → IsOutcomeOfSearchWithParts r limit running visited s ps f after
        → IsOutcomeOfSearchWithParts q limit running visited s ps f after × IsMarkedForest marks f
    resolves_there is (no_parts x) = let there = finds_there is x in (no_parts there.0, there.1)
    resolves_there is (under x y) =
        let one = finds_there is x in
        let more = replaces_all_there one.1 y in
        (under one.0 more.0, more.1)

    replaces_all_there : {running : List DeclBySpecifier} {visited after : List SymbolBySpecifier} {p : List ℕ} {ps : QualifiedNameParts} {f g : PathForest}
        → IsMarkedForest marks f → IsOutcomeOfPartsInForest r limit running visited p ps f g after
        → IsOutcomeOfPartsInForest q limit running visited p ps f g after × IsMarkedForest marks g
    replaces_all_there is no_tree_left = (no_tree_left, tt)
    replaces_all_there is (tree_then_forest {g = g} {h = h} x y) =
        let one = replaces_there is.0 x in
        let more = replaces_all_there is.1 y in
        (tree_then_forest one.0 more.0, joined_marked marks g h one.1 more.1)

    replaces_there : {running : List DeclBySpecifier} {visited after : List SymbolBySpecifier} {p : List ℕ} {ps : QualifiedNameParts} {t : PathTree}
        {g : PathForest} → IsMarkedTree marks t → IsOutcomeOfPartsInTree r limit running visited p ps t g after
        → IsOutcomeOfPartsInTree q limit running visited p ps t g after × IsMarkedForest marks g
    replaces_there is unresolved_leaf_is_unchanged = (unresolved_leaf_is_unchanged, (tt, tt))
    replaces_there {p = p} {ps = ps} is (link_gets_resolved_forest {head = head} {g = g} x) = let there =
        replaces_all_there is x in (link_gets_resolved_forest there.0, linked_marked marks (link_head_with_parts_replaced head (p ∷ ps)) g there.1)
    replaces_there {p = p} {ps = ps} is (definition_has_part {x = x} {t = t} {f = f} e w) =
        let there = resolves_there (alike.marked_parts x p ps t is e) w in
        (definition_has_part (sym (alike.same_parts x p ps is) ∙ e) there.0, linked_marked marks (part_link_head x (p ∷ ps)) f there.1)
    replaces_there {p = p} {ps = ps} is (definition_is_part_itself {x = x} e) = (definition_is_part_itself (sym (alike.same_parts x p ps is) ∙ e), (is, tt))
    replaces_there {p = p} {ps = ps} is (definition_has_no_part {x = x} e) = (definition_has_no_part (sym (alike.same_parts x p ps is) ∙ e), ((tt, tt), tt))

-- the returned list of paths
pub chosen_there : (r q : SearchTargets) (marks : Marks) → AreRoutesAlike r q marks → (s : SymbolBySpecifier) (ps : QualifiedNameParts) (f : PathForest)
    → marks.symbol s → IsForestFoundBySearchWithParts r s ps f → IsForestFoundBySearchWithParts q s ps f
chosen_there r q marks alike s ps f is chosen = (chosen.0, chosen.1, (resolves_there r q marks alike chosen.0 is chosen.2).0)
