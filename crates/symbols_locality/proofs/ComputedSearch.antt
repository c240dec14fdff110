-- The computed search returns the same paths by two alike routes.
use Rattle.std.proofs.Common.{◌≡◌, ℕ, zero, suc, ◌+◌, Bool, true, false, List, [], ◌∷◌, ◌++◌, Option, refl, ap, ◌∙◌}
use Rattle.std.specs.Prelude.{Contains, if◌then◌else◌}
use Rattle.symbols_paths.specs.PathTrees.{SymbolBySpecifier, DeclBySpecifier, QualifiedNameParts, DefinitionView, definition, unresolved, UnresolvedEntry}
use Rattle.symbols_paths.specs.PathTrees.{PathTree, PathForest, leaf, link, no_trees, more_trees, joined_forests, forest_below_link_unless_empty}
use Rattle.symbols_paths.specs.DeclTargets.{DeclTargetView, defines, forwards, alias}
use Rattle.symbols_paths.specs.PartTargets.{PartTargetView, part_is_symbol, itself, part_is_unresolved, SearchTargets}
use Rattle.symbols_paths.specs.Derived.{decl_of_symbol_at_index, link_head_of_forward, alias_link_head, part_link_head, link_head_with_parts_replaced}
use Rattle.symbols_paths.specs.Choice.{is_visited, is_alias_being_resolved}
use Rattle.symbols_paths.specs.Computed.{SearchResult, SymbolSearch, AliasSearch, first_result_with_paths, search_candidates, search_decl_target}
use Rattle.symbols_paths.specs.Computed.{search_decl_targets}
use Rattle.symbols_paths.specs.Computed.{search_symbol_to_depth, search_part_target, resolve_parts_in_tree, resolve_parts_in_forest, search_with_parts}
use Rattle.symbols_paths.specs.Computed.{search_limit, alias_paths_to_depth}
use Rattle.symbols_locality.proofs.AlikeRoutes.{Marks, IsMarkedTree, IsMarkedForest, IsMarkedTarget, AreMarkedTargets, AreRoutesAlike}
use Rattle.symbols_locality.proofs.Lists.{contains_first, contains_later}
use Rattle.symbols_locality.proofs.MarkedForests.{joined_marked, linked_marked, missing_marked}

-- both searches return the same, and paths to marked definitions
pub record AreSameResults (marks : Marks) (one other : SearchResult) : Type 0 where
  pub same : one ≡ other
  pub marked : IsMarkedForest marks one.paths

abbrev pub AreSearchesAlike : Marks → SymbolSearch → SymbolSearch → Type 0
AreSearchesAlike marks f g = (visited : List SymbolBySpecifier) (s : SymbolBySpecifier) → marks.symbol s → AreSameResults marks (f visited s) (g visited s)

pub record AreSamePaths (marks : Marks) (one other : PathForest) : Type 0 where
  pub same : one ≡ other
  pub marked : IsMarkedForest marks one

abbrev pub AreAliasesAlike : Marks → AliasSearch → AliasSearch → Type 0
AreAliasesAlike marks f g = (decl : DeclBySpecifier) (t : SymbolBySpecifier) (ps : QualifiedNameParts) → marks.symbol t
    → AreSamePaths marks (f decl t ps) (g decl t ps)

module _ (marks : Marks) where
  -- ---- candidates

  first_marked : (paths : PathForest) (found next : SearchResult) → IsMarkedForest marks found.paths → IsMarkedForest marks next.paths
      → IsMarkedForest marks (first_result_with_paths paths found next).paths
  first_marked no_trees found next one more = more
  first_marked (more_trees t f) found next one more = one

  candidates_alike : (f g : SymbolSearch) → AreSearchesAlike marks f g → (visited : List SymbolBySpecifier) (cs : List SymbolBySpecifier)
      (otherwise : Option UnresolvedEntry) → ((c : SymbolBySpecifier) → Contains cs c → marks.symbol c)
      → AreSameResults marks (search_candidates f visited cs otherwise) (search_candidates g visited cs otherwise)
  candidates_alike f g alike visited [] otherwise are = record { same = refl; marked = missing_marked marks otherwise }
  candidates_alike f g alike visited (c ∷ cs) otherwise are =
      let one = alike visited c (are c (contains_first c cs)) in
      let more = candidates_alike f g alike (f visited c).visited cs otherwise (λ d has. are d (contains_later c cs d has)) in
      record {
        same = ap (first_result_with_paths (f visited c).paths (f visited c)) more.same
            ∙ ap (λ (found : SearchResult). first_result_with_paths found.paths found (search_candidates g found.visited cs otherwise)) one.same;
        marked = first_marked (f visited c).paths (f visited c) (search_candidates f (f visited c).visited cs otherwise) one.marked more.marked;
      }

  -- ---- declarations

  module _ (resolve other_resolve : AliasSearch) (aliases : AreAliasesAlike marks resolve other_resolve) (f g : SymbolSearch)
      (alike : AreSearchesAlike marks f g) where
    decl_target_alike : (visited : List SymbolBySpecifier) (s : SymbolBySpecifier) (i : ℕ) (x : DeclTargetView) → IsMarkedTarget marks s x
        → AreSameResults marks (search_decl_target resolve f visited s i x) (search_decl_target other_resolve g visited s i x)
    decl_target_alike visited s i (defines range star) is = record { same = refl; marked = (is i, tt) }
    decl_target_alike visited s i (forwards forward) is =
        let found = candidates_alike f g alike visited forward.candidates forward.otherwise is in
        record {
          same =
              ap (λ (result : SearchResult). record {
                paths = forest_below_link_unless_empty (link_head_of_forward s i forward) result.paths;
                visited = result.visited;
              }) found.same;
          marked = linked_marked marks (link_head_of_forward s i forward) (search_candidates f visited forward.candidates forward.otherwise).paths found.marked;
        }
    decl_target_alike visited s i (alias t ps) is =
        let found = aliases (decl_of_symbol_at_index s i) t ps is in
        record {
          same = ap (λ (paths : PathForest). record { paths = forest_below_link_unless_empty (alias_link_head s i ps) paths; visited = visited }) found.same;
          marked = linked_marked marks (alias_link_head s i ps) (resolve (decl_of_symbol_at_index s i) t ps) found.marked;
        }

    decl_targets_alike : (visited : List SymbolBySpecifier) (s : SymbolBySpecifier) (i : ℕ) (xs : List DeclTargetView) → AreMarkedTargets marks s xs
        → AreSameResults marks (search_decl_targets resolve f visited s i xs) (search_decl_targets other_resolve g visited s i xs)
    decl_targets_alike visited s i [] all = record { same = refl; marked = tt }
    decl_targets_alike visited s i (x ∷ xs) all =
        let one = decl_target_alike visited s i x all.0 in
        let first = search_decl_target resolve f visited s i x in
        let more = decl_targets_alike first.visited s (i + 1) xs all.1 in
        let remaining = search_decl_targets resolve f first.visited s (i + 1) xs in
        record {
          same = ap (λ (result : SearchResult). record { paths = joined_forests first.paths result.paths; visited = result.visited }) more.same
              ∙ ap (λ (result : SearchResult). record {
                paths = joined_forests result.paths (search_decl_targets other_resolve g result.visited s (i + 1) xs).paths;
                visited = (search_decl_targets other_resolve g result.visited s (i + 1) xs).visited;
              }) one.same;
          marked = joined_marked marks first.paths remaining.paths one.marked more.marked;
        }

-- ---- symbols

module _ (r q : SearchTargets) (marks : Marks) (alike : AreRoutesAlike r q marks) where
  symbols_alike : (resolve other_resolve : AliasSearch) → AreAliasesAlike marks resolve other_resolve → (depth : ℕ)
      → AreSearchesAlike marks (search_symbol_to_depth r resolve depth) (search_symbol_to_depth q other_resolve depth)
  unfolding search_symbol_to_depth
  symbols_alike resolve other_resolve aliases zero visited s is = record { same = refl; marked = tt }
  symbols_alike resolve other_resolve aliases (suc depth) visited s is =
      let deeper = symbols_alike resolve other_resolve aliases depth in
      let found = decl_targets_alike marks resolve other_resolve aliases (search_symbol_to_depth r resolve depth) (search_symbol_to_depth q other_resolve depth)
      deeper (visited ++ s ∷ []) s 0 (r.decl_targets s) (alike.marked_targets s is) in
      by (is_visited visited s) found
      (ap (search_decl_targets other_resolve (search_symbol_to_depth q other_resolve depth) (visited ++ s ∷ []) s 0) (alike.same_targets s is))
    where
      by : (b : Bool) {one mid other : SearchResult} → AreSameResults marks one mid → mid ≡ other
          → AreSameResults marks (if b then record { paths = no_trees; visited = visited } else one)
          (if b then record { paths = no_trees; visited = visited } else other)
      by true found there = record { same = refl; marked = tt }
      by false found there = record { same = found.same ∙ there; marked = found.marked }

  -- ---- parts

  part_target_alike : (f g : SymbolSearch) → AreSearchesAlike marks f g → (visited : List SymbolBySpecifier) (x : DefinitionView) (ps : QualifiedNameParts)
      (t : PartTargetView) → marks.definition_view x → ((u : SymbolBySpecifier) → t ≡ part_is_symbol u → marks.symbol u)
      → AreSameResults marks (search_part_target f visited x ps t) (search_part_target g visited x ps t)
  part_target_alike f g same visited x ps (part_is_symbol u) is marked =
      let found = same visited u (marked u refl) in
      record {
        same = ap (λ (result : SearchResult). record { paths = forest_below_link_unless_empty (part_link_head x ps) result.paths; visited = result.visited })
            found.same;
        marked = linked_marked marks (part_link_head x ps) (f visited u).paths found.marked;
      }
  part_target_alike f g same visited x ps itself is marked = record { same = refl; marked = (is, tt) }
  part_target_alike f g same visited x ps (part_is_unresolved m) is marked = record { same = refl; marked = ((tt, tt), tt) }

  module _ (f g : SymbolSearch) (same : AreSearchesAlike marks f g) (p : List ℕ) (ps : QualifiedNameParts) where
    mutual
      tree_alike : (t : PathTree) (visited : List SymbolBySpecifier) → IsMarkedTree marks t
          → AreSameResults marks (resolve_parts_in_tree r f p ps t visited) (resolve_parts_in_tree q g p ps t visited)
      tree_alike (leaf (unresolved m)) visited is = record { same = refl; marked = (tt, tt) }
      tree_alike (leaf (definition x)) visited is =
          let found = part_target_alike f g same visited x (p ∷ ps) (r.part x p ps) is (λ u e. alike.marked_parts x p ps u is e) in
          record { same = found.same ∙ ap (search_part_target g visited x (p ∷ ps)) (alike.same_parts x p ps is); marked = found.marked }
      tree_alike (link head next) visited is =
          let found = forest_alike next visited is in
          record {
            same = ap (λ (result : SearchResult). record {
              paths = forest_below_link_unless_empty (link_head_with_parts_replaced head (p ∷ ps)) result.paths;
              visited = result.visited;
            }) found.same;
            marked = linked_marked marks (link_head_with_parts_replaced head (p ∷ ps)) (resolve_parts_in_forest r f p ps next visited).paths found.marked;
          }

      forest_alike : (paths : PathForest) (visited : List SymbolBySpecifier) → IsMarkedForest marks paths
          → AreSameResults marks (resolve_parts_in_forest r f p ps paths visited) (resolve_parts_in_forest q g p ps paths visited)
      forest_alike no_trees visited is = record { same = refl; marked = tt }
      forest_alike (more_trees t next) visited is =
          let one = tree_alike t visited is.0 in
          let first = resolve_parts_in_tree r f p ps t visited in
          let more = forest_alike next first.visited is.1 in
          let remaining = resolve_parts_in_forest r f p ps next first.visited in
          record {
            same = ap (λ (result : SearchResult). record { paths = joined_forests first.paths result.paths; visited = result.visited }) more.same
                ∙ ap (λ (result : SearchResult). record {
                  paths = joined_forests result.paths (resolve_parts_in_forest q g p ps next result.visited).paths;
                  visited = (resolve_parts_in_forest q g p ps next result.visited).visited;
                }) one.same;
            marked = joined_marked marks first.paths remaining.paths one.marked more.marked;
          }

  with_parts_alike : (f g : SymbolSearch) → AreSearchesAlike marks f g → (ps : QualifiedNameParts)
      → AreSearchesAlike marks (search_with_parts r f ps) (search_with_parts q g ps)
  with_parts_alike f g same [] visited s is = same visited s is
  with_parts_alike f g same (p ∷ ps) visited s is =
      let found = same visited s is in
      let more = forest_alike (search_with_parts r f ps) (search_with_parts q g ps) (with_parts_alike f g same ps) p ps (f visited s).paths
      (f visited s).visited found.marked in
      record {
        same = more.same ∙ ap (λ (result : SearchResult). resolve_parts_in_forest q (search_with_parts q g ps) p ps result.paths result.visited) found.same;
        marked = more.marked;
      }

  -- ---- aliases

  aliases_alike : (depth : ℕ) (running : List DeclBySpecifier) → AreAliasesAlike marks (alias_paths_to_depth r depth running)
      (alias_paths_to_depth q depth running)
  unfolding alias_paths_to_depth
  aliases_alike zero running decl t ps is = record { same = refl; marked = tt }
  aliases_alike (suc depth) running decl t ps is =
      let deeper = aliases_alike depth (running ++ decl ∷ []) in
      let one = search_symbol_to_depth r (alias_paths_to_depth r depth (running ++ decl ∷ [])) search_limit in
      let other = search_symbol_to_depth q (alias_paths_to_depth q depth (running ++ decl ∷ [])) search_limit in
      let symbols = symbols_alike (alias_paths_to_depth r depth (running ++ decl ∷ []))
      (alias_paths_to_depth q depth (running ++ decl ∷ [])) deeper search_limit in
      by (is_alias_being_resolved running decl) (with_parts_alike one other symbols ps [] t is)
    where
      by : (b : Bool) {one other : SearchResult} → AreSameResults marks one other
          → AreSamePaths marks (if b then no_trees else one.paths) (if b then no_trees else other.paths)
      by true found = record { same = refl; marked = tt }
      by false found = record { same = ap (λ (result : SearchResult). result.paths) found.same; marked = found.marked }

  -- ---- the paths of a symbol under parts

  pub same_paths : (s : SymbolBySpecifier) (ps : QualifiedNameParts) → marks.symbol s
      → (search_with_parts r (search_symbol_to_depth r (alias_paths_to_depth r search_limit []) search_limit) ps [] s).paths
      ≡ (search_with_parts q (search_symbol_to_depth q (alias_paths_to_depth q search_limit []) search_limit) ps [] s).paths
  same_paths s ps is =
      let one = search_symbol_to_depth r (alias_paths_to_depth r search_limit []) search_limit in
      let other = search_symbol_to_depth q (alias_paths_to_depth q search_limit []) search_limit in
      let symbols = symbols_alike (alias_paths_to_depth r search_limit []) (alias_paths_to_depth q search_limit [])
      (aliases_alike search_limit []) search_limit in
      ap (λ (result : SearchResult). result.paths) (with_parts_alike one other symbols ps [] s is).same
