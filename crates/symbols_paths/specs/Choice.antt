-- The list of paths that the search returns, among those that can be derived. The search expands each symbol once and takes the first
-- candidate that has a path. An alias has no path while it is being resolved.
use Rattle.std.specs.Prelude.{◌≡◌, ℕ, ◌+◌, ◌<◌, ◌≤◌, length, nat_eq, Bool, true, false, ◌&&◌, List, [], ◌∷◌, ◌++◌, Option, None, Some}
use Rattle.std.specs.List.{list_any}
use Rattle.std.specs.Str.{bytes_eq}
use Rattle.symbols_ast.specs.declared.tree.arena.SourceRange.{SourceRange}
use Rattle.symbols_table.specs.DeclViews.{FileDepView}
use Rattle.symbols_paths.specs.PathTrees.{SymbolBySpecifier, DeclBySpecifier, QualifiedNameParts, DefinitionView, UnresolvedEntry, definition, unresolved}
use Rattle.symbols_paths.specs.PathTrees.{LinkHead, PathTree, PathForest, leaf, link, no_trees, more_trees, forest_of_tree, joined_forests}
use Rattle.symbols_paths.specs.PathTrees.{forest_below_link_unless_empty}
use Rattle.symbols_paths.specs.DeclTargets.{ForwardTarget, DeclTargetView, defines, forwards, alias}
use Rattle.symbols_paths.specs.PartTargets.{part_is_symbol, itself, part_is_unresolved, SearchTargets}
use Rattle.symbols_paths.specs.Derived.{definition_of_decl, link_head_of_forward, decl_of_symbol_at_index, alias_link_head, part_link_head}
use Rattle.symbols_paths.specs.Derived.{link_head_with_parts_replaced}

abbrev pub is_same_symbol : SymbolBySpecifier → SymbolBySpecifier → Bool
is_same_symbol s t = bytes_eq s.specifier t.specifier && nat_eq s.number.0 t.number.0

abbrev pub is_visited : List SymbolBySpecifier → SymbolBySpecifier → Bool
is_visited visited s = list_any (is_same_symbol s) visited

abbrev pub is_same_decl : DeclBySpecifier → DeclBySpecifier → Bool
is_same_decl d e = is_same_symbol d.symbol e.symbol && nat_eq d.index e.index

-- the alias is being resolved: it is in `running`, the aliases that the code calls `resolving`
abbrev pub is_alias_being_resolved : List DeclBySpecifier → DeclBySpecifier → Bool
is_alias_being_resolved running decl = list_any (is_same_decl decl) running

-- the unresolved entry if no candidate has a path
abbrev pub forest_of_unresolved : Option UnresolvedEntry → PathForest
forest_of_unresolved None = no_trees
forest_of_unresolved (Some missing) = forest_of_tree (leaf (unresolved missing))

-- The search as relations: the aliases being resolved (`running`), the symbols visited before, what is searched, the paths, and the symbols
-- visited after. At most `limit` aliases are resolved within one another, and at most `limit` symbols are visited in the search of one. Too
-- low a limit has no outcome; any other has the same outcome.
mutual
  -- the search of a symbol, which has no path if it was visited before
  pub data IsOutcomeOfSymbolSearch (routes : SearchTargets) (limit : ℕ) : List DeclBySpecifier → List SymbolBySpecifier → SymbolBySpecifier → PathForest
      → List SymbolBySpecifier → Type 0 where
    already_visited : {running : List DeclBySpecifier} {visited : List SymbolBySpecifier} {s : SymbolBySpecifier} → is_visited visited s ≡ true
        → IsOutcomeOfSymbolSearch routes limit running visited s no_trees visited
    is_new : {running : List DeclBySpecifier} {visited after : List SymbolBySpecifier} {s : SymbolBySpecifier} {f : PathForest} → is_visited visited s ≡ false
        → IsOutcomeOfDeclListSearch routes limit running (visited ++ s ∷ []) s 0 (routes.decl_targets s) f after
        → IsOutcomeOfSymbolSearch routes limit running visited s f after

  -- the paths of a symbol's declarations from the index on
  pub data IsOutcomeOfDeclListSearch (routes : SearchTargets) (limit : ℕ) : List DeclBySpecifier → List SymbolBySpecifier → SymbolBySpecifier → ℕ
      → List DeclTargetView
      → PathForest → List SymbolBySpecifier
      → Type 0 where
    no_decl_left : {running : List DeclBySpecifier} {visited : List SymbolBySpecifier} {s : SymbolBySpecifier} {i : ℕ}
        → IsOutcomeOfDeclListSearch routes limit running visited s i [] no_trees visited
    step : {running : List DeclBySpecifier} {visited mid after : List SymbolBySpecifier} {s : SymbolBySpecifier} {i : ℕ} {x : DeclTargetView}
        {xs : List DeclTargetView} {f
        rest : PathForest} → IsOutcomeOfDeclSearch routes limit running visited s i x f mid → IsOutcomeOfDeclListSearch routes limit running mid s (i +
        1) xs rest after
        → IsOutcomeOfDeclListSearch routes limit running visited s i (x ∷ xs) (joined_forests f rest) after

  -- the path of a declaration, if it has one
  pub data IsOutcomeOfDeclSearch (routes : SearchTargets) (limit : ℕ) : List DeclBySpecifier → List SymbolBySpecifier → SymbolBySpecifier → ℕ → DeclTargetView
      → PathForest
      → List SymbolBySpecifier
      → Type 0 where
    decl_is_definition : {running : List DeclBySpecifier} {visited : List SymbolBySpecifier} {s : SymbolBySpecifier} {i : ℕ} {range : SourceRange}
        {star : Option FileDepView}
        → IsOutcomeOfDeclSearch routes limit running visited s i (defines range star)
        (forest_of_tree (leaf (definition (definition_of_decl s i range star)))) visited
    decl_forwards : {running : List DeclBySpecifier} {visited after : List SymbolBySpecifier} {s : SymbolBySpecifier} {i : ℕ} {forward : ForwardTarget}
        {f : PathForest}
        → IsOutcomeOfCandidateSearch routes limit running visited forward.candidates forward.otherwise f after
        → IsOutcomeOfDeclSearch routes limit running visited s i (forwards forward) (forest_below_link_unless_empty (link_head_of_forward s i forward) f) after
    -- an alias that is being resolved has no path; any other is resolved by a search with visited symbols of its own
    by_alias_being_resolved : {running : List DeclBySpecifier} {visited : List SymbolBySpecifier} {s t : SymbolBySpecifier} {i : ℕ} {ps : QualifiedNameParts}
        → is_alias_being_resolved running (decl_of_symbol_at_index s i) ≡ true
        → IsOutcomeOfDeclSearch routes limit running visited s i (alias t ps) no_trees visited
    via_alias : {running : List DeclBySpecifier} {visited after : List SymbolBySpecifier} {s t : SymbolBySpecifier} {i : ℕ} {ps : QualifiedNameParts}
        {f : PathForest}
        → is_alias_being_resolved running (decl_of_symbol_at_index s i) ≡ false → length running < limit → length after ≤ limit
        → IsOutcomeOfSearchWithParts routes limit (running ++ decl_of_symbol_at_index s i
        ∷ []) [] t ps f after → IsOutcomeOfDeclSearch routes limit running visited s i (alias t ps) (forest_below_link_unless_empty (alias_link_head s i ps) f)
        visited

  -- the paths of the first candidate that has any, else the unresolved entry
  pub data IsOutcomeOfCandidateSearch (routes : SearchTargets) (limit : ℕ) : List DeclBySpecifier → List SymbolBySpecifier → List SymbolBySpecifier
      → Option UnresolvedEntry
      → PathForest → List SymbolBySpecifier
      → Type 0 where
    no_candidate_left : {running : List DeclBySpecifier} {visited : List SymbolBySpecifier} {otherwise : Option UnresolvedEntry}
        → IsOutcomeOfCandidateSearch routes limit running visited [] otherwise (forest_of_unresolved otherwise) visited
    first_candidate_with_paths : {running : List DeclBySpecifier} {visited after : List SymbolBySpecifier} {c : SymbolBySpecifier} {cs : List SymbolBySpecifier}
        {otherwise : Option UnresolvedEntry}
        {t : PathTree} {f : PathForest} → IsOutcomeOfSymbolSearch routes limit running visited c (more_trees t f) after
        → IsOutcomeOfCandidateSearch routes limit running visited (c ∷ cs) otherwise (more_trees t f) after
    candidate_has_no_path : {running : List DeclBySpecifier} {visited mid after : List SymbolBySpecifier} {c : SymbolBySpecifier} {cs : List SymbolBySpecifier}
        {otherwise : Option UnresolvedEntry}
        {f : PathForest} → IsOutcomeOfSymbolSearch routes limit running visited c no_trees mid
        → IsOutcomeOfCandidateSearch routes limit running mid cs otherwise f after
        → IsOutcomeOfCandidateSearch routes limit running visited (c ∷ cs) otherwise f after

  -- the search of a symbol under parts: its paths, with the parts resolved in the definitions at their ends
  pub data IsOutcomeOfSearchWithParts (routes : SearchTargets) (limit : ℕ) : List DeclBySpecifier → List SymbolBySpecifier → SymbolBySpecifier
      → QualifiedNameParts
      → PathForest → List SymbolBySpecifier → Type 0 where
    no_parts : {running : List DeclBySpecifier} {visited after : List SymbolBySpecifier} {s : SymbolBySpecifier} {f : PathForest}
        → IsOutcomeOfSymbolSearch routes limit running visited s f after
        → IsOutcomeOfSearchWithParts routes limit running visited s [] f after
    under : {running : List DeclBySpecifier} {visited mid after : List SymbolBySpecifier} {s : SymbolBySpecifier} {p : List ℕ} {ps : QualifiedNameParts}
        {f g : PathForest}
        → IsOutcomeOfSymbolSearch routes limit running visited s f mid → IsOutcomeOfPartsInForest routes limit running mid p ps f g after
        → IsOutcomeOfSearchWithParts routes limit running visited s (p ∷ ps) g after

  -- each path with its definitions replaced, from left to right
  pub data IsOutcomeOfPartsInForest (routes : SearchTargets) (limit : ℕ) : List DeclBySpecifier → List SymbolBySpecifier → List ℕ → QualifiedNameParts
      → PathForest
      → PathForest → List SymbolBySpecifier
      → Type 0 where
    no_tree_left : {running : List DeclBySpecifier} {visited : List SymbolBySpecifier} {p : List ℕ} {ps : QualifiedNameParts}
        → IsOutcomeOfPartsInForest routes limit running visited p ps no_trees no_trees visited
    tree_then_forest : {running : List DeclBySpecifier} {visited mid after : List SymbolBySpecifier} {p : List ℕ} {ps : QualifiedNameParts} {t : PathTree}
        {f g h : PathForest}
        → IsOutcomeOfPartsInTree routes limit running visited p ps t g mid → IsOutcomeOfPartsInForest routes limit running mid p ps f h after
        → IsOutcomeOfPartsInForest routes limit running visited p ps (more_trees t f) (joined_forests g h) after

  -- a path with its definitions replaced: an unresolved end stays, and links get the parts
  pub data IsOutcomeOfPartsInTree (routes : SearchTargets) (limit : ℕ) : List DeclBySpecifier → List SymbolBySpecifier → List ℕ → QualifiedNameParts → PathTree
      → PathForest → List SymbolBySpecifier
      → Type 0 where
    unresolved_leaf_is_unchanged : {running : List DeclBySpecifier} {visited : List SymbolBySpecifier} {p : List ℕ} {ps : QualifiedNameParts}
        {m : UnresolvedEntry}
        → IsOutcomeOfPartsInTree routes limit running visited p ps (leaf (unresolved m)) (forest_of_tree (leaf (unresolved m))) visited
    link_gets_resolved_forest : {running : List DeclBySpecifier} {visited after : List SymbolBySpecifier} {p : List ℕ} {ps : QualifiedNameParts}
        {head : LinkHead}
        {f g : PathForest}
        → IsOutcomeOfPartsInForest routes limit running visited p ps f g after
        → IsOutcomeOfPartsInTree routes limit running visited p ps (link head f)
        (forest_below_link_unless_empty (link_head_with_parts_replaced head (p ∷ ps)) g) after
    definition_has_part : {running : List DeclBySpecifier} {visited after : List SymbolBySpecifier} {p : List ℕ} {ps : QualifiedNameParts} {x : DefinitionView}
        {t : SymbolBySpecifier} {f : PathForest}
        → routes.part x p ps ≡ part_is_symbol t → IsOutcomeOfSearchWithParts routes limit running visited t ps f after
        → IsOutcomeOfPartsInTree routes limit running visited p ps (leaf (definition x)) (forest_below_link_unless_empty (part_link_head x (p ∷ ps)) f) after
    definition_is_part_itself : {running : List DeclBySpecifier} {visited : List SymbolBySpecifier} {p : List ℕ} {ps : QualifiedNameParts} {x : DefinitionView}
        → routes.part x p ps ≡ itself
        → IsOutcomeOfPartsInTree routes limit running visited p ps (leaf (definition x)) (forest_of_tree (leaf (definition x))) visited
    definition_has_no_part : {running : List DeclBySpecifier} {visited : List SymbolBySpecifier} {p : List ℕ} {ps : QualifiedNameParts} {x : DefinitionView}
        {m : UnresolvedEntry} → routes.part x p ps ≡ part_is_unresolved m
        → IsOutcomeOfPartsInTree routes limit running visited p ps (leaf (definition x)) (forest_of_tree
        (link (part_link_head x (p ∷ ps)) (forest_of_tree (leaf (unresolved m))))) visited

-- the paths of a symbol under parts, by a search of its own
abbrev pub IsForestFoundBySearchWithParts : SearchTargets → SymbolBySpecifier → QualifiedNameParts → PathForest → Type 0
IsForestFoundBySearchWithParts routes s ps f = (limit : ℕ) × (after : List SymbolBySpecifier) × IsOutcomeOfSearchWithParts routes limit [] [] s ps f after

-- the paths of a symbol, without parts
abbrev pub IsForestFoundBySearch : SearchTargets → SymbolBySpecifier → PathForest → Type 0
IsForestFoundBySearch routes s f = IsForestFoundBySearchWithParts routes s [] f
