-- The returned list of paths as a function of the rules and the graph, for whoever computes with it.
use Rattle.std.specs.Prelude.{ℕ, zero, suc, ◌+◌, ◌^◌, List, [], ◌∷◌, ◌++◌, Option, if◌then◌else◌}
use Rattle.symbols_ast.specs.Graph.{GraphView}
use Rattle.symbols_root.specs.declared.rules.Rules.{Rules}
use Rattle.symbols_paths.specs.PathTrees.{SymbolBySpecifier, DeclBySpecifier, QualifiedNameParts, DefinitionView, UnresolvedEntry, definition, unresolved}
use Rattle.symbols_paths.specs.PathTrees.{PathTree}
use Rattle.symbols_paths.specs.PathTrees.{PathForest, leaf, link, no_trees, more_trees, forest_of_tree, joined_forests, forest_below_link_unless_empty}
use Rattle.symbols_paths.specs.DeclTargets.{DeclTargetView, defines, forwards, alias}
use Rattle.symbols_paths.specs.PartTargets.{PartTargetView, part_is_symbol, itself, part_is_unresolved, SearchTargets, search_targets_of}
use Rattle.symbols_paths.specs.Derived.{decl_of_symbol_at_index, definition_of_decl, link_head_of_forward, alias_link_head, part_link_head}
use Rattle.symbols_paths.specs.Derived.{link_head_with_parts_replaced}
use Rattle.symbols_paths.specs.Choice.{is_visited, is_alias_being_resolved, forest_of_unresolved}

-- the paths, and the symbols visited after the search
pub record SearchResult : Type 0 where
  pub paths : PathForest
  pub visited : List SymbolBySpecifier

-- the search of a symbol, from the symbols visited before
abbrev pub SymbolSearch : Type 0
SymbolSearch = List SymbolBySpecifier → SymbolBySpecifier → SearchResult

-- the paths of an alias, given by its declaration, its symbol and its parts
abbrev pub AliasSearch : Type 0
AliasSearch = DeclBySpecifier → SymbolBySpecifier → QualifiedNameParts → PathForest

abbrev pub first_result_with_paths : PathForest → SearchResult → SearchResult → SearchResult
first_result_with_paths no_trees found next = next
first_result_with_paths (more_trees t f) found next = found

-- the paths of the first candidate that has any, else the unresolved entry
abbrev pub search_candidates : SymbolSearch → List SymbolBySpecifier → List SymbolBySpecifier → Option UnresolvedEntry → SearchResult
search_candidates search visited [] otherwise = record { paths = forest_of_unresolved otherwise; visited = visited }
search_candidates search visited (c ∷ cs) otherwise =
    first_result_with_paths (search visited c).paths (search visited c) (search_candidates search (search visited c).visited cs otherwise)

abbrev pub search_decl_target : AliasSearch → SymbolSearch → List SymbolBySpecifier → SymbolBySpecifier → ℕ → DeclTargetView → SearchResult
search_decl_target resolve search visited s i (defines range star) =
    record { paths = forest_of_tree (leaf (definition (definition_of_decl s i range star))); visited = visited }
search_decl_target resolve search visited s i (forwards forward) =
    record {
      paths = forest_below_link_unless_empty (link_head_of_forward s i forward) (search_candidates search visited forward.candidates forward.otherwise).paths;
      visited = (search_candidates search visited forward.candidates forward.otherwise).visited;
    }
search_decl_target resolve search visited s i (alias t ps) =
    record { paths = forest_below_link_unless_empty (alias_link_head s i ps) (resolve (decl_of_symbol_at_index s i) t ps); visited = visited }

-- the paths of the declarations, in order
abbrev pub search_decl_targets : AliasSearch → SymbolSearch → List SymbolBySpecifier → SymbolBySpecifier → ℕ → List DeclTargetView → SearchResult
search_decl_targets resolve search visited s i [] = record { paths = no_trees; visited = visited }
search_decl_targets resolve search visited s i (x ∷ xs) =
    let first = search_decl_target resolve search visited s i x in
    let rest = search_decl_targets resolve search first.visited s (i + 1) xs in
    record { paths = joined_forests first.paths rest.paths; visited = rest.visited }

-- the paths of a symbol. The search expands each symbol once, and at most `depth` symbols within one another.
unfoldable pub search_symbol_to_depth : SearchTargets → AliasSearch → ℕ → SymbolSearch
search_symbol_to_depth routes resolve zero visited s = record { paths = no_trees; visited = visited }
search_symbol_to_depth routes resolve (suc depth) visited s = if is_visited visited s then record { paths = no_trees; visited = visited }
    else search_decl_targets resolve (search_symbol_to_depth routes resolve depth) (visited ++ s ∷ []) s 0 (routes.decl_targets s)

-- the replacement of a definition
abbrev pub search_part_target : SymbolSearch → List SymbolBySpecifier → DefinitionView → QualifiedNameParts → PartTargetView → SearchResult
search_part_target walk visited x ps (part_is_symbol t) =
    record { paths = forest_below_link_unless_empty (part_link_head x ps) (walk visited t).paths; visited = (walk visited t).visited }
search_part_target walk visited x ps itself = record { paths = forest_of_tree (leaf (definition x)); visited = visited }
search_part_target walk visited x ps (part_is_unresolved m) =
    record { paths = forest_of_tree (link (part_link_head x ps) (forest_of_tree (leaf (unresolved m)))); visited = visited }

-- paths whose definitions are replaced, by the search under the parts after the first
abbrev mutual
  pub resolve_parts_in_tree : SearchTargets → SymbolSearch → List ℕ → QualifiedNameParts → PathTree → List SymbolBySpecifier → SearchResult
  resolve_parts_in_tree routes walk p ps (leaf (unresolved m)) visited = record { paths = forest_of_tree (leaf (unresolved m)); visited = visited }
  resolve_parts_in_tree routes walk p ps (leaf (definition x)) visited = search_part_target walk visited x (p ∷ ps) (routes.part x p ps)
  resolve_parts_in_tree routes walk p ps (link head next) visited =
      let next_changed = resolve_parts_in_forest routes walk p ps next visited in
      record { paths = forest_below_link_unless_empty (link_head_with_parts_replaced head (p ∷ ps)) next_changed.paths; visited = next_changed.visited }

  pub resolve_parts_in_forest : SearchTargets → SymbolSearch → List ℕ → QualifiedNameParts → PathForest → List SymbolBySpecifier → SearchResult
  resolve_parts_in_forest routes walk p ps no_trees visited = record { paths = no_trees; visited = visited }
  resolve_parts_in_forest routes walk p ps (more_trees t f) visited =
      let first = resolve_parts_in_tree routes walk p ps t visited in
      let rest = resolve_parts_in_forest routes walk p ps f first.visited in
      record { paths = joined_forests first.paths rest.paths; visited = rest.visited }

-- the search under parts
abbrev pub search_with_parts : SearchTargets → SymbolSearch → QualifiedNameParts → SymbolSearch
search_with_parts routes search [] visited s = search visited s
search_with_parts routes search (p ∷ ps) visited s =
    resolve_parts_in_forest routes (search_with_parts routes search ps) p ps (search visited s).paths (search visited s).visited

-- more symbols than any search can expand, and more aliases than can be resolved within one another: fewer symbols and declarations can be
-- numbered
abbrev pub search_limit : ℕ
search_limit = 2 ^ 64

-- the paths of an alias while those in `running` are being resolved; at most `depth` more are resolved within one another
unfoldable pub alias_paths_to_depth : SearchTargets → ℕ → List DeclBySpecifier → AliasSearch
alias_paths_to_depth routes zero running decl t ps = no_trees
alias_paths_to_depth routes (suc depth) running decl t ps = if is_alias_being_resolved running decl then no_trees
    else (search_with_parts routes (search_symbol_to_depth routes (alias_paths_to_depth routes depth (running ++ decl ∷ [])) search_limit) ps [] t).paths

-- the paths of a symbol under parts: no other list is chosen
unfoldable pub paths_with_parts : Rules → GraphView → SymbolBySpecifier → QualifiedNameParts → PathForest
paths_with_parts rules graph s ps = (search_with_parts (search_targets_of rules graph)
    (search_symbol_to_depth (search_targets_of rules graph) (alias_paths_to_depth (search_targets_of rules graph) search_limit []) search_limit) ps [] s).paths

-- the paths of a symbol, without parts
abbrev pub definition_paths_of : Rules → GraphView → SymbolBySpecifier → PathForest
definition_paths_of rules graph s = paths_with_parts rules graph s []
