-- The lists of paths that can be derived for a symbol, from any of the candidates.
use Rattle.std.specs.Prelude.{◌≡◌, ℕ, ◌+◌, List, [], ◌∷◌, Some, Option, Contains}
use Rattle.symbols_ast.specs.declared.tree.arena.SourceRange.{SourceRange}
use Rattle.symbols_table.specs.DeclViews.{FileDepView}
use Rattle.symbols_paths.specs.PathTrees.{SymbolBySpecifier, DeclBySpecifier, QualifiedNameParts, DefinitionView, UnresolvedEntry, definition, unresolved}
use Rattle.symbols_paths.specs.PathTrees.{LinkHead, PathTree, PathForest, leaf, link, no_trees, more_trees, forest_of_tree}
use Rattle.symbols_paths.specs.DeclTargets.{ForwardTarget, DeclTargetView, defines, forwards, alias}
use Rattle.symbols_paths.specs.PartTargets.{part_is_symbol, itself, part_is_unresolved, SearchTargets}

abbrev pub decl_of_symbol_at_index : SymbolBySpecifier → ℕ → DeclBySpecifier
decl_of_symbol_at_index s i = record { symbol = s; index = i }

-- a declaration as a definition or a star import
abbrev pub definition_of_decl : SymbolBySpecifier → ℕ → SourceRange → Option FileDepView → DefinitionView
definition_of_decl s i range star = record { decl = decl_of_symbol_at_index s i; range = range; star = star }

-- the link of a declaration that forwards
abbrev pub link_head_of_forward : SymbolBySpecifier → ℕ → ForwardTarget → LinkHead
link_head_of_forward s i forward = record { symbol = forward.symbol; decl = decl_of_symbol_at_index s i; parts = forward.parts }

-- the link of an alias
abbrev pub alias_link_head : SymbolBySpecifier → ℕ → QualifiedNameParts → LinkHead
alias_link_head s i ps = record { symbol = s; decl = decl_of_symbol_at_index s i; parts = ps }

-- the link that replaces a definition in which parts are resolved
abbrev pub part_link_head : DefinitionView → QualifiedNameParts → LinkHead
part_link_head x ps = record { symbol = x.decl.symbol; decl = x.decl; parts = ps }

-- the same link, with these parts instead of its own
abbrev pub link_head_with_parts_replaced : LinkHead → QualifiedNameParts → LinkHead
link_head_with_parts_replaced head ps = record { symbol = head.symbol; decl = head.decl; parts = ps }

mutual
  -- at most one path for each declaration, in order from the index on
  pub data IsForestOfDeclsByAnyCandidates (routes : SearchTargets) : SymbolBySpecifier → ℕ → List DeclTargetView → PathForest → Type 0 where
    no_decl_left : {s : SymbolBySpecifier} {i : ℕ} → IsForestOfDeclsByAnyCandidates routes s i [] no_trees
    decl_without_path : {s : SymbolBySpecifier} {i : ℕ} {x : DeclTargetView} {xs : List DeclTargetView} {f : PathForest}
        → IsForestOfDeclsByAnyCandidates routes s (i + 1) xs f
        → IsForestOfDeclsByAnyCandidates routes s i (x ∷ xs) f
    decl_with_path : {s : SymbolBySpecifier} {i : ℕ} {x : DeclTargetView} {xs : List DeclTargetView} {t : PathTree} {f : PathForest}
        → IsPathOfDeclByAnyCandidate routes s i x t
        → IsForestOfDeclsByAnyCandidates routes s (i + 1) xs f → IsForestOfDeclsByAnyCandidates routes s i (x ∷ xs) (more_trees t f)

  -- the path of a declaration. A definition is a leaf. A forward is a link, in front of a list derived for one candidate, which isn't
  -- empty, or of the unresolved entry. An alias is a link in front of a list derived for its symbol under its parts, which isn't empty.
  pub data IsPathOfDeclByAnyCandidate (routes : SearchTargets) : SymbolBySpecifier → ℕ → DeclTargetView → PathTree → Type 0 where
    path_is_definition : {s : SymbolBySpecifier} {i : ℕ} {range : SourceRange} {star : Option FileDepView}
        → IsPathOfDeclByAnyCandidate routes s i (defines range star) (leaf (definition (definition_of_decl s i range star)))
    via_any_candidate : {s : SymbolBySpecifier} {i : ℕ} {forward : ForwardTarget} {t : PathTree} {f : PathForest} (c : SymbolBySpecifier)
        → Contains forward.candidates c
        → IsForestOfDeclsByAnyCandidates routes c 0 (routes.decl_targets c) (more_trees t f)
        → IsPathOfDeclByAnyCandidate routes s i (forwards forward) (link (link_head_of_forward s i forward) (more_trees t f))
    by_unresolved_entry : {s : SymbolBySpecifier} {i : ℕ} {forward : ForwardTarget} (missing : UnresolvedEntry) → forward.otherwise ≡ Some missing
        → IsPathOfDeclByAnyCandidate routes s i (forwards forward) (link (link_head_of_forward s i forward) (forest_of_tree (leaf (unresolved missing))))
    via_alias : {s t : SymbolBySpecifier} {i : ℕ} {ps : QualifiedNameParts} {x : PathTree} {f : PathForest} → IsForestWithPartsByAnyCandidates routes t ps
        (more_trees x f)
        → IsPathOfDeclByAnyCandidate routes s i (alias t ps) (link (alias_link_head s i ps) (more_trees x f))

  -- under parts: a list derived for the symbol, with each path changed or dropped
  pub data IsForestWithPartsByAnyCandidates (routes : SearchTargets) : SymbolBySpecifier → QualifiedNameParts → PathForest → Type 0 where
    no_parts : {s : SymbolBySpecifier} {f : PathForest} → IsForestOfDeclsByAnyCandidates routes s 0 (routes.decl_targets s) f
        → IsForestWithPartsByAnyCandidates routes s [] f
    under : {s : SymbolBySpecifier} {p : List ℕ} {ps : QualifiedNameParts} {f g : PathForest} → IsForestOfDeclsByAnyCandidates routes s 0
        (routes.decl_targets s) f
        → IsForestWithPartsResolved routes p ps f g
        → IsForestWithPartsByAnyCandidates routes s (p ∷ ps) g

  -- some paths changed, the others dropped
  pub data IsForestWithPartsResolved (routes : SearchTargets) : List ℕ → QualifiedNameParts → PathForest → PathForest → Type 0 where
    no_path_left : {p : List ℕ} {ps : QualifiedNameParts} → IsForestWithPartsResolved routes p ps no_trees no_trees
    dropped : {p : List ℕ} {ps : QualifiedNameParts} {t : PathTree} {f g : PathForest} → IsForestWithPartsResolved routes p ps f g
        → IsForestWithPartsResolved routes p ps (more_trees t f) g
    changed : {p : List ℕ} {ps : QualifiedNameParts} {t u : PathTree} {f g : PathForest} → IsTreeWithPartsResolved routes p ps t u
        → IsForestWithPartsResolved routes p ps f g
        → IsForestWithPartsResolved routes p ps (more_trees t f) (more_trees u g)

  -- a changed path. An unresolved entry stays. A link gets the parts, and its next paths are changed, of which one is left at least. A
  -- definition stays, or is replaced by a link: in front of a list derived for the symbol of the part, or of the unresolved entry.
  pub data IsTreeWithPartsResolved (routes : SearchTargets) : List ℕ → QualifiedNameParts → PathTree → PathTree → Type 0 where
    unresolved_leaf_stays : {p : List ℕ} {ps : QualifiedNameParts} {m : UnresolvedEntry} → IsTreeWithPartsResolved routes p ps (leaf (unresolved m))
        (leaf (unresolved m))
    link_gets_parts : {p : List ℕ} {ps : QualifiedNameParts} {head : LinkHead} {f g : PathForest} {x : PathTree}
        → IsForestWithPartsResolved routes p ps f (more_trees x g)
        → IsTreeWithPartsResolved routes p ps (link head f) (link (link_head_with_parts_replaced head (p ∷ ps)) (more_trees x g))
    via_next_symbol : {p : List ℕ} {ps : QualifiedNameParts} {y : DefinitionView} {t : SymbolBySpecifier} {x : PathTree} {g : PathForest} → routes.part y p ps
        ≡ part_is_symbol t
        → IsForestWithPartsByAnyCandidates routes t ps (more_trees x g)
        → IsTreeWithPartsResolved routes p ps (leaf (definition y)) (link (part_link_head y (p ∷ ps)) (more_trees x g))
    definition_stays_itself : {p : List ℕ} {ps : QualifiedNameParts} {y : DefinitionView} → routes.part y p ps ≡ itself
        → IsTreeWithPartsResolved routes p ps (leaf (definition y)) (leaf (definition y))
    definition_lacks_part : {p : List ℕ} {ps : QualifiedNameParts} {y : DefinitionView} {m : UnresolvedEntry} → routes.part y p ps ≡ part_is_unresolved m
        → IsTreeWithPartsResolved routes p ps (leaf (definition y)) (link (part_link_head y (p ∷ ps)) (forest_of_tree (leaf (unresolved m))))

abbrev pub IsForestByAnyCandidates : SearchTargets → SymbolBySpecifier → PathForest → Type 0
IsForestByAnyCandidates routes s f = IsForestOfDeclsByAnyCandidates routes s 0 (routes.decl_targets s) f
