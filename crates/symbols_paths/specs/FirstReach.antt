-- The leaves of a symbol, without and under parts, and the leaves of first reach, which no list of paths loses.
use Rattle.std.specs.Prelude.{◌≡◌, ℕ, List, [], ◌∷◌, ◌++◌, Bool, true, false, if◌then◌else◌, Some, slice_get, Contains}
use Rattle.std.specs.Option.{option_map_or}
use Rattle.symbols_ast.specs.Graph.{GraphView}
use Rattle.symbols_root.specs.declared.rules.Rules.{Rules}
use Rattle.symbols_paths.specs.PathTrees.{SymbolBySpecifier, DeclBySpecifier, QualifiedNameParts, DefinitionView, UnresolvedEntry, no_part, PathLeaf}
use Rattle.symbols_paths.specs.PathTrees.{definition}
use Rattle.symbols_paths.specs.PathTrees.{unresolved, PathTree, PathForest, leaf, link, no_trees, more_trees}
use Rattle.symbols_paths.specs.DeclTargets.{DeclTargetView, DeclTargets, defines, forwards, alias}
use Rattle.symbols_paths.specs.DeclTargets.{IsTargetOfNthDecl, re_exported_symbols_by_rules, decl_targets_of}
use Rattle.symbols_paths.specs.PartTargets.{part_is_symbol, itself, part_is_unresolved, SearchTargets, search_targets_of}
use Rattle.symbols_paths.specs.Derived.{definition_of_decl}

-- what a declaration gives itself: a leaf, which is its definition or its unresolved entry; and its candidates. An alias gives neither.
abbrev pub IsLeafOfDecl : SymbolBySpecifier → ℕ → DeclTargetView → PathLeaf → Type 0
IsLeafOfDecl s i (defines range star) x = x ≡ definition (definition_of_decl s i range star)
IsLeafOfDecl s i (forwards forward) x = (missing : UnresolvedEntry) × (forward.otherwise ≡ Some missing) × (x ≡ unresolved missing)
IsLeafOfDecl s i (alias t ps) x = ⊥

abbrev pub HasSymbolAsCandidate : DeclTargetView → SymbolBySpecifier → Type 0
HasSymbolAsCandidate (defines range star) t = ⊥
HasSymbolAsCandidate (forwards forward) t = Contains forward.candidates t
HasSymbolAsCandidate (alias u ps) t = ⊥

mutual
  -- the leaves of a symbol: those of its declarations themselves, those of their candidates, and those of its aliases' symbols under their
  -- parts
  pub data IsLeafOfSymbol (routes : SearchTargets) : SymbolBySpecifier → PathLeaf → Type 0 where
    leaf_of_decl_itself : {s : SymbolBySpecifier} {x : PathLeaf} (i : ℕ) (decl_target : DeclTargetView) → IsTargetOfNthDecl routes.decl_targets s i decl_target
        → IsLeafOfDecl s i decl_target x
        → IsLeafOfSymbol routes s x
    via_candidate : {s : SymbolBySpecifier} {x : PathLeaf} (i : ℕ) (decl_target : DeclTargetView) (t : SymbolBySpecifier)
        → IsTargetOfNthDecl routes.decl_targets s i decl_target
        → HasSymbolAsCandidate decl_target t → IsLeafOfSymbol routes t x → IsLeafOfSymbol routes s x
    via_alias : {s : SymbolBySpecifier} {x : PathLeaf} (i : ℕ) (t : SymbolBySpecifier) (ps : QualifiedNameParts)
        → IsTargetOfNthDecl routes.decl_targets s i (alias t ps)
        → IsLeafWithParts routes t ps x → IsLeafOfSymbol routes s x

  -- the leaves under parts. An unresolved leaf stays. A definition stays, or gives the unresolved entry, or the leaves of the part's symbol
  -- under the other parts.
  pub data IsLeafWithParts (routes : SearchTargets) : SymbolBySpecifier → QualifiedNameParts → PathLeaf → Type 0 where
    no_parts : {s : SymbolBySpecifier} {x : PathLeaf} → IsLeafOfSymbol routes s x → IsLeafWithParts routes s [] x
    unresolved_leaf_stays : {s : SymbolBySpecifier} {p : List ℕ} {ps : QualifiedNameParts} (m : UnresolvedEntry) → IsLeafOfSymbol routes s (unresolved m)
        → IsLeafWithParts routes s (p ∷ ps) (unresolved m)
    via_next_symbol : {s : SymbolBySpecifier} {p : List ℕ} {ps : QualifiedNameParts} {x : PathLeaf} (y : DefinitionView) (t : SymbolBySpecifier)
        → IsLeafOfSymbol routes s (definition y) → routes.part y p ps ≡ part_is_symbol t
        → IsLeafWithParts routes t ps x → IsLeafWithParts routes s (p ∷ ps) x
    definition_stays_itself : {s : SymbolBySpecifier} {p : List ℕ} {ps : QualifiedNameParts} (y : DefinitionView) → IsLeafOfSymbol routes s (definition y)
        → routes.part y p ps ≡ itself
        → IsLeafWithParts routes s (p ∷ ps) (definition y)
    definition_lacks_part : {s : SymbolBySpecifier} {p : List ℕ} {ps : QualifiedNameParts} (y : DefinitionView) (m : UnresolvedEntry) → IsLeafOfSymbol routes s
        (definition y)
        → routes.part y p ps ≡ part_is_unresolved m
        → IsLeafWithParts routes s (p ∷ ps) (unresolved m)

-- first reach: the definition of a declaration, or its unresolved entry if it has no candidate; of the candidates the first alone
abbrev pub IsLeafOfDeclWithoutCandidates : SymbolBySpecifier → ℕ → DeclTargetView → PathLeaf → Type 0
IsLeafOfDeclWithoutCandidates s i (defines range star) x = x ≡ definition (definition_of_decl s i range star)
IsLeafOfDeclWithoutCandidates s i (forwards forward) x = (forward.candidates ≡ [])
    × ((missing : UnresolvedEntry) × (forward.otherwise ≡ Some missing) × (x ≡ unresolved missing))
IsLeafOfDeclWithoutCandidates s i (alias t ps) x = ⊥

abbrev pub HasSymbolAsFirstCandidate : DeclTargetView → SymbolBySpecifier → Type 0
HasSymbolAsFirstCandidate (defines range star) t = ⊥
HasSymbolAsFirstCandidate (forwards forward) t = slice_get forward.candidates 0 ≡ Some t
HasSymbolAsFirstCandidate (alias u ps) t = ⊥

-- the symbols of first reach: those that first candidates lead to from `start`, through no alias
pub data IsReachedByFirstCandidates (routes : SearchTargets) (start : SymbolBySpecifier) : SymbolBySpecifier → Type 0 where
  at_search_start : IsReachedByFirstCandidates routes start start
  via_next_symbol : {t : SymbolBySpecifier} (s : SymbolBySpecifier) (i : ℕ) (decl_target : DeclTargetView) → IsReachedByFirstCandidates routes start s
      → IsTargetOfNthDecl routes.decl_targets s i decl_target → HasSymbolAsFirstCandidate decl_target t → IsReachedByFirstCandidates routes start t

-- a leaf of first reach: the leaf of a declaration of a symbol of first reach
pub record IsLeafByFirstCandidatesNoAlias (routes : SearchTargets) (start : SymbolBySpecifier) (x : PathLeaf) : Type 0 where
  pub symbol : SymbolBySpecifier
  pub index : ℕ
  pub decl_target : DeclTargetView
  pub is_reached_by_first_candidates : IsReachedByFirstCandidates routes start symbol
  pub occurs : IsTargetOfNthDecl routes.decl_targets symbol index decl_target
  pub is_leaf_of_decl : IsLeafOfDeclWithoutCandidates symbol index decl_target x

-- leaf `x` comes to leaf `y` under the parts `p ∷ ps`, without a search
pub data IsLeafWithPartsResolved (routes : SearchTargets) (p : List ℕ) (ps : QualifiedNameParts) : PathLeaf → PathLeaf → Type 0 where
  unresolved_leaf_stays : {m : UnresolvedEntry} → IsLeafWithPartsResolved routes p ps (unresolved m) (unresolved m)
  definition_stays_itself : {y : DefinitionView} → routes.part y p ps ≡ itself → IsLeafWithPartsResolved routes p ps (definition y) (definition y)
  leaf_lacks_part : {y : DefinitionView} {m : UnresolvedEntry} → routes.part y p ps ≡ part_is_unresolved m → IsLeafWithPartsResolved routes p ps (definition y)
      (unresolved m)

-- the same for any parts; without parts a leaf comes to itself
abbrev pub IsLeafWithAnyPartsResolved : SearchTargets → QualifiedNameParts → PathLeaf → PathLeaf → Type 0
IsLeafWithAnyPartsResolved routes [] x y = y ≡ x
IsLeafWithAnyPartsResolved routes (p ∷ ps) x y = IsLeafWithPartsResolved routes p ps x y

-- ---- leaves that no alias takes part in

abbrev pub is_alias_target : DeclTargetView → Bool
is_alias_target (alias t ps) = true
is_alias_target (defines range star) = false
is_alias_target (forwards forward) = false

-- the declaration is an alias
abbrev pub is_alias_decl_at : DeclTargets → DeclBySpecifier → Bool
is_alias_decl_at table decl = option_map_or is_alias_target (slice_get (table decl.symbol) decl.index) false

-- the leaves from left to right, without those after the link of an alias
abbrev mutual
  pub tree_leaves_outside_aliases : DeclTargets → PathTree → List PathLeaf
  tree_leaves_outside_aliases table (leaf x) = x ∷ []
  tree_leaves_outside_aliases table (link head next) = if is_alias_decl_at table head.decl then [] else leaves_outside_aliases table next

  pub leaves_outside_aliases : DeclTargets → PathForest → List PathLeaf
  leaves_outside_aliases table no_trees = []
  leaves_outside_aliases table (more_trees t f) = tree_leaves_outside_aliases table t ++ leaves_outside_aliases table f

-- an unresolved part of a module, unless after the link of an alias, occurs in `paths` only if `xs` has the leaves of first reach of all
-- candidates along its `export *` statements
abbrev pub HasCandidateLeavesIfPartUnresolved : Rules → GraphView → PathForest → List PathLeaf → Type 0
HasCandidateLeavesIfPartUnresolved rules graph paths xs =
    (specifier name : List ℕ) (parts : QualifiedNameParts)
    → Contains (leaves_outside_aliases (decl_targets_of rules graph) paths)
    (unresolved (record { specifier = specifier; reason = no_part name; parts = parts })) →
    (c : SymbolBySpecifier) → Contains (re_exported_symbols_by_rules rules graph specifier name) c → (x : PathLeaf)
    → IsLeafByFirstCandidatesNoAlias (search_targets_of rules graph) c x
    → Contains xs x
