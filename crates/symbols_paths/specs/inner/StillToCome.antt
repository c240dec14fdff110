-- What is still to come of a search that stands at a step, with the frames that wait. `go` is what holds of the paths and of the symbols
-- visited, once they have come.
use Rattle.std.specs.Prelude.{◌≡◌, ℕ, ◌+◌, ◌≤◌, List, [], ◌∷◌, ◌++◌, length, map, drop, slice_get, Option, None, Some}
use Rattle.std.specs.List.{filter_map}
use Rattle.symbols_ast.specs.declared.ids.ModuleId.{ModuleId}
use Rattle.symbols_ast.specs.declared.ids.UniqueSymbolId.{UniqueSymbolId}
use Rattle.symbols_root.specs.Roots.{RootView, specifier_in}
use Rattle.symbols_exports.specs.StarStatements.{star_targets_of}
use Rattle.symbols_paths.specs.declared.definition.Definition.{Definition}
use Rattle.symbols_paths.specs.declared.alias_decl.AliasDecl.{AliasDecl}
use Rattle.symbols_paths.specs.declared.search_step.Expansion.{Expansion}
use Rattle.symbols_paths.specs.declared.search_step.StarSearch.{StarSearch}
use Rattle.symbols_paths.specs.declared.search_step.PartsSearch.{PartsSearch}
use Rattle.symbols_paths.specs.declared.search_step.Frame.{Frame}
use Rattle.symbols_paths.specs.declared.search_step.Frame.TheVariants as frame
use Rattle.symbols_paths.specs.declared.search_step.Step.{Step}
use Rattle.symbols_paths.specs.declared.search_step.Step.TheVariants.{Search, Expand, TryStar, Replace, Found}
use Rattle.symbols_paths.specs.PathTrees.{SymbolBySpecifier, DeclBySpecifier, QualifiedNameParts, DefinitionView, UnresolvedEntry, no_part, LinkHead}
use Rattle.symbols_paths.specs.PathTrees.{PathForest, no_trees, more_trees, joined_forests, forest_below_link_unless_empty}
use Rattle.symbols_paths.specs.DeclTargets.{re_exported_symbol}
use Rattle.symbols_paths.specs.PartTargets.{SearchTargets, search_targets_of_root}
use Rattle.symbols_paths.specs.Derived.{alias_link_head, part_link_head}
use Rattle.symbols_paths.specs.Choice.{IsOutcomeOfSymbolSearch, IsOutcomeOfDeclListSearch, IsOutcomeOfCandidateSearch, IsOutcomeOfPartsInForest}
use Rattle.symbols_paths.specs.Computed.{search_limit}
use Rattle.symbols_paths.specs.Views.{decl_by_specifier, definition_by_specifier}
use Rattle.symbols_paths.specs.inner.Views.{symbol_of_unique_id}
use Rattle.symbols_paths.specs.inner.PathBuilders.{remaining_parts, built_paths, built_paths_of_option}
use Rattle.symbols_paths.specs.inner.ReplacedDefinitions.{forest_with_definitions_replaced, ReplacesInOrder}
use Rattle.symbols_paths.specs.inner.SearchSteps.{symbols_of_unique_ids, decls_of_aliases}

module _ (routes : SearchTargets) where
  -- a symbol is searched
  abbrev pub HoldsAfterSymbolSearch : (PathForest → List SymbolBySpecifier → Type 0) → List DeclBySpecifier → List SymbolBySpecifier → SymbolBySpecifier
      → Type 0
  HoldsAfterSymbolSearch go running visited s = (f : PathForest) × (after : List SymbolBySpecifier) × IsOutcomeOfSymbolSearch routes search_limit running
      visited s f after
      × go f after

  -- the declarations of a symbol from the index on are followed; those before it have the paths `found`
  abbrev pub HoldsAfterDeclListSearch : (PathForest → List SymbolBySpecifier → Type 0) → List DeclBySpecifier → List SymbolBySpecifier → SymbolBySpecifier → ℕ
      → PathForest
      → Type 0
  HoldsAfterDeclListSearch go running visited s i found = (f : PathForest) × (after : List SymbolBySpecifier)
      × IsOutcomeOfDeclListSearch routes search_limit running visited s i (drop i (routes.decl_targets s)) f after × go (joined_forests found f) after

  -- the same after the declaration at the index, whose link is in front of `next`
  abbrev pub HoldsAfterLinkAndLaterDecls : (PathForest → List SymbolBySpecifier → Type 0) → List DeclBySpecifier → SymbolBySpecifier → ℕ → PathForest → LinkHead
      → PathForest
      → List SymbolBySpecifier → Type 0
  HoldsAfterLinkAndLaterDecls go running s i found head next visited = HoldsAfterDeclListSearch go running visited s (i + 1)
      (joined_forests found (forest_below_link_unless_empty head next))

  -- candidates are tried
  abbrev pub HoldsAfterCandidateSearch : (PathForest → List SymbolBySpecifier → Type 0) → List DeclBySpecifier → List SymbolBySpecifier → List SymbolBySpecifier
      → Option UnresolvedEntry → Type 0
  HoldsAfterCandidateSearch go running visited cs otherwise = (f : PathForest) × (after : List SymbolBySpecifier)
      × IsOutcomeOfCandidateSearch routes search_limit running visited cs otherwise f after × go f after

  -- the same after a candidate was found to have these paths
  abbrev pub HoldsAfterFirstCandidatePaths : (PathForest → List SymbolBySpecifier → Type 0) → List DeclBySpecifier → List SymbolBySpecifier
      → Option UnresolvedEntry → PathForest
      → List SymbolBySpecifier → Type 0
  HoldsAfterFirstCandidatePaths go running cs otherwise no_trees visited = HoldsAfterCandidateSearch go running visited cs otherwise
  HoldsAfterFirstCandidatePaths go running cs otherwise (more_trees t f) visited = go (more_trees t f) visited

  -- parts are resolved in the definitions of paths
  abbrev pub HoldsAfterPartsInForest : (PathForest → List SymbolBySpecifier → Type 0) → List DeclBySpecifier → QualifiedNameParts → PathForest
      → List SymbolBySpecifier → Type 0
  HoldsAfterPartsInForest go running [] f visited = go f visited
  HoldsAfterPartsInForest go running (p ∷ ps) f visited = (g : PathForest) × (after : List SymbolBySpecifier)
      × IsOutcomeOfPartsInForest routes search_limit running visited p ps f g after × go g after

  -- the definitions `left` of paths are replaced; those before them have the replacements `gs`
  abbrev pub HoldsAfterReplacedDefinitions : (PathForest → List SymbolBySpecifier → Type 0) → List DeclBySpecifier → QualifiedNameParts → PathForest
      → List PathForest
      → List DefinitionView → List SymbolBySpecifier → Type 0
  HoldsAfterReplacedDefinitions go running [] f gs left visited = go f visited
  HoldsAfterReplacedDefinitions go running (p ∷ ps) f gs left visited = (hs : List PathForest) × (after : List SymbolBySpecifier)
      × ReplacesInOrder routes search_limit running visited p ps left hs after × go (forest_with_definitions_replaced (p ∷ ps) f (gs ++ hs)).0 after

-- the alias whose declaration is at the index
abbrev pub alias_at_current_decl : Expansion → AliasDecl
alias_at_current_decl here = record { «module» = here.symbol.module_id; decl = record { symbol = here.symbol.symbol_id; index = here.index } }

-- the aliases being resolved: those before the search, and those that wait, the innermost last
abbrev pub aliases_with_frames : List AliasDecl → List Frame → List AliasDecl
aliases_with_frames before [] = before
aliases_with_frames before (frame.Link here t ∷ frames) = aliases_with_frames before frames
aliases_with_frames before (frame.Star w ∷ frames) = aliases_with_frames before frames
aliases_with_frames before (frame.Alias w ∷ frames) = aliases_with_frames before frames ++ alias_at_current_decl w.value.here ∷ []
aliases_with_frames before (frame.Parts ps ∷ frames) = aliases_with_frames before frames
aliases_with_frames before (frame.Replacement w ∷ frames) = aliases_with_frames before frames

-- the link of the declaration at the index, with this symbol
abbrev pub link_head_of_current_decl : RootView → Expansion → UniqueSymbolId → LinkHead
link_head_of_current_decl root here t = record {
  symbol = symbol_of_unique_id root t;
  decl = decl_by_specifier root t.module_id (record { symbol = here.symbol.symbol_id; index = here.index });
  parts = [];
}

-- the unresolved entry if no candidate has a path
abbrev pub unresolved_entry_of_missing_export : RootView → ModuleId → List ℕ → Option UnresolvedEntry
unresolved_entry_of_missing_export root id name = Some (record { specifier = specifier_in root id; reason = no_part name; parts = [] })

-- the candidates along the `export *` statements from the position on
abbrev pub remaining_star_candidates : RootView → StarSearch → List SymbolBySpecifier
remaining_star_candidates root w = filter_map (re_exported_symbol root.graph w.name.now)
    (drop w.position (star_targets_of root.graph (specifier_in root w.module_id)))

abbrev pub forest_found_before_current_decl : RootView → Expansion → PathForest
forest_found_before_current_decl root here = built_paths root here.paths.items

abbrev pub replacements_before : RootView → PartsSearch → List PathForest
replacements_before root w = map (built_paths_of_option root) w.replacements.items

abbrev pub definitions_to_replace_from_index : RootView → PartsSearch → ℕ → List DefinitionView
definitions_to_replace_from_index root w n = map (definition_by_specifier root) (drop n w.definitions.items)

module _ (root : RootView) (go : PathForest → List SymbolBySpecifier → Type 0) (running : List DeclBySpecifier) where
  -- the declaration at the index has its link in front of `f`
  abbrev pub HoldsAfterLinkAtCurrentDecl : Expansion → LinkHead → PathForest → List SymbolBySpecifier → Type 0
  HoldsAfterLinkAtCurrentDecl here head f after =
      HoldsAfterLinkAndLaterDecls (search_targets_of_root root) go running (symbol_of_unique_id root here.symbol) here.index
      (forest_found_before_current_decl root here) head f after

  abbrev pub HoldsAfterLinkOfStarSearch : StarSearch → PathForest → List SymbolBySpecifier → Type 0
  HoldsAfterLinkOfStarSearch w f after = HoldsAfterLinkAtCurrentDecl w.here (link_head_of_current_decl root w.here w.here.symbol) f after

  -- the definition in hand has a link in front of `f` as its replacement
  abbrev pub HoldsAfterCurrentReplacement : PartsSearch → Option Definition → PathForest → List SymbolBySpecifier → Type 0
  HoldsAfterCurrentReplacement w None f after = ⊥
  HoldsAfterCurrentReplacement w (Some x) f after = HoldsAfterReplacedDefinitions (search_targets_of_root root) go running (remaining_parts w.parts)
      (built_paths root w.paths.items)
      (replacements_before root w ++ forest_below_link_unless_empty (part_link_head (definition_by_specifier root x) (remaining_parts w.parts)) f ∷ [])
      (definitions_to_replace_from_index root w (length w.replacements.items + 1)) after

-- in a root, after a search that found the paths `F` and has visited the symbols `A`; `before` are the aliases resolved before it
module _ (root : RootView) (before : List AliasDecl) (F : PathForest) (A : List SymbolBySpecifier) where
  abbrev running_with : List Frame → List DeclBySpecifier
  running_with frames = decls_of_aliases root (aliases_with_frames before frames)

  -- what the first frame waits for came to the paths `f` and the visited symbols `after`
  abbrev pub FramesUnwindToResult : List Frame → PathForest → List SymbolBySpecifier → Type 0
  FramesUnwindToResult [] f after = (f ≡ F) × (after ≡ A)
  FramesUnwindToResult (frame.Link here t ∷ frames) f after = HoldsAfterLinkAtCurrentDecl root (FramesUnwindToResult frames) (running_with frames) here
      (link_head_of_current_decl root here t) f after
  FramesUnwindToResult (frame.Star w ∷ frames) f after = HoldsAfterFirstCandidatePaths (search_targets_of_root root)
      (HoldsAfterLinkOfStarSearch root (FramesUnwindToResult frames) (running_with frames) w.value)
      (running_with frames) (remaining_star_candidates root w.value) (unresolved_entry_of_missing_export root w.value.module_id w.value.name.now) f after
  FramesUnwindToResult (frame.Alias w ∷ frames) f after = (length after ≤ search_limit)
      × HoldsAfterLinkAtCurrentDecl root (FramesUnwindToResult frames) (running_with frames) w.value.here
      (alias_link_head (symbol_of_unique_id root w.value.here.symbol) w.value.here.index (remaining_parts w.value.parts)) f
      (symbols_of_unique_ids root w.value.visited.keys)
  FramesUnwindToResult (frame.Parts ps ∷ frames) f after = HoldsAfterPartsInForest (search_targets_of_root root) (FramesUnwindToResult frames)
      (running_with frames) (remaining_parts ps) f after
  FramesUnwindToResult (frame.Replacement w ∷ frames) f after =
      HoldsAfterCurrentReplacement root (FramesUnwindToResult frames) (running_with frames) w.value
      (slice_get w.value.definitions.items (length w.value.replacements.items)) f after

  -- what comes of a step
  abbrev pub StepLeadsToResult : List UniqueSymbolId → List Frame → Step → Type 0
  StepLeadsToResult visited frames (Search s) =
      HoldsAfterSymbolSearch (search_targets_of_root root) (FramesUnwindToResult frames) (running_with frames) (symbols_of_unique_ids root visited)
      (symbol_of_unique_id root s)
  StepLeadsToResult visited frames (Expand here) = HoldsAfterDeclListSearch (search_targets_of_root root) (FramesUnwindToResult frames) (running_with frames)
      (symbols_of_unique_ids root visited) (symbol_of_unique_id root here.symbol) here.index (forest_found_before_current_decl root here)
  StepLeadsToResult visited frames (TryStar w) = HoldsAfterCandidateSearch (search_targets_of_root root)
      (HoldsAfterLinkOfStarSearch root (FramesUnwindToResult frames) (running_with frames) w.value)
      (running_with frames) (symbols_of_unique_ids root visited) (remaining_star_candidates root w.value)
      (unresolved_entry_of_missing_export root w.value.module_id w.value.name.now)
  StepLeadsToResult visited frames (Replace w) = HoldsAfterReplacedDefinitions (search_targets_of_root root) (FramesUnwindToResult frames) (running_with frames)
      (remaining_parts w.value.parts) (built_paths root w.value.paths.items) (replacements_before root w.value)
      (definitions_to_replace_from_index root w.value (length w.value.replacements.items)) (symbols_of_unique_ids root visited)
  StepLeadsToResult visited frames (Found paths) = FramesUnwindToResult frames (built_paths root paths.items) (symbols_of_unique_ids root visited)
