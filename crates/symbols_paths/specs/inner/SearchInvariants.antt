-- What holds before each step of a search, and what a step keeps.
use Rattle.std.specs.Prelude.{◌≡◌, ℕ, ◌+◌, ◌<◌, ◌≤◌, ◌^◌, Bool, true, false, List, [], ◌∷◌, length, map, Contains}
use Rattle.symbols_ast.specs.declared.ids.UniqueSymbolId.{UniqueSymbolId}
use Rattle.symbols_root.specs.Roots.{RootView, specifier_in}
use Rattle.symbols_root.specs.Growing.{HasGrown}
use Rattle.symbols_root.specs.Calls.{IsStored}
use Rattle.symbols_paths.specs.declared.alias_decl.AliasDecl.{AliasDecl}
use Rattle.symbols_paths.specs.declared.path_builder.PathBuilder.{PathBuilder}
use Rattle.symbols_paths.specs.declared.search_step.Expansion.{Expansion}
use Rattle.symbols_paths.specs.declared.search_step.StarSearch.{StarSearch}
use Rattle.symbols_paths.specs.declared.search_step.PartsSearch.{PartsSearch}
use Rattle.symbols_paths.specs.declared.search_step.Frame.{Frame}
use Rattle.symbols_paths.specs.declared.search_step.Frame.TheVariants as frame
use Rattle.symbols_paths.specs.declared.search_step.Step.{Step}
use Rattle.symbols_paths.specs.declared.search_step.SearchState.{SearchState}
use Rattle.symbols_paths.specs.declared.search_step.Step.TheVariants.{Search, Expand, TryStar, Replace, Found}
use Rattle.symbols_paths.specs.PathTrees.{SymbolBySpecifier, QualifiedNameParts, DefinitionView, PathForest, joined_forests}
use Rattle.symbols_paths.specs.NeededModules.{IsModuleNeededBySearch, IsPartResolvedBySearch}
use Rattle.symbols_paths.specs.Views.{definition_by_specifier, module_of_definition, AreModulesStored}
use Rattle.symbols_paths.specs.inner.PathBuilders.{remaining_parts, built_paths, modules_of_builders, builders_among}
use Rattle.symbols_paths.specs.inner.ReplacedDefinitions.{definitions_of_forest}
use Rattle.symbols_paths.specs.inner.Needed.{IsNeededAlongStarsOf, IsStarImportDeclared}
use Rattle.symbols_paths.specs.inner.SearchSteps.{AreModulesOfSymbolsStored, AreModulesOfAliasesStored, symbols_of_unique_ids}
use Rattle.symbols_paths.specs.inner.StillToCome.{aliases_with_frames, StepLeadsToResult}
use Rattle.symbols_paths.specs.inner.SearchWork.{remaining_search_work}

-- where a search began: the module, the parts, the aliases being resolved, and the number of symbols visited
pub record SearchStart : Type 0 where
  pub specifier : List ℕ
  pub parts : QualifiedNameParts
  pub running : List AliasDecl
  pub visited : ℕ

-- a search under the parts that wait for it
abbrev pub parts_of_top_frame : List Frame → QualifiedNameParts
parts_of_top_frame [] = []
parts_of_top_frame (frame.Parts ps ∷ frames) = remaining_parts ps
parts_of_top_frame (frame.Link here t ∷ frames) = []
parts_of_top_frame (frame.Star w ∷ frames) = []
parts_of_top_frame (frame.Alias w ∷ frames) = []
parts_of_top_frame (frame.Replacement w ∷ frames) = []

abbrev pub search_start_at_symbol : RootView → List AliasDecl → List UniqueSymbolId → List Frame → UniqueSymbolId → SearchStart
search_start_at_symbol root running visited frames s =
    record { specifier = specifier_in root s.module_id; parts = parts_of_top_frame frames; running = running; visited = length visited }

-- the modules and parts that the search may need
abbrev pub IsNeededBySearchFromStart : SearchStart → RootView → List ℕ → Type 0
IsNeededBySearchFromStart start root v = IsModuleNeededBySearch root.rules root.graph start.specifier start.parts v

abbrev pub ArePartsResolvedBySearch : SearchStart → RootView → QualifiedNameParts → Type 0
ArePartsResolvedBySearch start root ps = (part : List ℕ) → Contains ps part → IsPartResolvedBySearch root.rules root.graph start.specifier start.parts part

-- a definition of a needed module; if it is a star import, it is declared there
pub record IsDefinitionOfNeededModule (start : SearchStart) (root : RootView) (x : DefinitionView) : Type 0 where
  pub needed : IsNeededBySearchFromStart start root x.decl.symbol.specifier
  pub declared : IsStarImportDeclared root.graph x

abbrev pub AreDefinitionsOfNeededModules : SearchStart → RootView → List DefinitionView → Type 0
AreDefinitionsOfNeededModules start root xs = (x : DefinitionView) → Contains xs x → IsDefinitionOfNeededModule start root x

-- the modules of paths are stored, and in every later root their definitions are needed
pub record ArePathsOfNeededModules (start : SearchStart) (root : RootView) (paths : List PathBuilder) : Type 0 where
  pub stored : AreModulesStored root (modules_of_builders paths)
  pub needed : (later : RootView) → HasGrown root later → AreDefinitionsOfNeededModules start later (definitions_of_forest (built_paths later paths))

pub record IsExpansionOfNeededModule (start : SearchStart) (root : RootView) (here : Expansion) : Type 0 where
  pub stored : IsStored root here.symbol.module_id
  pub needed : IsNeededBySearchFromStart start root (specifier_in root here.symbol.module_id)
  pub paths : ArePathsOfNeededModules start root here.paths.items

-- a symbol at one of its declarations
pub record IsExpansionWhoseNextIndexFits (start : SearchStart) (root : RootView) (here : Expansion) : Type 0 where
  pub expansion : IsExpansionOfNeededModule start root here
  pub fits : here.index + 1 < 2 ^ 32

pub record IsStarSearchOfNeededModules (start : SearchStart) (root : RootView) (w : StarSearch) : Type 0 where
  pub here : IsExpansionWhoseNextIndexFits start root w.here
  pub stored : IsStored root w.module_id
  pub needed : (v : List ℕ) → IsNeededAlongStarsOf root w.module_id w.name.now v → IsNeededBySearchFromStart start root v

pub record IsPartsSearchOfNeededModules (start : SearchStart) (root : RootView) (w : PartsSearch) : Type 0 where
  pub some : 0 < length (remaining_parts w.parts)
  pub parts : ArePartsResolvedBySearch start root (remaining_parts w.parts)
  pub paths : AreModulesStored root (modules_of_builders w.paths.items)
  pub stored : AreModulesStored root (map module_of_definition w.definitions.items)
  pub definitions : (later : RootView) → HasGrown root later → AreDefinitionsOfNeededModules start later
      (map (definition_by_specifier later) w.definitions.items)
  pub replacements : ArePathsOfNeededModules start root (builders_among w.replacements.items)

-- no more symbols are visited than a set can hold, in the search of an alias, and in the first one if there weren't before
abbrev pub AreVisitedSymbolsFewEnoughForSet : SearchStart → List Frame → ℕ → Type 0
AreVisitedSymbolsFewEnoughForSet start [] n = start.visited ≤ 2 ^ 64 → n ≤ 2 ^ 64
AreVisitedSymbolsFewEnoughForSet start (frame.Link here t ∷ frames) n = AreVisitedSymbolsFewEnoughForSet start frames n
AreVisitedSymbolsFewEnoughForSet start (frame.Star w ∷ frames) n = AreVisitedSymbolsFewEnoughForSet start frames n
AreVisitedSymbolsFewEnoughForSet start (frame.Alias w ∷ frames) n = n ≤ 2 ^ 64
AreVisitedSymbolsFewEnoughForSet start (frame.Parts ps ∷ frames) n = AreVisitedSymbolsFewEnoughForSet start frames n
AreVisitedSymbolsFewEnoughForSet start (frame.Replacement w ∷ frames) n = AreVisitedSymbolsFewEnoughForSet start frames n

abbrev pub AreFramesOfNeededModules : SearchStart → RootView → List Frame → Type 0
AreFramesOfNeededModules start root [] = Unit {0}
AreFramesOfNeededModules start root (frame.Link here t ∷ frames) = IsExpansionWhoseNextIndexFits start root here × IsStored root t.module_id
    × AreFramesOfNeededModules start root frames
AreFramesOfNeededModules start root (frame.Star w ∷ frames) = IsStarSearchOfNeededModules start root w.value × AreFramesOfNeededModules start root frames
AreFramesOfNeededModules start root (frame.Alias w ∷ frames) = IsExpansionWhoseNextIndexFits start root w.value.here
    × AreModulesOfSymbolsStored root w.value.visited.keys
    × AreVisitedSymbolsFewEnoughForSet start frames (length w.value.visited.keys) × AreFramesOfNeededModules start root frames
AreFramesOfNeededModules start root (frame.Parts ps ∷ frames) = ArePartsResolvedBySearch start root (remaining_parts ps)
    × AreFramesOfNeededModules start root frames
AreFramesOfNeededModules start root (frame.Replacement w ∷ frames) = IsPartsSearchOfNeededModules start root w.value
    × (length w.value.replacements.items < length w.value.definitions.items) × AreFramesOfNeededModules start root frames

abbrev pub IsStepOfNeededModules : SearchStart → RootView → Step → Type 0
IsStepOfNeededModules start root (Search s) = IsStored root s.module_id × IsNeededBySearchFromStart start root (specifier_in root s.module_id)
IsStepOfNeededModules start root (Expand here) = IsExpansionOfNeededModule start root here
IsStepOfNeededModules start root (TryStar w) = IsStarSearchOfNeededModules start root w.value
IsStepOfNeededModules start root (Replace w) = IsPartsSearchOfNeededModules start root w.value
IsStepOfNeededModules start root (Found paths) = ArePathsOfNeededModules start root paths.items

-- before a step
pub record IsSearchOfNeededModules (start : SearchStart) (root : RootView) (running : List AliasDecl) (visited : List UniqueSymbolId) (frames : List Frame)
    (step : Step) : Type 0 where
  pub running_so : running ≡ aliases_with_frames start.running frames
  pub aliases : AreModulesOfAliasesStored root running
  pub symbols : AreModulesOfSymbolsStored root visited
  pub few : AreVisitedSymbolsFewEnoughForSet start frames (length visited)
  pub frames_valid : AreFramesOfNeededModules start root frames
  pub step_valid : IsStepOfNeededModules start root step

-- from a step to the next: what comes of the next, in every later root, comes of this one; and less is left
pub record IsStepWithSameOutcomeAndLessWork (start : SearchStart) (root : RootView) (visited : List UniqueSymbolId) (frames : List Frame) (step : Step)
    (new : RootView) (running_then : List AliasDecl) (visited_then : List UniqueSymbolId) (frames_then : List Frame) (step_then : Step) : Type 0 where
  pub valid : IsSearchOfNeededModules start new running_then visited_then frames_then step_then
  pub comes : (later : RootView) → HasGrown new later → (F : PathForest) (A : List SymbolBySpecifier)
      → StepLeadsToResult later start.running F A visited_then frames_then step_then → StepLeadsToResult later start.running F A visited frames step
  pub less : remaining_search_work start.running visited_then frames_then step_then < remaining_search_work start.running visited frames step

-- the same of a search's state
abbrev pub IsStateOfNeededModules : SearchStart → RootView → SearchState → Step → Type 0
IsStateOfNeededModules start root state step = IsSearchOfNeededModules start root state.resolving.keys state.visited.keys state.frames.items step

abbrev pub IsStateStepWithSameOutcomeAndLessWork : SearchStart → RootView → SearchState → Step → RootView → SearchState → Step → Type 0
IsStateStepWithSameOutcomeAndLessWork start root state step new state_then step_then = IsStepWithSameOutcomeAndLessWork start root state.visited.keys
    state.frames.items step new state_then.resolving.keys state_then.visited.keys state_then.frames.items step_then

-- a frame gets these paths, whatever waits besides
abbrev pub IsNextStepOfResumedFrame : SearchStart → RootView → Frame → Step → Step → Type 0
IsNextStepOfResumedFrame start root waiting found step_then = (running : List AliasDecl) (visited : List UniqueSymbolId) (frames : List Frame)
    → IsSearchOfNeededModules start root running visited (waiting ∷ frames) found
    → IsStepWithSameOutcomeAndLessWork start root visited (waiting ∷ frames) found root running visited frames step_then

-- a search comes to these paths and visited symbols at last
pub record IsFinalResultOfSearch (start : SearchStart) (root : RootView) (visited : List UniqueSymbolId) (frames : List Frame) (step : Step) (new : RootView)
    (visited_then : List UniqueSymbolId) (paths : List PathBuilder) : Type 0 where
  pub symbols : AreModulesOfSymbolsStored new visited_then
  pub few : start.visited ≤ 2 ^ 64 → length visited_then ≤ 2 ^ 64
  pub stored : AreModulesStored new (modules_of_builders paths)
  pub came : (later : RootView) → HasGrown new later
      → StepLeadsToResult later start.running (built_paths later paths) (symbols_of_unique_ids later visited_then) visited frames step

-- the same symbol at its next declaration, with these paths more
pub record IsExpansionAtNextDecl (here next : Expansion) (more : RootView → PathForest) : Type 0 where
  pub symbol : next.symbol ≡ here.symbol
  pub index : next.index ≡ here.index + 1
  pub paths : (root : RootView) → built_paths root next.paths.items ≡ joined_forests (built_paths root here.paths.items) (more root)

-- whether no frame waits for what is found
abbrev pub is_search_over : List Frame → Step → Bool
is_search_over [] (Found paths) = true
is_search_over (w ∷ frames) (Found paths) = false
is_search_over frames (Search s) = false
is_search_over frames (Expand here) = false
is_search_over frames (TryStar w) = false
is_search_over frames (Replace w) = false

abbrev pub is_step_with_found_paths : Step → Bool
is_step_with_found_paths (Found paths) = true
is_step_with_found_paths (Search s) = false
is_step_with_found_paths (Expand here) = false
is_step_with_found_paths (TryStar w) = false
is_step_with_found_paths (Replace w) = false
