-- What holds before a step holds in a root that has grown.
use Rattle.std.proofs.Common.{List, [], ◌∷◌, sym, subst}
use Rattle.symbols_ast.specs.declared.ids.ModuleId.{ModuleId}
use Rattle.symbols_ast.specs.Graph.{GraphView}
use Rattle.symbols_root.specs.declared.rules.Rules.{Rules}
use Rattle.symbols_root.specs.Roots.{RootView, specifier_in}
use Rattle.symbols_root.specs.Growing.{HasGrown}
use Rattle.symbols_root.specs.Calls.{IsStored}
use Rattle.symbols_root.specs.laws.Growing.{has_grown_trans, specifier_unchanged_by_growth, stored_id_remains_stored}
use Rattle.symbols_paths.specs.declared.path_builder.PathBuilder.{PathBuilder}
use Rattle.symbols_paths.specs.declared.search_step.Expansion.{Expansion}
use Rattle.symbols_paths.specs.declared.search_step.StarSearch.{StarSearch}
use Rattle.symbols_paths.specs.declared.search_step.PartsSearch.{PartsSearch}
use Rattle.symbols_paths.specs.declared.search_step.Frame.{Frame}
use Rattle.symbols_paths.specs.declared.search_step.Frame.TheVariants as frame
use Rattle.symbols_paths.specs.PathTrees.{QualifiedNameParts}
use Rattle.symbols_paths.specs.NeededModules.{IsPartResolvedBySearch}
use Rattle.symbols_paths.specs.inner.PathBuilders.{remaining_parts, modules_of_builders}
use Rattle.symbols_paths.specs.inner.SearchInvariants.{SearchStart, IsNeededBySearchFromStart, ArePartsResolvedBySearch, ArePathsOfNeededModules}
use Rattle.symbols_paths.specs.inner.SearchInvariants.{IsExpansionOfNeededModule, IsExpansionWhoseNextIndexFits, IsStarSearchOfNeededModules}
use Rattle.symbols_paths.specs.inner.SearchInvariants.{IsPartsSearchOfNeededModules, AreFramesOfNeededModules}
use Rattle.symbols_paths.proofs.GrownRoots.{still_numbered, all_still_stored}
use Rattle.symbols_paths.proofs.Needing.{needed_in_newer}
use Rattle.symbols_paths.proofs.StoredNeeded.{along_before}

-- a needed module, by its number
pub still_needed : (start : SearchStart) {old new : RootView} → HasGrown old new → (id : ModuleId) → IsStored old id
    → IsNeededBySearchFromStart start old (specifier_in old id) → IsNeededBySearchFromStart start new (specifier_in new id)
still_needed start {new = new} grown id within needed =
    subst (IsNeededBySearchFromStart start new) (sym (specifier_unchanged_by_growth grown id within)) (needed_in_newer grown needed)

pub parts_still_needed : (start : SearchStart) {old new : RootView} → HasGrown old new → (ps : QualifiedNameParts) → ArePartsResolvedBySearch start old ps
    → ArePartsResolvedBySearch start new ps
parts_still_needed start {old = old} {new = new} grown ps needed part has =
    subst (λ (g : GraphView). IsPartResolvedBySearch new.rules g start.specifier start.parts part) (sym grown.graph)
    (subst (λ (r : Rules). IsPartResolvedBySearch r old.graph start.specifier start.parts part) (sym grown.rules) (needed part has))

module _ (start : SearchStart) {old new : RootView} (grown : HasGrown old new) where
  pub paths_still_valid : (paths : List PathBuilder) → ArePathsOfNeededModules start old paths → ArePathsOfNeededModules start new paths
  paths_still_valid paths valid = record {
    stored = all_still_stored grown (modules_of_builders paths) valid.stored;
    needed = λ later on. valid.needed later (has_grown_trans grown on);
  }

  pub expansion_still_valid : (here : Expansion) → IsExpansionOfNeededModule start old here → IsExpansionOfNeededModule start new here
  expansion_still_valid here valid = record {
    stored = stored_id_remains_stored grown here.symbol.module_id.0 valid.stored;
    needed = still_needed start grown here.symbol.module_id valid.stored valid.needed;
    paths = paths_still_valid here.paths.items valid.paths;
  }

  pub still_waiting : (here : Expansion) → IsExpansionWhoseNextIndexFits start old here → IsExpansionWhoseNextIndexFits start new here
  still_waiting here waits = record { expansion = expansion_still_valid here waits.expansion; fits = waits.fits }

  pub star_still_valid : (w : StarSearch) → IsStarSearchOfNeededModules start old w → IsStarSearchOfNeededModules start new w
  star_still_valid w valid = record {
    here = still_waiting w.here valid.here;
    stored = stored_id_remains_stored grown w.module_id.0 valid.stored;
    needed = λ v is. needed_in_newer grown (valid.needed v (along_before w.module_id w.name.now valid.stored grown v is));
  }

  pub parts_search_still_valid : (w : PartsSearch) → IsPartsSearchOfNeededModules start old w → IsPartsSearchOfNeededModules start new w
  parts_search_still_valid w valid = record {
    some = valid.some;
    parts = parts_still_needed start grown (remaining_parts w.parts) valid.parts;
    paths = all_still_stored grown (modules_of_builders w.paths.items) valid.paths;
    stored = all_still_stored grown _ valid.stored;
    definitions = λ later on. valid.definitions later (has_grown_trans grown on);
    replacements = paths_still_valid _ valid.replacements;
  }

  pub frames_still_valid : (frames : List Frame) → AreFramesOfNeededModules start old frames → AreFramesOfNeededModules start new frames
  frames_still_valid [] valid = tt
  frames_still_valid (frame.Link here t ∷ frames) valid =
      (still_waiting here valid.0, stored_id_remains_stored grown t.module_id.0 valid.1, frames_still_valid frames valid.2)
  frames_still_valid (frame.Star w ∷ frames) valid = (star_still_valid w.value valid.0, frames_still_valid frames valid.1)
  frames_still_valid (frame.Alias w ∷ frames) valid = (
    still_waiting w.value.here valid.0,
    still_numbered grown w.value.visited.keys valid.1,
    valid.2,
    frames_still_valid frames valid.3,
  )
  frames_still_valid (frame.Parts ps ∷ frames) valid = (parts_still_needed start grown (remaining_parts ps) valid.0, frames_still_valid frames valid.1)
  frames_still_valid (frame.Replacement w ∷ frames) valid =
      (parts_search_still_valid w.value valid.0, valid.1, frames_still_valid frames valid.2)
