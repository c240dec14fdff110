-- The steps that resolve parts in the definitions of paths.
use Rattle.std.proofs.Common.{◌≡◌, ℕ, ◌+◌, ◌-◌, ◌*◌, ◌<◌, ◌≤◌, ◌^◌, List, [], ◌∷◌, ◌++◌, length, zero, suc, map, drop, get_or, Option, None, Some, Box, Vec}
use Rattle.std.proofs.Common.{refl, sym, ap, subst, ◌∙◌, arith, slice_get, option_to_list}
use Rattle.std.specs.Prelude.{Contains}
use Rattle.std.specs.Global.{Global}
use Rattle.std.proofs.lemmas.Option.{get_or_from_slice_get, slice_get_within, slice_get_past}
use Rattle.std.proofs.lemmas.List.{length-append, length-map, map-append, nil_from_length, get_or-map}
use Rattle.symbols_ast.specs.declared.ids.ModuleId.{ModuleId}
use Rattle.symbols_ast.specs.declared.ids.UniqueSymbolId.{UniqueSymbolId}
use Rattle.symbols_root.specs.Roots.{RootView, specifier_in}
use Rattle.symbols_root.specs.Growing.{HasGrown}
use Rattle.symbols_root.specs.Calls.{IsStored}
use Rattle.symbols_root.specs.laws.Growing.{has_grown_refl, has_grown_trans}
use Rattle.symbols_paths.specs.declared.alias_decl.AliasDecl.{AliasDecl}
use Rattle.symbols_paths.specs.declared.definition.Definition.{Definition}
use Rattle.symbols_paths.specs.declared.part_target.PartTarget.{PartTarget}
use Rattle.symbols_paths.specs.declared.part_target.PartTarget.TheVariants as read_part
use Rattle.symbols_paths.specs.declared.shared_parts.SharedParts.{SharedParts}
use Rattle.symbols_paths.specs.declared.path_builder.PathBuilder.{PathBuilder}
use Rattle.symbols_paths.specs.declared.search_step.PartsSearch.{PartsSearch}
use Rattle.symbols_paths.specs.declared.search_step.Frame.{Frame}
use Rattle.symbols_paths.specs.declared.search_step.Frame.TheVariants as frame
use Rattle.symbols_paths.specs.declared.search_step.Step.TheVariants.{Search, Replace, Found}
use Rattle.symbols_paths.specs.PathTrees.{SymbolBySpecifier, DeclBySpecifier, QualifiedNameParts, DefinitionView, definition, unresolved, PathForest}
use Rattle.symbols_paths.specs.PathTrees.{leaf, link, forest_of_tree, forest_below_link_unless_empty}
use Rattle.symbols_paths.specs.PartTargets.{search_targets_of_root, part_is_symbol, part_target_of}
use Rattle.symbols_paths.specs.Derived.{part_link_head}
use Rattle.symbols_paths.specs.Choice.{IsOutcomeOfPartsInTree, definition_is_part_itself, definition_has_no_part}
use Rattle.symbols_paths.specs.Computed.{search_limit}
use Rattle.symbols_paths.specs.NeededModules.{at_search_start}
use Rattle.symbols_paths.specs.Views.{definition_by_specifier, unresolved_entry_view, module_of_definition, AreModulesStored}
use Rattle.symbols_paths.specs.declared.definition_unresolved.DefinitionUnresolved.{DefinitionUnresolved}
use Rattle.symbols_paths.specs.inner.Views.{symbol_of_unique_id, first_part, later_parts}
use Rattle.symbols_paths.specs.inner.PathBuilders.{remaining_parts, built_paths, built_path, built_paths_of_option, modules_of_builders}
use Rattle.symbols_paths.specs.inner.PathBuilders.{builders_among}
use Rattle.symbols_paths.specs.inner.ReplacedDefinitions.{definitions_of_forest, forest_with_definitions_replaced}
use Rattle.symbols_paths.specs.inner.Needed.{IsNeededFrom, IsStarImportDeclared}
use Rattle.symbols_paths.specs.inner.SearchSteps.{symbols_of_unique_ids, decls_of_aliases, part_target_view, IsModuleOfPartTargetStored}
use Rattle.symbols_paths.specs.inner.StillToCome.{HoldsAfterSymbolSearch, HoldsAfterPartsInForest, HoldsAfterReplacedDefinitions, aliases_with_frames}
use Rattle.symbols_paths.specs.inner.StillToCome.{replacements_before, definitions_to_replace_from_index, HoldsAfterCurrentReplacement, FramesUnwindToResult}
use Rattle.symbols_paths.specs.inner.SearchWork.{levels_of_remaining_alias_searches, work_of_definition_with_parts, work_of_parts_search}
use Rattle.symbols_paths.specs.inner.SearchInvariants.{SearchStart, IsNeededBySearchFromStart, ArePartsResolvedBySearch, IsDefinitionOfNeededModule}
use Rattle.symbols_paths.specs.inner.SearchInvariants.{AreDefinitionsOfNeededModules, ArePathsOfNeededModules, IsPartsSearchOfNeededModules}
use Rattle.symbols_paths.specs.inner.SearchInvariants.{IsSearchOfNeededModules, IsStepWithSameOutcomeAndLessWork}
use Rattle.symbols_paths.proofs.GrownRoots.{still_numbered}
use Rattle.symbols_paths.proofs.SearchSteps.{still_aliases}
use Rattle.symbols_paths.proofs.LoopInvariants.{drop_at, drop_past}
use Rattle.symbols_paths.proofs.LeafNeeds.{needed_from}
use Rattle.symbols_paths.proofs.Needing.{needed_in_newer}
use Rattle.symbols_paths.proofs.StoredNeeded.{part_target_needs}
use Rattle.symbols_paths.proofs.QualifiedSteps.{some_parts, part_target_there}
use Rattle.symbols_paths.proofs.Leaves.{only_this}
use Rattle.symbols_paths.proofs.ReplacedNeeds.{rebuilt_needed, replacements_built, replaced_valid}
use Rattle.symbols_paths.proofs.NextDecls.{needed_linked}
use Rattle.symbols_paths.proofs.ComingPaths.{came_listed, came_replaced, came_all_replaced, came_part}
use Rattle.symbols_paths.proofs.SearchWork.{some_worth, many_below, two_below, one_of}
use Rattle.symbols_paths.proofs.GrownSearches.{parts_search_still_valid, frames_still_valid, parts_still_needed}

-- a search of parts with one replacement more
pub record IsReplacedOnce (w after : PartsSearch) (path : Option PathBuilder) : Type 0 where
  pub parts : remaining_parts after.parts ≡ remaining_parts w.parts
  pub paths : after.paths.items ≡ w.paths.items
  pub definitions : after.definitions.items ≡ w.definitions.items
  pub replacements : after.replacements.items ≡ w.replacements.items ++ path ∷ []

module _ {start : SearchStart} {root : RootView} {w after : PartsSearch} {path : Option PathBuilder} (valid : IsPartsSearchOfNeededModules start root w)
    (is : IsReplacedOnce w after path) where
  once_valid : AreModulesStored root (modules_of_builders (option_to_list path))
      → ((later : RootView) → HasGrown root later → AreDefinitionsOfNeededModules start later (definitions_of_forest (built_paths_of_option later path)))
      → IsPartsSearchOfNeededModules start root after
  once_valid stored needed = record {
    some = rw is.parts valid.some;
    parts = subst (ArePartsResolvedBySearch start root) (sym is.parts) valid.parts;
    paths = subst (λ ps. AreModulesStored root (modules_of_builders ps)) (sym is.paths) valid.paths;
    stored = subst (λ xs. AreModulesStored root (map module_of_definition xs)) (sym is.definitions) valid.stored;
    definitions = λ later on. subst (λ xs. AreDefinitionsOfNeededModules start later (map (definition_by_specifier later) xs)) (sym is.definitions)
        (valid.definitions later on);
    replacements = subst (λ xs. ArePathsOfNeededModules start root (builders_among xs)) (sym is.replacements)
        (replaced_valid start root w.replacements.items path valid.replacements stored needed);
  }

module _ {w after : PartsSearch} {path : Option PathBuilder} (is : IsReplacedOnce w after path) where
  once_longer : length after.replacements.items ≡ length w.replacements.items + 1
  once_longer = ap length is.replacements ∙ length-append w.replacements.items (path ∷ [])

  -- what comes of it, from what comes of it with one replacement more
  once_on : (later : RootView) (go : PathForest → List SymbolBySpecifier → Type 0) (running : List DeclBySpecifier) (visited : List SymbolBySpecifier)
      → HoldsAfterReplacedDefinitions (search_targets_of_root later) go running (remaining_parts after.parts) (built_paths later after.paths.items)
      (replacements_before later after) (definitions_to_replace_from_index later after (length after.replacements.items)) visited
      → HoldsAfterReplacedDefinitions (search_targets_of_root later) go running (remaining_parts w.parts) (built_paths later w.paths.items)
      (replacements_before later w ++ built_paths_of_option later path ∷ []) (definitions_to_replace_from_index later w (length w.replacements.items + 1))
      visited
  once_on later go running visited y =
      let replaced : replacements_before later after ≡ replacements_before later w ++ built_paths_of_option later path ∷ [] =
      ap (map (built_paths_of_option later)) is.replacements ∙ map-append (built_paths_of_option later) w.replacements.items (path ∷ []) in
      subst (λ (v : QualifiedNameParts × List PathBuilder × List PathForest × List Definition × ℕ).
      HoldsAfterReplacedDefinitions (search_targets_of_root later) go running v.0 (built_paths later v.1) v.2
      (map (definition_by_specifier later) (drop v.4 v.3)) visited)
      (λ j. (is.parts j, is.paths j, replaced j, is.definitions j, once_longer j)) y

  once_left : (n : ℕ) → (length after.definitions.items - length after.replacements.items)
      * work_of_definition_with_parts n (length (remaining_parts after.parts))
      ≡ (length w.definitions.items - (length w.replacements.items + 1)) * work_of_definition_with_parts n (length (remaining_parts w.parts))
  once_left n = λ j. (length (is.definitions j) - once_longer j) * work_of_definition_with_parts n (length (is.parts j))

-- ---- the definition in hand

module _ {start : SearchStart} {root : RootView} {w : PartsSearch} (valid : IsPartsSearchOfNeededModules start root w) (x : Definition)
    (at : slice_get w.definitions.items (length w.replacements.items) ≡ Some x) where
  pub in_hand_within : length w.replacements.items < length w.definitions.items
  in_hand_within = slice_get_within w.definitions.items (length w.replacements.items) x at

  among : {A : Type 0} (f : Definition → A) → Contains (map f w.definitions.items) (f x)
  among f = (
    length w.replacements.items,
    omega (arith, in_hand_within, length-map w.definitions.items f),
    get_or-map f w.definitions.items (length w.replacements.items) x (f x) in_hand_within
        ∙ ap f (get_or_from_slice_get w.definitions.items (length w.replacements.items) x x at),
  )

  pub in_hand_stored : x.«module».0 < length root.stored
  in_hand_stored = by (among module_of_definition)
    where
      by : Contains (map module_of_definition w.definitions.items) x.«module» → x.«module».0 < length root.stored
      by (k, lt, e) = subst (λ (id : ModuleId). id.0 < length root.stored) e (valid.stored k x.«module» lt)

  pub in_hand_needed : (later : RootView) → HasGrown root later → IsDefinitionOfNeededModule start later (definition_by_specifier later x)
  in_hand_needed later on = valid.definitions later on (definition_by_specifier later x) (among (definition_by_specifier later))

-- the definitions left are the one in hand and those after it
left_at : (later : RootView) (w : PartsSearch) (x : Definition) → slice_get w.definitions.items (length w.replacements.items) ≡ Some x
    → definitions_to_replace_from_index later w (length w.replacements.items)
    ≡ definition_by_specifier later x ∷ definitions_to_replace_from_index later w (length w.replacements.items + 1)
left_at later w x at = ap (map (definition_by_specifier later)) (drop_at w.definitions.items (length w.replacements.items) x at)

later_among : (ps : QualifiedNameParts) (part : List ℕ) → Contains (later_parts ps) part → Contains ps part
later_among [] part has = has
later_among (p ∷ ps) part (k, lt, e) = (suc k, omega (arith, lt), e)

-- ---- the steps at a definition

module _ (start : SearchStart) {old mid : RootView} (grown : HasGrown old mid) (running : List AliasDecl) (visited : List UniqueSymbolId)
    (frames : List Frame) (w : Box PartsSearch Global) (valid : IsSearchOfNeededModules start old running visited frames (Replace w)) where
  abbrev aliases_in : RootView → List DeclBySpecifier
  aliases_in later = decls_of_aliases later (aliases_with_frames start.running frames)

  abbrev all_parts : QualifiedNameParts
  all_parts = remaining_parts w.value.parts

  parts_so : all_parts ≡ first_part all_parts ∷ later_parts all_parts
  parts_so = some_parts all_parts valid.step_valid.some

  -- there is none left
  pub step_replaced : (paths : Vec PathBuilder Global) → slice_get w.value.definitions.items (length w.value.replacements.items) ≡ None
      → ((later : RootView) → built_paths later paths.items
      ≡ (forest_with_definitions_replaced all_parts (built_paths later w.value.paths.items) (replacements_before later w.value)).0)
      → AreModulesStored old (modules_of_builders paths.items)
      → IsStepWithSameOutcomeAndLessWork start old visited frames (Replace w) old running visited frames (Found paths)
  step_replaced paths past view stored = record {
    valid = record {
      running_so = valid.running_so;
      aliases = valid.aliases;
      symbols = valid.symbols;
      few = valid.few;
      frames_valid = valid.frames_valid;
      step_valid = record {
        stored = stored;
        needed = λ later on. subst (λ f. AreDefinitionsOfNeededModules start later (definitions_of_forest f)) (sym (view later))
            (rebuilt_needed all_parts (built_paths later w.value.paths.items) (replacements_before later w.value)
            (subst (λ f. AreDefinitionsOfNeededModules start later (definitions_of_forest f)) (sym (replacements_built later w.value.replacements.items))
            (valid.step_valid.replacements.needed later on))).0;
      };
    };
    comes = λ later on F A y.
        let go = FramesUnwindToResult later start.running F A frames in
        let f = built_paths later w.value.paths.items in
        let gs = replacements_before later w.value in
        let none_left : definitions_to_replace_from_index later w.value (length w.value.replacements.items) ≡ [] =
        ap (map (definition_by_specifier later)) (drop_past w.value.definitions.items (length w.value.replacements.items) past) in
        subst (λ (v : QualifiedNameParts × List DefinitionView). HoldsAfterReplacedDefinitions (search_targets_of_root later) go (aliases_in later) v.0 f gs v.1
        (symbols_of_unique_ids later visited)) (λ j. (sym parts_so j, sym none_left j))
        (came_all_replaced (search_targets_of_root later) (aliases_in later) go f gs
        (subst (λ g. go g (symbols_of_unique_ids later visited)) (view later ∙ ap (λ qs. (forest_with_definitions_replaced qs f gs).0) parts_so) y));
    less = omega arith;
  }

  module _ (x : Definition) (at : slice_get w.value.definitions.items (length w.value.replacements.items) ≡ Some x) where
    -- it is replaced at once
    pub step_in_place : (after : Box PartsSearch Global) (path : Option PathBuilder) → IsReplacedOnce w.value after.value path
        → AreModulesStored mid (modules_of_builders (option_to_list path))
        → ((later : RootView) → HasGrown mid later → AreDefinitionsOfNeededModules start later (definitions_of_forest (built_paths_of_option later path)))
        → ((later : RootView) → HasGrown mid later → (aliases : List DeclBySpecifier)
        → IsOutcomeOfPartsInTree (search_targets_of_root later) search_limit aliases (symbols_of_unique_ids later visited) (first_part all_parts)
        (later_parts all_parts) (leaf (definition (definition_by_specifier later x))) (built_paths_of_option later path) (symbols_of_unique_ids later visited))
        → IsStepWithSameOutcomeAndLessWork start old visited frames (Replace w) mid running visited frames (Replace after)
    step_in_place after path is stored needed how =
        let n = length (aliases_with_frames start.running frames) in
        let each = work_of_definition_with_parts n (length all_parts) in
        record {
          valid = record {
            running_so = valid.running_so;
            aliases = still_aliases grown running valid.aliases;
            symbols = still_numbered grown visited valid.symbols;
            few = valid.few;
            frames_valid = frames_still_valid start grown frames valid.frames_valid;
            step_valid = once_valid (parts_search_still_valid start grown w.value valid.step_valid) is stored needed;
          };
          comes = λ later on F A y.
              let go = FramesUnwindToResult later start.running F A frames in
              let f = built_paths later w.value.paths.items in
              let gs = replacements_before later w.value in
              let left = definitions_to_replace_from_index later w.value (length w.value.replacements.items + 1) in
              let here = once_on is later go (aliases_in later) (symbols_of_unique_ids later visited) y in
              subst (λ (v : QualifiedNameParts × List DefinitionView). HoldsAfterReplacedDefinitions (search_targets_of_root later) go (aliases_in later) v.0 f
              gs v.1
              (symbols_of_unique_ids later visited)) (λ j. (sym parts_so j, sym (left_at later w.value x at) j))
              (came_replaced (search_targets_of_root later) (aliases_in later) go f gs left (how later on (aliases_in later))
              (subst (λ qs. HoldsAfterReplacedDefinitions (search_targets_of_root later) go (aliases_in later) qs f
              (gs ++ built_paths_of_option later path ∷ []) left
              (symbols_of_unique_ids later visited)) parts_so here));
          less = omega (
            arith,
            once_left is n,
            one_of (length w.value.definitions.items) (length w.value.replacements.items) each
                (in_hand_within valid.step_valid x at),
            some_worth (levels_of_remaining_alias_searches n + (3 * 2 ^ 64 + 2 * length all_parts)),
          );
        }

    -- its part's symbol is searched
    pub step_part : (u : UniqueSymbolId) (inner : SharedParts) → remaining_parts inner ≡ later_parts all_parts → IsStored mid u.module_id
        → part_is_symbol (symbol_of_unique_id mid u) ≡ part_target_of old.graph (definition_by_specifier old x) (first_part all_parts) (later_parts all_parts)
        → ((later : RootView) → HasGrown mid later
        → (search_targets_of_root later).part (definition_by_specifier later x) (first_part all_parts) (later_parts all_parts) ≡ part_is_symbol
        (symbol_of_unique_id later u))
        → IsStepWithSameOutcomeAndLessWork start old visited frames (Replace w) mid running visited (frame.Parts inner ∷ frame.Replacement w ∷ frames)
        (Search u)
    step_part u inner inner_is stored target there =
        let n = length (aliases_with_frames start.running frames) in
        let v = length visited in
        let each = work_of_definition_with_parts n (length all_parts) in
        let shorter : length all_parts ≡ suc (length (later_parts all_parts)) = ap length parts_so in
        let same : work_of_parts_search n (length (remaining_parts inner)) ≡ work_of_parts_search n (length (later_parts all_parts)) =
        ap (λ qs. work_of_parts_search n (length qs)) inner_is in
        let hand = in_hand_needed valid.step_valid x at old (has_grown_refl old) in
        let needed = part_target_needs old mid x all_parts u grown hand.declared valid.step_valid.some target (specifier_in mid u.module_id) at_search_start in
        record {
          valid = record {
            running_so = valid.running_so;
            aliases = still_aliases grown running valid.aliases;
            symbols = still_numbered grown visited valid.symbols;
            few = valid.few;
            frames_valid = (
              subst (ArePartsResolvedBySearch start mid) (sym inner_is)
                  (λ part has. parts_still_needed start grown all_parts valid.step_valid.parts part (later_among all_parts part has)),
              (
                parts_search_still_valid start grown w.value valid.step_valid,
                in_hand_within valid.step_valid x at,
                frames_still_valid start grown frames valid.frames_valid,
              ),
            );
            step_valid = (stored, needed_in_newer grown (needed_from hand.needed valid.step_valid.parts needed));
          };
          comes = λ later on F A y.
              let go = FramesUnwindToResult later start.running F A frames in
              let f = built_paths later w.value.paths.items in
              let gs = replacements_before later w.value in
              let left = definitions_to_replace_from_index later w.value (length w.value.replacements.items + 1) in
              let here : HoldsAfterSymbolSearch (search_targets_of_root later)
              (HoldsAfterPartsInForest (search_targets_of_root later) (HoldsAfterCurrentReplacement later go (aliases_in later) w.value
              (Some x))
              (aliases_in later) (later_parts all_parts)) (aliases_in later) (symbols_of_unique_ids later visited) (symbol_of_unique_id later u) =
              subst (λ (r : Option Definition × QualifiedNameParts). HoldsAfterSymbolSearch (search_targets_of_root later)
              (HoldsAfterPartsInForest (search_targets_of_root later)
              (HoldsAfterCurrentReplacement later go (aliases_in later) w.value r.0) (aliases_in later) r.1) (aliases_in later)
              (symbols_of_unique_ids later visited)
              (symbol_of_unique_id later u)) (λ j. (at j, inner_is j)) y in
              subst (λ (r : QualifiedNameParts × List DefinitionView). HoldsAfterReplacedDefinitions (search_targets_of_root later) go (aliases_in later) r.0 f
              gs r.1
              (symbols_of_unique_ids later visited)) (λ j. (sym parts_so j, sym (left_at later w.value x at) j))
              (came_part (search_targets_of_root later) (aliases_in later) go (later_parts all_parts) f gs (definition_by_specifier later x) left
              (there later on)
              (subst (λ qs. HoldsAfterSymbolSearch (search_targets_of_root later) (HoldsAfterPartsInForest (search_targets_of_root later)
              (λ g visited_after. HoldsAfterReplacedDefinitions (search_targets_of_root later) go
              (aliases_in later) qs f (gs ++ forest_below_link_unless_empty (part_link_head (definition_by_specifier later x) qs) g ∷ []) left visited_after)
              (aliases_in later) (later_parts all_parts)) (aliases_in later) (symbols_of_unique_ids later visited) (symbol_of_unique_id later u))
              parts_so here));
          less = omega (
            arith,
            same,
            one_of (length w.value.definitions.items) (length w.value.replacements.items) each
                (in_hand_within valid.step_valid x at),
            two_below (levels_of_remaining_alias_searches n + 3 * (2 ^ 64 - v))
                (levels_of_remaining_alias_searches n + (3 * 2 ^ 64 + (2 * length (later_parts all_parts) + 1)))
                (levels_of_remaining_alias_searches n + (3 * 2 ^ 64 + 2 * length all_parts)) 1 (omega (arith, shorter)) (omega (arith, shorter)) (omega arith),
          );
        }

-- ---- after the paths in whose definitions parts are resolved, or those of a part, were found

module _ (start : SearchStart) (root : RootView) (running : List AliasDecl) (visited : List UniqueSymbolId) (frames : List Frame)
    (paths : Vec PathBuilder Global) where
  abbrev aliases_there : RootView → List DeclBySpecifier
  aliases_there later = decls_of_aliases later (aliases_with_frames start.running frames)

  -- without parts
  pub resumed_no_parts : (ps : SharedParts) → IsSearchOfNeededModules start root running visited (frame.Parts ps ∷ frames) (Found paths)
      → length (remaining_parts ps) ≡ 0 → IsStepWithSameOutcomeAndLessWork start root visited (frame.Parts ps ∷ frames) (Found paths) root running visited
      frames (Found paths)
  resumed_no_parts ps valid none = record {
    valid = record {
      running_so = valid.running_so;
      aliases = valid.aliases;
      symbols = valid.symbols;
      few = valid.few;
      frames_valid = valid.frames_valid.1;
      step_valid = valid.step_valid;
    };
    comes = λ later on F A y. subst (λ qs. HoldsAfterPartsInForest (search_targets_of_root later) (FramesUnwindToResult later start.running F A frames)
        (aliases_there later) qs (built_paths later paths.items) (symbols_of_unique_ids later visited)) (sym (nil_from_length (remaining_parts ps) none)) y;
    less = omega (
      arith,
      some_worth (levels_of_remaining_alias_searches (length (aliases_with_frames start.running frames))
          + (3 * 2 ^ 64 + (2 * length (remaining_parts ps) + 1))),
    );
  }

  pub resumed_parts : (ps : SharedParts) (definitions : Vec Definition Global) (w : Box PartsSearch Global)
      → IsSearchOfNeededModules start root running visited (frame.Parts ps ∷ frames) (Found paths) → 0 < length (remaining_parts ps)
      → ((later : RootView) → map (definition_by_specifier later) definitions.items ≡ definitions_of_forest (built_paths later paths.items))
      → AreModulesStored root (map module_of_definition definitions.items)
      → remaining_parts w.value.parts ≡ remaining_parts ps → w.value.paths.items ≡ paths.items → w.value.definitions.items ≡ definitions.items
      → w.value.replacements.items ≡ []
      → IsStepWithSameOutcomeAndLessWork start root visited (frame.Parts ps ∷ frames) (Found paths) root running visited frames (Replace w)
  resumed_parts ps definitions w valid some listed stored e_parts e_paths e_definitions e_replacements =
      let n = length (aliases_with_frames start.running frames) in
      let count = length definitions.items in
      let work : (length w.value.definitions.items - length w.value.replacements.items)
      * work_of_definition_with_parts n (length (remaining_parts w.value.parts))
      ≡ (count - 0) * work_of_definition_with_parts n (length (remaining_parts ps)) =
      (λ j. (length (e_definitions j) - length (e_replacements j)) * work_of_definition_with_parts n (length (e_parts j))) in
      let whole : (count - 0) * work_of_definition_with_parts n (length (remaining_parts ps)) ≡ count
      * work_of_definition_with_parts n (length (remaining_parts ps)) =
      ap (λ k. k * work_of_definition_with_parts n (length (remaining_parts ps))) (all_of count) in
      record {
        valid = record {
          running_so = valid.running_so;
          aliases = valid.aliases;
          symbols = valid.symbols;
          few = valid.few;
          frames_valid = valid.frames_valid.1;
          step_valid = record {
            some = rw e_parts some;
            parts = subst (ArePartsResolvedBySearch start root) (sym e_parts) valid.frames_valid.0;
            paths = subst (λ qs. AreModulesStored root (modules_of_builders qs)) (sym e_paths) valid.step_valid.stored;
            stored = subst (λ xs. AreModulesStored root (map module_of_definition xs)) (sym e_definitions) stored;
            definitions = λ later on. subst (λ xs. AreDefinitionsOfNeededModules start later (map (definition_by_specifier later) xs)) (sym e_definitions)
                (subst (AreDefinitionsOfNeededModules start later) (sym (listed later)) (valid.step_valid.needed later on));
            replacements = subst (λ xs. ArePathsOfNeededModules start root (builders_among xs)) (sym e_replacements)
                (record { stored = λ k d h. absurd (omega (arith, h)); needed = λ later on x has. absurd (omega (arith, has.1)) });
          };
        };
        comes = λ later on F A y.
            let go = FramesUnwindToResult later start.running F A frames in
            came_listed (search_targets_of_root later) (aliases_there later) go (symbols_of_unique_ids later visited) (remaining_parts ps)
            (built_paths later paths.items)
            (subst (λ xs. HoldsAfterReplacedDefinitions (search_targets_of_root later) go (aliases_there later) (remaining_parts ps)
            (built_paths later paths.items) [] xs
            (symbols_of_unique_ids later visited)) (listed later)
            (subst (λ (r : QualifiedNameParts × List PathBuilder × List (Option PathBuilder) × List Definition).
            HoldsAfterReplacedDefinitions (search_targets_of_root later) go (aliases_there later) r.0 (built_paths later r.1)
            (map (built_paths_of_option later) r.2)
            (map (definition_by_specifier later) (drop (length r.2) r.3)) (symbols_of_unique_ids later visited))
            (λ j. (e_parts j, e_paths j, e_replacements j, e_definitions j)) y));
        less = omega (
          arith,
          work,
          whole,
          many_below count (levels_of_remaining_alias_searches n + (3 * 2 ^ 64 + 2 * length (remaining_parts ps)))
              (levels_of_remaining_alias_searches n + (3 * 2 ^ 64 + (2 * length (remaining_parts ps) + 1))) 1
              (omega (arith, definitions.ok.0, definitions.ok.1, definitions.small)) (omega arith) (omega arith),
        );
      }
    where
      all_of : (k : ℕ) → k - 0 ≡ k
      all_of k = omega arith

  -- the link in front of a part's paths replaces the definition
  pub resumed_replacement : (w after : Box PartsSearch Global) (x : Definition) (path : Option PathBuilder)
      → IsSearchOfNeededModules start root running visited (frame.Replacement w ∷ frames) (Found paths)
      → slice_get w.value.definitions.items (length w.value.replacements.items) ≡ Some x → IsReplacedOnce w.value after.value path
      → AreModulesStored root (modules_of_builders (option_to_list path))
      → ((later : RootView) → built_paths_of_option later path
      ≡ forest_below_link_unless_empty (part_link_head (definition_by_specifier later x) (remaining_parts w.value.parts)) (built_paths later paths.items))
      → IsStepWithSameOutcomeAndLessWork start root visited (frame.Replacement w ∷ frames) (Found paths) root running visited frames (Replace after)
  resumed_replacement w after x path valid at is stored view =
      let n = length (aliases_with_frames start.running frames) in
      record {
        valid = record {
          running_so = valid.running_so;
          aliases = valid.aliases;
          symbols = valid.symbols;
          few = valid.few;
          frames_valid = valid.frames_valid.2;
          step_valid = once_valid valid.frames_valid.0 is stored
              (λ later on. subst (λ f. AreDefinitionsOfNeededModules start later (definitions_of_forest f)) (sym (view later))
              (needed_linked (part_link_head (definition_by_specifier later x) (remaining_parts w.value.parts)) (built_paths later paths.items)
              (valid.step_valid.needed later on)));
        };
        comes = λ later on F A y.
            let go = FramesUnwindToResult later start.running F A frames in
            subst (λ o. HoldsAfterCurrentReplacement later go (aliases_there later) w.value o (built_paths later paths.items)
            (symbols_of_unique_ids later visited)) (sym at)
            (subst (λ g. HoldsAfterReplacedDefinitions (search_targets_of_root later) go (aliases_there later) (remaining_parts w.value.parts)
            (built_paths later w.value.paths.items)
            (replacements_before later w.value ++ g ∷ []) (definitions_to_replace_from_index later w.value (length w.value.replacements.items + 1))
            (symbols_of_unique_ids later visited)) (view later)
            (once_on is later go (aliases_there later) (symbols_of_unique_ids later visited) y));
        less = omega (arith, once_left is n);
      }

-- a definition that was read by its index
pub read_at : {A : Type 0} (xs : List A) (i : ℕ) (x : A) → i < length xs → x ≡ get_or xs i x → slice_get xs i ≡ Some x
read_at [] i x lt e = absurd (omega (arith, lt))
read_at (y ∷ ys) zero x lt e = ap Some (sym e)
read_at (y ∷ ys) (suc i) x lt e = read_at ys i x (omega (arith, lt)) e

pub none_left : (w : PartsSearch) (xs : List Definition) (i : ℕ) → xs ≡ w.definitions.items → i ≡ length w.replacements.items → length xs ≤ i
    → slice_get w.definitions.items (length w.replacements.items) ≡ None
none_left w xs i e_xs e_i le = slice_get_past w.definitions.items (length w.replacements.items)
    (subst (λ (v : List Definition × ℕ). length v.0 ≤ v.1) (λ j. (e_xs j, e_i j)) le)

pub in_hand_at : (w : PartsSearch) (xs : List Definition) (i : ℕ) (x : Definition) → xs ≡ w.definitions.items → i ≡ length w.replacements.items
    → i < length xs → x ≡ get_or xs i x → slice_get w.definitions.items (length w.replacements.items) ≡ Some x
in_hand_at w xs i x e_xs e_i lt read = read_at w.definitions.items (length w.replacements.items) x
    (subst (λ (v : List Definition × ℕ). v.1 < length v.0) (λ j. (e_xs j, e_i j)) lt) (read ∙ (λ j. get_or (e_xs j) (e_i j) x))

-- ---- the part of the definition in hand

module _ (start : SearchStart) {old mid : RootView} (grown : HasGrown old mid) (running : List AliasDecl) (visited : List UniqueSymbolId)
    (frames : List Frame) (w : Box PartsSearch Global) (valid : IsSearchOfNeededModules start old running visited frames (Replace w)) (x : Definition)
    (at : slice_get w.value.definitions.items (length w.value.replacements.items) ≡ Some x) where
  abbrev parts_here : QualifiedNameParts
  parts_here = remaining_parts w.value.parts

  pub hand_stored : x.«module».0 < length old.stored
  hand_stored = in_hand_stored valid.step_valid x at

  pub hand_declared : IsStarImportDeclared old.graph (definition_by_specifier old x)
  hand_declared = (in_hand_needed valid.step_valid x at old (has_grown_refl old)).declared

  pub hand_needs : (v : List ℕ) → IsNeededFrom old x.«module» parts_here v → IsNeededBySearchFromStart start old v
  hand_needs v needed = needed_from (in_hand_needed valid.step_valid x at old (has_grown_refl old)).needed valid.step_valid.parts needed

  module _ (part : PartTarget) (stored : IsModuleOfPartTargetStored mid part) (read : part_target_view mid part
      ≡ part_target_of old.graph (definition_by_specifier old x) (first_part parts_here) (later_parts parts_here)) where
    there : (later : RootView) → HasGrown mid later
        → part_target_of later.graph (definition_by_specifier later x) (first_part parts_here) (later_parts parts_here) ≡ part_target_view later part
    there later on = part_target_there x parts_here hand_stored part grown stored read later on

    -- it is the definition itself
    pub step_itself : (after : Box PartsSearch Global) (itself : PathBuilder) → part ≡ read_part.Itself
        → IsReplacedOnce w.value after.value (Some itself) → AreModulesStored mid (modules_of_builders (itself ∷ []))
        → ((later : RootView) → built_path later itself ≡ forest_of_tree (leaf (definition (definition_by_specifier later x))))
        → IsStepWithSameOutcomeAndLessWork start old visited frames (Replace w) mid running visited frames (Replace after)
    step_itself after itself is once in_place view = step_in_place start grown running visited frames w valid x at after (Some itself) once in_place
        (λ later on. subst (λ f. AreDefinitionsOfNeededModules start later (definitions_of_forest f)) (sym (view later))
        (λ y has. subst (IsDefinitionOfNeededModule start later) (only_this (definition_by_specifier later x) y has)
        (in_hand_needed valid.step_valid x at later (has_grown_trans grown on))))
        (λ later on aliases. subst (λ f. IsOutcomeOfPartsInTree (search_targets_of_root later) search_limit aliases (symbols_of_unique_ids later visited)
        (first_part parts_here) (later_parts parts_here) (leaf (definition (definition_by_specifier later x))) f (symbols_of_unique_ids later visited))
        (sym (view later)) (definition_is_part_itself (there later on ∙ ap (part_target_view later) is)))

    -- it is an unresolved entry
    pub step_lacking : (after : Box PartsSearch Global) (path : Option PathBuilder) (missing : DefinitionUnresolved) → part ≡
        read_part.UnresolvedEntry missing
        → IsReplacedOnce w.value after.value path → AreModulesStored mid (modules_of_builders (option_to_list path))
        → ((later : RootView) → built_paths_of_option later path ≡ forest_below_link_unless_empty (part_link_head (definition_by_specifier later x) parts_here)
        (forest_of_tree (leaf (unresolved (unresolved_entry_view later missing)))))
        → IsStepWithSameOutcomeAndLessWork start old visited frames (Replace w) mid running visited frames (Replace after)
    step_lacking after path missing is once in_place view =
        let whole = some_parts parts_here valid.step_valid.some in
        step_in_place start grown running visited frames w valid x at after path once in_place
        (λ later on. subst (λ f. AreDefinitionsOfNeededModules start later (definitions_of_forest f)) (sym (view later))
        (λ y has. absurd (omega (arith, has.1))))
        (λ later on aliases. subst (λ f. IsOutcomeOfPartsInTree (search_targets_of_root later) search_limit aliases (symbols_of_unique_ids later visited)
        (first_part parts_here) (later_parts parts_here) (leaf (definition (definition_by_specifier later x))) f (symbols_of_unique_ids later visited))
        (sym (view later ∙ ap (λ qs. forest_of_tree (link (part_link_head (definition_by_specifier later x) qs)
        (forest_of_tree (leaf (unresolved (unresolved_entry_view later missing)))))) whole))
        (definition_has_no_part (there later on ∙ ap (part_target_view later) is)))

    -- it is a symbol
    pub step_to_symbol : (u : UniqueSymbolId) (inner : SharedParts) → part ≡ read_part.Symbol u → remaining_parts inner ≡ later_parts parts_here
        → IsStepWithSameOutcomeAndLessWork start old visited frames (Replace w) mid running visited (frame.Parts inner ∷ frame.Replacement w ∷ frames)
        (Search u)
    step_to_symbol u inner is inner_is = step_part start grown running visited frames w valid x at u inner inner_is
        (subst (IsModuleOfPartTargetStored mid) is stored) (sym (ap (part_target_view mid) is) ∙ read)
        (λ later on. there later on ∙ ap (part_target_view later) is)
