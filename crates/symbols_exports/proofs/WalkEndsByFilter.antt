-- The ends of a walk, for all names and for one.
use Rattle.std.proofs.Common.{◌≡◌, ℕ, ◌+◌, ◌<◌, ◌≤◌, ◌^◌, inl, inr, false, true, List, [], length}
use Rattle.std.proofs.Common.{slice_get, None, Some, Result, Ok, Err, IfErr, sym, subst, true≢false}
use Rattle.std.specs.Result.{IsErrAnd}
use Rattle.std.proofs.lemmas.Option.{none-some}
use Rattle.symbols_ast.specs.declared.ids.ModuleId.{ModuleId}
use Rattle.symbols_table.specs.declared.info.fault.SymbolsFault.{SymbolsFault}
use Rattle.symbols_table.specs.declared.info.fault.SymbolsFault.TheVariants.{OutOfMemory}
use Rattle.symbols_root.specs.Roots.{RootView, root_with_stored_module, IsStoringFault, specifier_in}
use Rattle.symbols_exports.specs.declared.frame.Frame.{Frame}
use Rattle.symbols_exports.specs.declared.name_filter.NameFilter.{NameFilter}
use Rattle.symbols_exports.specs.declared.name_filter.NameFilter.TheVariants.{AllNames, OneName}
use Rattle.symbols_exports.specs.ExportAnswers.{IsUnknownModuleFault, IsExportsWalkFault}
use Rattle.symbols_exports.specs.OneName.{IsExportOfWalkFault}
use Rattle.symbols_exports.specs.inner.OneName.{IsExportWalkAnswer, IsExportWalkFault}
use Rattle.symbols_exports.specs.SharedNames.{NameWithExporters}
use Rattle.symbols_exports.specs.SharedNameLists.{groups_of_several_first_along_star}
use Rattle.symbols_exports.specs.inner.Collecting.{is_along_stars}
use Rattle.symbols_exports.specs.StarStatements.{star_specifiers, resolve_specifier, star_targets_of}
use Rattle.symbols_exports.specs.CollectedNames.{ResolvedExportView}
use Rattle.symbols_exports.specs.inner.Collecting.{CollectedView}
use Rattle.symbols_exports.specs.inner.NameFilter.{is_name_search_done}
use Rattle.symbols_exports.proofs.StoringWalk.{IsWalking, walking_first}
use Rattle.symbols_exports.proofs.WalkEndsOrBreaks.{walking_end, answer_broken, broken_here, broken_refused, broken_unresolved, broken_stored, stored_with}
use Rattle.symbols_exports.proofs.WalkForOneName.{name_search_ended, name_ended, name_broken, name_broken_stored, name_broken_first, cursor}

-- the walk fails, by its filter
abbrev pub IsCut : NameFilter → RootView → RootView → ModuleId → SymbolsFault → ℕ → Type 0
IsCut AllNames old new start fault lookups = IsExportsWalkFault old new start fault lookups
IsCut (OneName name) old new start fault lookups = IsExportOfWalkFault old new start name.now fault lookups

pub cut_is_fault : (name_filter : NameFilter) (old new : RootView) (start : ModuleId) (fault : SymbolsFault) (lookups : ℕ)
    → IsCut name_filter old new start fault lookups → IsExportWalkFault name_filter old new start fault lookups
cut_is_fault AllNames old new start fault lookups cut = inr cut
cut_is_fault (OneName name) old new start fault lookups cut = inr cut

pub unknown_is_fault : (name_filter : NameFilter) (old new : RootView) (start : ModuleId) (fault : SymbolsFault) (lookups : ℕ)
    → IsUnknownModuleFault old new start fault lookups → IsExportWalkFault name_filter old new start fault lookups
unknown_is_fault AllNames old new start fault lookups unknown = inl unknown
unknown_is_fault (OneName name) old new start fault lookups unknown = inl unknown

-- before the first statement
pub cut_first : (name_filter : NameFilter) (old : RootView) (start : ModuleId) → start.0 < length old.stored
    → root_with_stored_module old (Some (specifier_in old start)) ≡ old → IsCut name_filter old old start OutOfMemory 0
cut_first AllNames old start known is_stored = broken_here (walking_first AllNames old start known is_stored)
cut_first (OneName name) old start known is_stored = name_broken_first name.now old start known is_stored

-- at a statement
pub cut_refused : (name_filter : NameFilter) {old : RootView} {start : ModuleId} {root : RootView} (frame : Frame) {stack : List Frame} {ids : List ModuleId}
    {collected : CollectedView} {lookups : ℕ} (walk : IsWalking name_filter old start root frame.referrer frame.position stack ids collected lookups)
    → is_name_search_done name_filter collected.names ≡ false → slice_get (star_specifiers old.graph (specifier_in root frame.referrer)) frame.position
    ≡ Some frame.specifier_text.now → length (star_targets_of old.graph (specifier_in root frame.referrer)) < 2 ^ 63 → (fault : SymbolsFault)
    → IsStoringFault root (resolve_specifier old.graph (specifier_in root frame.referrer) frame.specifier_text.now) fault
    → IsCut name_filter old root start fault (lookups + 1)
cut_refused AllNames frame walk goes specifier_is few_here fault refused = broken_refused frame walk specifier_is few_here fault refused
cut_refused (OneName name) {old} {start} {root} frame walk goes specifier_is few_here fault refused = name_broken walk goes frame.specifier_text.now
    specifier_is fault (resolve_specifier old.graph (specifier_in root frame.referrer) frame.specifier_text.now) (λ v some. some) refused

pub cut_unresolved : (name_filter : NameFilter) {old : RootView} {start : ModuleId} {root : RootView} (frame : Frame) {stack : List Frame} {ids : List ModuleId}
    {collected : CollectedView} {lookups : ℕ} (walk : IsWalking name_filter old start root frame.referrer frame.position stack ids collected lookups)
    → is_name_search_done name_filter collected.names ≡ false → slice_get (star_specifiers old.graph (specifier_in root frame.referrer)) frame.position
    ≡ Some frame.specifier_text.now → length (star_targets_of old.graph (specifier_in root frame.referrer)) < 2 ^ 63
    → IsCut name_filter old root start OutOfMemory (lookups + 1)
cut_unresolved AllNames frame walk goes specifier_is few_here = broken_unresolved frame walk specifier_is few_here
cut_unresolved (OneName name) frame walk goes specifier_is few_here =
    name_broken walk goes frame.specifier_text.now specifier_is OutOfMemory None (λ v some. absurd (none-some v some)) tt

pub cut_stored : (name_filter : NameFilter) {old : RootView} {start : ModuleId} {root : RootView} (frame : Frame) {stack : List Frame} {ids : List ModuleId}
    {collected : CollectedView} {lookups : ℕ} (walk : IsWalking name_filter old start root frame.referrer frame.position stack ids collected lookups)
    → is_name_search_done name_filter collected.names ≡ false → slice_get (star_specifiers old.graph (specifier_in root frame.referrer)) frame.position
    ≡ Some frame.specifier_text.now → length (star_targets_of old.graph (specifier_in root frame.referrer)) < 2 ^ 63 → (v : List ℕ)
    → resolve_specifier old.graph (specifier_in root frame.referrer) frame.specifier_text.now ≡ Some v
    → IsCut name_filter old (root_with_stored_module root (Some v)) start OutOfMemory (lookups + 1)
cut_stored AllNames frame walk goes specifier_is few_here v ends_at = broken_stored frame walk specifier_is few_here v ends_at
cut_stored (OneName name) frame walk goes specifier_is few_here v ends_at =
    name_broken_stored walk goes frame.specifier_text.now specifier_is v ends_at (stored_with frame walk specifier_is few_here v (cursor walk))

-- at its end, or when all wanted names were found
pub walked_end : (name_filter : NameFilter) {old : RootView} {start : ModuleId} {root : RootView} {here : ModuleId} {next : ℕ} {stack : List Frame} {ids : List
    ModuleId} {collected : CollectedView} {lookups : ℕ} (walk : IsWalking name_filter old start root here next stack ids collected lookups)
    → is_name_search_done name_filter collected.names ≡ false → stack ≡ [] → length (star_targets_of old.graph (specifier_in root here)) ≤ next
    → IsExportWalkAnswer name_filter old root start collected.names (groups_of_several_first_along_star is_along_stars collected.candidates)
    collected.unresolved lookups
walked_end AllNames walk goes empty_stack ended = walking_end walk empty_stack ended
walked_end (OneName name) walk goes empty_stack ended = name_ended walk goes empty_stack ended

pub walked_done : (name_filter : NameFilter) {old : RootView} {start : ModuleId} {root : RootView} {here : ModuleId} {next : ℕ} {stack : List Frame} {ids : List
    ModuleId} {collected : CollectedView} {lookups : ℕ} (walk : IsWalking name_filter old start root here next stack ids collected lookups)
    → is_name_search_done name_filter collected.names ≡ true
    → IsExportWalkAnswer name_filter old root start collected.names (groups_of_several_first_along_star is_along_stars collected.candidates)
    collected.unresolved lookups
walked_done AllNames walk done = absurd (true≢false (sym done))
walked_done (OneName name) walk done = name_search_ended walk done

-- at its end, if an allocation failed then
pub cut_after : (name_filter : NameFilter) (old new : RootView) (start : ModuleId) (names : List ResolvedExportView)
    (shared : List (NameWithExporters ResolvedExportView)) (unresolved : List
    (ModuleId × List ℕ)) (lookups : ℕ) → IsExportWalkAnswer name_filter old new start names shared unresolved lookups
    → IsCut name_filter old new start OutOfMemory lookups
cut_after AllNames old new start names shared unresolved lookups is = answer_broken is
cut_after (OneName name) old new start names shared unresolved lookups is = record {
  known = is.known;
  reached = is.reached;
  are_reached = λ chain end has. (is.are_reached.all chain end).0 has;
  ordered = is.are_reached.ordered;
  stored = is.stored;
  statements = is.statements;
  are_looked_up_stars = λ at has. (is.are_looked_up_stars.all at).0 has;
  looked_up_in_order = is.are_looked_up_stars.ordered;
  lookups_counted = is.lookups_counted;
  needed = None;
  is_needed = λ specifier some. absurd (none-some specifier some);
  refused = tt;
}

-- a fault that can only be `OutOfMemory`
pub on_memory : {A : Type 0} (P : SymbolsFault → Type 0) (r : Result A SymbolsFault) → IsErrAnd r (λ fault. fault ≡ OutOfMemory) → P OutOfMemory → IfErr r P
on_memory P (Ok x) is collected_there = tt
on_memory P (Err fault) is collected_there = subst P (sym is) collected_there

-- the walk failed after some look-ups
abbrev pub Broken : NameFilter → RootView → ModuleId → RootView → ℕ → ℕ → SymbolsFault → Type 0
Broken name_filter old start root before now fault = (lookups : ℕ) × (now ≡ before + lookups) × IsExportWalkFault name_filter old root start fault lookups

pub broken_off : (name_filter : NameFilter) (old : RootView) (start : ModuleId) (root : RootView) (before now lookups : ℕ) (fault : SymbolsFault)
    → now ≡ before + lookups → IsCut name_filter old root start fault lookups → Broken name_filter old start root before now fault
broken_off name_filter old start root before now lookups fault counted cut = (lookups, counted, cut_is_fault name_filter old root start fault lookups cut)

-- results with equal values are equally results of the walk
pub walked_alike : (name_filter : NameFilter) (old new : RootView) (start : ModuleId) (names names' : List ResolvedExportView)
    (shared shared' : List (NameWithExporters ResolvedExportView))
    (unresolved unresolved' : List (ModuleId × List ℕ)) (lookups : ℕ) → names' ≡ names → shared' ≡ shared → unresolved' ≡ unresolved
    → IsExportWalkAnswer name_filter old new start names shared unresolved lookups
    → IsExportWalkAnswer name_filter old new start names' shared' unresolved' lookups
walked_alike name_filter old new start names names' shared shared' unresolved unresolved' lookups same_names same_shared same_unresolved is =
    subst (λ n. IsExportWalkAnswer name_filter old new start n shared' unresolved' lookups) (sym same_names)
    (subst (λ s. IsExportWalkAnswer name_filter old new start names s
    unresolved' lookups) (sym same_shared) (subst (λ u. IsExportWalkAnswer name_filter old new start names shared u lookups) (sym same_unresolved) is))
