-- A search stores no module but those that it needs.
use Rattle.std.proofs.Common.{◌≡◌, ℕ, ◌<◌, true, List, [], ◌∷◌, length, Option, None, Some, option_map, inl, inr}
use Rattle.std.proofs.Common.{Result, Ok, Err, refl, sym, ap, subst, ◌∙◌, arith}
use Rattle.std.specs.Prelude.{Contains, OnOk, OnErr, String, string_bytes}
use Rattle.std.specs.Global.{Global}
use Rattle.std.proofs.lemmas.List.{length-map}
use Rattle.symbols_ast.specs.declared.ids.ModuleId.{ModuleId}
use Rattle.symbols_ast.specs.declared.ids.UniqueSymbolId.{UniqueSymbolId}
use Rattle.symbols_ast.specs.Graph.{GraphView}
use Rattle.symbols_table.specs.DeclViews.{all_names, file_ref, Declaration}
use Rattle.symbols_table.specs.declared.info.fault.SymbolsFault.{SymbolsFault}
use Rattle.symbols_root.specs.declared.rules.Rules.{Rules}
use Rattle.symbols_root.specs.Roots.{RootView, specifier_in, root_with_stored_module}
use Rattle.symbols_root.specs.Growing.{HasGrown}
use Rattle.symbols_root.specs.Calls.{IsStored}
use Rattle.symbols_root.specs.laws.Growing.{specifier_unchanged_by_growth}
use Rattle.symbols_exports.specs.CollectedNames.{ResolvedExportView}
use Rattle.symbols_exports.specs.OneName.{IsExportOfCallResult, IsExportOfCallFault}
use Rattle.symbols_exports.specs.StarStatements.{resolve_specifier}
use Rattle.symbols_paths.specs.declared.definition.Definition.{Definition}
use Rattle.symbols_paths.specs.PathTrees.{QualifiedNameParts}
use Rattle.symbols_paths.specs.DeclTargets.{re_exported_symbol, explicit_export, searches_stars_for, declarations_of}
use Rattle.symbols_paths.specs.PartTargets.{part_is_symbol, part_target_of}
use Rattle.symbols_paths.specs.Views.{definition_by_specifier, strings_view}
use Rattle.symbols_paths.specs.inner.Views.{symbol_of_unique_id, first_part, later_parts}
use Rattle.symbols_paths.specs.inner.SearchSteps.{IsImportDeclared}
use Rattle.symbols_paths.specs.inner.Needed.{IsNeededFrom, IsSearchedForExportOf, IsSearchedAlongStarsOf, IsNeededAlongStarsOf, IsNeededFromCandidate}
use Rattle.symbols_paths.specs.inner.Needed.{IsSearchedInImport, IsStarImportDeclared, StoresOnlyResolvedModule}
use Rattle.symbols_paths.specs.NeededModules.{IsModuleSearchedForExport, IsModuleSearchedAlongStars, imported_module, searched_along_stars, at_search_start}
use Rattle.symbols_paths.specs.NeededModules.{module_of_namespace_import_part, part_of_query, AreNewlyStoredAmong}
use Rattle.symbols_paths.specs.laws.Storing.{newly_stored_none_if_same_root, newly_stored_among_more, newly_stored_by_two_calls, newly_stored_needed_module}
use Rattle.symbols_paths.specs.laws.Storing.{newly_stored_chain_ends}
use Rattle.symbols_paths.proofs.SearchedExports.{searched_itself, searched_by_chain}
use Rattle.symbols_paths.proofs.LeafNeeds.{needed_on, part_needs}
use Rattle.symbols_paths.proofs.Needing.{needed_in_older, needed_import, candidate_searched}
use Rattle.symbols_paths.proofs.ResolvedSpecifiers.{OccursAmongStars, then_searched, there_searched}

-- ---- a specifier

-- the module that a specifier resolves to is stored, if it resolves to one
pub stores_target : {A : Type 0} (result : Result A SymbolsFault) (old new : RootView) (needed : Option (List ℕ))
    → OnOk result (new ≡ root_with_stored_module old needed) → OnErr result (new ≡ old) → AreNewlyStoredAmong old new (λ v. needed ≡ Some v)
stores_target (Ok x) old new needed stored unchanged = newly_stored_needed_module old new needed stored
stores_target (Err fault) old new needed stored unchanged = newly_stored_none_if_same_root old new unchanged

-- the search along `export *` statements comes to the module of a statement
pub stores_there : (old new : RootView) (id : ModuleId) (specifier_text name : List ℕ) → OccursAmongStars old.graph (specifier_in old id) specifier_text
    → StoresOnlyResolvedModule old new id specifier_text → AreNewlyStoredAmong old new (IsSearchedAlongStarsOf old id name)
stores_there old new id specifier_text name occurs is =
    newly_stored_among_more is (λ v target. there_searched old.graph (specifier_in old id) specifier_text name v occurs target)

-- the search in an imported module begins there
pub stores_imported : (old new : RootView) (id : ModuleId) (specifier_text name : List ℕ) → StoresOnlyResolvedModule old new id specifier_text
    → AreNewlyStoredAmong old new (IsSearchedInImport old id specifier_text name)
stores_imported old new id specifier_text name is = newly_stored_among_more is (λ v target. (v, target, searched_itself old.graph v name))

-- and goes on to what the search for an export of the module comes to
pub searched_there : (old mid : RootView) (id target : ModuleId) (specifier_text name : List ℕ) → HasGrown old mid
    → resolve_specifier old.graph (specifier_in old id) specifier_text ≡ Some (specifier_in mid target)
    → (v : List ℕ) → IsSearchedForExportOf mid target name v → IsSearchedInImport old id specifier_text name v
searched_there old mid id target specifier_text name grown leads v searched =
    (specifier_in mid target, leads, subst (λ (g : GraphView). IsModuleSearchedForExport g (specifier_in mid target) name v) grown.graph searched)

-- ---- a name of a stored module

pub stores_exported : (old new : RootView) (id : ModuleId) (name : List ℕ) (names : List ResolvedExportView) (lookups : ℕ)
    → IsExportOfCallResult old new id name names lookups → AreNewlyStoredAmong old new (IsSearchedForExportOf old id name)
stores_exported old new id name names lookups is = newly_stored_chain_ends old new is.reached (λ chain end h.
    let reached = (is.are_reached.all chain end).0 h in
    searched_by_chain old.graph (specifier_in old id) name chain end reached.0 reached.1) is.stored

pub stores_unexported : (old new : RootView) (id : ModuleId) (name : List ℕ) (fault : SymbolsFault) (lookups : ℕ)
    → IsExportOfCallFault old new id name fault lookups → AreNewlyStoredAmong old new (IsSearchedForExportOf old id name)
stores_unexported old new id name fault lookups (inl is) = newly_stored_none_if_same_root old new is.unchanged
stores_unexported old new id name fault lookups (inr is) = newly_stored_chain_ends old new is.reached (λ chain end h.
    let reached = is.are_reached chain end h in
    searched_by_chain old.graph (specifier_in old id) name chain end reached.0 reached.1) is.stored

-- after the module of an `export *` statement was stored, an export of it is looked up
pub stores_along : (old mid new : RootView) (id target : ModuleId) (specifier_text name : List ℕ) → HasGrown old mid
    → OccursAmongStars old.graph (specifier_in old id) specifier_text
    → resolve_specifier old.graph (specifier_in old id) specifier_text ≡ Some (specifier_in mid target) → StoresOnlyResolvedModule old mid id specifier_text
    → AreNewlyStoredAmong mid new (IsSearchedForExportOf mid target name) → AreNewlyStoredAmong old new (IsSearchedAlongStarsOf old id name)
stores_along old mid new id target specifier_text name grown occurs leads first then =
    newly_stored_by_two_calls (stores_there old mid id specifier_text name occurs first) then (λ v searched.
    then_searched old.graph (specifier_in old id) specifier_text name (specifier_in mid target) v occurs leads
    (subst (λ (g : GraphView). IsModuleSearchedForExport g (specifier_in mid target) name v) grown.graph searched))

-- ---- the search

-- what the search of an imported module's local export needs
pub import_needs : (old mid : RootView) (s : UniqueSymbolId) (name specifier_text : List ℕ) (id next : ModuleId) → HasGrown old mid
    → IsImportDeclared old.graph (symbol_of_unique_id old s) name specifier_text
    → resolve_specifier old.graph (specifier_in old s.module_id) specifier_text ≡ Some (specifier_in mid id) → next ≡ id
    → (v : List ℕ) → IsNeededFrom mid next [] v → IsNeededFrom old s.module_id [] v
import_needs old mid s name specifier_text id next grown declared target same v is =
    needed_on (needed_import old.rules old.graph (symbol_of_unique_id old s) name specifier_text (specifier_in mid id) (specifier_in mid id) declared target
    imported_module) (needed_in_older grown (subst (λ (i : ModuleId). IsNeededFrom mid i [] v) same is))

-- what the search along its `export *` statements needs
pub stars_need : (old mid : RootView) (s : UniqueSymbolId) (name specifier_text : List ℕ) (id : ModuleId) → HasGrown old mid
    → IsImportDeclared old.graph (symbol_of_unique_id old s) name specifier_text
    → resolve_specifier old.graph (specifier_in old s.module_id) specifier_text ≡ Some (specifier_in mid id)
    → explicit_export mid.graph (specifier_in mid id) name ≡ None → searches_stars_for mid.rules name ≡ true
    → (v : List ℕ) → IsNeededAlongStarsOf mid id name v → IsNeededFrom old s.module_id [] v
stars_need old mid s name specifier_text id grown declared target none so v is =
    needed_on (needed_import old.rules old.graph (symbol_of_unique_id old s) name specifier_text (specifier_in mid id) is.0 declared target
    (searched_along_stars
    (subst (λ (g : GraphView). explicit_export g (specifier_in mid id) name ≡ None) grown.graph none)
    (subst (λ (r : Rules). searches_stars_for r name ≡ true) grown.rules so)
    (subst (λ (g : GraphView). IsModuleSearchedAlongStars g (specifier_in mid id) name is.0) grown.graph is.1)))
    (needed_in_older grown is.2)

-- what the search along `export *` statements of a module needs, is needed again in a root that has grown
pub along_before : {old root : RootView} (id : ModuleId) (name : List ℕ) → IsStored old id → HasGrown old root → (v : List ℕ)
    → IsNeededAlongStarsOf root id name v → IsNeededAlongStarsOf old id name v
along_before {old} {root} id name known grown v is = (
  is.0,
  subst (λ (g : GraphView). IsModuleSearchedAlongStars g (specifier_in old id) name is.0) grown.graph
      (subst (λ (m : List ℕ). IsModuleSearchedAlongStars root.graph m name is.0) (specifier_unchanged_by_growth grown id known) is.1),
  needed_in_older grown is.2,
)

-- a module that the search comes to is needed
pub searched_is_needed : (root : RootView) (id : ModuleId) (name v : List ℕ) → IsSearchedAlongStarsOf root id name v → IsNeededAlongStarsOf root id name v
searched_is_needed root id name v is = (v, is, at_search_start)

-- so is what the search of a candidate needs
pub candidate_needs : (old root mid : RootView) (id : ModuleId) (specifier_text name : List ℕ) (candidate : Option UniqueSymbolId) → IsStored old id
    → HasGrown old root → HasGrown root mid → OccursAmongStars root.graph (specifier_in root id) specifier_text
    → option_map (symbol_of_unique_id mid) candidate ≡ re_exported_symbol root.graph name
    (resolve_specifier root.graph (specifier_in root id) specifier_text)
    → (v : List ℕ) → IsNeededFromCandidate mid candidate v → IsNeededAlongStarsOf old id name v
candidate_needs old root mid id specifier_text name candidate known before more occurs gives v (s, is, on) =
    let found : Some (symbol_of_unique_id mid s) ≡ re_exported_symbol root.graph name (resolve_specifier root.graph (specifier_in root id) specifier_text) =
    sym (ap (option_map (symbol_of_unique_id mid)) is) ∙ gives in
    along_before id name known before v (
      specifier_in mid s.module_id,
      candidate_searched root.graph (specifier_in root id) specifier_text name (symbol_of_unique_id mid s) occurs found,
      needed_in_older more on,
    )

-- what the search for a part in the module of a star import comes to
pub part_import_needs : (root : RootView) (x : Definition) (specifier_text : List ℕ) (parts : QualifiedNameParts) → 0 < length parts
    → (decl : Declaration) × Contains (declarations_of root.graph (definition_by_specifier root x).decl.symbol) decl
    × (decl.kind ≡ file_ref all_names specifier_text)
    → (v : List ℕ) → IsSearchedInImport root x.«module» specifier_text (first_part parts) v → IsNeededFrom root x.«module» parts v
part_import_needs root x specifier_text [] some declared v is = absurd (omega (arith, some))
part_import_needs root x specifier_text (p ∷ ps) some (decl, occurs, kind) v (m, target, searched) =
    module_of_namespace_import_part (definition_by_specifier root x).decl.symbol decl specifier_text m p at_search_start occurs kind target
    (part_of_query (0, omega arith, refl)) searched

pub some_strings : (parts : List (String Global)) → 0 < length parts → 0 < length (strings_view parts)
some_strings parts some = omega (arith, some, length-map parts (λ (part : String Global). string_bytes part))

-- what the search of a part's symbol needs is needed from the definition's module
pub part_target_needs : (old mid : RootView) (x : Definition) (parts : QualifiedNameParts) (target : UniqueSymbolId) → HasGrown old mid
    → IsStarImportDeclared old.graph (definition_by_specifier old x) → 0 < length parts
    → part_is_symbol (symbol_of_unique_id mid target) ≡ part_target_of old.graph (definition_by_specifier old x) (first_part parts) (later_parts parts)
    → (v : List ℕ) → IsNeededFrom mid target.module_id (later_parts parts) v → IsNeededFrom old x.«module» parts v
part_target_needs old mid x parts target grown declared some is v needed =
    part_needs old.rules old.graph (definition_by_specifier old x) parts (symbol_of_unique_id mid target) declared some is v (needed_in_older grown needed)
