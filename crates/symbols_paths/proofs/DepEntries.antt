-- Paths as entries, and borrowed texts.
use Rattle.std.proofs.Common.{◌≡◌, ℕ, ◌<◌, List, [], ◌∷◌, ◌++◌, length, map, Option, None, Some}
use Rattle.std.proofs.Common.{option_map, refl, sym, ap, subst, ◌∙◌, append_assoc, append-nil, arith}
use Rattle.std.specs.Prelude.{MatchOption}
use Rattle.std.specs.Option.{option_map_or}
use Rattle.std.proofs.lemmas.List.{map-append, nil_from_length}
use Rattle.symbols_ast.specs.declared.ids.ModuleId.{ModuleId}
use Rattle.symbols_ast.specs.declared.ids.SymbolId.{SymbolId}
use Rattle.symbols_ast.specs.declared.ids.UniqueSymbolId.{UniqueSymbolId}
use Rattle.symbols_ast.specs.Graph.{GraphView}
use Rattle.symbols_ast.specs.Ids.{IdView}
use Rattle.symbols_nodes.specs.References.{SymbolReference, import_type}
use Rattle.symbols_table.specs.declared.info.fault.SymbolsFault.{SymbolsFault}
use Rattle.symbols_root.specs.declared.rules.Rules.{Rules}
use Rattle.symbols_root.specs.Roots.{RootView, specifier_in}
use Rattle.symbols_root.specs.Growing.{HasGrown}
use Rattle.symbols_root.specs.laws.Growing.{specifier_unchanged_by_growth}
use Rattle.symbols_exports.specs.StarStatements.{resolve_specifier}
use Rattle.symbols_paths.specs.declared.definition_path.DefinitionPathNode.{DefinitionPathNode}
use Rattle.symbols_paths.specs.declared.symbol_dep.ResolvedSymbolDepEntry.{ResolvedSymbolDepEntry}
use Rattle.symbols_paths.specs.declared.symbol_dep.ResolvedSymbolDepEntry.TheVariants as entry
use Rattle.symbols_paths.specs.PathTrees.{SymbolBySpecifier, QualifiedNameParts, UnresolvedEntry, no_module, unresolved, PathForest, leaf, no_trees}
use Rattle.symbols_paths.specs.PathTrees.{forest_of_tree}
use Rattle.symbols_paths.specs.DeclTargets.{symbol_of_id}
use Rattle.symbols_paths.specs.PartTargets.{PartTargetView, part_is_symbol, itself, part_is_unresolved, import_part_target}
use Rattle.symbols_paths.specs.Computed.{paths_with_parts}
use Rattle.symbols_paths.specs.NeededModules.{at_search_start, IsNeededByReference, IsFaultOfStoringOneOf}
use Rattle.symbols_paths.specs.Views.{path_by_specifier, paths_by_specifier, concat_module_ids, modules_of_path, modules_of_paths}
use Rattle.symbols_paths.specs.inner.Views.{symbol_of_unique_id, first_part, later_parts}
use Rattle.symbols_paths.specs.Answers.{AreDefinitionPathsWithAnyParts}
use Rattle.symbols_paths.specs.DepAnswers.{DepEntryView, path_dep_entry, module_dep_entry, resolved_dep_entry_view, modules_of_entry, modules_of_entries}
use Rattle.symbols_paths.specs.DepAnswers.{path_entries}
use Rattle.symbols_paths.specs.DepAnswers.{ReferencedSymbolWithParts, symbol_referenced_by_id, symbol_referenced_by_part, unresolved_id_path}
use Rattle.symbols_paths.specs.DepAnswers.{unresolved_part_path}
use Rattle.symbols_paths.specs.DepAnswers.{entry_of_imported_module, entries_of_reference_without_symbol, dep_entries_of, AreResolvedEntriesOfReference}
use Rattle.symbols_paths.specs.DepAnswers.{IsFaultOfStoringForReference}
use Rattle.symbols_paths.specs.inner.DepAnswers.{ArePathsOfReference}
use Rattle.symbols_paths.specs.inner.Needed.{IsNeededFrom, IsSearchedInImport}
use Rattle.symbols_paths.proofs.LeafNeeds.{part_of_import_searched}
use Rattle.symbols_paths.proofs.Needing.{needed_in_older}
use Rattle.symbols_paths.proofs.BuilderLemmas.{joined_on}
use Rattle.symbols_paths.proofs.QualifiedSteps.{some_parts}

-- the invariant: the entries so far, and `rest` of the paths left
pub record AreEntriesSo (entries : List ResolvedSymbolDepEntry) (rest paths : List DefinitionPathNode) : Type 0 where
  pub view : (root : RootView) → map (resolved_dep_entry_view root) entries
      ++ path_entries (paths_by_specifier root rest) ≡ path_entries (paths_by_specifier root paths)
  pub modules : modules_of_entries entries ++ modules_of_paths rest ≡ modules_of_paths paths

pub entries_first : (paths : List DefinitionPathNode) → AreEntriesSo [] paths paths
entries_first paths = record { view = λ root. refl; modules = refl }

pub entries_next : (entries more : List ResolvedSymbolDepEntry) (path : DefinitionPathNode) (rest paths : List DefinitionPathNode)
    → AreEntriesSo entries (path ∷ rest) paths → more ≡ entries ++ entry.Path path ∷ [] → AreEntriesSo more rest paths
entries_next entries more path rest paths so put = record {
  view = λ root.
      ap (λ es. map (resolved_dep_entry_view root) es ++ path_entries (paths_by_specifier root rest)) put
      ∙ (ap (λ es. es ++ path_entries (paths_by_specifier root rest)) (map-append (resolved_dep_entry_view root) entries (entry.Path path ∷ []))
      ∙ (append_assoc (map (resolved_dep_entry_view root) entries) (path_dep_entry (path_by_specifier root path) ∷ [])
      (path_entries (paths_by_specifier root rest)) ∙ so.view root));
  modules =
      ap (λ es. modules_of_entries es ++ modules_of_paths rest) put
      ∙ (ap (λ ms. ms ++ modules_of_paths rest) (modules_on entries (entry.Path path ∷ []))
      ∙ (append_assoc (modules_of_entries entries) (modules_of_path path ++ []) (modules_of_paths rest)
      ∙ (ap (λ ms. modules_of_entries entries ++ (ms ++ modules_of_paths rest)) (append-nil (modules_of_path path)) ∙ so.modules)));
}
  where
    modules_on : (xs ys : List ResolvedSymbolDepEntry) → modules_of_entries (xs ++ ys) ≡ modules_of_entries xs ++ modules_of_entries ys
    modules_on xs ys = ap (λ ms. concat_module_ids ms) (map-append modules_of_entry xs ys) ∙ joined_on (map modules_of_entry xs) (map modules_of_entry ys)

pub entries_last : (entries : List ResolvedSymbolDepEntry) (rest paths : List DefinitionPathNode) → rest ≡ [] → AreEntriesSo entries rest paths
    → (root : RootView) → map (resolved_dep_entry_view root) entries ≡ path_entries (paths_by_specifier root paths)
entries_last entries rest paths over so root = sym (append-nil (map (resolved_dep_entry_view root) entries))
    ∙ (ap (λ xs. map (resolved_dep_entry_view root) entries ++ path_entries (paths_by_specifier root xs)) (sym over) ∙ so.view root)

pub modules_last : (entries : List ResolvedSymbolDepEntry) (rest paths : List DefinitionPathNode) → rest ≡ [] → AreEntriesSo entries rest paths
    → modules_of_entries entries ≡ modules_of_paths paths
modules_last entries rest paths over so =
    sym (append-nil (modules_of_entries entries)) ∙ (ap (λ xs. modules_of_entries entries ++ modules_of_paths xs) (sym over) ∙ so.modules)

-- ---- the symbol of a reference, and its paths

pub id_found : (rules : Rules) (graph : GraphView) (specifier : List ℕ) (name : IdView) (parts : QualifiedNameParts) (t : SymbolId) (paths : PathForest)
    → symbol_of_id graph specifier name ≡ Some t → AreDefinitionPathsWithAnyParts rules graph (record { specifier = specifier; number = t }) parts paths
    → paths ≡ paths_with_parts rules graph (record { specifier = specifier; number = t }) parts
    → ArePathsOfReference rules graph (symbol_referenced_by_id graph specifier name parts) (unresolved_id_path specifier name parts) paths
id_found rules graph specifier name parts t paths is found listed = subst (λ (o : Option SymbolId). ArePathsOfReference rules graph (option_map
    (λ (u : SymbolId). (record { specifier = specifier; number = u }, parts)) o) (unresolved_id_path specifier name parts) paths) (sym is) (found, listed)

pub id_missing : (rules : Rules) (graph : GraphView) (specifier : List ℕ) (name : IdView) (parts : QualifiedNameParts) (paths : PathForest)
    → symbol_of_id graph specifier name
    ≡ None → paths ≡ unresolved_id_path specifier name parts
    → ArePathsOfReference rules graph (symbol_referenced_by_id graph specifier name parts) (unresolved_id_path specifier name parts) paths
id_missing rules graph specifier name parts paths is same = subst (λ (o : Option SymbolId). ArePathsOfReference rules graph
    (option_map (λ (u : SymbolId). (record { specifier = specifier; number = u }, parts)) o) (unresolved_id_path specifier name parts) paths) (sym is) same

pub part_target_found : (rules : Rules) (graph : GraphView) (rest : QualifiedNameParts) (w : PartTargetView) (t : SymbolBySpecifier) (paths : PathForest)
    → part_is_symbol t ≡ w
    → AreDefinitionPathsWithAnyParts rules graph t rest paths → paths ≡ paths_with_parts rules graph t rest
    → ArePathsOfReference rules graph (symbol_referenced_by_part rest w) (unresolved_part_path w) paths
part_target_found rules graph rest w t paths is found listed =
    subst (λ v. ArePathsOfReference rules graph (symbol_referenced_by_part rest v) (unresolved_part_path v) paths) is (found, listed)

pub part_target_missing : (rules : Rules) (graph : GraphView) (rest : QualifiedNameParts) (w : PartTargetView) (m : UnresolvedEntry) (paths : PathForest)
    → part_is_unresolved m ≡ w
    → paths ≡ forest_of_tree (leaf (unresolved m)) → ArePathsOfReference rules graph (symbol_referenced_by_part rest w) (unresolved_part_path w) paths
part_target_missing rules graph rest w m paths is same = subst (λ v. ArePathsOfReference rules graph (symbol_referenced_by_part rest v)
    (unresolved_part_path v) paths) is
    same

-- the entries of the paths found are a result of the contract
pub entries_answer : (rules : Rules) (graph : GraphView) (referenced : Option ReferencedSymbolWithParts) (otherwise paths : PathForest) (entries branches : List
    DepEntryView) → ArePathsOfReference rules graph referenced otherwise paths → entries ≡ path_entries paths → path_entries otherwise ≡ branches
    → MatchOption referenced (entries ≡ branches) (λ it. (f : PathForest) × AreDefinitionPathsWithAnyParts rules graph it.0 it.1 f × (entries ≡ path_entries f))
entries_answer rules graph None otherwise paths entries branches same view other = view ∙ (ap path_entries same ∙ other)
entries_answer rules graph (Some it) otherwise paths entries branches found view other = (paths, found.0, view)

pub entries_listed : (rules : Rules) (graph : GraphView) (referenced : Option ReferencedSymbolWithParts) (otherwise paths : PathForest) (entries branches : List
    DepEntryView) → ArePathsOfReference rules graph referenced otherwise paths → entries ≡ path_entries paths → path_entries otherwise ≡ branches
    → entries ≡ option_map_or (λ (it : ReferencedSymbolWithParts). path_entries (paths_with_parts rules graph it.0 it.1)) referenced branches
entries_listed rules graph None otherwise paths entries branches same view other = view ∙ (ap path_entries same ∙ other)
entries_listed rules graph (Some it) otherwise paths entries branches found view other = view ∙ ap path_entries found.1

-- ---- parts of an imported module

-- the paths of the first part's symbol under the other parts, found once its module was stored
pub import_found : (old mid : RootView) (rest : QualifiedNameParts) (w : PartTargetView) (target : UniqueSymbolId) (texts : QualifiedNameParts)
    (paths : PathForest) → HasGrown old mid
    → part_is_symbol (symbol_of_unique_id mid target) ≡ w → texts ≡ rest → AreDefinitionPathsWithAnyParts mid.rules mid.graph
    (symbol_of_unique_id mid target) texts paths → paths
    ≡ paths_with_parts mid.rules mid.graph (symbol_of_unique_id mid target) texts
    → ArePathsOfReference old.rules old.graph (symbol_referenced_by_part rest w) (unresolved_part_path w) paths
import_found old mid rest w target texts paths grown is same found listed =
    let t = symbol_of_unique_id mid target in
    let found_here : AreDefinitionPathsWithAnyParts old.rules old.graph t rest paths = subst
    (λ r. AreDefinitionPathsWithAnyParts r old.graph t rest paths) grown.rules
    (subst (λ g. AreDefinitionPathsWithAnyParts mid.rules g t rest paths) grown.graph
    (subst (λ ps. AreDefinitionPathsWithAnyParts mid.rules mid.graph t ps paths) same found)) in
    let listed_here : paths ≡ paths_with_parts old.rules old.graph t rest = subst (λ r. paths ≡ paths_with_parts r old.graph t rest) grown.rules (subst
    (λ g. paths ≡ paths_with_parts mid.rules g t rest) grown.graph (subst (λ ps. paths ≡ paths_with_parts mid.rules mid.graph t ps) same listed)) in
    part_target_found old.rules old.graph rest w t paths is found_here listed_here

pub part_target_itself : (rules : Rules) (graph : GraphView) (rest : QualifiedNameParts) (w : PartTargetView) (paths : PathForest) → itself ≡ w
    → paths ≡ no_trees
    → ArePathsOfReference rules graph (symbol_referenced_by_part rest w) (unresolved_part_path w) paths
part_target_itself rules graph rest w paths is same = subst (λ v. ArePathsOfReference rules graph (symbol_referenced_by_part rest v)
    (unresolved_part_path v) paths) is
    same

-- what the search for the first part comes to, and what the search of its symbol under the other parts needs, the import type needs
pub part_searched : (root : RootView) (id : ModuleId) (specifier_text : List ℕ) (parts : QualifiedNameParts) → 0 < length parts → (v : List ℕ)
    → IsSearchedInImport root id specifier_text (first_part parts) v
    → IsNeededByReference root.rules root.graph (specifier_in root id) (import_type specifier_text parts) v
part_searched root id specifier_text [] some v is = absurd (omega (arith, some))
part_searched root id specifier_text (p ∷ ps) some v (m, target, searched) = (m, target, (v, searched, at_search_start))

pub part_symbol_needs : (old mid : RootView) (id : ModuleId) (specifier_text : List ℕ) (parts : QualifiedNameParts) (target : UniqueSymbolId)
    → 0 < length parts → HasGrown old mid
    → part_is_symbol (symbol_of_unique_id mid target) ≡ import_part_target old.graph (specifier_in old id) specifier_text (first_part parts) (later_parts parts)
    (resolve_specifier old.graph (specifier_in old id) specifier_text)
    → (v : List ℕ) → IsNeededFrom mid target.module_id (later_parts parts) v
    → IsNeededByReference old.rules old.graph (specifier_in old id) (import_type specifier_text parts) v
part_symbol_needs old mid id specifier_text [] target some grown is v needed = absurd (omega (arith, some))
part_symbol_needs old mid id specifier_text (p ∷ ps) target some grown is v needed =
    let at = part_of_import_searched old.graph (specifier_in old id) specifier_text p ps (symbol_of_unique_id mid target) (sym is) in
    (at.0, at.1, (specifier_in mid target.module_id, at.2, needed_in_older grown needed))

-- a fault of what a reference needs, in a root that has grown
pub dep_refused : (old new : RootView) (m : List ℕ) (reference : SymbolReference) (fault : SymbolsFault) → HasGrown old new
    → IsFaultOfStoringOneOf new (IsNeededByReference old.rules old.graph m reference) fault → IsFaultOfStoringForReference new m reference fault
dep_refused old new m reference fault grown is =
    subst (λ (g : GraphView). IsFaultOfStoringOneOf new (IsNeededByReference new.rules g m reference) fault) (sym grown.graph)
    (subst (λ (r : Rules). IsFaultOfStoringOneOf new (IsNeededByReference r old.graph m reference) fault) (sym grown.rules) is)

-- ---- the entries of an import type

pub import_answer : (rules : Rules) (graph : GraphView) (m text : List ℕ) (parts : QualifiedNameParts) (paths : PathForest) (entries : List DepEntryView)
    → 0 < length parts
    → ArePathsOfReference rules graph (symbol_referenced_by_part (later_parts parts) (import_part_target graph m text (first_part parts) (later_parts parts)
    (resolve_specifier graph m text))) (unresolved_part_path
    (import_part_target graph m text (first_part parts) (later_parts parts) (resolve_specifier graph m text))) paths → entries ≡ path_entries paths
    → AreResolvedEntriesOfReference rules graph m (import_type text parts) entries × (entries ≡ dep_entries_of rules graph m (import_type text parts))
import_answer rules graph m text parts paths entries some found view =
    let w = import_part_target graph m text (first_part parts) (later_parts parts) (resolve_specifier graph m text) in
    let referenced = symbol_referenced_by_part (later_parts parts) w in
    subst (λ ps. AreResolvedEntriesOfReference rules graph m (import_type text ps) entries
    × (entries ≡ dep_entries_of rules graph m (import_type text ps))) (sym (some_parts parts some)) (
      entries_answer rules graph referenced (unresolved_part_path w) paths entries (path_entries (unresolved_part_path w)) found view refl,
      entries_listed rules graph referenced (unresolved_part_path w) paths entries (path_entries (unresolved_part_path w)) found view refl,
    )

pub module_answer : (rules : Rules) (graph : GraphView) (m text : List ℕ) (parts : QualifiedNameParts) (entries : List DepEntryView) → length parts ≡ 0
    → entries ≡ entries_of_reference_without_symbol graph m (import_type text [])
    → AreResolvedEntriesOfReference rules graph m (import_type text parts) entries × (entries ≡ dep_entries_of rules graph m (import_type text parts))
module_answer rules graph m text parts entries none_left view = subst (λ ps. AreResolvedEntriesOfReference rules graph m (import_type text ps) entries
    × (entries ≡ dep_entries_of rules graph m (import_type text ps))) (sym (nil_from_length parts none_left)) (view, view)

-- the entry of an import type without parts: its module, or one unresolved entry
pub module_there : (m text : List ℕ) (found : Option (List ℕ)) (v : List ℕ) (entries : List DepEntryView) → found ≡ Some v → entries ≡ module_dep_entry v ∷ []
    → entries ≡ entry_of_imported_module m text found ∷ []
module_there m text found v entries is view = view ∙ ap (λ f. entry_of_imported_module m text f ∷ []) (sym is)

pub module_missing : (old new : RootView) (id : ModuleId) (text : List ℕ) (found : Option (List ℕ)) (entries : List DepEntryView) → HasGrown old new
    → id.0 < length old.stored → found ≡ None → entries ≡ path_dep_entry (leaf (unresolved
    (record {
      specifier = specifier_in new id;
      reason = no_module text;
      parts =
          [];
    }))) ∷ [] → entries ≡ entry_of_imported_module (specifier_in old id) text found ∷ []
module_missing old new id text found entries grown within is view =
    view ∙ ((λ i. path_dep_entry
    (leaf (unresolved (record { specifier = specifier_unchanged_by_growth grown id within i; reason = no_module text; parts = [] }))) ∷ [])
    ∙ ap (λ f. entry_of_imported_module (specifier_in old id) text f ∷ []) (sym is))
