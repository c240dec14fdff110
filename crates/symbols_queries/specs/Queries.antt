-- The queries and the answers of the library, as the definitions see them, and why a query fails.
use Rattle.std.specs.Prelude.{List, ℕ, map, Vec, string_bytes, ◌≡◌, ◌≢◌, ◌⊎◌, [], ◌∷◌, ◌++◌, All, Contains, Option, Some, None}
use Rattle.std.specs.Cow.{cow_str_bytes}
use Rattle.std.specs.Option.{option_map}
use Rattle.std.specs.Global.{Global}
use Rattle.symbols_ast.specs.Ids.{id_view}
use Rattle.symbols_ast.specs.Graph.{GraphView}
use Rattle.symbols_nodes.specs.References.{reference_view, NamespacedReference, namespaced_reference_view}
use Rattle.symbols_nodes.specs.declared.deps.dep.ReferenceNamespace.{ReferenceNamespace}
use Rattle.symbols_nodes.specs.declared.deps.dep.SymbolNodeDep.{SymbolNodeDep}
use Rattle.symbols_table.specs.declared.info.fault.SymbolsFault.{SymbolsFault}
use Rattle.symbols_table.specs.declared.info.fault.SymbolsFault.TheVariants.{OutOfMemory, UnknownSymbol}
use Rattle.symbols_root.specs.declared.rules.Rules.{Rules}
use Rattle.symbols_root.specs.Calls.{IsUnstoredOrHasTypesDependency}
use Rattle.symbols_root.specs.TypesChains.{resolved_module_specifier}
use Rattle.symbols_root.specs.Roots.{RootView, root_with_stored_module, IsStoringFault}
use Rattle.symbols_root.specs.Growing.{HasGrown}
use Rattle.symbols_exports.specs.PublicNames.{public_name_view}
use Rattle.symbols_exports.specs.SharedNames.{NameWithExporters}
use Rattle.symbols_exports.specs.ExportViews.{ExportView, StarStatementView}
use Rattle.symbols_exports.specs.Chains.{IsReachedByStars}
use Rattle.symbols_exports.specs.StarStatements.{star_targets_of}
use Rattle.symbols_paths.specs.declared.definition.DeclRef.{DeclRef}
use Rattle.symbols_paths.specs.PathTrees.{DeclBySpecifier, DefinitionView, UnresolvedEntry, PathLeaf, definition, unresolved, PathTree, PathForest, leaf, link}
use Rattle.symbols_paths.specs.Views.{star_import_view, reason_view, strings_view, forest_of_trees}
use Rattle.symbols_paths.specs.DepAnswers.{DepEntryView, path_dep_entry, module_dep_entry}
use Rattle.symbols_paths.specs.NeededModules.{IsModuleNeededBySearch, IsNeededByReference, AreNewlyStoredAmong}
use Rattle.symbols_answers.specs.Questions.{QuestionView, query_module, query_exports, query_names, query_symbol, query_name, query_deps, query_paths}
use Rattle.symbols_answers.specs.Questions.{query_definitions, query_leaves, query_resolve, for_answer, QueryView, QueryForm, for_inputs}
use Rattle.symbols_answers.specs.Questions.{IsSpecifierRequestedByQuery}
use Rattle.symbols_answers.specs.Answers.{AnswerView, answer_no_module, answer_module, answer_exports, answer_names, answer_symbol, answer_name, answer_deps}
use Rattle.symbols_answers.specs.Answers.{answer_paths, answer_definitions, answer_leaves, answer_resolve, answer_inputs, query_answer, AreQueryModulesStored}
use Rattle.symbols_answers.specs.Inputs.{FoundView, found_module, found_redirect, found_absent, InputView}
use Rattle.symbols_queries.specs.declared.query.Query.{Query}
use Rattle.symbols_queries.specs.declared.query.Answer.{Answer}
use Rattle.symbols_queries.specs.declared.inputs.Found.{Found}
use Rattle.symbols_queries.specs.declared.inputs.QueryInput.{QueryInput}
use Rattle.symbols_queries.specs.declared.exports_by_specifier.ExportBySpecifier.{ExportBySpecifier}
use Rattle.symbols_queries.specs.declared.exports_by_specifier.StarStatementBySpecifier.{StarStatementBySpecifier}
use Rattle.symbols_queries.specs.declared.shared_name_by_specifier.ExporterBySpecifier.{ExporterBySpecifier}
use Rattle.symbols_queries.specs.declared.shared_name_by_specifier.SharedNameBySpecifier.{SharedNameBySpecifier}
use Rattle.symbols_queries.specs.declared.paths_by_specifier.DefinitionBySpecifier.{DefinitionBySpecifier}
use Rattle.symbols_queries.specs.declared.paths_by_specifier.PathEndBySpecifier.{PathEndBySpecifier}
use Rattle.symbols_queries.specs.declared.paths_by_specifier.DepEntryBySpecifier.{DepEntryBySpecifier}
use Rattle.symbols_queries.specs.declared.paths_by_specifier.PathLinkBySpecifier.{PathLinkBySpecifier-F}
use Rattle.symbols_queries.specs.declared.paths_by_specifier.PathBySpecifier.{PathBySpecifier}
use Rattle.symbols_queries.specs.declared.paths_by_specifier.PathBySpecifier.TheFolds.{fold-PathBySpecifier}
use Rattle.symbols_queries.specs.declared.paths_by_specifier.PathBySpecifier.TheOpen as open_path
use Rattle.symbols_queries.specs.declared.paths_by_specifier.UnresolvedBySpecifier.{UnresolvedBySpecifier}

abbrev pub query_with_question : List ℕ → QuestionView → QueryView
query_with_question specifier question = record { specifier = specifier; question = question; form = for_answer }

abbrev pub query_view : Query → QueryView
query_view (Query.Module specifier) = query_with_question specifier.now query_module
query_view (Query.Exports specifier) = query_with_question specifier.now query_exports
query_view (Query.Names specifier) = query_with_question specifier.now query_names
query_view (Query.Symbol specifier name) = query_with_question specifier.now (query_symbol (id_view name))
query_view (Query.Name specifier symbol) = query_with_question specifier.now (query_name symbol)
query_view (Query.Deps specifier symbol mode) = query_with_question specifier.now (query_deps symbol mode)
query_view (Query.Paths specifier symbol) = query_with_question specifier.now (query_paths symbol)
query_view (Query.Definitions specifier symbol) = query_with_question specifier.now (query_definitions symbol)
query_view (Query.Leaves specifier symbol) = query_with_question specifier.now (query_leaves symbol)
query_view (Query.Resolve specifier dep) = query_with_question specifier.now (query_resolve (reference_view dep))

-- ---- the answers of the library

-- ---- exports

abbrev pub star_statement_by_specifier_view : StarStatementBySpecifier → StarStatementView
star_statement_by_specifier_view statement = (statement.referrer.now, statement.specifier.now)

abbrev pub export_view : ExportBySpecifier → ExportView
export_view named = record {
  name = string_bytes named.name;
  statements = map star_statement_by_specifier_view named.chain.items;
  exporter = named.«module».now;
  symbol = named.symbol;
}

-- an exporter of a shared name, with that name
abbrev pub exporter_view : List ℕ → ExporterBySpecifier → ExportView
exporter_view name exporter =
    record { name = name; statements = map star_statement_by_specifier_view exporter.chain.items; exporter = exporter.«module».now; symbol = exporter.symbol }

abbrev pub shared_name_view : SharedNameBySpecifier → NameWithExporters ExportView
shared_name_view shared = record { name = string_bytes shared.name; exporters = map (exporter_view (string_bytes shared.name)) shared.exporters.items }

abbrev pub shared_names_view : Vec SharedNameBySpecifier Global → List (NameWithExporters ExportView)
shared_names_view shared = map shared_name_view shared.items

-- ---- dependencies

abbrev pub deps_view : Vec (SymbolNodeDep × ReferenceNamespace) Global → List NamespacedReference
deps_view deps = map namespaced_reference_view deps.items

-- ---- paths

abbrev pub decl_with_specifier : List ℕ → DeclRef → DeclBySpecifier
decl_with_specifier specifier decl = record { symbol = record { specifier = specifier; number = decl.symbol }; index = decl.index }

abbrev pub definition_by_specifier_view : DefinitionBySpecifier → DefinitionView
definition_by_specifier_view x = record { decl = decl_with_specifier x.«module».now x.decl; range = x.range; star = star_import_view x.kind }

abbrev pub unresolved_by_specifier_view : UnresolvedBySpecifier → UnresolvedEntry
unresolved_by_specifier_view x = record { specifier = x.«module».now; reason = reason_view x.kind; parts = strings_view x.parts.items }

-- a step of a path, with the trees of the next steps in place
abbrev pub fold_path_by_specifier_to_tree : open_path.PathBySpecifier-F PathTree PathTree → PathTree
fold_path_by_specifier_to_tree (open_path.Link t) = t
fold_path_by_specifier_to_tree (open_path.Definition x) = leaf (definition (definition_by_specifier_view x))
fold_path_by_specifier_to_tree (open_path.Unresolved x) = leaf (unresolved (unresolved_by_specifier_view x))

abbrev pub fold_link_by_specifier_to_tree : PathLinkBySpecifier-F PathTree PathTree → PathTree
fold_link_by_specifier_to_tree x = link (record {
  symbol = record { specifier = x.«module».now; number = x.symbol };
  decl = decl_with_specifier x.«module».now x.decl;
  parts = strings_view x.parts.items;
}) (forest_of_trees x.next.items)

abbrev pub path_tree_view : PathBySpecifier → PathTree
path_tree_view = fold-PathBySpecifier PathTree PathTree fold_path_by_specifier_to_tree fold_link_by_specifier_to_tree

abbrev pub path_forest_view : List PathBySpecifier → PathForest
path_forest_view paths = forest_of_trees (map path_tree_view paths)

abbrev pub path_end_view : PathEndBySpecifier → PathLeaf
path_end_view (PathEndBySpecifier.Definition x) = definition (definition_by_specifier_view x)
path_end_view (PathEndBySpecifier.Unresolved x) = unresolved (unresolved_by_specifier_view x)

abbrev pub dep_entry_view : DepEntryBySpecifier → DepEntryView
dep_entry_view (DepEntryBySpecifier.Path path) = path_dep_entry (path_tree_view path)
dep_entry_view (DepEntryBySpecifier.ImportType specifier) = module_dep_entry specifier.now

-- ---- inputs

abbrev pub found_view : Found → FoundView
found_view Found.Module = found_module
found_view (Found.Redirect specifier) = found_redirect specifier.now
found_view Found.Absent = found_absent

abbrev pub input_view : QueryInput → InputView
input_view input = record { specifier = cow_str_bytes input.specifier; found = found_view input.found }

-- ---- answers

abbrev pub answer_view : Answer → AnswerView
answer_view Answer.NoModule = answer_no_module
answer_view (Answer.Module specifier) = answer_module specifier.now
answer_view (Answer.Exports named) = answer_exports (map export_view named.exports.items) (option_map shared_names_view named.shared)
    (map star_statement_by_specifier_view named.unresolved.items)
answer_view (Answer.Names names) = answer_names (map public_name_view names.items)
answer_view (Answer.Symbol symbol) = answer_symbol symbol
answer_view (Answer.Name name) = answer_name (option_map string_bytes name)
answer_view (Answer.Deps deps) = answer_deps (map deps_view deps.items)
answer_view (Answer.Paths paths) = answer_paths (path_forest_view paths.items)
answer_view (Answer.Definitions definitions) = answer_definitions (map definition_by_specifier_view definitions.items)
answer_view (Answer.Leaves leaves) = answer_leaves (map path_end_view leaves.items)
answer_view (Answer.Resolve entries) = answer_resolve (map dep_entry_view entries.items)

-- the inputs of a query, as the answer to the query for them
abbrev pub inputs_view : Vec QueryInput Global → AnswerView
inputs_view inputs = answer_inputs (map input_view inputs.items)

-- ---- why a query fails

-- the other modules that a question on a module may need: for its exports and public names the reachable ones, for definitions and
-- references those of the search
abbrev pub IsOtherModuleNeededByQuestion : Rules → GraphView → List ℕ → QuestionView → List ℕ → Type 0
IsOtherModuleNeededByQuestion rules graph specifier query_module v = ⊥
IsOtherModuleNeededByQuestion rules graph specifier query_exports v = IsReachedByStars (star_targets_of graph) specifier v
IsOtherModuleNeededByQuestion rules graph specifier query_names v = IsReachedByStars (star_targets_of graph) specifier v
IsOtherModuleNeededByQuestion rules graph specifier (query_symbol name) v = ⊥
IsOtherModuleNeededByQuestion rules graph specifier (query_name s) v = ⊥
IsOtherModuleNeededByQuestion rules graph specifier (query_deps s mode) v = ⊥
IsOtherModuleNeededByQuestion rules graph specifier (query_paths s) v = IsModuleNeededBySearch rules graph specifier [] v
IsOtherModuleNeededByQuestion rules graph specifier (query_definitions s) v = IsModuleNeededBySearch rules graph specifier [] v
IsOtherModuleNeededByQuestion rules graph specifier (query_leaves s) v = IsModuleNeededBySearch rules graph specifier [] v
IsOtherModuleNeededByQuestion rules graph specifier (query_resolve reference) v = IsNeededByReference rules graph specifier reference v

-- the modules that the inputs of a query need: those that the specifiers which it requests resolve to
abbrev pub IsNeededForInputs : GraphView → QueryView → List ℕ → Type 0
IsNeededForInputs graph query v = (key : List ℕ) × IsSpecifierRequestedByQuery graph query key × (resolved_module_specifier graph key ≡ Some v)

-- the modules that a query may need besides the one that its specifier resolves to
abbrev pub IsNeededInForm : QueryForm → Rules → GraphView → QueryView → List ℕ → Type 0
IsNeededInForm for_answer rules graph query v = (specifier : List ℕ) × (resolved_module_specifier graph query.specifier ≡ Some specifier)
    × IsOtherModuleNeededByQuestion rules graph specifier query.question v
IsNeededInForm for_inputs rules graph query v = IsNeededForInputs graph query v

abbrev pub IsOtherModuleNeededByQuery : Rules → GraphView → QueryView → List ℕ → Type 0
IsOtherModuleNeededByQuery rules graph query v = IsNeededInForm query.form rules graph query v

-- the modules that a query may store: the one that its specifier resolves to, and those that it may need besides
abbrev pub CanBeStoredByQuery : Rules → GraphView → QueryView → List ℕ → Type 0
CanBeStoredByQuery rules graph query v = (resolved_module_specifier graph query.specifier ≡ Some v) ⊎ IsOtherModuleNeededByQuery rules graph query v

-- the modules that one of some queries may store
abbrev pub CanBeStoredByQueries : Rules → GraphView → List QueryView → List ℕ → Type 0
CanBeStoredByQueries rules graph queries v = (query : QueryView) × Contains queries query × CanBeStoredByQuery rules graph query v

-- the queried module has no such symbol: it alone is stored, if it wasn't
pub record IsUnknownSymbolQueryFault (old new : RootView) (query : QueryView) (fault : SymbolsFault) : Type 0 where
  pub no_answer : query_answer old.rules old.graph query ≡ None
  pub fault_is : fault ≡ UnknownSymbol
  pub stored : new ≡ root_with_stored_module old (resolved_module_specifier old.graph query.specifier)

-- the queried module is refused, or an allocation failed for it: nothing changes. It isn't stored, or a types dependency leads to it
pub record IsQueriedModuleRefused (old new : RootView) (query : QueryView) (fault : SymbolsFault) : Type 0 where
  pub refused : IsStoringFault old (resolved_module_specifier old.graph query.specifier) fault
  pub can_fail : IsUnstoredOrHasTypesDependency old query.specifier
  pub unchanged : new ≡ old

-- the query has an answer, and the queried module is stored; another module that may be needed is refused, or an allocation failed. Besides
-- the queried module only such as may be needed are newly stored
pub record IsOtherNeededModuleRefused (old new : RootView) (query : QueryView) (fault : SymbolsFault) : Type 0 where
  pub has_answer : query_answer old.rules old.graph query ≢ None
  pub stored : HasGrown (root_with_stored_module old (resolved_module_specifier old.graph query.specifier)) new
  pub are_newly_stored_for_queries : AreNewlyStoredAmong (root_with_stored_module old (resolved_module_specifier old.graph query.specifier)) new
      (IsOtherModuleNeededByQuery old.rules old.graph query)
  pub needed : Option (List ℕ)
  pub is_needed : (v : List ℕ) → needed ≡ Some v → IsOtherModuleNeededByQuery old.rules old.graph query v
  pub refused : IsStoringFault new needed fault

-- why a query fails: one of these
abbrev pub IsQueryFault : RootView → RootView → QueryView → SymbolsFault → Type 0
IsQueryFault old new query fault = IsUnknownSymbolQueryFault old new query fault ⊎ IsQueriedModuleRefused old new query fault
    ⊎ IsOtherNeededModuleRefused old new
    query fault

-- a query is answered: it has an answer, and the modules that it needs are stored
abbrev pub HasAnswerWithModulesStored : RootView → QueryView → Type 0
HasAnswerWithModulesStored root query = (answer : AnswerView) × (query_answer root.rules root.graph query ≡ Some answer)
    × AreQueryModulesStored root query answer

-- the query is answered, and an allocation failed for the list of answers
pub record IsOutOfMemoryAfterAnswer (old new : RootView) (query : QueryView) (fault : SymbolsFault) : Type 0 where
  pub fault_is : fault ≡ OutOfMemory
  pub answered : HasAnswerWithModulesStored new query
  pub grown : HasGrown old new
  pub are_newly_stored_for_queries : AreNewlyStoredAmong old new (CanBeStoredByQuery old.rules old.graph query)

-- why a list of queries fails: those before one are answered, in a root that has stored what they need, and newly stored only what they may
-- store; from that root on this one fails, or its answer is lost
pub record IsQueryListFault (old new : RootView) (queries : List QueryView) (fault : SymbolsFault) : Type 0 where
  pub queries_before : List QueryView
  pub query : QueryView
  pub queries_after : List QueryView
  pub queries_are_split : queries ≡ queries_before ++ query ∷ queries_after
  pub root_between : RootView
  pub grown : HasGrown old root_between
  pub are_newly_stored_for_queries : AreNewlyStoredAmong old root_between (CanBeStoredByQueries old.rules old.graph queries_before)
  pub answered : All (HasAnswerWithModulesStored root_between) queries_before
  pub query_fails_or_loses_answer : IsQueryFault root_between new query fault ⊎ IsOutOfMemoryAfterAnswer root_between new query fault
