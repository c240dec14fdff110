-- The answers to queries: the answer to each question, which depends on the rules and the graph alone; its meaning, by the definitions of
-- exports, of shared names, of paths and of the entries of a reference; and the modules that are stored once a query is answered.
use Rattle.std.specs.Prelude.{ℕ, List, Option, map, Some, None, ◌≡◌, ◌≢◌, ◌↔◌, flat_map, find, reverse, AllPairs, Contains, MatchOption, [], ◌∷◌, ◌++◌, All}
use Rattle.std.specs.Prelude.{IfSome}
use Rattle.std.specs.Option.{option_map, option_map_or}
use Rattle.std.specs.List.{AllZip, IsDistinct}
use Rattle.std.specs.Str.{bytes_eq}
use Rattle.symbols_ast.specs.declared.ids.SymbolId.{SymbolId}
use Rattle.symbols_ast.specs.Graph.{GraphView, ModuleView}
use Rattle.symbols_nodes.specs.References.{NamespacedReference, SymbolReference}
use Rattle.symbols_nodes.specs.declared.deps.dep.ResolveDepsMode.{ResolveDepsMode}
use Rattle.symbols_table.specs.Changes.{symbol_of_ident_after_changes}
use Rattle.symbols_table.specs.SymbolViews.{SymbolView}
use Rattle.symbols_table.specs.QualifiedNames.{qualified_name}
use Rattle.symbols_deps.specs.DeclDependencies.{decl_dependencies, AreDeclDependencies}
use Rattle.symbols_root.specs.declared.rules.Rules.{Rules}
use Rattle.symbols_root.specs.declared.rules.Rules.TheVariants.{Deno, Strict}
use Rattle.symbols_root.specs.TypesChains.{resolved_module_specifier, is_analyzable, IsUniqueTypesChain}
use Rattle.symbols_root.specs.GraphModules.{table_changes_of_module, symbol_in_module}
use Rattle.symbols_root.specs.Roots.{RootView}
use Rattle.symbols_exports.specs.PublicNames.{ExportedNameWithMember, public_names_of, exports_of_symbol, public_names_with_members}
use Rattle.symbols_exports.specs.SharedNames.{NameWithExporters, AreSharedNames}
use Rattle.symbols_exports.specs.ExportViews.{ExportView, StarStatementView, export_view_of_entry, star_statement_view}
use Rattle.symbols_exports.specs.SharedNameLists.{shared_name_views_of_module, shared_name_view_of_entry}
use Rattle.symbols_exports.specs.Traces.{export_views_of_module, unresolved_star_views_of_module}
use Rattle.symbols_exports.specs.Exports.{ExportEntry, StarPosition, AreExports, AreUnresolvedStars}
use Rattle.symbols_exports.specs.StarStatements.{star_targets_of, explicit_exports_of}
use Rattle.symbols_exports.specs.Chains.{IsReachedByStars}
use Rattle.symbols_paths.specs.PathTrees.{DefinitionView, PathLeaf, PathForest, leaves_of_forest, definitions_among, definition, unresolved, PathTree, leaf}
use Rattle.symbols_paths.specs.PathTrees.{link, no_trees, more_trees}
use Rattle.symbols_paths.specs.DepAnswers.{DepEntryView, dep_entries_of, AreResolvedEntriesOfReference, path_dep_entry, module_dep_entry}
use Rattle.symbols_paths.specs.Computed.{definition_paths_of}
use Rattle.symbols_paths.specs.Answers.{AreDefinitionPaths}
use Rattle.symbols_answers.specs.Inputs.{InputView, input_of_specifier}
use Rattle.symbols_answers.specs.Questions.{QuestionView, query_module, query_exports, query_names, query_symbol, query_name, query_deps, query_paths}
use Rattle.symbols_answers.specs.Questions.{query_definitions, query_leaves, query_resolve, QueryForm, for_answer, for_inputs, QueryView, inputs_of_query}
use Rattle.symbols_answers.specs.Questions.{IsSpecifierLookedUpByQuery, IsSpecifierRequestedByQuery}

-- the answers: that the specifier resolves to no module; the module; the exports, the shared names by strict rules, and the unresolved
-- `export *` statements; the public names; the symbol of a name, if any; the fully qualified name of a symbol, if any; the dependencies of
-- each declaration of a symbol; the definition paths of a symbol; the definitions at their ends; all their ends; the entries of a
-- reference; and the inputs of a query
pub data AnswerView : Type 0 where
  answer_no_module : AnswerView
  answer_module : List ℕ → AnswerView
  answer_exports : List ExportView → Option (List (NameWithExporters ExportView)) → List StarStatementView → AnswerView
  answer_names : List ExportedNameWithMember → AnswerView
  answer_symbol : Option SymbolId → AnswerView
  answer_name : Option (List ℕ) → AnswerView
  answer_deps : List (List NamespacedReference) → AnswerView
  answer_paths : PathForest → AnswerView
  answer_definitions : List DefinitionView → AnswerView
  answer_leaves : List PathLeaf → AnswerView
  answer_resolve : List DepEntryView → AnswerView
  answer_inputs : List InputView → AnswerView

-- ---- the answer to a query

-- the value by strict rules, and none by Deno's
abbrev pub some_if_strict : {A : Type 0} → Rules → A → Option A
some_if_strict Deno x = None
some_if_strict Strict x = Some x

-- the definition paths of a symbol of the module of this specifier
abbrev pub definition_paths_from : Rules → GraphView → List ℕ → SymbolId → PathForest
definition_paths_from rules graph specifier s = definition_paths_of rules graph (record { specifier = specifier; number = s })

abbrev pub dependencies_answer : ResolveDepsMode → SymbolView → AnswerView
dependencies_answer mode symbol = answer_deps (map (decl_dependencies mode) symbol.decls)

-- the answer, if there is such a symbol
abbrev pub some_answer_if_symbol_exists : Option SymbolView → AnswerView → Option AnswerView
some_answer_if_symbol_exists None answer_of = None
some_answer_if_symbol_exists (Some symbol) answer_of = Some answer_of

-- the answer to a question on the module of this specifier; none if the module has no such symbol
abbrev pub question_answer : Rules → GraphView → List ℕ → QuestionView → Option AnswerView
question_answer rules graph specifier query_module = Some (answer_module specifier)
question_answer rules graph specifier query_exports =
    Some (answer_exports (export_views_of_module graph specifier) (some_if_strict rules (shared_name_views_of_module graph specifier))
    (unresolved_star_views_of_module graph specifier))
question_answer rules graph specifier query_names = Some (answer_names (public_names_of graph specifier))
question_answer rules graph specifier (query_symbol name) = Some (answer_symbol (symbol_of_ident_after_changes (table_changes_of_module graph specifier) name))
question_answer rules graph specifier (query_name s) =
    some_answer_if_symbol_exists (symbol_in_module graph specifier s) (answer_name (qualified_name (symbol_in_module graph specifier) s))
question_answer rules graph specifier (query_deps s mode) = option_map (dependencies_answer mode) (symbol_in_module graph specifier s)
question_answer rules graph specifier (query_paths s) =
    some_answer_if_symbol_exists (symbol_in_module graph specifier s) (answer_paths (definition_paths_from rules graph specifier s))
question_answer rules graph specifier (query_definitions s) =
    some_answer_if_symbol_exists (symbol_in_module graph specifier s)
    (answer_definitions (definitions_among (leaves_of_forest (definition_paths_from rules graph specifier s))))
question_answer rules graph specifier (query_leaves s) =
    some_answer_if_symbol_exists (symbol_in_module graph specifier s) (answer_leaves (leaves_of_forest (definition_paths_from rules graph specifier s)))
question_answer rules graph specifier (query_resolve reference) = Some (answer_resolve (dep_entries_of rules graph specifier reference))

-- the answer to the question of a query, on the module that its specifier resolves to; or its inputs
abbrev pub answer_in_form : QueryForm → Rules → GraphView → QueryView → Option AnswerView
answer_in_form for_answer rules graph query = option_map_or (λ (specifier : List ℕ). question_answer rules graph specifier query.question)
    (resolved_module_specifier graph query.specifier) (Some answer_no_module)
answer_in_form for_inputs rules graph query = Some (answer_inputs (inputs_of_query graph query))

-- the answer to a query
abbrev pub query_answer : Rules → GraphView → QueryView → Option AnswerView
query_answer rules graph query = answer_in_form query.form rules graph query

-- ---- the meaning of an answer

-- the answer has the exports of a module, the shared names by strict rules, and the unresolved statements, in order
pub record IsAnswerOfExports (rules : Rules) (graph : GraphView) (specifier : List ℕ) (answer : AnswerView) : Type 0 where
  pub entries : List ExportEntry
  pub are_exports : AreExports (star_targets_of graph) (explicit_exports_of graph) specifier entries
  pub shared : List (NameWithExporters ExportEntry)
  pub are_shared : AreSharedNames (star_targets_of graph) (explicit_exports_of graph) specifier shared
  pub unresolved : List StarPosition
  pub are_unresolved : AreUnresolvedStars (star_targets_of graph) specifier unresolved
  pub answer_is : answer ≡ answer_exports (map (export_view_of_entry graph specifier) entries)
      (some_if_strict rules (map (shared_name_view_of_entry graph specifier) shared)) (map
      (star_statement_view graph) unresolved)

-- the public names by these exports: each name without a member, then with each name that its symbol itself exports
abbrev pub public_names_of_entries : GraphView → List ExportEntry → List ExportedNameWithMember
public_names_of_entries graph entries = flat_map (λ (entry : ExportEntry). public_names_with_members entry.name
    (exports_of_symbol graph entry.exporter entry.symbol))
    entries

-- the answer has the public names of a module, by its exports, and none of them twice
pub record IsAnswerOfPublicNames (graph : GraphView) (specifier : List ℕ) (answer : AnswerView) : Type 0 where
  pub entries : List ExportEntry
  pub are_exports : AreExports (star_targets_of graph) (explicit_exports_of graph) specifier entries
  pub has_no_duplicates : AllPairs (λ (x y : ExportedNameWithMember). x ≢ y) (public_names_of_entries graph entries)
  pub answer_is : answer ≡ answer_names (public_names_of_entries graph entries)

-- the answer has for each declaration of a symbol, in order, the list of its dependencies
pub record IsAnswerOfDeps (graph : GraphView) (specifier : List ℕ) (s : SymbolId) (mode : ResolveDepsMode) (answer : AnswerView) : Type 0 where
  pub symbol : SymbolView
  pub symbol_is_in_module : symbol_in_module graph specifier s ≡ Some symbol
  pub lists_of_declarations : List (List NamespacedReference)
  pub are_dependencies : AllZip (AreDeclDependencies mode) symbol.decls lists_of_declarations
  pub answer_is : answer ≡ answer_deps lists_of_declarations

-- the answer is made from the definition paths of a symbol
pub record IsAnswerOfPaths (rules : Rules) (graph : GraphView) (specifier : List ℕ) (s : SymbolId) (answer_of : PathForest → AnswerView)
    (answer : AnswerView) : Type 0
  where
    pub paths : PathForest
    pub are_paths : AreDefinitionPaths rules graph (record { specifier = specifier; number = s }) paths
    pub answer_is : answer ≡ answer_of paths

-- the answer has the entries of a reference
pub record IsAnswerOfDepEntries (rules : Rules) (graph : GraphView) (specifier : List ℕ) (reference : SymbolReference) (answer : AnswerView) : Type 0 where
  pub entries : List DepEntryView
  pub are_dep_entries : AreResolvedEntriesOfReference rules graph specifier reference entries
  pub answer_is : answer ≡ answer_resolve entries

-- the meaning of an answer to a question on the module of this specifier: the module; its exports; its public names; the symbol of a name;
-- the fully qualified name of a symbol, and the dependencies of its declarations; its paths, the definitions at their ends, and all ends,
-- from left to right; and the entries of a reference
abbrev pub IsAnswerToQuestion : Rules → GraphView → List ℕ → QuestionView → AnswerView → Type 0
IsAnswerToQuestion rules graph specifier query_module answer = answer ≡ answer_module specifier
IsAnswerToQuestion rules graph specifier query_exports answer = IsAnswerOfExports rules graph specifier answer
IsAnswerToQuestion rules graph specifier query_names answer = IsAnswerOfPublicNames graph specifier answer
IsAnswerToQuestion rules graph specifier (query_symbol name) answer = answer ≡ answer_symbol
    (symbol_of_ident_after_changes (table_changes_of_module graph specifier) name)
IsAnswerToQuestion rules graph specifier (query_name s) answer = answer ≡ answer_name (qualified_name (symbol_in_module graph specifier) s)
IsAnswerToQuestion rules graph specifier (query_deps s mode) answer = IsAnswerOfDeps graph specifier s mode answer
IsAnswerToQuestion rules graph specifier (query_paths s) answer = IsAnswerOfPaths rules graph specifier s answer_paths answer
IsAnswerToQuestion rules graph specifier (query_definitions s) answer =
    IsAnswerOfPaths rules graph specifier s (λ paths. answer_definitions (definitions_among (leaves_of_forest paths))) answer
IsAnswerToQuestion rules graph specifier (query_leaves s) answer = IsAnswerOfPaths rules graph specifier s (λ paths. answer_leaves (leaves_of_forest paths))
    answer
IsAnswerToQuestion rules graph specifier (query_resolve reference) answer = IsAnswerOfDepEntries rules graph specifier reference answer

-- the last module with symbols on a types chain
abbrev pub last_analyzable_module : List ModuleView → Option ModuleView
last_analyzable_module chain = find is_analyzable (reverse chain)

-- the meaning of an answer to the question of a query: that on the last module with symbols on the types chain of its specifier, or that
-- there is none
pub record IsAnswerOnModule (rules : Rules) (graph : GraphView) (query : QueryView) (answer : AnswerView) : Type 0 where
  pub chain : List ModuleView
  pub is_chain : IsUniqueTypesChain graph query.specifier chain
  pub is_right_answer : MatchOption (last_analyzable_module chain) (answer ≡ answer_no_module)
      (λ found. IsAnswerToQuestion rules graph found.specifier query.question answer)

-- the answer has the inputs of a query: exactly the specifiers that it looks up, each with what the graph has under it, and none twice
pub record IsAnswerOfInputs (graph : GraphView) (query : QueryView) (answer : AnswerView) : Type 0 where
  pub inputs : List InputView
  pub all : (input : InputView) → Contains inputs input ↔ (IsSpecifierLookedUpByQuery graph query input.specifier
      × (input ≡ input_of_specifier graph input.specifier))
  pub has_no_duplicates : IsDistinct bytes_eq (map (λ input. input.specifier) inputs)
  pub in_order : inputs ≡ inputs_of_query graph query
  pub answer_is : answer ≡ answer_inputs inputs

-- the meaning of an answer to a query: of its question, or of its inputs
abbrev pub IsAnswerInForm : QueryForm → Rules → GraphView → QueryView → AnswerView → Type 0
IsAnswerInForm for_answer rules graph query answer = IsAnswerOnModule rules graph query answer
IsAnswerInForm for_inputs rules graph query answer = IsAnswerOfInputs graph query answer

abbrev pub IsAnswerToQuery : Rules → GraphView → QueryView → AnswerView → Type 0
IsAnswerToQuery rules graph query answer = IsAnswerInForm query.form rules graph query answer

-- ---- the modules that an answer names

-- the modules of a statement and of an export: the referrer, and the exporter with the referrers of its chain
abbrev pub star_referrer : StarStatementView → List ℕ
star_referrer statement = statement.0

abbrev pub modules_of_export : ExportView → List (List ℕ)
modules_of_export export = export.exporter ∷ map star_referrer export.statements

-- the modules of shared names: those of their exporters
abbrev pub modules_of_shared_name : NameWithExporters ExportView → List (List ℕ)
modules_of_shared_name shared = flat_map modules_of_export shared.exporters

abbrev pub modules_of_shared_names : Option (List (NameWithExporters ExportView)) → List (List ℕ)
modules_of_shared_names None = []
modules_of_shared_names (Some shared) = flat_map modules_of_shared_name shared

-- the modules of definitions, leaves and paths: that of the definition or leaf, and for a link those of its symbol and its declaration
abbrev pub module_of_definition_view : DefinitionView → List ℕ
module_of_definition_view x = x.decl.symbol.specifier

abbrev pub module_of_leaf : PathLeaf → List ℕ
module_of_leaf (definition x) = module_of_definition_view x
module_of_leaf (unresolved x) = x.specifier

abbrev mutual
  pub modules_of_path_tree : PathTree → List (List ℕ)
  modules_of_path_tree (leaf x) = module_of_leaf x ∷ []
  modules_of_path_tree (link head next) = head.symbol.specifier ∷ head.decl.symbol.specifier ∷ modules_of_path_forest next

  pub modules_of_path_forest : PathForest → List (List ℕ)
  modules_of_path_forest no_trees = []
  modules_of_path_forest (more_trees t f) = modules_of_path_tree t ++ modules_of_path_forest f

-- the modules of an entry: those of its path, or the module that it is
abbrev pub modules_of_dep_entry : DepEntryView → List (List ℕ)
modules_of_dep_entry (path_dep_entry t) = modules_of_path_tree t
modules_of_dep_entry (module_dep_entry specifier) = specifier ∷ []

-- the modules that an answer names; public names, a symbol, a name, dependencies and inputs name none
abbrev pub modules_of_answer : AnswerView → List (List ℕ)
modules_of_answer answer_no_module = []
modules_of_answer (answer_module specifier) = specifier ∷ []
modules_of_answer (answer_exports exports shared statements) = flat_map modules_of_export exports
    ++ (modules_of_shared_names shared ++ map star_referrer statements)
modules_of_answer (answer_names names) = []
modules_of_answer (answer_symbol symbol) = []
modules_of_answer (answer_name name) = []
modules_of_answer (answer_deps deps) = []
modules_of_answer (answer_paths paths) = modules_of_path_forest paths
modules_of_answer (answer_definitions definitions) = map module_of_definition_view definitions
modules_of_answer (answer_leaves leaves) = map module_of_leaf leaves
modules_of_answer (answer_resolve entries) = flat_map modules_of_dep_entry entries
modules_of_answer (answer_inputs inputs) = []

-- ---- what is stored

-- whether the question is on the exports of a module: its exports, or its public names
abbrev pub IsExportsOrPublicNamesQuestion : QuestionView → Type 0
IsExportsOrPublicNamesQuestion query_module = ⊥
IsExportsOrPublicNamesQuestion query_exports = Unit {0}
IsExportsOrPublicNamesQuestion query_names = Unit {0}
IsExportsOrPublicNamesQuestion (query_symbol name) = ⊥
IsExportsOrPublicNamesQuestion (query_name s) = ⊥
IsExportsOrPublicNamesQuestion (query_deps s mode) = ⊥
IsExportsOrPublicNamesQuestion (query_paths s) = ⊥
IsExportsOrPublicNamesQuestion (query_definitions s) = ⊥
IsExportsOrPublicNamesQuestion (query_leaves s) = ⊥
IsExportsOrPublicNamesQuestion (query_resolve reference) = ⊥

-- the queried module and all modules that the answer names are stored; for exports and public names also each module that is reached
pub record AreAnswerModulesStored (root : RootView) (specifier : List ℕ) (question : QuestionView) (answer : AnswerView) : Type 0 where
  pub is_queried_stored : Contains root.stored specifier
  pub reached : IsExportsOrPublicNamesQuestion question → (end : List ℕ) → IsReachedByStars (star_targets_of root.graph) specifier end
      → Contains root.stored end
  pub are_named_stored : All (Contains root.stored) (modules_of_answer answer)

-- each module that a requested specifier resolves to is stored
abbrev pub AreRequestedModulesStored : RootView → QueryView → Type 0
AreRequestedModulesStored root query = (key v : List ℕ) → IsSpecifierRequestedByQuery root.graph query key → resolved_module_specifier root.graph key ≡ Some v
    → Contains root.stored v

-- the same for a query: those of its answer, if its specifier resolves to a module; for its inputs those that it requests
abbrev pub AreModulesStoredInForm : QueryForm → RootView → QueryView → AnswerView → Type 0
AreModulesStoredInForm for_answer root query answer =
    IfSome (resolved_module_specifier root.graph query.specifier) (λ specifier. AreAnswerModulesStored root specifier query.question answer)
AreModulesStoredInForm for_inputs root query answer = AreRequestedModulesStored root query

abbrev pub AreQueryModulesStored : RootView → QueryView → AnswerView → Type 0
AreQueryModulesStored root query answer = AreModulesStoredInForm query.form root query answer
