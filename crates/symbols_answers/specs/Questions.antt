-- The queries on modules, and the specifiers that each follows and looks up: by the form of its question, and as a list made step by step.
-- The list is proved to have exactly those of the definitions.
use Rattle.std.specs.Prelude.{ℕ, List, ◌≡◌, Contains, Some, zero, suc, ◌^◌, [], ◌∷◌, ◌++◌, fold, map, flat_map, filter_map, Option, None, slice_get}
use Rattle.std.specs.Prelude.{if◌then◌else◌}
use Rattle.std.specs.List.{range_with_len}
use Rattle.std.specs.Option.{option_map, option_map_or, option_and_then}
use Rattle.symbols_ast.specs.declared.ids.SymbolId.{SymbolId}
use Rattle.symbols_ast.specs.Ids.{IdView}
use Rattle.symbols_ast.specs.Graph.{GraphView, specifier_after_redirect, ModuleView, module_after_redirect, content_types_dependency, resolved_dependency}
use Rattle.symbols_nodes.specs.declared.deps.dep.ResolveDepsMode.{ResolveDepsMode}
use Rattle.symbols_nodes.specs.References.{SymbolReference, import_type, id, qualified_id}
use Rattle.symbols_table.specs.DeclViews.{FileDepNameView, file_ref, Declaration, FileDepView, decl_kind_dep}
use Rattle.symbols_table.specs.Analysis.{symbol_count}
use Rattle.symbols_root.specs.TypesChains.{resolved_module_specifier}
use Rattle.symbols_root.specs.GraphModules.{table_changes_of_module}
use Rattle.symbols_root.specs.Specifiers.{contains_specifier}
use Rattle.symbols_exports.specs.StarStatements.{star_specifiers}
use Rattle.symbols_paths.specs.PathTrees.{SymbolBySpecifier, QualifiedNameParts}
use Rattle.symbols_paths.specs.DeclTargets.{declarations_of}
use Rattle.symbols_answers.specs.Seen.{FollowedSpecifierRelation, IsStarSpecifierOfModule, IsSpecifierReachedByFollowing, IsSpecifierLookedUp}
use Rattle.symbols_answers.specs.Seen.{AreAlikeWhereLookedUp}
use Rattle.symbols_answers.specs.Inputs.{InputView, input_of_specifier}

-- a question on a module: which module it is; its exports; its public names; the symbol of a name; the fully qualified name of a symbol,
-- the dependencies of its declarations, its definition paths, the definitions at their ends, and all their ends; and the entries of a
-- reference
pub data QuestionView : Type 0 where
  query_module : QuestionView
  query_exports : QuestionView
  query_names : QuestionView
  query_symbol : IdView → QuestionView
  query_name : SymbolId → QuestionView
  query_deps : SymbolId → ResolveDepsMode → QuestionView
  query_paths : SymbolId → QuestionView
  query_definitions : SymbolId → QuestionView
  query_leaves : SymbolId → QuestionView
  query_resolve : SymbolReference → QuestionView

-- what is queried: the answer to a question, or its inputs, which are the specifiers that the answer rests on
pub data QueryForm : Type 0 where
  for_answer : QueryForm
  for_inputs : QueryForm

-- a question on the module that a specifier resolves to
pub record QueryView : Type 0 where
  pub specifier : List ℕ
  pub question : QuestionView
  pub form : QueryForm

-- the query for the inputs of a query
abbrev pub inputs_query : QueryView → QueryView
inputs_query query = record { specifier = query.specifier; question = query.question; form = for_inputs }

-- ---- what a query looks up

-- a search for definitions follows the specifiers of `export *` statements, of imports and of re-exports; and in the queried module that of
-- the import type that is resolved
pub data IsFollowedBySearch (graph : GraphView) (queried : List ℕ) (question : QuestionView) : List ℕ → List ℕ → Type 0 where
  star_specifier_is_followed : {specifier specifier_text : List ℕ} → Contains (star_specifiers graph specifier) specifier_text
      → IsFollowedBySearch graph queried question specifier specifier_text
  import_specifier_is_followed : {specifier_text : List ℕ} (s : SymbolBySpecifier) (decl : Declaration) (name : FileDepNameView) → Contains
      (declarations_of graph s) decl
      → decl.kind ≡ file_ref name specifier_text → IsFollowedBySearch graph queried question s.specifier specifier_text
  import_type_specifier_is_followed : {specifier specifier_text : List ℕ} (parts : QualifiedNameParts) → resolved_module_specifier graph queried
      ≡ Some specifier
      → question ≡ query_resolve (import_type specifier_text parts) → IsFollowedBySearch graph queried question specifier specifier_text

-- the specifiers that a question follows: none, if it is on the queried module alone; those of `export *` statements for exports and public
-- names; those of the search for paths, definitions, leaves and references
abbrev pub IsSpecifierFollowedForQuestion : GraphView → List ℕ → QuestionView → FollowedSpecifierRelation
IsSpecifierFollowedForQuestion graph queried query_module = λ specifier specifier_text. ⊥
IsSpecifierFollowedForQuestion graph queried query_exports = IsStarSpecifierOfModule graph
IsSpecifierFollowedForQuestion graph queried query_names = IsStarSpecifierOfModule graph
IsSpecifierFollowedForQuestion graph queried (query_symbol name) = λ specifier specifier_text. ⊥
IsSpecifierFollowedForQuestion graph queried (query_name s) = λ specifier specifier_text. ⊥
IsSpecifierFollowedForQuestion graph queried (query_deps s mode) = λ specifier specifier_text. ⊥
IsSpecifierFollowedForQuestion graph queried (query_paths s) = IsFollowedBySearch graph queried (query_paths s)
IsSpecifierFollowedForQuestion graph queried (query_definitions s) = IsFollowedBySearch graph queried (query_definitions s)
IsSpecifierFollowedForQuestion graph queried (query_leaves s) = IsFollowedBySearch graph queried (query_leaves s)
IsSpecifierFollowedForQuestion graph queried (query_resolve reference) = IsFollowedBySearch graph queried (query_resolve reference)

-- the query requests the specifier
abbrev pub IsSpecifierRequestedByQuery : GraphView → QueryView → List ℕ → Type 0
IsSpecifierRequestedByQuery graph query key = IsSpecifierReachedByFollowing graph (IsSpecifierFollowedForQuestion graph query.specifier query.question)
    query.specifier key

-- the query looks up the specifier
abbrev pub IsSpecifierLookedUpByQuery : GraphView → QueryView → List ℕ → Type 0
IsSpecifierLookedUpByQuery graph query key = IsSpecifierLookedUp graph (IsSpecifierFollowedForQuestion graph query.specifier query.question) query.specifier
    key

-- the graphs agree on what the query looks up in the first
abbrev pub AreAlikeForQuery : GraphView → GraphView → QueryView → Type 0
AreAlikeForQuery graph other query = AreAlikeWhereLookedUp graph other (IsSpecifierFollowedForQuestion graph query.specifier query.question) query.specifier

-- no specifier that the query looks up is, after one redirect, that of the module
abbrev pub IsModuleNotLookedUpByQuery : GraphView → QueryView → List ℕ → Type 0
IsModuleNotLookedUpByQuery graph query specifier = (key : List ℕ) → IsSpecifierLookedUpByQuery graph query key → specifier_after_redirect graph key ≡ specifier
    → ⊥

-- ---- lists of specifiers

-- the list with a specifier at its end, unless it has that already
abbrev pub append_specifier_if_absent : List (List ℕ) → List ℕ → List (List ℕ)
append_specifier_if_absent specifiers specifier = if contains_specifier specifiers specifier then specifiers else specifiers ++ specifier ∷ []

abbrev pub append_optional_specifier_if_absent : List (List ℕ) → Option (List ℕ) → List (List ℕ)
append_optional_specifier_if_absent specifiers None = specifiers
append_optional_specifier_if_absent specifiers (Some specifier) = append_specifier_if_absent specifiers specifier

-- the list with what these specifiers, written in the referrer, resolve to
abbrev pub append_resolved_specifiers : GraphView → List ℕ → List (List ℕ) → List (List ℕ) → List (List ℕ)
append_resolved_specifiers graph referrer specifiers specifier_texts =
    fold (λ list specifier_text. append_optional_specifier_if_absent list (resolved_dependency graph referrer specifier_text)) specifiers specifier_texts

-- the list after each of its specifiers, from an index on, has added others at its end. The number bounds the steps
unfoldable pub list_grown_by_walk_from_index : (List ℕ → List (List ℕ) → List (List ℕ)) → ℕ → ℕ → List (List ℕ) → List (List ℕ)
list_grown_by_walk_from_index step zero position specifiers = specifiers
list_grown_by_walk_from_index step (suc n) position specifiers =
    option_map_or (λ specifier. list_grown_by_walk_from_index step n (suc position) (step specifier specifiers)) (slice_get specifiers position) specifiers

-- more steps than any walk takes: fewer specifiers can be numbered
abbrev pub walk_limit : ℕ
walk_limit = 2 ^ 64

-- ---- the specifiers that are followed

-- the declarations of each symbol of a module, in order of the symbols' numbers
abbrev pub declarations_in_module : GraphView → List ℕ → List (List Declaration)
declarations_in_module graph specifier = map (λ n. declarations_of graph (record { specifier = specifier; number = record { 0 = n } }))
    (range_with_len 0 (symbol_count (table_changes_of_module graph specifier)))

-- the specifiers of the imports and re-exports among declarations
abbrev pub import_specifiers_among : List Declaration → List (List ℕ)
import_specifiers_among decls = filter_map (λ (decl : Declaration). option_map (λ (dep : FileDepView). dep.specifier) (decl_kind_dep decl.kind)) decls

abbrev pub import_specifiers : GraphView → List ℕ → List (List ℕ)
import_specifiers graph specifier = flat_map import_specifiers_among (declarations_in_module graph specifier)

abbrev pub star_and_import_specifiers : GraphView → List ℕ → List (List ℕ)
star_and_import_specifiers graph specifier = star_specifiers graph specifier ++ import_specifiers graph specifier

-- the specifiers written in a module that a question follows, besides that of an import type
abbrev pub followed_specifiers : GraphView → QuestionView → List ℕ → List (List ℕ)
followed_specifiers graph query_module specifier = []
followed_specifiers graph query_exports specifier = star_specifiers graph specifier
followed_specifiers graph query_names specifier = star_specifiers graph specifier
followed_specifiers graph (query_symbol name) specifier = []
followed_specifiers graph (query_name s) specifier = []
followed_specifiers graph (query_deps s mode) specifier = []
followed_specifiers graph (query_paths s) specifier = star_and_import_specifiers graph specifier
followed_specifiers graph (query_definitions s) specifier = star_and_import_specifiers graph specifier
followed_specifiers graph (query_leaves s) specifier = star_and_import_specifiers graph specifier
followed_specifiers graph (query_resolve reference) specifier = star_and_import_specifiers graph specifier

-- the specifier of an import type
abbrev pub import_type_specifier : SymbolReference → Option (List ℕ)
import_type_specifier (id name) = None
import_type_specifier (qualified_id name parts) = None
import_type_specifier (import_type specifier_text parts) = Some specifier_text

-- the specifier of the import type that is resolved, if the question is on one
abbrev pub import_type_specifier_of_question : QuestionView → Option (List ℕ)
import_type_specifier_of_question (query_resolve reference) = import_type_specifier reference
import_type_specifier_of_question _ = None

-- ---- the walks

-- the list with what a question requests from the module that a specifier resolves to
abbrev pub append_requested_specifiers : GraphView → QuestionView → List ℕ → List (List ℕ) → List (List ℕ)
append_requested_specifiers graph question key specifiers =
    option_map_or (λ specifier. append_resolved_specifiers graph specifier specifiers (followed_specifiers graph question specifier))
    (resolved_module_specifier graph key) specifiers

-- the list with what an import type in the queried module resolves to
abbrev pub append_resolved_import_type : GraphView → QueryView → List (List ℕ) → List (List ℕ)
append_resolved_import_type graph query specifiers =
    option_map_or (λ specifier_text. option_map_or (λ specifier. append_optional_specifier_if_absent specifiers
    (resolved_dependency graph specifier specifier_text))
    (resolved_module_specifier graph query.specifier) specifiers) (import_type_specifier_of_question query.question) specifiers

-- the specifiers that a query requests
abbrev pub requested_specifiers : GraphView → QueryView → List (List ℕ)
requested_specifiers graph query = list_grown_by_walk_from_index (append_requested_specifiers graph query.question) walk_limit 0
    (append_resolved_import_type graph query (query.specifier ∷ []))

-- the list with the types dependency of the module that is found under a specifier
abbrev pub append_types_dependency : GraphView → List ℕ → List (List ℕ) → List (List ℕ)
append_types_dependency graph key specifiers =
    append_optional_specifier_if_absent specifiers (option_and_then (λ (m : ModuleView). content_types_dependency m.content) (module_after_redirect graph key))

-- the specifiers that a query looks up: the requested ones in the order of requests, then those that only types dependencies lead to
abbrev pub seen_specifiers : GraphView → QueryView → List (List ℕ)
seen_specifiers graph query = list_grown_by_walk_from_index (append_types_dependency graph) walk_limit 0 (requested_specifiers graph query)

-- the inputs of a query
abbrev pub inputs_of_query : GraphView → QueryView → List InputView
inputs_of_query graph query = map (input_of_specifier graph) (seen_specifiers graph query)
