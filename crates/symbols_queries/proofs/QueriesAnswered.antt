-- The answers to questions, by the contracts of the library's calls.
use Rattle.std.proofs.Common.{◌≡◌, ◌≢◌, ℕ, ◌<◌, ◌⊎◌, inl, inr, List, [], ◌∷◌, length, map, slice_get}
use Rattle.std.proofs.Common.{Option, None, Some, option_map, refl, sym, ap, subst, ◌∙◌, arith}
use Rattle.std.specs.Prelude.{All, AllPairs, Contains, IsSome, Result, Ok, Err, IfErr, string_bytes}
use Rattle.std.specs.List.{AllZip}
use Rattle.std.specs.Result.{IsErrAnd}
use Rattle.std.proofs.lemmas.List.Elements.{All-nil, All-cons}
use Rattle.std.proofs.lemmas.Option.{none-some}
use Rattle.symbols_ast.specs.declared.ids.ModuleId.{ModuleId}
use Rattle.symbols_ast.specs.declared.ids.SymbolId.{SymbolId}
use Rattle.symbols_ast.specs.Graph.{GraphView}
use Rattle.symbols_ast.specs.Ids.{IdView}
use Rattle.symbols_nodes.specs.declared.deps.dep.ResolveDepsMode.{ResolveDepsMode}
use Rattle.symbols_nodes.specs.References.{SymbolReference, NamespacedReference}
use Rattle.symbols_table.specs.declared.decl.symbol.Symbol.{Symbol}
use Rattle.symbols_table.specs.declared.info.fault.SymbolsFault.{SymbolsFault}
use Rattle.symbols_table.specs.declared.info.fault.SymbolsFault.TheVariants as fault
use Rattle.symbols_table.specs.Changes.{symbol_of_ident_after_changes}
use Rattle.symbols_table.specs.DeclViews.{Declaration}
use Rattle.symbols_deps.specs.DeclDependencies.{decl_dependencies, AreDeclDependencies}
use Rattle.symbols_table.specs.Modules.{SymbolTable, symbol_in_table}
use Rattle.symbols_table.specs.QualifiedNames.{qualified_name, IsQualifiedNameFault}
use Rattle.symbols_table.specs.Symbols.{symbol_decls}
use Rattle.symbols_table.specs.SymbolViews.{SymbolView, symbol_view}
use Rattle.symbols_root.specs.declared.rules.Rules.{Rules}
use Rattle.symbols_root.specs.declared.rules.Rules.TheVariants.{Deno, Strict}
use Rattle.symbols_root.specs.GraphModules.{table_changes_of_module, symbol_in_module}
use Rattle.symbols_root.specs.Growing.{HasGrown}
use Rattle.symbols_root.specs.Roots.{RootView, IsStoringFault, IsTableOfStoredModule, specifier_in}
use Rattle.symbols_root.specs.laws.Growing.{has_grown_refl}
use Rattle.symbols_root.specs.laws.StoredTables.{stored_table_has_module_symbols}
use Rattle.symbols_exports.specs.ExportAnswers.{IsExportsCallResult, IsExportsCallFault, AreExportListsCorrectAndUnique}
use Rattle.symbols_exports.specs.PublicNames.{ExportedNameWithMember, IsPublicNamesCallResult}
use Rattle.symbols_exports.specs.CollectedNames.{ResolvedExportView}
use Rattle.symbols_exports.specs.ExportViews.{ExportView, StarStatementView, export_by_specifier, star_statement_by_specifier}
use Rattle.symbols_exports.specs.SharedNames.{NameWithExporters}
use Rattle.symbols_exports.specs.SharedNameLists.{shared_names_of, shared_name_view_of_resolved, shared_name_views_of_module, shared_name_views_if_strict}
use Rattle.symbols_exports.specs.Traces.{exports_of, unresolved_stars_of}
use Rattle.symbols_paths.specs.Answers.{symbol_in_root as symbol_stored, AreDefinitionPaths, IsFindDefinitionPathsFault}
use Rattle.symbols_paths.specs.DepAnswers.{DepEntryView, AreResolvedEntriesOfReference, dep_entries_of, IsFaultOfStoringForReference, IsResolveSymbolDepFault}
use Rattle.symbols_paths.specs.NeededModules.{IsModuleNeededBySearch, IsNeededByReference}
use Rattle.symbols_paths.specs.PathTrees.{PathForest}
use Rattle.symbols_paths.specs.Views.{symbol_by_specifier}
use Rattle.symbols_answers.specs.Questions.{QuestionView, query_module, query_exports, query_names, query_symbol, query_name, query_deps, query_resolve}
use Rattle.symbols_answers.specs.Questions.{for_answer, QueryView}
use Rattle.symbols_answers.specs.Answers.{AnswerView, answer_module, answer_exports, answer_names, answer_symbol, answer_name, answer_deps, answer_resolve}
use Rattle.symbols_answers.specs.Answers.{some_if_strict, definition_paths_from, dependencies_answer, some_answer_if_symbol_exists, question_answer}
use Rattle.symbols_answers.specs.Answers.{IsAnswerOfPaths, IsAnswerToQuestion, modules_of_answer, IsExportsOrPublicNamesQuestion, AreAnswerModulesStored}
use Rattle.symbols_queries.specs.declared.query.Query.{Query}
use Rattle.symbols_queries.specs.Queries.{query_view, IsOtherModuleNeededByQuestion}
use Rattle.symbols_queries.specs.inner.Given.{IsQuestionAnswerReturned}
use Rattle.symbols_queries.specs.inner.QueryFaults.{IsOtherModuleForQuestionRefused, IsQuestionFault}
use Rattle.symbols_queries.proofs.Storing.{number_stored, still_there, reached_stored, reached_there, exports_there}

-- ---- the form of a query

-- a query of the library is for an answer
pub form_is : (query : Query) → (query_view query).form ≡ for_answer
form_is (Query.Module specifier) = refl
form_is (Query.Exports specifier) = refl
form_is (Query.Names specifier) = refl
form_is (Query.Symbol specifier name) = refl
form_is (Query.Name specifier symbol) = refl
form_is (Query.Deps specifier symbol mode) = refl
form_is (Query.Paths specifier symbol) = refl
form_is (Query.Definitions specifier symbol) = refl
form_is (Query.Leaves specifier symbol) = refl
form_is (Query.Resolve specifier dep) = refl

-- ---- a symbol of a stored module

symbols_same : (root : RootView) (module_id : ModuleId) (table : SymbolTable) → IsTableOfStoredModule root module_id table
    → symbol_in_table table ≡ symbol_in_module root.graph (specifier_in root module_id)
symbols_same root module_id table stored = λ i s. stored_table_has_module_symbols root module_id table stored s i

named_some : (found : Option SymbolView) (named_form : AnswerView) → IsSome found → some_answer_if_symbol_exists found named_form ≡ Some named_form
named_some None named_form is = absurd (let no : ⊥ = cc in no)
named_some (Some symbol) named_form is = refl

named_there : (found : Option SymbolView) (named_form : AnswerView) → found ≢ None → some_answer_if_symbol_exists found named_form ≡ Some named_form
named_there None named_form is = absurd (is refl)
named_there (Some symbol) named_form is = refl

-- if an answer is given, there is one
answered : (answer : Option AnswerView) (given : AnswerView) → answer ≡ Some given → answer ≢ None
answered answer given is = λ no_answer_in_module. none-some given (sym no_answer_in_module ∙ is)

-- ---- faults

pub out_of_memory : (old new : RootView) (specifier : List ℕ) (question : QuestionView) → question_answer old.rules old.graph specifier question ≢ None
    → IsQuestionFault old new specifier question fault.OutOfMemory
out_of_memory old new specifier question has = inr (record { has_answer = has; needed = None; is_needed = λ v e. absurd (none-some v e); refused = tt })

pub memory_refused : {A : Type 0} (r : Result A SymbolsFault) (old new : RootView) (specifier : List ℕ) (question : QuestionView)
    → question_answer old.rules old.graph specifier question ≢ None → IsErrAnd r (λ e. e ≡ fault.OutOfMemory)
    → IfErr r (IsQuestionFault old new specifier question)
memory_refused (Ok x) old new specifier question has h = tt
memory_refused (Err e) old new specifier question has h =
    subst (IsQuestionFault old new specifier question) (sym h) (out_of_memory old new specifier question has)

-- a question that needs no other module has no refused module
pub no_refusal : (root : RootView) (specifier : List ℕ) (question : QuestionView) (f : SymbolsFault)
    → ((v : List ℕ) → IsOtherModuleNeededByQuestion root.rules root.graph specifier question v → ⊥) → IsQuestionFault root root specifier question f
    → (f ≡ fault.OutOfMemory) ⊎ (f ≡ fault.UnknownSymbol)
no_refusal root specifier question f none_needed (inl is) = inr is.fault_is
no_refusal root specifier question f none_needed (inr is) = by is.needed f is.is_needed is.refused
  where
    by : (needed : Option (List ℕ)) (f : SymbolsFault) →
        ((v : List ℕ) → needed ≡ Some v → IsOtherModuleNeededByQuestion root.rules root.graph specifier question v)
        → IsStoringFault root needed f → (f ≡ fault.OutOfMemory) ⊎ (f ≡ fault.UnknownSymbol)
    by (Some v) f query_kind w = absurd (none_needed v (query_kind v refl))
    by None fault.OutOfMemory query_kind w = inl refl
    by None fault.TooManyModules query_kind w = absurd (none-some w.0 w.1.0)
    by None (fault.TooManySymbols text) query_kind w = absurd (none-some (string_bytes text) w.0.0)
    by None fault.UnknownModule query_kind w = absurd w
    by None fault.UnknownSymbol query_kind w = absurd w

-- ---- what is stored

-- the question isn't on the exports of the module
abbrev IsOther : QuestionView → Type 0
IsOther question = IsExportsOrPublicNamesQuestion question → ⊥

pub stored_for : (old new : RootView) (module_id : ModuleId) (question : QuestionView) (given : AnswerView) → HasGrown old new → module_id.0 < length old.stored
    → IsOther question → All (Contains new.stored) (modules_of_answer given) → AreAnswerModulesStored new (specifier_in old module_id) question given
stored_for old new module_id question given grown known other named =
    record {
      is_queried_stored = still_there old new (specifier_in old module_id) grown (number_stored old module_id known);
      reached = λ is end w. absurd (other is);
      are_named_stored = named;
    }

-- ---- by the table of the module

pub module_given : (root : RootView) (module_id : ModuleId) (named_form : List ℕ) → module_id.0 < length root.stored → named_form ≡ specifier_in root module_id
    → IsQuestionAnswerReturned root root (specifier_in root module_id) query_module (answer_module named_form)
module_given root module_id named_form known same = record {
  answers = ap (λ s. Some (answer_module s)) (sym same);
  is_right_answer = ap answer_module same;
  stored = stored_for root root module_id query_module (answer_module named_form) (has_grown_refl root) known (λ is. is)
      (All-cons (Contains root.stored) named_form [] (subst (Contains root.stored) (sym same) (number_stored root module_id known))
      (All-nil (Contains root.stored)));
}

pub symbol_given : (root : RootView) (module_id : ModuleId) (name : IdView) (found : Option SymbolId) → module_id.0 < length root.stored
    → found ≡ symbol_of_ident_after_changes (table_changes_of_module root.graph (specifier_in root module_id)) name
    → IsQuestionAnswerReturned root root (specifier_in root module_id) (query_symbol name) (answer_symbol found)
symbol_given root module_id name found known same = record {
  answers = ap (λ s. Some (answer_symbol s)) (sym same);
  is_right_answer = ap answer_symbol same;
  stored = stored_for root root module_id (query_symbol name) (answer_symbol found) (has_grown_refl root) known (λ is. is) (All-nil (Contains root.stored));
}

pub name_given : (root : RootView) (module_id : ModuleId) (table : SymbolTable) → module_id.0 < length root.stored → IsTableOfStoredModule root module_id table
    → (s : SymbolId) (name : Option (List ℕ)) → IsSome (symbol_in_table table s) → name ≡ qualified_name (symbol_in_table table) s
    → IsQuestionAnswerReturned root root (specifier_in root module_id) (query_name s) (answer_name name)
name_given root module_id table known stored s name some same =
    let called : name ≡ qualified_name (symbol_in_module root.graph (specifier_in root module_id)) s =
    same ∙ ap (λ symbols. qualified_name symbols s) (symbols_same root module_id table stored) in
    record {
      answers =
          named_some (symbol_in_module root.graph (specifier_in root module_id) s) (answer_name (qualified_name (symbol_in_module root.graph
          (specifier_in root module_id)) s)) (subst (λ (o : Option SymbolView). IsSome o) (stored_table_has_module_symbols root module_id table stored s) some)
          ∙ ap (λ n. Some (answer_name n)) (sym called);
      is_right_answer = ap answer_name called;
      stored = stored_for root root module_id (query_name s) (answer_name name) (has_grown_refl root) known (λ is. is) (All-nil (Contains root.stored));
    }

pub unnamed_symbol : (root : RootView) (module_id : ModuleId) (table : SymbolTable) → IsTableOfStoredModule root module_id table → (s : SymbolId)
    (f : SymbolsFault)
    → IsQualifiedNameFault (symbol_in_table table s) f → IsQuestionFault root root (specifier_in root module_id) (query_name s) f
unnamed_symbol root module_id table stored s f is = by (symbol_in_table table s) f (sym (stored_table_has_module_symbols root module_id table stored s)) is
  where
    by : (found : Option SymbolView) (f : SymbolsFault) → symbol_in_module root.graph (specifier_in root module_id) s ≡ found → IsQualifiedNameFault found f
        → IsQuestionFault root root (specifier_in root module_id) (query_name s) f
    by None fault.OutOfMemory e w = absurd w
    by None fault.TooManyModules e w = absurd w
    by None (fault.TooManySymbols text) e w = absurd w
    by None fault.UnknownModule e w = absurd w
    by None fault.UnknownSymbol e w =
        inl (record {
          no_answer_in_module = ap (λ o. some_answer_if_symbol_exists o
              (answer_name (qualified_name (symbol_in_module root.graph (specifier_in root module_id)) s))) e;
          fault_is = refl;
          unchanged = refl;
        })
    by (Some symbol) fault.OutOfMemory e w =
        out_of_memory root root (specifier_in root module_id) (query_name s) (answered (question_answer root.rules root.graph (specifier_in root module_id)
        (query_name s)) (answer_name (qualified_name (symbol_in_module root.graph (specifier_in root module_id)) s))
        (ap (λ o. some_answer_if_symbol_exists o (answer_name (qualified_name (symbol_in_module root.graph (specifier_in root module_id)) s))) e))
    by (Some symbol) fault.TooManyModules e w = absurd w
    by (Some symbol) (fault.TooManySymbols text) e w = absurd w
    by (Some symbol) fault.UnknownModule e w = absurd w
    by (Some symbol) fault.UnknownSymbol e w = absurd w

symbol_here : (root : RootView) (module_id : ModuleId) (table : SymbolTable) → IsTableOfStoredModule root module_id table → (s : SymbolId) (symbol : Symbol)
    → Some symbol ≡ slice_get table.symbols s.0 → Some (symbol_view symbol) ≡ symbol_in_module root.graph (specifier_in root module_id) s
symbol_here root module_id table stored s symbol at = ap (option_map symbol_view) at ∙ stored_table_has_module_symbols root module_id table stored s

deps_are : (root : RootView) (module_id : ModuleId) (table : SymbolTable) → IsTableOfStoredModule root module_id table
    → (s : SymbolId) (mode : ResolveDepsMode) (symbol : Symbol) → Some symbol ≡ slice_get table.symbols s.0
    → question_answer root.rules root.graph (specifier_in root module_id) (query_deps s mode)
    ≡ Some (answer_deps (map (decl_dependencies mode) (symbol_decls symbol)))
deps_are root module_id table stored s mode symbol at = ap (option_map (dependencies_answer mode)) (sym (symbol_here root module_id table stored s symbol at))

-- each computed list is that of the definitions
each_listed : (mode : ResolveDepsMode) → ((decl : Declaration) → AreDeclDependencies mode decl (decl_dependencies mode decl)) → (decls : List Declaration)
    → AllZip (AreDeclDependencies mode) decls (map (decl_dependencies mode) decls)
each_listed mode listed [] = tt
each_listed mode listed (decl ∷ decls) = (listed decl, each_listed mode listed decls)

pub deps_given : (root : RootView) (module_id : ModuleId) (table : SymbolTable) → module_id.0 < length root.stored → IsTableOfStoredModule root module_id table
    → (s : SymbolId) (mode : ResolveDepsMode) (symbol : Symbol) (deps : List (List NamespacedReference)) → Some symbol ≡ slice_get table.symbols s.0
    → deps ≡ map (decl_dependencies mode) (symbol_decls symbol)
    → ((decl : Declaration) → AreDeclDependencies mode decl (decl_dependencies mode decl))
    → IsQuestionAnswerReturned root root (specifier_in root module_id) (query_deps s mode) (answer_deps deps)
deps_given root module_id table known stored s mode symbol deps at same listed =
    let answers : question_answer root.rules root.graph (specifier_in root module_id) (query_deps s mode) ≡ Some (answer_deps deps) =
    deps_are root module_id table stored s mode symbol at ∙ ap (λ d. Some (answer_deps d)) (sym same) in
    record {
      answers = answers;
      is_right_answer = record {
        symbol = symbol_view symbol;
        symbol_is_in_module = sym (symbol_here root module_id table stored s symbol at);
        lists_of_declarations = deps;
        are_dependencies = subst (AllZip (AreDeclDependencies mode) (symbol_decls symbol)) (sym same) (each_listed mode listed (symbol_decls symbol));
        answer_is = refl;
      };
      stored = stored_for root root module_id (query_deps s mode) (answer_deps deps) (has_grown_refl root) known (λ is. is) (All-nil (Contains root.stored));
    }

pub deps_answered : (root : RootView) (module_id : ModuleId) (table : SymbolTable) → IsTableOfStoredModule root module_id table
    → (s : SymbolId) (mode : ResolveDepsMode) (symbol : Symbol) → Some symbol ≡ slice_get table.symbols s.0
    → question_answer root.rules root.graph (specifier_in root module_id) (query_deps s mode) ≢ None
deps_answered root module_id table stored s mode symbol at = answered (question_answer root.rules root.graph (specifier_in root module_id) (query_deps s mode))
    (answer_deps (map (decl_dependencies mode) (symbol_decls symbol))) (deps_are root module_id table stored s mode symbol at)

pub no_deps : (root : RootView) (module_id : ModuleId) (table : SymbolTable) → IsTableOfStoredModule root module_id table → (s : SymbolId)
    (mode : ResolveDepsMode)
    → None ≡ slice_get table.symbols s.0 → IsQuestionFault root root (specifier_in root module_id) (query_deps s mode) fault.UnknownSymbol
no_deps root module_id table stored s mode at =
    let here : None ≡ symbol_in_module root.graph (specifier_in root module_id) s =
    ap (option_map symbol_view) at ∙ stored_table_has_module_symbols root module_id table stored s in
    inl (record { no_answer_in_module = ap (option_map (dependencies_answer mode)) (sym here); fault_is = refl; unchanged = refl })

-- ---- exports

-- by strict rules the returned shared names are those of the definitions
sharing_is : (rules : Rules) (graph : GraphView) (start : List ℕ) (named_form : List (NameWithExporters ExportView))
    → named_form ≡ shared_name_views_if_strict rules graph start
    → some_if_strict rules named_form ≡ some_if_strict rules (shared_name_views_of_module graph start)
sharing_is Deno graph start named_form is = refl
sharing_is Strict graph start named_form is = ap Some is

pub exports_given : (old new : RootView) (module_id : ModuleId) (names : List ResolvedExportView) (shared : List (NameWithExporters ResolvedExportView))
    (unresolved : List (ModuleId
    × List ℕ)) (steps : ℕ) (named_form : List ExportView) (sharing : Option (List (NameWithExporters ExportView))) (statements : List StarStatementView)
    → HasGrown old new → IsExportsCallResult old new module_id names shared unresolved steps → AreExportListsCorrectAndUnique old.graph
    (specifier_in old module_id)
    → named_form ≡ map (export_by_specifier new) names → sharing ≡ some_if_strict new.rules (map (shared_name_view_of_resolved new) shared)
    → statements ≡ map (star_statement_by_specifier new) unresolved
    → IsQuestionAnswerReturned old new (specifier_in old module_id) query_exports (answer_exports named_form sharing statements)
exports_given old new module_id names shared unresolved steps named_form sharing statements grown is listed named shares stated =
    let named_is : sharing ≡ some_if_strict old.rules (shared_name_views_of_module old.graph (specifier_in old module_id)) =
    shares ∙ (ap (λ rules. some_if_strict rules (map (shared_name_view_of_resolved new) shared)) grown.rules
    ∙ sharing_is old.rules old.graph (specifier_in old module_id) (map (shared_name_view_of_resolved new) shared) is.are_shared_names_by_rules) in
    record {
      answers = λ i. Some (answer_exports (sym (named ∙ is.are_exports_of_module) i) (sym named_is i) (sym (stated ∙ is.are_unresolved_stars) i));
      is_right_answer = record {
        entries = exports_of old.graph (specifier_in old module_id);
        are_exports = listed.are_exports;
        shared = shared_names_of old.graph (specifier_in old module_id);
        are_shared = listed.are_shared;
        unresolved = unresolved_stars_of old.graph (specifier_in old module_id);
        are_unresolved = listed.are_unresolved;
        answer_is = λ i. answer_exports ((named ∙ is.are_exports_of_module) i) (named_is i) ((stated ∙ is.are_unresolved_stars) i);
      };
      stored = record {
        is_queried_stored = still_there old new (specifier_in old module_id) grown (number_stored old module_id is.known);
        reached = λ queried end w. reached_there old new module_id names shared unresolved steps grown.graph is end w;
        are_named_stored = subst (λ (given : AnswerView). All (Contains new.stored) (modules_of_answer given)) (λ i. answer_exports (sym named i) (sym shares i)
            (sym stated i)) (exports_there new new.rules names shared unresolved is.are_modules_of_exports_stored is.are_exporter_modules_stored
            is.are_referrers_of_stars_stored);
      };
    }

pub exports_answered : (rules : Rules) (graph : GraphView) (specifier : List ℕ) → question_answer rules graph specifier query_exports ≢ None
exports_answered rules graph specifier = λ no_answer_in_module. let no : ⊥ = cc in no

pub exports_refused : (old new : RootView) (module_id : ModuleId) (f : SymbolsFault) (steps : ℕ) → module_id.0 < length old.stored
    → IsExportsCallFault old new module_id f steps → IsQuestionFault old new (specifier_in old module_id) query_exports f
exports_refused old new module_id f steps known (inl is) = absurd (omega (arith, is.unknown, known))
exports_refused old new module_id f steps known (inr is) = inr (record {
  has_answer = exports_answered old.rules old.graph (specifier_in old module_id);
  needed = is.needed;
  is_needed = is.is_needed_module_reached;
  refused = is.refused;
})

-- ---- public names

pub names_given : (old new : RootView) (module_id : ModuleId) (names : List ExportedNameWithMember) → HasGrown old new
    → IsPublicNamesCallResult old new module_id names
    → AllPairs (λ (x y : ExportedNameWithMember). x ≢ y) names → AreExportListsCorrectAndUnique old.graph (specifier_in old module_id)
    → IsQuestionAnswerReturned old new (specifier_in old module_id) query_names (answer_names names)
names_given old new module_id names grown is once listed = record {
  answers = ap (λ (xs : List ExportedNameWithMember). Some (answer_names xs)) (sym is.are_public_names);
  is_right_answer = record {
    entries = exports_of old.graph (specifier_in old module_id);
    are_exports = listed.are_exports;
    has_no_duplicates = subst (AllPairs (λ (x y : ExportedNameWithMember). x ≢ y)) is.are_public_names once;
    answer_is = ap answer_names is.are_public_names;
  };
  stored = record {
    is_queried_stored = still_there old new (specifier_in old module_id) grown (number_stored old module_id is.known);
    reached = λ queried end w. reached_stored old new module_id is.reached grown.graph is.are_reached is.stored end w;
    are_named_stored = All-nil (Contains new.stored);
  };
}

names_answered : (rules : Rules) (graph : GraphView) (specifier : List ℕ) → question_answer rules graph specifier query_names ≢ None
names_answered rules graph specifier = λ no_answer_in_module. let no : ⊥ = cc in no

pub names_refused : (old new : RootView) (module_id : ModuleId) (f : SymbolsFault) (steps : ℕ) → module_id.0 < length old.stored
    → IsExportsCallFault old new module_id f steps → IsQuestionFault old new (specifier_in old module_id) query_names f
names_refused old new module_id f steps known (inl is) = absurd (omega (arith, is.unknown, known))
names_refused old new module_id f steps known (inr is) = inr (record {
  has_answer = names_answered old.rules old.graph (specifier_in old module_id);
  needed = is.needed;
  is_needed = is.is_needed_module_reached;
  refused = is.refused;
})

-- ---- definition paths

-- a question on a symbol: its answer is made from the symbol's paths if there is such a symbol, and it needs the modules of the search
module _ (question : QuestionView) (s : SymbolId) (named_form : PathForest → AnswerView) (by_named : (rules : Rules) (graph : GraphView) (specifier : List ℕ)
    → question_answer rules graph specifier question ≡ some_answer_if_symbol_exists (symbol_in_module graph specifier s)
    (named_form (definition_paths_from rules graph specifier s)))
    (by_means : (rules : Rules) (graph : GraphView) (specifier : List ℕ) (given : AnswerView) → IsAnswerOfPaths rules graph specifier s named_form given
    → IsAnswerToQuestion rules graph specifier question given) (query_kind : (rules : Rules) (graph : GraphView) (specifier v : List ℕ)
    → IsModuleNeededBySearch rules graph specifier [] v → IsOtherModuleNeededByQuestion rules graph specifier question v) (other : IsOther question) where
  found_named : (old : RootView) (module_id : ModuleId) → symbol_stored old module_id s ≢ None → question_answer old.rules old.graph (specifier_in old
      module_id) question ≡ Some (named_form (definition_paths_from old.rules old.graph (specifier_in old module_id) s))
  found_named old module_id has = by_named old.rules old.graph (specifier_in old module_id)
      ∙ named_there (symbol_in_module old.graph (specifier_in old module_id) s)
      (named_form (definition_paths_from old.rules old.graph (specifier_in old module_id) s)) has

  pub paths_given : (old new : RootView) (module_id : ModuleId) (given : AnswerView) (paths : PathForest) → HasGrown old new → module_id.0 < length old.stored
      → symbol_stored old module_id s ≢ None → AreDefinitionPaths old.rules old.graph (symbol_by_specifier old module_id s) paths → given ≡ named_form paths
      → given ≡ named_form (definition_paths_from old.rules old.graph (specifier_in old module_id) s) → All (Contains new.stored) (modules_of_answer given)
      → IsQuestionAnswerReturned old new (specifier_in old module_id) question given
  paths_given old new module_id given paths grown known has are is listed named = record {
    answers = found_named old module_id has ∙ ap Some (sym listed);
    is_right_answer = by_means old.rules old.graph (specifier_in old module_id) given (record { paths = paths; are_paths = are; answer_is = is });
    stored = stored_for old new module_id question given grown known other named;
  }

  pub paths_answered : (old : RootView) (module_id : ModuleId) → symbol_stored old module_id s ≢ None
      → question_answer old.rules old.graph (specifier_in old module_id) question ≢ None
  paths_answered old module_id has = answered (question_answer old.rules old.graph (specifier_in old module_id) question)
      (named_form (definition_paths_from old.rules old.graph (specifier_in old module_id) s)) (found_named old module_id has)

  pub paths_refused : (old new : RootView) (module_id : ModuleId) (f : SymbolsFault) → HasGrown old new → module_id.0 < length old.stored
      → IsFindDefinitionPathsFault old new module_id s f → IsQuestionFault old new (specifier_in old module_id) question f
  paths_refused old new module_id f grown known (inl is) = absurd (omega (arith, is.unknown, known))
  paths_refused old new module_id f grown known (inr (inl is)) =
      inl (record {
        no_answer_in_module = by_named old.rules old.graph (specifier_in old module_id) ∙ ap (λ o. some_answer_if_symbol_exists o
            (named_form (definition_paths_from old.rules old.graph (specifier_in old module_id) s))) is.unknown;
        fault_is = is.fault_is;
        unchanged = is.unchanged;
      })
  paths_refused old new module_id f grown known (inr (inr is)) =
      inr (record {
        has_answer = paths_answered old module_id is.has_symbol;
        needed = is.refused.needed;
        is_needed = λ v e. query_kind old.rules old.graph (specifier_in old module_id) v
            (subst (λ (g : GraphView). IsModuleNeededBySearch old.rules g (specifier_in old module_id) [] v) grown.graph
            (subst (λ (r : Rules). IsModuleNeededBySearch r new.graph (specifier_in old module_id) [] v) grown.rules (is.refused.is_needed v e)));
        refused = is.refused.refused;
      })

pub paths_enough : (old new : RootView) (module_id : ModuleId) (s : SymbolId) (f : SymbolsFault) → module_id.0 < length old.stored
    → IsFindDefinitionPathsFault old new module_id s f → (symbol_stored old module_id s ≢ None → f ≡ fault.OutOfMemory) → (f ≡ fault.OutOfMemory) ⊎
    (f ≡ fault.UnknownSymbol)
paths_enough old new module_id s f known (inl is) enough = absurd (omega (arith, is.unknown, known))
paths_enough old new module_id s f known (inr (inl is)) enough = inr is.fault_is
paths_enough old new module_id s f known (inr (inr is)) enough = inl (enough is.has_symbol)

-- ---- references

pub entries_given : (old new : RootView) (module_id : ModuleId) (reference : SymbolReference) (given : List DepEntryView) → HasGrown old new → module_id.0
    < length old.stored → AreResolvedEntriesOfReference old.rules old.graph (specifier_in old module_id) reference given
    → given ≡ dep_entries_of old.rules old.graph (specifier_in
    old module_id) reference → All (Contains new.stored) (modules_of_answer (answer_resolve given))
    → IsQuestionAnswerReturned old new (specifier_in old module_id) (query_resolve reference) (answer_resolve given)
entries_given old new module_id reference given grown known is listed named = record {
  answers = ap (λ e. Some (answer_resolve e)) (sym listed);
  is_right_answer = record { entries = given; are_dep_entries = is; answer_is = refl };
  stored = stored_for old new module_id (query_resolve reference) (answer_resolve given) grown known (λ is. is) named;
}

pub entries_answered : (rules : Rules) (graph : GraphView) (specifier : List ℕ) (reference : SymbolReference)
    → question_answer rules graph specifier (query_resolve reference) ≢ None
entries_answered rules graph specifier reference = λ no_answer_in_module. let no : ⊥ = cc in no

refused_here : (old new : RootView) (specifier : List ℕ) (reference : SymbolReference) (f : SymbolsFault) → HasGrown old new
    → IsFaultOfStoringForReference new specifier reference f → IsOtherModuleForQuestionRefused old new specifier (query_resolve reference) f
refused_here old new specifier reference f grown is = record {
  has_answer = entries_answered old.rules old.graph specifier reference;
  needed = is.needed;
  is_needed = λ v e. subst (λ (g : GraphView). IsNeededByReference old.rules g specifier reference v) grown.graph
      (subst (λ (r : Rules). IsNeededByReference r new.graph specifier reference v) grown.rules (is.is_needed v e));
  refused = is.refused;
}

pub entries_refused : (old new : RootView) (module_id : ModuleId) (reference : SymbolReference) (f : SymbolsFault) → HasGrown old new → module_id.0
    < length old.stored → IsResolveSymbolDepFault old new module_id reference f → IsQuestionFault old new (specifier_in old module_id)
    (query_resolve reference) f
entries_refused old new module_id reference f grown known (inl is) = absurd (omega (arith, is.unknown, known))
entries_refused old new module_id reference f grown known (inr is) = inr (refused_here old new (specifier_in old module_id) reference f grown is.1)
