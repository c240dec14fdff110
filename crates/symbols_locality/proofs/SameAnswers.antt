-- The answer to a query is the same in graphs that agree on what the query looks up: the computed answer, and the answer by the definitions.
use Rattle.std.proofs.Common.{◌≡◌, ℕ, List, [], Option, None, Some, option_map, refl, ap, ◌∙◌, ◌∷◌, map, sym, subst}
use Rattle.std.specs.Option.{option_map_or}
use Rattle.std.specs.Prelude.{MatchOption}
use Rattle.std.specs.List.{AllZip}
use Rattle.std.proofs.lemmas.Option.{same_Some}
use Rattle.symbols_ast.specs.declared.ids.SymbolId.{SymbolId}
use Rattle.symbols_ast.specs.Graph.{GraphView, ModuleView}
use Rattle.symbols_ast.specs.Ids.{IdView}
use Rattle.symbols_nodes.specs.References.{SymbolReference}
use Rattle.symbols_nodes.specs.declared.deps.dep.ResolveDepsMode.{ResolveDepsMode}
use Rattle.symbols_table.specs.Changes.{Change, symbol_of_ident_after_changes}
use Rattle.symbols_table.specs.QualifiedNames.{qualified_name}
use Rattle.symbols_table.specs.SymbolViews.{symbol_after_changes, SymbolView}
use Rattle.symbols_deps.specs.DeclDependencies.{AreDeclDependencies}
use Rattle.symbols_root.specs.declared.rules.Rules.{Rules}
use Rattle.symbols_root.specs.GraphModules.{symbol_in_module, table_changes_of_module}
use Rattle.symbols_root.specs.TypesChains.{resolved_module_specifier, types_chain, get_prefer_types}
use Rattle.symbols_root.specs.laws.TypesChains.{types_chain_is_unique}
use Rattle.symbols_exports.specs.ExportAnswers.{AreExportListsCorrectAndUnique}
use Rattle.symbols_exports.specs.PublicNames.{ExportedNameWithMember}
use Rattle.symbols_exports.specs.Exports.{ExportEntry}
use Rattle.symbols_exports.specs.SharedNameLists.{shared_names_of, shared_name_view_of_entry}
use Rattle.symbols_exports.specs.ExportViews.{export_view_of_entry, star_statement_view}
use Rattle.symbols_exports.specs.Traces.{exports_of, unresolved_stars_of}
use Rattle.symbols_paths.specs.PathTrees.{SymbolBySpecifier, QualifiedNameParts, PathForest, leaves_of_forest, definitions_among}
use Rattle.symbols_paths.specs.PartTargets.{search_targets_of}
use Rattle.symbols_paths.specs.Computed.{paths_with_parts}
use Rattle.symbols_paths.specs.DepAnswers.{DepEntryView, path_entries, ReferencedSymbolWithParts, referenced_symbol, entries_of_reference_without_symbol}
use Rattle.symbols_paths.specs.DepAnswers.{dep_entries_of, AreResolvedEntriesOfReference}
use Rattle.symbols_paths.specs.Choice.{IsForestFoundBySearchWithParts}
use Rattle.symbols_paths.specs.Answers.{AreDefinitionPathsWithAnyParts}
use Rattle.symbols_paths.specs.laws.OneOutcome.{found_forest_is_unique}
use Rattle.symbols_answers.specs.Questions.{QuestionView, query_module, query_exports, query_names, query_symbol, query_name, query_deps, query_paths}
use Rattle.symbols_answers.specs.Questions.{query_definitions, query_leaves, query_resolve, QueryForm, for_answer, for_inputs, QueryView, IsFollowedBySearch}
use Rattle.symbols_answers.specs.Questions.{import_type_specifier_is_followed, IsSpecifierFollowedForQuestion, AreAlikeForQuery}
use Rattle.symbols_answers.specs.Answers.{AnswerView, answer_no_module, answer_exports, answer_names, answer_symbol, answer_name, answer_paths}
use Rattle.symbols_answers.specs.Answers.{answer_definitions, answer_leaves, answer_resolve, answer_inputs, some_if_strict, definition_paths_from}
use Rattle.symbols_answers.specs.Answers.{dependencies_answer, some_answer_if_symbol_exists, question_answer, answer_in_form, query_answer, answer_deps}
use Rattle.symbols_answers.specs.Answers.{IsAnswerOfExports, public_names_of_entries, IsAnswerOfPublicNames, IsAnswerOfDeps, IsAnswerOfPaths}
use Rattle.symbols_answers.specs.Answers.{IsAnswerToQuestion, last_analyzable_module, IsAnswerOnModule, IsAnswerInForm, IsAnswerToQuery}
use Rattle.symbols_answers.specs.Inputs.{InputView}
use Rattle.symbols_answers.specs.Seen.{FollowedSpecifierRelation, IsStarSpecifierOfModule, queried_specifier_is_looked_up, is_requested, AreAlikeWhereLookedUp}
use Rattle.symbols_locality.proofs.FoundModules.{IsFound}
use Rattle.symbols_locality.proofs.SearchMarks.{FollowsStars, marks_of}
use Rattle.symbols_locality.proofs.SeenAlike.{same_resolved_module, same_changes, same_chain}
use Rattle.symbols_locality.proofs.ExportViews.{same_export_views, same_unresolved_views, same_shared_name_views, same_names}
use Rattle.symbols_locality.proofs.ComputedSearch.{same_paths}
use Rattle.symbols_locality.proofs.SameInputs.{inputs_same}
use Rattle.symbols_locality.proofs.SameReferences.{routes, IsReferenceFollowed, referenced_same, referenced_found, without_symbol_same}
use Rattle.symbols_locality.proofs.CarriedSearch.{chosen_there}
use Rattle.symbols_locality.proofs.DependencyLists.{same_dependencies}

-- ---- paths

module _ (rules : Rules) (graph other : GraphView) (listed : (start : List ℕ) → AreExportListsCorrectAndUnique graph start)
    (other_listed : (start : List ℕ) → AreExportListsCorrectAndUnique other start) (queried : List ℕ) (question : QuestionView)
    (alike : AreAlikeWhereLookedUp graph other (IsFollowedBySearch graph queried question) queried) where
  abbrev Follows : FollowedSpecifierRelation
  Follows = IsFollowedBySearch graph queried question

  abbrev Found : List ℕ → Type 0
  Found v = IsFound graph Follows queried v

  computed_paths_same : (s : SymbolBySpecifier) (ps : QualifiedNameParts) → Found s.specifier
      → paths_with_parts rules graph s ps ≡ paths_with_parts rules other s ps
  unfolding paths_with_parts
  computed_paths_same s ps at = same_paths (search_targets_of rules graph) (search_targets_of rules other) (marks_of graph Follows queried)
      (routes rules graph other listed other_listed queried question alike) s ps at

  paths_answer_same : (v : List ℕ) → Found v → (s : SymbolId) (answer_of : PathForest → AnswerView)
      → some_answer_if_symbol_exists (symbol_in_module graph v s) (answer_of (definition_paths_from rules graph v s))
      ≡ some_answer_if_symbol_exists (symbol_in_module other v s) (answer_of (definition_paths_from rules other v s))
  paths_answer_same v at s answer_of =
      ap (λ (changes : List Change). some_answer_if_symbol_exists (symbol_after_changes changes s) (answer_of (definition_paths_from rules graph v s)))
      (same_changes graph other Follows queried alike v at)
      ∙ ap (λ (paths : PathForest). some_answer_if_symbol_exists (symbol_in_module other v s) (answer_of paths))
      (computed_paths_same (record { specifier = v; number = s }) [] at)

  chosen_same : (s : SymbolBySpecifier) (ps : QualifiedNameParts) → Found s.specifier → (f g : PathForest)
      → IsForestFoundBySearchWithParts (search_targets_of rules graph) s ps f → IsForestFoundBySearchWithParts (search_targets_of rules other) s ps g → f ≡ g
  chosen_same s ps at f g one two =
      found_forest_is_unique (search_targets_of rules other) s ps f g
      (chosen_there (search_targets_of rules graph) (search_targets_of rules other) (marks_of graph Follows queried)
      (routes rules graph other listed other_listed queried question alike) s ps f at one) two

  paths_same : (v : List ℕ) → Found v → (s : SymbolId) (answer_of : PathForest → AnswerView) (a b : AnswerView)
      → IsAnswerOfPaths rules graph v s answer_of a → IsAnswerOfPaths rules other v s answer_of b → a ≡ b
  paths_same v at s answer_of a b x y =
      x.answer_is ∙ (ap answer_of (chosen_same (record { specifier = v; number = s }) [] at x.paths y.paths x.are_paths.is_found_by_search
      y.are_paths.is_found_by_search) ∙ sym y.answer_is)

  -- ---- references

  computed_entries_same : (v : List ℕ) → Found v → (reference : SymbolReference)
      → IsReferenceFollowed rules graph other listed other_listed queried question alike v reference
      → dep_entries_of rules graph v reference ≡ dep_entries_of rules other v reference
  computed_entries_same v at reference follows =
      by (referenced_symbol graph v reference) (referenced_found rules graph other listed other_listed queried question alike v at reference follows)
      ∙ ap (entries_for other) (referenced_same rules graph other listed other_listed queried question alike v at reference follows)
    where
      entries_for : GraphView → Option ReferencedSymbolWithParts → List DepEntryView
      entries_for g found = option_map_or (λ (referenced : ReferencedSymbolWithParts). path_entries (paths_with_parts rules g referenced.0 referenced.1)) found
          (entries_of_reference_without_symbol g v reference)

      by : (found : Option ReferencedSymbolWithParts) → ((t : ReferencedSymbolWithParts) → found ≡ Some t → Found t.0.specifier)
          → entries_for graph found ≡ entries_for other found
      by None are = without_symbol_same rules graph other listed other_listed queried question alike v at reference follows
      by (Some t) are = ap path_entries (computed_paths_same t.0 t.1 (are t refl))

  chosen_for : (g : GraphView) (s : SymbolBySpecifier) (ps : QualifiedNameParts) (f : PathForest) → AreDefinitionPathsWithAnyParts rules g s ps f
      → IsForestFoundBySearchWithParts (search_targets_of rules g) s ps f
  chosen_for g s [] f are = are.is_found_by_search
  chosen_for g s (p ∷ ps) f are = are.is_found_by_search

  -- the entries of a reference, by its symbol if it has one
  abbrev AreEntriesFor : GraphView → List DepEntryView → List DepEntryView → Option ReferencedSymbolWithParts → Type 0
  AreEntriesFor g without_symbol entries referenced = MatchOption referenced (entries ≡ without_symbol)
      (λ (t : ReferencedSymbolWithParts). (paths : PathForest) × AreDefinitionPathsWithAnyParts rules g t.0 t.1 paths × (entries ≡ path_entries paths))

  entries_same : (referenced : Option ReferencedSymbolWithParts) → ((t : ReferencedSymbolWithParts) → referenced ≡ Some t → Found t.0.specifier)
      → (here there a b : List DepEntryView) → here ≡ there → AreEntriesFor graph here a referenced → AreEntriesFor other there b referenced → a ≡ b
  entries_same None are here there a b same x y = x ∙ (same ∙ sym y)
  entries_same (Some t) are here there a b same x y =
      x.2 ∙ (ap path_entries (chosen_same t.0 t.1 (are t refl) x.0 y.0 (chosen_for graph t.0 t.1 x.0 x.1) (chosen_for other t.0 t.1 y.0 y.1)) ∙ sym y.2)

  dep_entries_same : (v : List ℕ) → Found v → (reference : SymbolReference)
      → IsReferenceFollowed rules graph other listed other_listed queried question alike v reference → (a b : List DepEntryView)
      → AreResolvedEntriesOfReference rules graph v reference a → AreResolvedEntriesOfReference rules other v reference b → a ≡ b
  dep_entries_same v at reference follows a b x y =
      entries_same (referenced_symbol graph v reference)
      (referenced_found rules graph other listed other_listed queried question alike v at reference follows)
      (entries_of_reference_without_symbol graph v reference) (entries_of_reference_without_symbol other v reference) a b
      (without_symbol_same rules graph other listed other_listed queried question alike v at reference follows) x
      (subst (AreEntriesFor other (entries_of_reference_without_symbol other v reference) b)
      (sym (referenced_same rules graph other listed other_listed queried question alike v at reference follows)) y)

-- ---- exports and public names

module _ (rules : Rules) (graph other : GraphView) (listed : (start : List ℕ) → AreExportListsCorrectAndUnique graph start)
    (other_listed : (start : List ℕ) → AreExportListsCorrectAndUnique other start) (queried : List ℕ)
    (alike : AreAlikeWhereLookedUp graph other (IsStarSpecifierOfModule graph) queried) where
  stars : FollowsStars graph (IsStarSpecifierOfModule graph) queried
  stars v specifier_text at has = has

  exports_same : (v : List ℕ) → IsFound graph (IsStarSpecifierOfModule graph) queried v → (a b : AnswerView) → IsAnswerOfExports rules graph v a
      → IsAnswerOfExports rules other v b → a ≡ b
  exports_same v at a b x y =
      let exports_here : x.entries ≡ exports_of graph v = (listed v).exports_are_unique x.entries x.are_exports in
      let exports_there : y.entries ≡ exports_of other v = (other_listed v).exports_are_unique y.entries y.are_exports in
      let shared_here : x.shared ≡ shared_names_of graph v = (listed v).shared_are_unique x.shared x.are_shared in
      let shared_there : y.shared ≡ shared_names_of other v = (other_listed v).shared_are_unique y.shared y.are_shared in
      let unresolved_here : x.unresolved ≡ unresolved_stars_of graph v = (listed v).unresolved_are_unique x.unresolved x.are_unresolved in
      let unresolved_there : y.unresolved ≡ unresolved_stars_of other v = (other_listed v).unresolved_are_unique y.unresolved y.are_unresolved in
      let exports : map (export_view_of_entry graph v) x.entries ≡ map (export_view_of_entry other v) y.entries = ap
      (map (export_view_of_entry graph v)) exports_here
      ∙ (same_export_views graph other (IsStarSpecifierOfModule graph) queried alike stars v at (listed v) (other_listed v)
      ∙ ap (map (export_view_of_entry other v)) (sym exports_there)) in
      let shared : map (shared_name_view_of_entry graph v) x.shared ≡ map (shared_name_view_of_entry other v) y.shared =
      ap (map (shared_name_view_of_entry graph v)) shared_here
      ∙ (same_shared_name_views graph other (IsStarSpecifierOfModule graph) queried alike stars v at (listed v) (other_listed v)
      ∙ ap (map (shared_name_view_of_entry other v)) (sym shared_there)) in
      let unresolved : map (star_statement_view graph) x.unresolved ≡ map (star_statement_view other) y.unresolved =
      ap (map (star_statement_view graph)) unresolved_here
      ∙ (same_unresolved_views graph other (IsStarSpecifierOfModule graph) queried alike stars v at (listed v) (other_listed v)
      ∙ ap (map (star_statement_view other)) (sym unresolved_there)) in
      x.answer_is ∙ ((λ i. answer_exports (exports i) (some_if_strict rules (shared i)) (unresolved i)) ∙ sym y.answer_is)

  names_same : (v : List ℕ) → IsFound graph (IsStarSpecifierOfModule graph) queried v → (a b : AnswerView) → IsAnswerOfPublicNames graph v a
      → IsAnswerOfPublicNames other v b → a ≡ b
  names_same v at a b x y =
      let exports_here : x.entries ≡ exports_of graph v = (listed v).exports_are_unique x.entries x.are_exports in
      let exports_there : y.entries ≡ exports_of other v = (other_listed v).exports_are_unique y.entries y.are_exports in
      x.answer_is ∙ (ap (λ (entries : List ExportEntry). answer_names (public_names_of_entries graph entries)) exports_here
      ∙ (ap answer_names (same_names graph other (IsStarSpecifierOfModule graph) queried alike stars v at (listed v) (other_listed v))
      ∙ (ap (λ (entries : List ExportEntry). answer_names (public_names_of_entries other entries)) (sym exports_there) ∙ sym y.answer_is)))

-- ---- the queried module alone

module _ (graph other : GraphView) (v : List ℕ) (same : table_changes_of_module graph v ≡ table_changes_of_module other v) where
  symbol_same : (name : IdView) (a b : AnswerView) → a ≡ answer_symbol (symbol_of_ident_after_changes (table_changes_of_module graph v) name)
      → b ≡ answer_symbol (symbol_of_ident_after_changes (table_changes_of_module other v) name) → a ≡ b
  symbol_same name a b x y = x ∙ (ap (λ (changes : List Change). answer_symbol (symbol_of_ident_after_changes changes name)) same ∙ sym y)

  name_same : (s : SymbolId) (a b : AnswerView) → a ≡ answer_name (qualified_name (symbol_in_module graph v) s)
      → b ≡ answer_name (qualified_name (symbol_in_module other v) s) → a ≡ b
  name_same s a b x y =
      x ∙ (ap (λ (changes : List Change). answer_name (qualified_name (λ (t : SymbolId). symbol_after_changes changes t) s)) same ∙ sym y)

  deps_same : (s : SymbolId) (mode : ResolveDepsMode) (a b : AnswerView) → IsAnswerOfDeps graph v s mode a → IsAnswerOfDeps other v s mode b → a ≡ b
  deps_same s mode a b x y =
      let symbols : x.symbol ≡ y.symbol = same_Some x.symbol y.symbol
      (sym x.symbol_is_in_module ∙ (ap (λ (changes : List Change). symbol_after_changes changes s) same ∙ y.symbol_is_in_module)) in
      let lists : x.lists_of_declarations ≡ y.lists_of_declarations = same_dependencies mode y.symbol.decls x.lists_of_declarations y.lists_of_declarations
      (subst (λ (symbol : SymbolView). AllZip (AreDeclDependencies mode) symbol.decls x.lists_of_declarations) symbols x.are_dependencies) y.are_dependencies in
      x.answer_is ∙ (ap answer_deps lists ∙ sym y.answer_is)

-- ---- all forms of questions

star_specifiers_followed : (graph : GraphView) (queried : List ℕ) → FollowsStars graph (IsStarSpecifierOfModule graph) queried
star_specifiers_followed graph queried v specifier_text at has = has

module _ (rules : Rules) (graph other : GraphView) (listed : (start : List ℕ) → AreExportListsCorrectAndUnique graph start)
    (other_listed : (start : List ℕ) → AreExportListsCorrectAndUnique other start) (queried : List ℕ) where
  found : (question : QuestionView) (v : List ℕ) → resolved_module_specifier graph queried ≡ Some v
      → IsFound graph (IsSpecifierFollowedForQuestion graph queried question) queried v
  found question v is = record { key = queried; requested = queried_specifier_is_looked_up; resolves = is }

  question_answer_same : (question : QuestionView) → AreAlikeWhereLookedUp graph other (IsSpecifierFollowedForQuestion graph queried question) queried
      → (v : List ℕ) → resolved_module_specifier graph queried ≡ Some v → question_answer rules graph v question ≡ question_answer rules other v question
  question_answer_same query_module alike v is = refl
  question_answer_same query_exports alike v is =
      let stars = star_specifiers_followed graph queried in
      let at = found query_exports v is in
      let exports = same_export_views graph other (IsStarSpecifierOfModule graph) queried alike stars v at (listed v) (other_listed v) in
      let shared = same_shared_name_views graph other (IsStarSpecifierOfModule graph) queried alike stars v at (listed v) (other_listed v) in
      let unresolved = same_unresolved_views graph other (IsStarSpecifierOfModule graph) queried alike stars v at (listed v) (other_listed v) in
      λ i. Some (answer_exports (exports i) (some_if_strict rules (shared i)) (unresolved i))
  question_answer_same query_names alike v is =
      ap (λ (names : List ExportedNameWithMember). Some (answer_names names))
      (same_names graph other (IsStarSpecifierOfModule graph) queried alike (star_specifiers_followed graph queried) v (found query_names v is) (listed v)
      (other_listed v))
  question_answer_same (query_symbol name) alike v is =
      ap (λ (changes : List Change). Some (answer_symbol (symbol_of_ident_after_changes changes name)))
      (same_changes graph other (IsSpecifierFollowedForQuestion graph queried (query_symbol name)) queried alike v (found (query_symbol name) v is))
  question_answer_same (query_name s) alike v is =
      ap (λ (changes : List Change). some_answer_if_symbol_exists (symbol_after_changes changes s)
      (answer_name (qualified_name (λ (t : SymbolId). symbol_after_changes changes t) s)))
      (same_changes graph other (IsSpecifierFollowedForQuestion graph queried (query_name s)) queried alike v (found (query_name s) v is))
  question_answer_same (query_deps s mode) alike v is =
      ap (λ (changes : List Change). option_map (dependencies_answer mode) (symbol_after_changes changes s))
      (same_changes graph other (IsSpecifierFollowedForQuestion graph queried (query_deps s mode)) queried alike v (found (query_deps s mode) v is))
  question_answer_same (query_paths s) alike v is =
      paths_answer_same rules graph other listed other_listed queried (query_paths s) alike v (found (query_paths s) v is) s answer_paths
  question_answer_same (query_definitions s) alike v is =
      paths_answer_same rules graph other listed other_listed queried (query_definitions s) alike v (found (query_definitions s) v is) s
      (λ paths. answer_definitions (definitions_among (leaves_of_forest paths)))
  question_answer_same (query_leaves s) alike v is =
      paths_answer_same rules graph other listed other_listed queried (query_leaves s) alike v (found (query_leaves s) v is) s
      (λ paths. answer_leaves (leaves_of_forest paths))
  question_answer_same (query_resolve reference) alike v is =
      ap (λ (entries : List DepEntryView). Some (answer_resolve entries))
      (computed_entries_same rules graph other listed other_listed queried (query_resolve reference) alike v (found (query_resolve reference) v is) reference
      (λ specifier_text parts same. import_type_specifier_is_followed parts is (ap query_resolve same)))

  changes_same : (question : QuestionView) → AreAlikeWhereLookedUp graph other (IsSpecifierFollowedForQuestion graph queried question) queried → (v : List ℕ)
      → resolved_module_specifier graph queried ≡ Some v → table_changes_of_module graph v ≡ table_changes_of_module other v
  changes_same question alike v is = same_changes graph other (IsSpecifierFollowedForQuestion graph queried question) queried alike v (found question v is)

  question_same : (question : QuestionView) → AreAlikeWhereLookedUp graph other (IsSpecifierFollowedForQuestion graph queried question) queried → (v : List ℕ)
      → resolved_module_specifier graph queried ≡ Some v → (a b : AnswerView) → IsAnswerToQuestion rules graph v question a
      → IsAnswerToQuestion rules other v question b → a ≡ b
  question_same query_module alike v is a b x y = x ∙ sym y
  question_same query_exports alike v is a b x y = exports_same rules graph other listed other_listed queried alike v (found query_exports v is) a b x y
  question_same query_names alike v is a b x y = names_same rules graph other listed other_listed queried alike v (found query_names v is) a b x y
  question_same (query_symbol name) alike v is a b x y = symbol_same graph other v (changes_same (query_symbol name) alike v is) name a b x y
  question_same (query_name s) alike v is a b x y = name_same graph other v (changes_same (query_name s) alike v is) s a b x y
  question_same (query_deps s mode) alike v is a b x y = deps_same graph other v (changes_same (query_deps s mode) alike v is) s mode a b x y
  question_same (query_paths s) alike v is a b x y =
      paths_same rules graph other listed other_listed queried (query_paths s) alike v (found (query_paths s) v is) s answer_paths a b x y
  question_same (query_definitions s) alike v is a b x y =
      paths_same rules graph other listed other_listed queried (query_definitions s) alike v (found (query_definitions s) v is) s
      (λ paths. answer_definitions (definitions_among (leaves_of_forest paths))) a b x y
  question_same (query_leaves s) alike v is a b x y =
      paths_same rules graph other listed other_listed queried (query_leaves s) alike v (found (query_leaves s) v is) s
      (λ paths. answer_leaves (leaves_of_forest paths)) a b x y
  question_same (query_resolve reference) alike v is a b x y =
      let entries : x.entries ≡ y.entries = dep_entries_same rules graph other listed other_listed queried (query_resolve reference) alike v
      (found (query_resolve reference) v is) reference (λ specifier_text parts same. import_type_specifier_is_followed parts is
      (ap query_resolve same)) x.entries y.entries
      x.are_dep_entries y.are_dep_entries in
      x.answer_is ∙ (ap answer_resolve entries ∙ sym y.answer_is)

-- ---- queries

-- ---- queries

same_answer_on_module : (rules : Rules) (graph other : GraphView) → ((start : List ℕ) → AreExportListsCorrectAndUnique graph start)
    → ((start : List ℕ) → AreExportListsCorrectAndUnique other start) → (query : QueryView) → AreAlikeForQuery graph other query
    → answer_in_form for_answer rules graph query ≡ answer_in_form for_answer rules other query
same_answer_on_module rules graph other listed other_listed query alike =
    by (resolved_module_specifier graph query.specifier) refl
    ∙ ap (λ (found : Option (List ℕ)). option_map_or (λ (specifier : List ℕ). question_answer rules other specifier query.question) found
    (Some answer_no_module))
    (same_resolved_module graph other (IsSpecifierFollowedForQuestion graph query.specifier query.question) query.specifier alike query.specifier
    (is_requested queried_specifier_is_looked_up))
  where
    by : (found : Option (List ℕ)) → resolved_module_specifier graph query.specifier ≡ found
        → option_map_or (λ (specifier : List ℕ). question_answer rules graph specifier query.question) found (Some answer_no_module)
        ≡ option_map_or (λ (specifier : List ℕ). question_answer rules other specifier query.question) found (Some answer_no_module)
    by None is = refl
    by (Some v) is = question_answer_same rules graph other listed other_listed query.specifier query.question alike v is

pub same_query_answer : (rules : Rules) (graph other : GraphView) → ((start : List ℕ) → AreExportListsCorrectAndUnique graph start)
    → ((start : List ℕ) → AreExportListsCorrectAndUnique other start) → (query : QueryView) → AreAlikeForQuery graph other query
    → query_answer rules graph query ≡ query_answer rules other query
same_query_answer rules graph other listed other_listed query alike = by query.form
  where
    by : (form : QueryForm) → answer_in_form form rules graph query ≡ answer_in_form form rules other query
    by for_answer = same_answer_on_module rules graph other listed other_listed query alike
    by for_inputs = ap (λ (inputs : List InputView). Some (answer_inputs inputs)) (inputs_same graph other query alike)

same_module_answer : (rules : Rules) (graph other : GraphView) → ((start : List ℕ) → AreExportListsCorrectAndUnique graph start)
    → ((start : List ℕ) → AreExportListsCorrectAndUnique other start) → (query : QueryView) → AreAlikeForQuery graph other query → (a b : AnswerView)
    → IsAnswerOnModule rules graph query a → IsAnswerOnModule rules other query b → a ≡ b
same_module_answer rules graph other listed other_listed query alike a b x y =
    by (get_prefer_types graph query.specifier) refl (subst (λ chain. Means graph a (last_analyzable_module chain)) chain_here x.is_right_answer)
    (subst (λ chain. Means other b (last_analyzable_module chain)) chain_there y.is_right_answer)
  where
    Means : GraphView → AnswerView → Option ModuleView → Type 0
    Means g answer module_found = MatchOption module_found (answer ≡ answer_no_module)
        (λ (m : ModuleView). IsAnswerToQuestion rules g m.specifier query.question answer)

    chain_here : x.chain ≡ types_chain graph query.specifier
    chain_here = (types_chain_is_unique graph query.specifier).only x.chain x.is_chain.is_chain

    chain_there : y.chain ≡ types_chain graph query.specifier
    chain_there = (types_chain_is_unique other query.specifier).only y.chain y.is_chain.is_chain
        ∙ sym (same_chain graph other (IsSpecifierFollowedForQuestion graph query.specifier query.question) query.specifier alike query.specifier
        (is_requested queried_specifier_is_looked_up))

    by : (module_found : Option ModuleView) → get_prefer_types graph query.specifier ≡ module_found → Means graph a module_found → Means other b module_found
        → a ≡ b
    by None is p q = p ∙ sym q
    by (Some m) is p q =
        question_same rules graph other listed other_listed query.specifier query.question alike m.specifier
        (ap (option_map (λ (n : ModuleView). n.specifier)) is) a b p q

pub same_answer : (rules : Rules) (graph other : GraphView) → ((start : List ℕ) → AreExportListsCorrectAndUnique graph start)
    → ((start : List ℕ) → AreExportListsCorrectAndUnique other start) → (query : QueryView) → AreAlikeForQuery graph other query → (a b : AnswerView)
    → IsAnswerToQuery rules graph query a → IsAnswerToQuery rules other query b → a ≡ b
same_answer rules graph other listed other_listed query alike a b = by query.form
  where
    by : (form : QueryForm) → IsAnswerInForm form rules graph query a → IsAnswerInForm form rules other query b → a ≡ b
    by for_answer x y = same_module_answer rules graph other listed other_listed query alike a b x y
    by for_inputs x y =
        x.answer_is ∙ (ap answer_inputs (x.in_order ∙ (inputs_same graph other query alike ∙ sym y.in_order)) ∙ sym y.answer_is)
