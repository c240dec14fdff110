-- The query that a JSON value describes, and the JSON value of an answer.
use Rattle.std.specs.Prelude.{ℕ, if◌then◌else◌, List, [], ◌∷◌, find, codes, Option, Some, None, option_map, option_and_then, map}
use Rattle.std.specs.Option.{option_map_or}
use Rattle.std.specs.Str.{bytes_eq}
use Rattle.serde_json.specs.Data.{Data, Items, no_items, item, null, number, unsigned, string, array, object, Members, no_members, member}
use Rattle.serde_json.specs.Find.{as_array, as_str}
use Rattle.serde_json.specs.View.{items_of}
use Rattle.symbols_ast.specs.declared.ids.SymbolId.{SymbolId}
use Rattle.symbols_ast.specs.Graph.{GraphView}
use Rattle.symbols_nodes.specs.declared.deps.dep.ResolveDepsMode.{ResolveDepsMode}
use Rattle.symbols_nodes.specs.declared.deps.dep.ResolveDepsMode.TheVariants.{TypesOnly, TypesAndExpressions}
use Rattle.symbols_nodes.specs.declared.deps.dep.ReferenceNamespace.{ReferenceNamespace}
use Rattle.symbols_nodes.specs.declared.deps.dep.ReferenceNamespace.TheVariants as In
use Rattle.symbols_nodes.specs.References.{SymbolReference, id, qualified_id, import_type, NamespacedReference}
use Rattle.symbols_root.specs.declared.rules.Rules.{Rules}
use Rattle.symbols_exports.specs.PublicNames.{ExportedNameWithMember}
use Rattle.symbols_exports.specs.SharedNames.{NameWithExporters}
use Rattle.symbols_exports.specs.ExportViews.{ExportView, StarStatementView}
use Rattle.symbols_answers.specs.Questions.{QuestionView, query_module, query_exports, query_names, query_symbol, query_name, query_deps, query_paths}
use Rattle.symbols_answers.specs.Questions.{query_definitions, query_leaves, query_resolve, for_answer, QueryView, inputs_query}
use Rattle.symbols_answers.specs.Answers.{AnswerView, answer_no_module, answer_module, answer_exports, answer_names, answer_symbol, answer_name, answer_deps}
use Rattle.symbols_answers.specs.Answers.{answer_paths, answer_definitions, answer_leaves, answer_resolve, answer_inputs, query_answer}
use Rattle.symbols_answers.specs.Inputs.{FoundView, found_module, found_redirect, found_absent, InputView}
use Rattle.symq_reader.specs.UnderKeys.{as_u32}
use Rattle.symq_core.specs.ReferenceForms.{read_id, reference_of_json}
use Rattle.symq_core.specs.TextsData.{string_list_json}
use Rattle.symq_core.specs.PathData.{definition_json, leaf_json, path_forest_json_items, dep_entry_json}

-- the items after the specifier in `["module", specifier]`
abbrev pub read_module_question : Items → Option QuestionView
read_module_question no_items = Some query_module
read_module_question _ = None

-- the items after the specifier in `["exports", specifier]`
abbrev pub read_exports_question : Items → Option QuestionView
read_exports_question no_items = Some query_exports
read_exports_question _ = None

-- the items after the specifier in `["names", specifier]`
abbrev pub read_public_names_question : Items → Option QuestionView
read_public_names_question no_items = Some query_names
read_public_names_question _ = None

-- the items after the specifier in `["symbol", specifier, name, scope]`
abbrev pub read_symbol_of_ident_question : Items → Option QuestionView
read_symbol_of_ident_question (item name (item scope no_items)) = option_map query_symbol (read_id name scope)
read_symbol_of_ident_question _ = None

-- the number of a symbol as the only item
abbrev pub read_single_symbol_id : Items → Option SymbolId
read_single_symbol_id (item symbol no_items) = option_map (λ n. record { 0 = n }) (as_u32 symbol)
read_single_symbol_id _ = None

-- the items after the specifier in `["name", specifier, number]`
abbrev pub read_qualified_name_question : Items → Option QuestionView
read_qualified_name_question items = option_map query_name (read_single_symbol_id items)

-- the items after the specifier in `["paths", specifier, number]`, `["definitions", specifier, number]` and `["leaves", specifier, number]`
abbrev pub read_paths_question : Items → Option QuestionView
read_paths_question items = option_map query_paths (read_single_symbol_id items)

abbrev pub read_definitions_question : Items → Option QuestionView
read_definitions_question items = option_map query_definitions (read_single_symbol_id items)

abbrev pub read_leaves_question : Items → Option QuestionView
read_leaves_question items = option_map query_leaves (read_single_symbol_id items)

-- the items after the specifier in `["resolve", specifier, reference]`
abbrev pub read_resolve_question : Items → Option QuestionView
read_resolve_question (item reference no_items) = option_map query_resolve (reference_of_json reference)
read_resolve_question _ = None

-- the mode of a keyword
abbrev pub deps_mode_by_keyword : List ℕ → Option ResolveDepsMode
deps_mode_by_keyword keyword = if bytes_eq keyword (codes "types") then Some TypesOnly else if bytes_eq keyword (codes "all") then Some TypesAndExpressions
    else None

-- the items after the specifier in `["deps", specifier, number, mode]`
abbrev pub read_deps_question : Items → Option QuestionView
read_deps_question (item symbol (item mode no_items)) =
    option_and_then (λ n. option_map (λ m. query_deps (record { 0 = n }) m) (option_and_then deps_mode_by_keyword (as_str mode))) (as_u32 symbol)
read_deps_question _ = None

-- the form of each query, by its keyword
abbrev pub question_readers : List (List ℕ × (Items → Option QuestionView))
question_readers = (codes "module", read_module_question) ∷ (codes "exports", read_exports_question) ∷ (codes "names", read_public_names_question)
    ∷ (codes "symbol", read_symbol_of_ident_question)
    ∷ (codes "name", read_qualified_name_question) ∷ (codes "deps", read_deps_question) ∷ (codes "paths", read_paths_question)
    ∷ (codes "definitions", read_definitions_question)
    ∷ (codes "leaves", read_leaves_question) ∷ (codes "resolve", read_resolve_question) ∷ []

abbrev pub question_by_keyword : List ℕ → Items → Option QuestionView
question_by_keyword keyword items = option_and_then (λ form. form.1 items) (find (λ form. bytes_eq keyword form.0) question_readers)

-- a keyword, a specifier, and the items after them
abbrev pub two_strings_and_items : Items → Option (List ℕ × List ℕ × Items)
two_strings_and_items (item keyword (item specifier rest)) = option_and_then (λ w. option_map (λ s. (w, s, rest)) (as_str specifier)) (as_str keyword)
two_strings_and_items _ = None

abbrev pub keyword_specifier_and_items : Data → Option (List ℕ × List ℕ × Items)
keyword_specifier_and_items value = option_and_then two_strings_and_items (as_array value)

-- the query of a keyword, a specifier, and the items after them
abbrev pub query_by_keyword : List ℕ × List ℕ × Items → Option QueryView
query_by_keyword parts = option_map (λ question. record { specifier = parts.1; question = question; form = for_answer }) (question_by_keyword parts.0 parts.2)

-- the value after the keyword in `["inputs", query]`
abbrev pub second_after_inputs : Items → Option Data
second_after_inputs (item keyword (item query no_items)) =
    option_and_then (λ w. if bytes_eq w (codes "inputs") then Some query else None) (as_str keyword)
second_after_inputs _ = None

abbrev pub value_after_inputs : Data → Option Data
value_after_inputs value = option_and_then second_after_inputs (as_array value)

-- the query for the inputs of a query on a module
abbrev pub inputs_query_of_data : Data → Option QueryView
inputs_query_of_data value = option_map inputs_query
    (option_and_then query_by_keyword (option_and_then keyword_specifier_and_items (value_after_inputs value)))

-- the query that a value describes, which begins with a keyword and a specifier or is for inputs; None if it is no query
abbrev pub query_of_json : Data → Option QueryView
query_of_json value = option_map_or query_by_keyword (keyword_specifier_and_items value) (inputs_query_of_data value)

-- ---- the JSON value of an answer

-- the object of a fault
abbrev pub fault_json : List ℕ → Data
fault_json args = object (member (codes "fault") (string args) no_members)

-- a statement `export *`: its referrer and its specifier
abbrev pub star_statement_json : StarStatementView → Data
star_statement_json statement = array (item (string statement.0) (item (string statement.1) no_items))

abbrev pub star_statements_json : List StarStatementView → Data
star_statements_json statements = array (items_of (map star_statement_json statements))

-- an export: the chain of `export *` statements, the exporting module, the name, and its symbol there
abbrev pub export_json : ExportView → Data
export_json entry =
    object (member (codes "chain") (star_statements_json entry.statements)
    (member (codes "module") (string entry.exporter)
    (member (codes "name") (string entry.name)
    (member (codes "symbol") (number (unsigned entry.symbol.0)) no_members))))

-- an exporter of a shared name: the chain of `export *` statements, the module, and its symbol
abbrev pub exporter_json : ExportView → Data
exporter_json exporter =
    object (member (codes "chain") (star_statements_json exporter.statements)
    (member (codes "module") (string exporter.exporter)
    (member (codes "symbol") (number (unsigned exporter.symbol.0)) no_members)))

-- a shared name and its exporters
abbrev pub shared_name_json : NameWithExporters ExportView → Data
shared_name_json shared = object (member (codes "name") (string shared.name)
    (member (codes "owners") (array (items_of (map exporter_json shared.exporters))) no_members))

-- the members, with the member of the shared names before them if there is one
abbrev pub members_with_shared : Option (List (NameWithExporters ExportView)) → Members → Members
members_with_shared None rest = rest
members_with_shared (Some shared) rest = member (codes "shared") (array (items_of (map shared_name_json shared))) rest

-- the item for the member after the exported name, if there is one
abbrev pub items_of_optional_member_name : Option (List ℕ) → Items
items_of_optional_member_name None = no_items
items_of_optional_member_name (Some name) = item (string name) no_items

abbrev pub name_with_member_json : ExportedNameWithMember → Data
name_with_member_json public = array (item (string public.name) (items_of_optional_member_name public.member))

abbrev pub symbol_number_json : Option SymbolId → Data
symbol_number_json None = null
symbol_number_json (Some symbol) = number (unsigned symbol.0)

abbrev pub optional_name_json : Option (List ℕ) → Data
optional_name_json None = null
optional_name_json (Some name) = string name

-- a reference: a name with its scope, a name with the parts after it, or a specifier with the parts after it
abbrev pub reference_json : SymbolReference → Data
reference_json (id name) = array (item (string (codes "id")) (item (string name.name) (item (number (unsigned name.scope)) no_items)))
reference_json (qualified_id name parts) =
    array (item (string (codes "qualified")) (item (string name.name) (item (number (unsigned name.scope)) (item (string_list_json parts) no_items))))
reference_json (import_type specifier_text parts) = array
    (item (string (codes "import")) (item (string specifier_text) (item (string_list_json parts) no_items)))

abbrev pub reference_namespace_str : ReferenceNamespace → List ℕ
reference_namespace_str In.Value = codes "value"
reference_namespace_str In.Type = codes "type"
reference_namespace_str In.Both = codes "both"

abbrev pub namespaced_reference_json : NamespacedReference → Data
namespaced_reference_json dependency = array (item (reference_json dependency.reference)
    (item (string (reference_namespace_str dependency.namespace)) no_items))

-- the dependencies of one declaration
abbrev pub references_of_decl_json : List NamespacedReference → Data
references_of_decl_json dependencies = array (items_of (map namespaced_reference_json dependencies))

-- the members for what the graph has under a specifier, with those after them; `module` is the one that the specifier redirects to
abbrev pub members_with_found : FoundView → Members → Members
members_with_found found_module rest = member (codes "found") (string (codes "module")) rest
members_with_found (found_redirect specifier) rest = member (codes "found") (string (codes "redirect")) (member (codes "module") (string specifier) rest)
members_with_found found_absent rest = member (codes "found") (string (codes "absent")) rest

-- an input of a query: what the graph has under the specifier, and the specifier
abbrev pub input_json : InputView → Data
input_json input = object (members_with_found input.found (member (codes "specifier") (string input.specifier) no_members))

-- the value of each answer, with its keys in the order of their bytes
abbrev pub answer_json : AnswerView → Data
answer_json answer_no_module = null
answer_json (answer_module specifier) = object (member (codes "module") (string specifier) no_members)
answer_json (answer_exports entries shared unresolved) = object (member (codes "exports") (array (items_of (map export_json entries)))
    (members_with_shared shared (member (codes "unresolved") (star_statements_json unresolved) no_members)))
answer_json (answer_names names) = object (member (codes "names") (array (items_of (map name_with_member_json names))) no_members)
answer_json (answer_symbol found) = object (member (codes "symbol") (symbol_number_json found) no_members)
answer_json (answer_name name) = object (member (codes "name") (optional_name_json name) no_members)
answer_json (answer_deps lists) = object (member (codes "deps") (array (items_of (map references_of_decl_json lists))) no_members)
answer_json (answer_paths paths) = object (member (codes "paths") (array (path_forest_json_items paths)) no_members)
answer_json (answer_definitions definitions) = object (member (codes "definitions") (array (items_of (map definition_json definitions))) no_members)
answer_json (answer_leaves leaves) = object (member (codes "leaves") (array (items_of (map leaf_json leaves))) no_members)
answer_json (answer_resolve entries) = object (member (codes "entries") (array (items_of (map dep_entry_json entries))) no_members)
answer_json (answer_inputs inputs) = object (member (codes "inputs") (array (items_of (map input_json inputs))) no_members)

-- the value of an answer; a fault if the module has no such symbol
abbrev pub answer_or_fault_json : Option AnswerView → Data
answer_or_fault_json None = fault_json (codes "unknown symbol")
answer_or_fault_json (Some answer) = answer_json answer

-- the value of the answer to a query line; a fault if the line is no query
abbrev pub query_result_json : Rules → GraphView → Option QueryView → Data
query_result_json rules graph None = fault_json (codes "bad query")
query_result_json rules graph (Some query) = answer_or_fault_json (query_answer rules graph query)
