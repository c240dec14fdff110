-- A query of the fast path is the query of the line's JSON value.
use Rattle.std.proofs.Common.{◌≡◌, Option, Some, None, Result, Ok, Err, sym, option_and_then}
use Rattle.std.specs.Prelude.{option_map, IfSome, IfOk}
use Rattle.serde_json.specs.Data.{Data}
use Rattle.symbols_queries.specs.declared.query.Query.{Query}
use Rattle.symbols_queries.specs.Queries.{query_with_question, query_view}
use Rattle.symq_reader.specs.declared.query_list.QueryList.{QueryList}
use Rattle.symq_reader.specs.QueryLists.{items_after_two_strings, query_array_json}
use Rattle.symq_core.specs.Queries.{question_by_keyword, query_of_json}

list_queried : (found : Option Data) (list : QueryList) (result : Option Query) → found ≡ Some (query_array_json list) → option_map query_view result
    ≡ option_map (query_with_question list.second.now) (question_by_keyword list.first.now (items_after_two_strings list.tail))
    → IfSome result (λ query. option_and_then query_of_json found ≡ Some (query_view query))
list_queried found list None is queried = tt
list_queried found list (Some query) is queried = rw is (sym queried)

pub queried_fast : {E : Type 0} (found : Option Data) (list : QueryList) (result : Result (Option Query) E) → found ≡ Some (query_array_json list)
    → IfOk result (λ query. option_map query_view query
    ≡ option_map (query_with_question list.second.now) (question_by_keyword list.first.now (items_after_two_strings list.tail)))
    → IfOk result (λ query. IfSome query (λ query. option_and_then query_of_json found ≡ Some (query_view query)))
queried_fast found list (Ok query) is queried = list_queried found list query is queried
queried_fast found list (Err fault) is queried = tt
