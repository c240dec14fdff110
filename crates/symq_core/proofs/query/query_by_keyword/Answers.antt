use Rattle.std.proofs.Common.{◌≡◌, Option, option_map, IfOk, sym, subst, rules}
use Rattle.symbols_answers.specs.Questions.{QueryView}
use Rattle.symbols_queries.specs.Queries.{query_view}
use Rattle.symq_reader.specs.JsonData.{items_data}
use Rattle.symq_core.proofs.TailItems.{query_of_tail_items}
use Rattle.symq_core.proofs.query.query_by_keyword.Goals as goal

pub returns-in_default : goal.returns-in_default
returns-in_default c =
    let same = query_of_tail_items c.args.keyword.now c.args.specifier.now (items_data c.args.items.now) (search rules) in
    subst (λ (found : Option QueryView). IfOk c.query_of_items.result (λ query. option_map query_view query ≡ found)) (sym same) c.query_of_items.ensures
