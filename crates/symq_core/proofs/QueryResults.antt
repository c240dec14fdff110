-- The result of a query with an unknown symbol.
use Rattle.std.proofs.Common.{◌≡◌, None, inl, inr}
use Rattle.symbols_table.specs.declared.info.fault.SymbolsFault.TheVariants.{UnknownSymbol}
use Rattle.symbols_root.specs.Roots.{RootView}
use Rattle.symbols_answers.specs.Questions.{QueryView}
use Rattle.symbols_answers.specs.Answers.{query_answer}
use Rattle.symbols_queries.specs.Queries.{IsQueryFault}

pub none_answered : (old new : RootView) (query : QueryView) → IsQueryFault old new query UnknownSymbol → query_answer old.rules old.graph query ≡ None
none_answered old new query (inl unknown) = unknown.no_answer
none_answered old new query (inr (inl refused)) = absurd refused.refused
none_answered old new query (inr (inr refused)) = absurd refused.refused
