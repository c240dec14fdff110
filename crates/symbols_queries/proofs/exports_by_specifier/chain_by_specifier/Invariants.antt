use Rattle.symbols_exports.specs.ExportChains.{statements_of_chain, remaining_chain_suffixes}
use Rattle.symbols_exports.specs.ExportViews.{star_statement_by_specifier, AreReferrersOfStarsStored}
use Rattle.std.proofs.Common.{◌≡◌, ◌++◌, map}
use Rattle.std.specs.Prelude.{filter_map}
use Rattle.symbols_queries.specs.Queries.{star_statement_by_specifier_view}
use Rattle.symbols_queries.proofs.Naming.{first_statement}
use Rattle.symbols_queries.proofs.exports_by_specifier.chain_by_specifier.Given as goal

abbrev pub invariant-loop-rest : goal.invariant-loop-rest
invariant-loop-rest l = record {
  named : map star_statement_by_specifier_view l.statements.items
      ++ map (star_statement_by_specifier l.root) (filter_map first_statement (remaining_chain_suffixes l.rest-iterator))
      ≡ map (star_statement_by_specifier l.root) (statements_of_chain l.chain);
  known : AreReferrersOfStarsStored l.root (filter_map first_statement (remaining_chain_suffixes l.rest-iterator));
}
