use Rattle.std.proofs.Common.{◌<◌, length, arith}
use Rattle.symbols_exports.specs.CollectedNames.{unresolved_star_view}
use Rattle.symbols_queries.proofs.Known.{mapped_at}
use Rattle.symbols_queries.proofs.exports_by_specifier.unresolved_by_specifier.Goals as goal

pub star_statement_by_specifier-requires : goal.star_statement_by_specifier-requires
star_statement_by_specifier-requires c = mapped_at (λ statement. statement.0.0 < length c.args.root.now.stored) unresolved_star_view c.args.unresolved.now
    c.loop-statement.statement-index _ (omega (arith, c.loop-statement-test.true)) c.requires
