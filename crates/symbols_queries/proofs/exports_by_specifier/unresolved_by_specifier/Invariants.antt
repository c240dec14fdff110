use Rattle.std.proofs.Common.{◌≡◌, map, take}
use Rattle.symbols_exports.specs.CollectedNames.{unresolved_star_view}
use Rattle.symbols_exports.specs.ExportViews.{star_statement_by_specifier}
use Rattle.symbols_queries.specs.Queries.{star_statement_by_specifier_view}
use Rattle.symbols_queries.proofs.exports_by_specifier.unresolved_by_specifier.Given as goal

abbrev pub invariant-loop-statement : goal.invariant-loop-statement
invariant-loop-statement l = map star_statement_by_specifier_view l.statements.items ≡ map (star_statement_by_specifier l.root)
    (map unresolved_star_view (take l.statement-index l.unresolved))
