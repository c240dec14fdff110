use Rattle.std.proofs.Common.{◌-◌, ◌^◌}
use Rattle.symbols_queries.specs.Queries.{query_view}
use Rattle.symbols_queries.proofs.Requesting.{IsRequesting}
use Rattle.symbols_queries.proofs.inputs.requested_specifiers.Given as goal

abbrev pub invariant-loop-specifier : goal.invariant-loop-specifier
invariant-loop-specifier l = IsRequesting l.fn.root l.root (query_view l.query) l.list l.index

abbrev pub decreases-loop-specifier : goal.decreases-loop-specifier
decreases-loop-specifier l = 2 ^ 63 - l.index
