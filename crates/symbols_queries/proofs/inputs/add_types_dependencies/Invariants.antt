use Rattle.std.proofs.Common.{◌-◌, ◌^◌}
use Rattle.symbols_queries.proofs.TypesWalks.{IsWalking}
use Rattle.symbols_queries.proofs.inputs.add_types_dependencies.Given as goal

abbrev pub invariant-loop-specifier : goal.invariant-loop-specifier
invariant-loop-specifier l = IsWalking l.graph l.fn.list l.list l.index

abbrev pub decreases-loop-specifier : goal.decreases-loop-specifier
decreases-loop-specifier l = 2 ^ 63 - l.index
