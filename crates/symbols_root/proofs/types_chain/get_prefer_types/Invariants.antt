use Rattle.std.proofs.Common.{◌-◌, length, option_copied}
use Rattle.symbols_root.proofs.Following.{IsFollowing, borrowed_specifiers}
use Rattle.symbols_root.proofs.types_chain.get_prefer_types.Given as goal

abbrev pub invariant-types : goal.invariant-types
invariant-types l = IsFollowing l.graph l.fn.specifier (borrowed_specifiers l.before.keys) (option_copied l.resolved_to) (option_copied l.found)

abbrev pub decreases-types : goal.decreases-types
decreases-types l = length l.graph.modules - length (borrowed_specifiers l.before.keys)
