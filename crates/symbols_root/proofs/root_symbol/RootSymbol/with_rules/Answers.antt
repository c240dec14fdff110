use Rattle.std.proofs.Common.{arith}
use Rattle.std.proofs.lemmas.Option.{none-some}
use Rattle.symbols_root.specs.laws.Specifiers.{empty_list_is_distinct}
use Rattle.symbols_root.proofs.root_symbol.RootSymbol.with_rules.Goals as goal

pub invariant_of-result : goal.invariant_of-result
invariant_of-result c = rw c.with_hasher.ensures.empty (λ i entry at. absurd (none-some entry at), omega arith, empty_list_is_distinct, tt)
