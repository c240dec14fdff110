use Rattle.std.proofs.Common.{◌≡◌, fold, drop}
use Rattle.symbols_table.specs.Changes.{append_if_absent}
use Rattle.symbols_table.proofs.decl.symbol_set.indexed.Given as goal

-- Inserting the remaining symbols gives the whole list.
abbrev pub invariant-loop-symbol : goal.invariant-loop-symbol
invariant-loop-symbol l = fold append_if_absent l.set.keys (drop l.symbol-index l.few) ≡ l.few
