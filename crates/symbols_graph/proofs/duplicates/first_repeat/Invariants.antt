use Rattle.std.proofs.Common.{◌≡◌, take}
use Rattle.std.specs.List.{list_any}
use Rattle.std.specs.HashSet.{contains}
use Rattle.symbols_graph.proofs.RepeatLemmas.{NoRepeatBelow}
use Rattle.symbols_graph.proofs.duplicates.first_repeat.Given as goal

abbrev pub invariant-loop-key : goal.invariant-loop-key
invariant-loop-key g l = record {
  same : (q : g.row.K.Denot) → contains g.K.PartialEq.eq l.seen q ≡ list_any (λ y. g.K.PartialEq.eq y q) (take l.key-index l.keys);
  none : NoRepeatBelow g.K.PartialEq.eq l.keys l.key-index;
}
