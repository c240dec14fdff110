use Rattle.std.proofs.Common.{◌≡◌, ◌++◌, map, drop}
use Rattle.symq_core.specs.inner.JsonWriting.{remaining_value_tokens}
use Rattle.symq_core.proofs.write_json.end_items.Given as goal

abbrev pub invariant-loop-item : goal.invariant-loop-item
invariant-loop-item g l =
    (l.out.before ≡ l.initial.out.before)
    × (l.out.tokens ++ remaining_value_tokens (map g.T.WriteJson.value (map g.T.WriteJson.view (drop l.item-index l.items)))
    ≡ l.initial.out.tokens ++ remaining_value_tokens (map g.T.WriteJson.value (map g.T.WriteJson.view l.items)))
