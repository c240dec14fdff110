use Rattle.std.proofs.Common.{◌≡◌, ◌++◌, drop, map, option_map}
use Rattle.std.specs.Cow.{cow_str_bytes}
use Rattle.serde_json.specs.Find.{as_str}
use Rattle.symq_reader.specs.JsonData.{items_data}
use Rattle.symq_reader.specs.UnderKeys.{read_each_item}
use Rattle.symq_core.proofs.references.read_texts.Given as goal

abbrev pub invariant-loop-item : goal.invariant-loop-item
invariant-loop-item l = option_map (λ rest. map cow_str_bytes l.texts.items ++ rest) (read_each_item as_str (items_data (drop l.item-index l.items)))
    ≡ read_each_item as_str (items_data l.items)
