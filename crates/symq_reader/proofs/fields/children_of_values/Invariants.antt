use Rattle.std.proofs.Common.{◌≡◌, ◌++◌, drop, option_map}
use Rattle.json.specs.Value.{items_view}
use Rattle.symq_reader.specs.JsonData.{json_items_data}
use Rattle.symq_reader.specs.UnderKeys.{read_each_item, as_u32}
use Rattle.symq_reader.proofs.fields.children_of_values.Given as goal

abbrev pub invariant-loop-item : goal.invariant-loop-item
invariant-loop-item l = option_map (λ rest. l.children.items ++ rest) (read_each_item as_u32 (json_items_data (items_view (drop l.item-index l.items))))
    ≡ read_each_item as_u32 (json_items_data (items_view l.items))
