use Rattle.std.proofs.Common.{◌≡◌, ◌++◌, drop, map, option_map}
use Rattle.json.specs.Value.{items_view}
use Rattle.symq_reader.specs.JsonData.{json_items_data}
use Rattle.symq_reader.specs.UnderKeys.{read_each_item}
use Rattle.symq_reader.specs.GraphText.{as_module, raw_module_view}
use Rattle.symq_reader.proofs.graph.modules.Given as goal

abbrev pub invariant-loop-item : goal.invariant-loop-item
invariant-loop-item l = option_map (λ rest. map raw_module_view l.modules.items
    ++ rest) (read_each_item as_module (json_items_data (items_view (drop l.item-index l.items)))) ≡ read_each_item as_module
    (json_items_data (items_view l.items))
