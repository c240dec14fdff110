use Rattle.std.proofs.Common.{◌≡◌, ◌++◌, drop, map, option_map}
use Rattle.json.specs.Value.{items_view}
use Rattle.symq_reader.specs.JsonData.{json_items_data}
use Rattle.symq_reader.specs.UnderKeys.{read_each_item}
use Rattle.symq_reader.specs.GraphText.{as_redirect, raw_redirect_view}
use Rattle.symq_reader.proofs.graph.redirects.Given as goal

abbrev pub invariant-loop-item : goal.invariant-loop-item
invariant-loop-item l = option_map (λ rest. map raw_redirect_view l.redirects.items
    ++ rest) (read_each_item as_redirect (json_items_data (items_view (drop l.item-index l.items)))) ≡ read_each_item as_redirect
    (json_items_data (items_view l.items))
