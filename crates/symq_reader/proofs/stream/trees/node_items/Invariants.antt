use Rattle.std.proofs.Common.{◌≡◌, length, map, true, Some}
use Rattle.json.specs.Json as json
use Rattle.symq_reader.specs.GraphText.{as_node, raw_node_view}
use Rattle.symq_reader.specs.JsonData.{json_items_data}
use Rattle.symq_reader.specs.inner.JsonData.{json_items_have_whole_numbers}
use Rattle.symq_reader.specs.inner.Streams.{ConsumesItems}
use Rattle.symq_reader.specs.UnderKeys.{read_each_item}
use Rattle.symq_reader.proofs.stream.trees.node_items.Given as goal

-- the items that were read precede those to come
abbrev pub invariant-items : goal.invariant-items
invariant-items l =
    (done : json.Items) × ConsumesItems 122 l.initial.reader done l.reader
    × (json_items_have_whole_numbers done ≡ true)
    × (read_each_item as_node (json_items_data done) ≡ Some (map raw_node_view l.found.items))

abbrev pub decreases-items : goal.decreases-items
decreases-items l = length l.reader
