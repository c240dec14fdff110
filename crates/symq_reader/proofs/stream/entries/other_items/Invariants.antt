use Rattle.std.proofs.Common.{◌≡◌, ◌++◌, ℕ, List, length, map, true, Some}
use Rattle.json.specs.Json as json
use Rattle.symq_reader.specs.inner.Objects.{whole_number}
use Rattle.symq_reader.specs.JsonData.{json_items_data}
use Rattle.symq_reader.specs.inner.JsonData.{json_items_have_whole_numbers}
use Rattle.symq_reader.specs.inner.Streams.{ConsumesItems}
use Rattle.symq_reader.specs.UnderKeys.{read_each_item}
use Rattle.symq_reader.proofs.stream.entries.other_items.Given as goal

-- the items that were read precede those to come, and their numbers were appended
abbrev pub invariant-items : goal.invariant-items
invariant-items l =
    (done : json.Items) × ConsumesItems 120 l.initial.reader done l.reader
    × (json_items_have_whole_numbers done ≡ true)
    × (rest : List ℕ) × (read_each_item (λ d. Some d) (json_items_data done) ≡ Some (map whole_number rest))
    × (l.found.items ≡ l.initial.found.items ++ rest)

abbrev pub decreases-items : goal.decreases-items
decreases-items l = length l.reader
