use Rattle.std.proofs.Common.{◌≡◌, drop}
use Rattle.serde_json.specs.View.{items_view, members_view}
use Rattle.symq_reader.specs.Numbers.{items_have_whole_numbers, members_have_whole_numbers}
use Rattle.symq_reader.proofs.numbers.+whole.Given as goal

abbrev pub invariant-items_have_whole_numbers-loop-item : goal.invariant-items_have_whole_numbers-loop-item
invariant-items_have_whole_numbers-loop-item l = items_have_whole_numbers (items_view (drop l.item-index l.item-items)) ≡ items_have_whole_numbers
    (items_view l.item-items)

abbrev pub invariant-members_have_whole_numbers-loop-value : goal.invariant-members_have_whole_numbers-loop-value
invariant-members_have_whole_numbers-loop-value l = members_have_whole_numbers (members_view l.value-iterator) ≡ members_have_whole_numbers
    (members_view l.members.entries)
