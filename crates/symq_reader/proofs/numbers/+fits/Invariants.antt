use Rattle.std.proofs.Common.{◌≡◌, drop}
use Rattle.json.specs.Value.{items_view, members_view}
use Rattle.symq_reader.specs.inner.JsonData.{json_items_have_whole_numbers, json_members_have_whole_numbers}
use Rattle.symq_reader.proofs.numbers.+fits.Given as goal

abbrev pub invariant-items_fit-loop-item : goal.invariant-items_fit-loop-item
invariant-items_fit-loop-item l = json_items_have_whole_numbers (items_view (drop l.item-index l.items.items))
    ≡ json_items_have_whole_numbers (items_view l.items.items)

abbrev pub invariant-members_fit-loop-member : goal.invariant-members_fit-loop-member
invariant-members_fit-loop-member l = json_members_have_whole_numbers (members_view (drop l.member-index l.members.items))
    ≡ json_members_have_whole_numbers (members_view l.members.items)
