use Rattle.std.proofs.Common.{◌≡◌, length, true, None}
use Rattle.json.specs.Json as json
use Rattle.json.specs.Find.{get_member}
use Rattle.json.specs.Value.{members_view}
use Rattle.symq_reader.specs.inner.JsonData.{json_members_have_whole_numbers}
use Rattle.symq_reader.specs.inner.Streams.{ConsumesMembers, members_joined}
use Rattle.symq_reader.proofs.stream.members.pass_until.Given as goal

-- the members that were read are stored and precede those to come
abbrev pub invariant-members : goal.invariant-members
invariant-members l =
    (done : json.Members) × ConsumesMembers l.depth l.initial.reader done l.reader
    × (json_members_have_whole_numbers done ≡ true)
    × (get_member l.key done ≡ None)
    × (members_view l.retained.items ≡ members_joined (members_view l.initial.retained.items) done)

abbrev pub decreases-members : goal.decreases-members
decreases-members l = length l.reader
