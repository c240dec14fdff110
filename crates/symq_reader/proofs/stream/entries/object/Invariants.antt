use Rattle.std.proofs.Common.{◌≡◌, length, true}
use Rattle.json.specs.Json as json
use Rattle.json.specs.Value.{members_view}
use Rattle.symq_reader.specs.inner.JsonData.{json_members_have_whole_numbers}
use Rattle.symq_reader.specs.inner.Streams.{ConsumesMembers}
use Rattle.symq_reader.proofs.stream.entries.object.Given as goal

-- the members that were read precede those to come
abbrev pub invariant-members : goal.invariant-members
invariant-members l =
    (done : json.Members) × ConsumesMembers 120 l.initial.reader done l.reader
    × (json_members_have_whole_numbers done ≡ true)
    × (members_view l.found.items ≡ done)

abbrev pub decreases-members : goal.decreases-members
decreases-members l = length l.reader
