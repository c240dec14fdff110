use Rattle.std.proofs.Common.{◌≡◌, length, true}
use Rattle.json.specs.Json as json
use Rattle.serde_json.specs.Data.{no_members}
use Rattle.symq_reader.specs.JsonData.{json_members_data}
use Rattle.symq_reader.specs.inner.JsonData.{json_members_have_whole_numbers}
use Rattle.symq_reader.specs.inner.Objects.{put_entries}
use Rattle.symq_reader.specs.inner.Streams.{ConsumesMembers}
use Rattle.symq_reader.proofs.stream.entries.take_all.Given as goal

abbrev pub invariant-members : goal.invariant-members
invariant-members l =
    (done : json.Members) × ConsumesMembers 121 l.initial.reader done l.reader
    × (json_members_have_whole_numbers done ≡ true)
    × (json_members_data done no_members ≡ put_entries l.retained.items no_members)

abbrev pub decreases-members : goal.decreases-members
decreases-members l = length l.reader
