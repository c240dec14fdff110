use Rattle.std.proofs.Common.{◌≡◌, ◌≤◌, length, take}
use Rattle.serde_json.specs.Data.{no_members}
use Rattle.serde_json.specs.Find.{get_member}
use Rattle.symq_reader.specs.inner.Objects.{put_entries}
use Rattle.symq_reader.proofs.entries.last_under.Given as goal

abbrev pub invariant-loop-left : goal.invariant-loop-left
invariant-loop-left l = (get_member l.key (put_entries l.entries no_members) ≡ get_member l.key (put_entries (take l.left l.entries) no_members))
    × (l.left ≤ length l.entries)

abbrev pub decreases-loop-left : goal.decreases-loop-left
decreases-loop-left l = l.left
