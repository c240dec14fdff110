use Rattle.std.proofs.Common.{◌≡◌, ◌≤◌, ◌^◌, ℕ, ◌+◌, length}
use Rattle.symbols_exports.specs.inner.NameFilter.{collects_shared}
use Rattle.symbols_exports.proofs.StoringWalk.{IsWalking}
use Rattle.symbols_exports.proofs.WalkTerminates.{work_left}
use Rattle.symbols_exports.proofs.export_walk.walk_stars.Given as goal

abbrev pub invariant-walk : goal.invariant-walk
invariant-walk l = (lookups : ℕ) × (l.counter.count ≡ l.fn.counter.count + lookups) × IsWalking l.fn.name_filter l.fn.root l.fn.module_id l.root l.here l.next
    l.stack.items l.visited.keys l.collected.collected lookups × (length l.visited.keys ≤ 2 ^ 64)
    × (l.collected.keeps ≡ collects_shared l.fn.name_filter l.root.rules)

abbrev pub decreases-walk : goal.decreases-walk
decreases-walk l = work_left l.fn.root.graph l.root l.here l.next l.stack.items l.visited.keys
