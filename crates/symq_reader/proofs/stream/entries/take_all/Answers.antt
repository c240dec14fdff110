use Rattle.std.proofs.Common.{◌≡◌, ◌<◌, [], ◌∷◌, ◌++◌, length, Some, None, refl, sym, ap, arith, rules}
use Rattle.json.specs.Json.{read_key, member, no_members}
use Rattle.json.proofs.Grammar.{read_key-shorter}
use Rattle.serde_json.specs.Data as plainly
use Rattle.symq_reader.specs.inner.Objects.{put_entries}
use Rattle.symq_reader.specs.inner.Streams.{members_joined}
use Rattle.symq_reader.proofs.Entered.{entries_round}
use Rattle.symq_reader.proofs.Streamed.{reads_shorter}
use Rattle.symq_reader.proofs.ConsumedTokens.{took_none, took_all, took_member, member_fits}
use Rattle.symq_reader.proofs.stream.entries.take_all.Goals as goal

pub members-init : goal.members-init
members-init c = (no_members, took_none 121 c.args.reader.now, refl, sym (ap (λ xs. put_entries xs plainly.no_members) c.clear.ensures.items))

pub members-smaller : goal.members-smaller
members-smaller c =
    let named : read_key c.members.reader ≡ Some (Some c.in-Some.name.now, c.next_key.new.self) = grind arith in
    let one = read_key-shorter c.members.reader _ c.next_key.new.self named in
    let two : length c.next_entry.new.reader < length c.next_key.new.self = reads_shorter 121 _ _ _ _ c.in_ok-entry.ensures in
    omega arith

pub members-preserved : goal.members-preserved
members-preserved c =
    let l = c.members in
    let done = l.invariant.0 in
    let k = c.in-Some.name.now in
    let s = c.next_key.new.self in
    let h = c.in_ok-entry.ensures in
    let named : read_key l.reader ≡ Some (Some k, s) = grind arith in
    let pushed : c.push.new.self.items ≡ l.retained.items ++ (c.in-Some.name, c.in_ok-entry.entry) ∷ [] = search rules in (
      members_joined done (member k h.at no_members),
      took_member 121 k c.args.reader.now l.reader s c.next_entry.new.reader done h.at l.invariant.1 named h.read,
      member_fits done k h.at no_members l.invariant.2 h.fit refl,
      entries_round done l.retained.items c.push.new.self.items c.in-Some.name c.in_ok-entry.entry h.at l.invariant.3 h.is pushed,
    )

pub returns-in_default : goal.returns-in_default
returns-in_default c =
    let l = c.members in
    let ends : read_key l.reader ≡ Some (None, c.next_key.new.self) = grind arith in
    record {
      all = l.invariant.0;
      read = took_all 121 c.args.reader.now l.reader c.next_key.new.self l.invariant.0 l.invariant.1 ends;
      fit = l.invariant.2;
      is = ap (λ ms. Some (plainly.object ms)) l.invariant.3;
    }
