use Rattle.std.proofs.Common.{◌≡◌, [], ◌∷◌, ◌++◌, true, Some, None, refl, ap, ◌∙◌, arith, rules}
use Rattle.json.specs.Json.{read_key, member, no_members}
use Rattle.json.specs.Value.{value_view, members_view}
use Rattle.symq_reader.specs.inner.JsonData.{json_has_whole_numbers}
use Rattle.symq_reader.specs.inner.Streams.{members_joined}
use Rattle.symq_reader.proofs.Entered.{members_read}
use Rattle.symq_reader.proofs.ConsumedTokens.{took_none, took_all, took_member, member_fits, members_view-more}
use Rattle.symq_reader.proofs.stream.entries.object.Goals as goal

pub members-init : goal.members-init
members-init c = (no_members, took_none 120 c.args.reader.now, refl, ap members_view c.new-found.ensures.items)

pub members-preserved : goal.members-preserved
members-preserved c =
    let l = c.members in
    let done = l.invariant.0 in
    let k = c.in-Some.name.now in
    let s = c.next_key.new.self in
    let v = c.in_ok-value.value in
    let j = value_view v in
    let r = c.read.new.reader in
    let named : read_key l.reader ≡ Some (Some k, s) = grind arith in
    let fit : json_has_whole_numbers j ≡ true = search rules in
    let pushed : c.push.new.self.items ≡ l.found.items ++ (c.in-Some.name, v) ∷ [] = search rules in (
      members_joined done (member k j no_members),
      took_member 120 k c.args.reader.now l.reader s r done j l.invariant.1 named c.in_ok-value.ensures.ok,
      member_fits done k j no_members l.invariant.2 fit refl,
      ap members_view pushed
          ∙ members_view-more l.found.items c.in-Some.name v
          ∙ ap (λ ms. members_joined ms (member k j no_members)) l.invariant.3,
    )

pub returns-in_default : goal.returns-in_default
returns-in_default c =
    let l = c.members in
    let ends : read_key l.reader ≡ Some (None, c.next_key.new.self) = grind arith in
    members_read c.args.reader.now c.next_key.new.self l.invariant.0 (members_view l.found.items) l.invariant.3
    (took_all 120 c.args.reader.now l.reader c.next_key.new.self l.invariant.0 l.invariant.1 ends) l.invariant.2
