use Rattle.std.proofs.Common.{◌≡◌, [], ◌∷◌, ◌++◌, true, Some, refl, sym, ap, ◌∙◌, arith, rules}
use Rattle.json.specs.Json.{read_key, member, no_members}
use Rattle.json.specs.Value.{value_view, members_view}
use Rattle.symq_reader.specs.inner.JsonData.{json_has_whole_numbers}
use Rattle.symq_reader.specs.inner.Streams.{members_joined}
use Rattle.symq_reader.proofs.ConsumedTokens.{took_none, took_member, member_fits, none_more, members_view-more, joined_more, joined-none}
use Rattle.symq_reader.proofs.stream.members.pass_until.Goals as goal

pub members-init : goal.members-init
members-init c = (no_members, took_none c.args.depth c.args.reader.now, refl, refl, sym (joined-none (members_view c.args.retained.now.items)))

pub members-preserved : goal.members-preserved
members-preserved c =
    let l = c.members in
    let done = l.invariant.0 in
    let k = c.in-Some.name.now in
    let s = c.next_key.new.self in
    let v = c.in_ok-value.value in
    let j = value_view v in
    let r = c.read.new.reader in
    let named : read_key l.reader ≡ Some (Some k, s) = grind arith in
    let other : c.args.key.now ≡ k → ⊥ = search rules in
    let fit : json_has_whole_numbers j ≡ true = search rules in
    let pushed : c.push.new.self.items ≡ l.retained.items ++ (c.in-Some.name, v) ∷ [] = search rules in (
      members_joined done (member k j no_members),
      took_member c.args.depth k c.args.reader.now l.reader s r done j l.invariant.1 named c.in_ok-value.ensures.ok,
      member_fits done k j no_members l.invariant.2 fit refl,
      none_more c.args.key.now k done j l.invariant.3 other,
      ap members_view pushed
          ∙ members_view-more l.retained.items c.in-Some.name v
          ∙ ap (λ ms. members_joined ms (member k j no_members)) l.invariant.4
          ∙ joined_more (members_view c.args.retained.now.items) done (member k j no_members),
    )
