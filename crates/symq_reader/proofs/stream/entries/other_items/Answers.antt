use Rattle.std.proofs.Common.{◌≡◌, ◌<◌, [], ◌∷◌, ◌++◌, length, map, Some, None, refl, sym, ap, ◌∙◌, append_assoc, append-nil, arith, rules}
use Rattle.json.specs.Json.{after_end_array, no_items}
use Rattle.symq_reader.specs.inner.Objects.{whole_number}
use Rattle.symq_reader.proofs.ConsumedTokens.{took_no_items}
use Rattle.symq_reader.proofs.Streamed.{reads_shorter, items_round, items_done}
use Rattle.symq_reader.proofs.stream.entries.other_items.Goals as goal

pub items-init : goal.items-init
items-init c = (no_items, took_no_items 120 c.args.reader.now, refl, [], refl, sym (append-nil c.args.found.now.items))

pub items-smaller : goal.items-smaller
items-smaller c =
    let stays : (after_end_array c.items.reader ≡ None) × (c.take_end_array.new.self ≡ c.items.reader) = grind arith in
    let less : length c.next_whole.new.reader < length c.take_end_array.new.self = reads_shorter 120 _ _ _ _ c.in_ok-next_whole.ensures in
    let same : length c.take_end_array.new.self ≡ length c.items.reader = ap length stays.1 in
    omega arith

pub items-preserved : goal.items-preserved
items-preserved c =
    let l = c.items in
    let n = c.in_ok-next_whole.field-0 in
    let rest = l.invariant.3 in
    let stays : (after_end_array l.reader ≡ None) × (c.take_end_array.new.self ≡ l.reader) = grind arith in
    let round =
    items_round (λ d. Some d) whole_number 120 c.args.reader.now l.reader c.take_end_array.new.self c.next_whole.new.reader l.invariant.0 rest (rest ++ n ∷ [])
    n l.invariant.1 l.invariant.2 l.invariant.4 stays.0 stays.1 c.in_ok-next_whole.ensures refl in
    let pushed : c.push.new.self.items ≡ l.found.items ++ n ∷ [] = search rules in (
      round.0,
      round.1,
      round.2,
      rest ++ n ∷ [],
      round.3,
      pushed ∙ ap (λ xs. xs ++ n ∷ []) l.invariant.5 ∙ append_assoc c.args.found.now.items rest (n ∷ []),
    )

pub returns : goal.returns
returns c =
    let l = c.items in (
      l.invariant.3,
      items_done (λ d. Some d) 120 c.args.reader.now l.reader c.take_end_array.new.self l.invariant.0 (map whole_number l.invariant.3) l.invariant.1
          l.invariant.2 l.invariant.4 (grind arith),
      l.invariant.5,
    )
