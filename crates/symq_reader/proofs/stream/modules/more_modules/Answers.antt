use Rattle.std.proofs.Common.{◌≡◌, ◌<◌, length, Some, None, sym, ap, ◌∙◌, arith, rules}
use Rattle.json.specs.Json.{after_end_array, no_items, item, value}
use Rattle.symq_reader.specs.GraphText.{as_module}
use Rattle.symq_reader.specs.inner.Pieces.{ConsumesModule}
use Rattle.symq_reader.specs.inner.Streams.{items_joined}
use Rattle.symq_reader.proofs.Pieces.{none_more, one_more}
use Rattle.symq_reader.proofs.ConsumedTokens.{took_item, took_no_items, took_all_items}
use Rattle.symq_reader.proofs.Streamed.{reads_shorter}
use Rattle.symq_reader.proofs.stream.modules.more_modules.Goals as goal

pub items-init : goal.items-init
items-init c = (no_items, took_no_items 125 c.args.reader.now, none_more c.args.found.now.items)

pub items-smaller : goal.items-smaller
items-smaller c =
    let stays : (after_end_array c.items.reader ≡ None) × (c.take_end_array.new.self ≡ c.items.reader) = grind arith in
    let less : length c.module.new.reader < length c.take_end_array.new.self = reads_shorter 125 _ _ as_module _ c.in_ok-module.ensures in
    let same : length c.take_end_array.new.self ≡ length c.items.reader = ap length stays.1 in
    omega arith

pub items-preserved : goal.items-preserved
items-preserved c =
    let l = c.items in
    let stays : (after_end_array l.reader ≡ None) × (c.take_end_array.new.self ≡ l.reader) = grind arith in
    let reads = c.in_ok-module.ensures in
    let is : value 125 l.reader ≡ Some (reads.at, c.module.new.reader) = ap (value 125) (sym stays.1) ∙ reads.read in
    let took : ConsumesModule c.take_end_array.new.self c.module.new.reader l.found.items c.push.new.self.items =
    record { one = c.in_ok-module.field-0; reads = reads; pushed = search rules } in (
      items_joined l.invariant.0 (item reads.at no_items),
      took_item 125 c.args.reader.now l.reader c.module.new.reader l.invariant.0 reads.at l.invariant.1 stays.0 is,
      one_more c.take_end_array.new.self c.module.new.reader l.invariant.0 c.args.found.now.items l.found.items c.push.new.self.items took l.invariant.2,
    )

pub returns : goal.returns
returns c =
    let l = c.items in
    record {
      values = l.invariant.0;
      read = took_all_items 125 c.args.reader.now l.reader c.take_end_array.new.self l.invariant.0 l.invariant.1 (grind arith);
      more = l.invariant.2;
    }
