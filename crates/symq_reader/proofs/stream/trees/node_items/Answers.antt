use Rattle.std.proofs.Common.{◌≡◌, ◌<◌, length, map, Some, None, refl, sym, ap, ◌∙◌, arith}
use Rattle.json.specs.Json.{after_end_array, no_items}
use Rattle.symq_reader.specs.GraphText.{as_node, raw_node_view}
use Rattle.symq_reader.proofs.ConsumedTokens.{took_no_items}
use Rattle.symq_reader.proofs.Streamed.{reads_shorter, items_round, items_done}
use Rattle.symq_reader.proofs.stream.trees.node_items.Goals as goal

pub items-init : goal.items-init
items-init c = (no_items, took_no_items 122 c.args.reader.now, refl, ap (λ xs. Some (map raw_node_view xs)) (sym c.new-found.ensures.items))

pub items-smaller : goal.items-smaller
items-smaller c =
    let stays : (after_end_array c.items.reader ≡ None) × (c.take_end_array.new.self ≡ c.items.reader) = grind arith in
    let less : length c.add_node.new.reader < length c.take_end_array.new.self = reads_shorter 122 _ _ as_node _ c.in_ok-add_node.ensures.1 in
    let same : length c.take_end_array.new.self ≡ length c.items.reader = ap length stays.1 in
    omega arith

pub items-preserved : goal.items-preserved
items-preserved c =
    let l = c.items in
    let stays : (after_end_array l.reader ≡ None) × (c.take_end_array.new.self ≡ l.reader) = grind arith in
    let same : c.widen.new.found.items ≡ l.found.items = c.widen.ensures in
    items_round as_node raw_node_view 122 c.args.reader.now l.reader c.take_end_array.new.self c.add_node.new.reader l.invariant.0 c.widen.new.found.items
    c.add_node.new.found.items c.in_ok-add_node.ensures.0 l.invariant.1 l.invariant.2 (l.invariant.3
    ∙ ap (λ xs. Some (map raw_node_view xs)) (sym same)) stays.0 stays.1
    c.in_ok-add_node.ensures.1 c.in_ok-add_node.ensures.2

pub returns : goal.returns
returns c =
    let l = c.items in
    let retained = c.shrink_to_fit.new.self.items in
    let are = l.invariant.3 ∙ ap (λ xs. Some (map raw_node_view xs)) (sym c.shrink_to_fit.ensures.items) in
    items_done as_node 122 c.args.reader.now l.reader c.take_end_array.new.self l.invariant.0 (map raw_node_view retained) l.invariant.1 l.invariant.2 are
    (grind arith)
