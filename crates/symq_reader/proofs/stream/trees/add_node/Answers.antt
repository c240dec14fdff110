use Rattle.std.proofs.Common.{◌≡◌, ◌∷◌, Some, sym, ap, ◌∙◌, refl, lit<, arith}
use Rattle.json.specs.Token.{Token}
use Rattle.symq_reader.specs.GraphText.{as_node, raw_node_view}
use Rattle.symq_reader.specs.inner.Objects.{entries_data}
use Rattle.symq_reader.proofs.Entered.{formed}
use Rattle.symq_reader.proofs.Streamed.{object_read}
use Rattle.symq_reader.proofs.stream.trees.add_node.Goals as goal

pub returns : goal.returns
returns c =
    let begins : c.args.reader.now ≡ Token.begin_object ∷ c.next.new.self = grind arith in
    let entries = c.take_all.new.retained.items in
    let read = object_read (λ d. Some d) 122 121 c.args.reader.now c.next.new.self c.take_all.new.reader (entries_data entries) (lit< tt) refl begins
    c.in_ok-take_all.ensures in
    let added = c.in_ok-add_node.ensures.added in
    let is : as_node (entries_data entries) ≡ Some (raw_node_view added.0) = ap (λ es. as_node (entries_data es)) (sym c.as_slice.ensures.value) ∙ added.1 in
    (added.0, formed as_node 122 c.args.reader.now c.take_all.new.reader (entries_data entries) (raw_node_view added.0) read is, added.2)
