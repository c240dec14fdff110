use Rattle.std.proofs.Common.{◌≡◌, ◌∷◌, map, Some, refl, sym, ap, lit<, arith}
use Rattle.json.specs.Token.{Token}
use Rattle.symq_reader.specs.GraphText.{as_node, raw_node_view}
use Rattle.symq_reader.specs.inner.Streams.{ReadsValue, ReadsItems, list_in_optional_data}
use Rattle.symq_reader.proofs.Streamed.{mapped_ok, list_read, null_read}
use Rattle.symq_reader.proofs.stream.trees.node_list.Goals as goal

pub returns-in-Some-BeginArray : goal.returns-in-Some-BeginArray
returns-in-Some-BeginArray c =
    let begins : c.args.reader.now ≡ Token.begin_array ∷ c.next.new.self = grind arith in
    mapped_ok c.node_items.result (λ found. ReadsItems 122 c.next.new.self c.node_items.new.reader as_node (map raw_node_view found.items))
    (λ found. ReadsValue 123 c.args.reader.now c.node_items.new.reader (λ d. list_in_optional_data as_node (Some d)) (map raw_node_view found.items))
    (λ found h. list_read as_node 123 122 c.args.reader.now c.next.new.self c.node_items.new.reader (map raw_node_view found.items) (lit< tt) refl begins h)
    c.node_items.ensures

pub returns-in-Some-Null : goal.returns-in-Some-Null
returns-in-Some-Null c =
    let begins : c.args.reader.now ≡ Token.null ∷ c.next.new.self = grind arith in
    null_read (list_in_optional_data as_node) 123 c.args.reader.now c.next.new.self (map raw_node_view c.new.result.items) begins
    (ap (λ xs. Some (map raw_node_view xs)) (sym c.new.ensures.items))
