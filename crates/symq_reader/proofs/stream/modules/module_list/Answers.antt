use Rattle.std.proofs.Common.{◌≡◌, ◌∷◌, map, Some, refl, sym, ap, lit<, arith}
use Rattle.json.specs.Token.{Token}
use Rattle.symq_reader.specs.GraphText.{as_module, raw_module_view}
use Rattle.symq_reader.specs.inner.Streams.{ReadsValue, ReadsItems, list_in_optional_data}
use Rattle.symq_reader.proofs.Streamed.{mapped_ok, list_read, null_read}
use Rattle.symq_reader.proofs.stream.modules.module_list.Goals as goal

pub returns-in-Some-BeginArray : goal.returns-in-Some-BeginArray
returns-in-Some-BeginArray c =
    let begins : c.args.reader.now ≡ Token.begin_array ∷ c.next.new.self = grind arith in
    mapped_ok c.module_items.result (λ found. ReadsItems 125 c.next.new.self c.module_items.new.reader as_module (map raw_module_view found.items))
    (λ found. ReadsValue 126 c.args.reader.now c.module_items.new.reader (λ d. list_in_optional_data as_module (Some d)) (map raw_module_view found.items))
    (λ found h. list_read as_module 126 125 c.args.reader.now c.next.new.self c.module_items.new.reader (map raw_module_view found.items)
    (lit< tt) refl begins h)
    c.module_items.ensures

pub returns-in-Some-Null : goal.returns-in-Some-Null
returns-in-Some-Null c =
    let begins : c.args.reader.now ≡ Token.null ∷ c.next.new.self = grind arith in
    null_read (list_in_optional_data as_module) 126 c.args.reader.now c.next.new.self (map raw_module_view c.new.result.items) begins
    (ap (λ xs. Some (map raw_module_view xs)) (sym c.new.ensures.items))
