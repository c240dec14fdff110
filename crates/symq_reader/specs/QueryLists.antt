-- The lists of most queries: two strings, then nothing, a number, or a number and a string in either order.
use Rattle.serde_json.specs.Data.{unsigned, Data, number, string, array, Items, no_items, item}
use Rattle.symq_reader.specs.declared.query_list.ListTail.{ListTail}
use Rattle.symq_reader.specs.declared.query_list.ListTail.TheVariants.{Nothing, Number, NumberAndText, TextAndNumber}
use Rattle.symq_reader.specs.declared.query_list.QueryList.{QueryList}

-- the items after the two strings
abbrev pub items_after_two_strings : ListTail → Items
items_after_two_strings Nothing = no_items
items_after_two_strings (Number n) = item (number (unsigned n)) no_items
items_after_two_strings (NumberAndText n text) = item (number (unsigned n)) (item (string text.now) no_items)
items_after_two_strings (TextAndNumber text n) = item (string text.now) (item (number (unsigned n)) no_items)

-- the list as a JSON value
abbrev pub query_array_json : QueryList → Data
query_array_json list = array (item (string list.first.now) (item (string list.second.now) (items_after_two_strings list.tail)))
