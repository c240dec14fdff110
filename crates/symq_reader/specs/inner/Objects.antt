-- The data of an object whose fields are read: of a JSON value, or of members that the fast path has read.
use Rattle.std.specs.Prelude.{ℕ, List, [], ◌∷◌}
use Rattle.std.specs.Borrow.{Bor}
use Rattle.json.specs.Json as json
use Rattle.json.specs.Value.{members_view}
use Rattle.serde_json.specs.Data.{Data, null, boolean, number, unsigned, string, array, object, Items, no_items, item, Members, no_members, put}
use Rattle.symq_reader.specs.JsonData.{json_data, value_data}
use Rattle.symq_reader.specs.declared.entries.Entry.{Entry}
use Rattle.symq_reader.specs.declared.entries.Entry.TheVariants as consumed
use Rattle.symq_reader.specs.declared.fields.Object.{Object}
use Rattle.symq_reader.specs.declared.fields.Object.TheVariants as by
use Rattle.symq_reader.specs.declared.fields.ObjectField.{ObjectField}
use Rattle.symq_reader.specs.declared.fields.ObjectField.TheVariants as found

abbrev pub whole_number : ℕ → Data
whole_number n = number (unsigned n)

abbrev pub whole_numbers : List ℕ → Items
whole_numbers [] = no_items
whole_numbers (n ∷ ns) = item (whole_number n) (whole_numbers ns)

abbrev pub fast_path_value_data : Entry → Data
fast_path_value_data consumed.Null = null
fast_path_value_data (consumed.Flag b) = boolean b
fast_path_value_data (consumed.Text s) = string s.now
fast_path_value_data (consumed.Whole n) = whole_number n
fast_path_value_data (consumed.One n) = array (item (whole_number n) no_items)
fast_path_value_data (consumed.Pair m n) = array (item (whole_number m) (item (whole_number n) no_items))
fast_path_value_data (consumed.NameAndScope s n) = array (item (string s.now) (item (whole_number n) no_items))
fast_path_value_data (consumed.List v) = array (whole_numbers v.items)
fast_path_value_data (consumed.Object v) = json_data (json.object (members_view v.items))

-- the members ms with these put into them; of a repeated key the last counts
abbrev pub put_entries : List (Bor (List ℕ) × Entry) → Members → Members
put_entries [] ms = ms
put_entries (e ∷ es) ms = put_entries es (put e.0.now (fast_path_value_data e.1) ms)

abbrev pub entries_data : List (Bor (List ℕ) × Entry) → Data
entries_data es = object (put_entries es no_members)

abbrev pub object_data : Object → Data
object_data (by.Value v) = value_data v.now
object_data (by.Entries es) = entries_data es.now

abbrev pub object_field_data : ObjectField → Data
object_field_data (found.Value v) = value_data v.now
object_field_data (found.Entry e) = fast_path_value_data e.now
