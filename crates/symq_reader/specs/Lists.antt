-- Values of lists, strings and whole numbers, which queries consist of.
use Rattle.std.specs.Prelude.{Bool, true, false, ◌&&◌, is_some}
use Rattle.serde_json.specs.Data.{Data, null, boolean, number, string, array, object, Items, no_items, item}
use Rattle.serde_json.specs.Find.{as_u64}

-- there is no object in the value, and each of its numbers is whole and fits 64 bits
abbrev mutual
  pub has_no_object_and_whole_numbers : Data → Bool
  has_no_object_and_whole_numbers null = true
  has_no_object_and_whole_numbers (boolean b) = true
  has_no_object_and_whole_numbers (number n) = is_some (as_u64 n)
  has_no_object_and_whole_numbers (string s) = true
  has_no_object_and_whole_numbers (array ds) = items_have_no_object_and_whole_numbers ds
  has_no_object_and_whole_numbers (object ms) = false

  pub items_have_no_object_and_whole_numbers : Items → Bool
  items_have_no_object_and_whole_numbers no_items = true
  items_have_no_object_and_whole_numbers (item d ds) = has_no_object_and_whole_numbers d && items_have_no_object_and_whole_numbers ds
