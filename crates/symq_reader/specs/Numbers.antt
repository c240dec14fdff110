-- Whether each number of a value, at any depth, is whole and fits 64 bits.
use Rattle.std.specs.Prelude.{Bool, true, ◌&&◌, is_some}
use Rattle.serde_json.specs.Data.{Data, null, boolean, number, string, array, object, Items, no_items, item, Members, no_members, member}
use Rattle.serde_json.specs.Find.{as_u64}

abbrev mutual
  pub has_whole_numbers : Data → Bool
  has_whole_numbers null = true
  has_whole_numbers (boolean b) = true
  has_whole_numbers (number n) = is_some (as_u64 n)
  has_whole_numbers (string s) = true
  has_whole_numbers (array ds) = items_have_whole_numbers ds
  has_whole_numbers (object ms) = members_have_whole_numbers ms

  pub items_have_whole_numbers : Items → Bool
  items_have_whole_numbers no_items = true
  items_have_whole_numbers (item d ds) = has_whole_numbers d && items_have_whole_numbers ds

  pub members_have_whole_numbers : Members → Bool
  members_have_whole_numbers no_members = true
  members_have_whole_numbers (member key d ms) = has_whole_numbers d && members_have_whole_numbers ms
