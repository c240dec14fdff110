-- The data of a JSON value of `json`, where numbers are strings and a key may be repeated. If all its numbers are whole, `serde_json` reads
-- exactly these data.
use Rattle.std.specs.Prelude.{negsuc, List, Option, Some, None}
use Rattle.json.specs.Json as json
use Rattle.json.specs.Value.{value_view, items_view}
use Rattle.json.specs.declared.value.Value.{Value}
use Rattle.serde_json.specs.Data.{Num, negative, Data, null, boolean, number, string, array, object, Items, no_items, item, Members, no_members, put}
use Rattle.serde_json.specs.Read.{number_of}

-- the number; for a numeral that `serde_json` refuses, some number that isn't whole
abbrev pub number_or_minus_one : Option Num → Num
number_or_minus_one None = negative (negsuc 0)
number_or_minus_one (Some n) = n

abbrev mutual
  pub json_data : json.Json → Data
  json_data json.null = null
  json_data (json.boolean b) = boolean b
  json_data (json.number s) = number (number_or_minus_one (number_of s))
  json_data (json.string s) = string s
  json_data (json.array js) = array (json_items_data js)
  json_data (json.object ms) = object (json_members_data ms no_members)

  pub json_items_data : json.Items → Items
  json_items_data json.no_items = no_items
  json_items_data (json.item j js) = item (json_data j) (json_items_data js)

  -- the found members with these put into them; of a repeated key the last counts
  pub json_members_data : json.Members → Members → Members
  json_members_data json.no_members found = found
  json_members_data (json.member k j ms) found = json_members_data ms (put k (json_data j) found)

-- the data of a value
abbrev pub value_data : {A : Type 0} → Value A → Data
value_data v = json_data (value_view v)

-- the data of a list of values
abbrev pub items_data : {A : Type 0} → List (Value A) → Items
items_data vs = json_items_data (items_view vs)
