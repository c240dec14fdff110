-- What inner functions and proofs say about the data of JSON values, beside `JsonData`.
use Rattle.std.specs.Prelude.{List, Bool, true, ◌&&◌, Option, Some, None, is_some}
use Rattle.std.specs.Borrow.{Bor}
use Rattle.json.specs.Json as json
use Rattle.json.specs.Value.{items_view}
use Rattle.json.specs.declared.value.Value.{Value}
use Rattle.serde_json.specs.Data.{Items, no_items}
use Rattle.serde_json.specs.Find.{as_u64}
use Rattle.serde_json.specs.Read.{number_of}
use Rattle.symq_reader.specs.JsonData.{number_or_minus_one, json_items_data}

-- each number is whole and fits 64 bits, also one that a later key replaces
abbrev mutual
  pub json_has_whole_numbers : json.Json → Bool
  json_has_whole_numbers json.null = true
  json_has_whole_numbers (json.boolean b) = true
  json_has_whole_numbers (json.number s) = is_some (as_u64 (number_or_minus_one (number_of s)))
  json_has_whole_numbers (json.string s) = true
  json_has_whole_numbers (json.array js) = json_items_have_whole_numbers js
  json_has_whole_numbers (json.object ms) = json_members_have_whole_numbers ms

  pub json_items_have_whole_numbers : json.Items → Bool
  json_items_have_whole_numbers json.no_items = true
  json_items_have_whole_numbers (json.item j js) = json_has_whole_numbers j && json_items_have_whole_numbers js

  pub json_members_have_whole_numbers : json.Members → Bool
  json_members_have_whole_numbers json.no_members = true
  json_members_have_whole_numbers (json.member k j ms) = json_has_whole_numbers j && json_members_have_whole_numbers ms

-- the data of a list's items; none if there is no list
abbrev pub optional_items_data : {A : Type 0} → Option (Bor (List (Value A))) → Items
optional_items_data None = no_items
optional_items_data (Some items) = json_items_data (items_view items.now)
