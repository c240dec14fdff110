-- What was read from the tokens of a list or an object, item by item, member by member. `value`, `items` and `members` are the grammar of
-- `json`. A value that replaces the number may nest `depth` deep.
use Rattle.std.specs.Prelude.{◌≡◌, ℕ, List, length, Bool, true, if◌then◌else◌, Option, Some, None, option_and_then}
use Rattle.json.specs.Token.{Token}
use Rattle.json.specs.Json as json
use Rattle.json.specs.Json.{value, items, members, read_key}
use Rattle.json.specs.Find.{get_member}
use Rattle.serde_json.specs.Data.{Data}
use Rattle.symq_reader.specs.JsonData.{json_data, json_items_data}
use Rattle.symq_reader.specs.inner.JsonData.{json_has_whole_numbers, json_items_have_whole_numbers, json_members_have_whole_numbers}
use Rattle.symq_reader.specs.GraphText.{RawTreeView, RawModuleView, RawModuleKindView, esm, json as json_module, external}
use Rattle.symq_reader.specs.UnderKeys.{none_if_null, read_if_present, read_each_item, array_items_or_empty}

-- ---- the parts of a list and of an object, one after the other

abbrev pub items_joined : json.Items → json.Items → json.Items
items_joined json.no_items js = js
items_joined (json.item j done) js = json.item j (items_joined done js)

abbrev pub members_joined : json.Members → json.Members → json.Members
members_joined json.no_members ms = ms
members_joined (json.member k j done) ms = json.member k j (members_joined done ms)

-- the items that were read precede those to come
pub record ConsumesItems (depth : ℕ) (old : List Token) (done : json.Items) (new : List Token) : Type 0 where
  pub on : (js : json.Items) (rest : List Token) → items (value depth) (length new) new ≡ Some (js, rest)
      → items (value depth) (length old) old ≡ Some (items_joined done js, rest)

-- the members that were read precede those to come
pub record ConsumesMembers (depth : ℕ) (old : List Token) (done : json.Members) (new : List Token) : Type 0 where
  pub on : (ms : json.Members) (rest : List Token) → members (value depth) (length new) new ≡ Some (ms, rest)
      → members (value depth) (length old) old ≡ Some (members_joined done ms, rest)

-- ---- an object of which one member is read apart and not stored with the others

-- members were read, none of them under the key, up to this key (it was found) or up to the object's end
pub record SkipsToKey (depth : ℕ) (old : List Token) (key : List ℕ) (found_key : Bool) (new : List Token) (done : json.Members) : Type 0 where
  pub key_tokens : List Token
  pub took : ConsumesMembers depth old done key_tokens
  pub next : read_key key_tokens ≡ Some (if found_key then Some key else None, new)
  pub fit : json_members_have_whole_numbers done ≡ true
  pub none : get_member key done ≡ None

-- the object was read, the value under the key is `there`, and the other members are in `retained`
pub record ReadsMemberApart (depth : ℕ) (old new : List Token) (key : List ℕ) (there : Option json.Json) (retained : json.Members) : Type 0 where
  pub all : json.Members
  pub read : members (value depth) (length old) old ≡ Some (all, new)
  pub fit : json_members_have_whole_numbers all ≡ true
  pub under : get_member key all ≡ there
  pub other_items : (q : List ℕ) → (q ≡ key → ⊥) → get_member q retained ≡ get_member q all

-- ---- what was read of a value

abbrev pub list_in_optional_data : {A : Type 0} → (Data → Option A) → Option Data → Option (List A)
list_in_optional_data form o = option_and_then (read_each_item form) (array_items_or_empty (option_and_then none_if_null o))

abbrev pub value_in_optional_data : {A : Type 0} → (Data → Option A) → Option Data → Option (Option A)
value_in_optional_data form o = read_if_present form (option_and_then none_if_null o)

-- the next value was read; its numbers are whole, and the form reads it as x
pub record ReadsValue {A : Type 0} (depth : ℕ) (old new : List Token) (form : Data → Option A) (x : A) : Type 0 where
  pub at : json.Json
  pub read : value depth old ≡ Some (at, new)
  pub fit : json_has_whole_numbers at ≡ true
  pub is : form (json_data at) ≡ Some x

-- the items of a list were read; their numbers are whole, and the form reads them as xs
pub record ReadsItems {A : Type 0} (depth : ℕ) (old new : List Token) (form : Data → Option A) (xs : List A) : Type 0 where
  pub all : json.Items
  pub read : items (value depth) (length old) old ≡ Some (all, new)
  pub fit : json_items_have_whole_numbers all ≡ true
  pub are : read_each_item form (json_items_data all) ≡ Some xs

-- the members of an object were read; their numbers are whole, and the form reads the object as x
pub record ReadsMembers {A : Type 0} (depth : ℕ) (old new : List Token) (form : Data → Option A) (x : A) : Type 0 where
  pub all : json.Members
  pub read : members (value depth) (length old) old ≡ Some (all, new)
  pub fit : json_members_have_whole_numbers all ≡ true
  pub is : form (json_data (json.object all)) ≡ Some x

-- ---- a module whose tree was read apart

abbrev pub module_kind_shape_with_tree : Option RawTreeView → RawModuleKindView → RawModuleKindView
module_kind_shape_with_tree tree (esm text _ types) = esm text tree types
module_kind_shape_with_tree tree (json_module text) = json_module text
module_kind_shape_with_tree tree external = external

abbrev pub module_shape_with_tree : Option RawTreeView → RawModuleView → RawModuleView
module_shape_with_tree tree m = record { specifier = m.specifier; kind = module_kind_shape_with_tree tree m.kind }
