-- The value under a key of an object, read in a given form; None if it doesn't have the form.
use Rattle.std.specs.Prelude.{ℕ, ◌^◌, List, [], ◌∷◌, Bool, false, nat_lt, if◌then◌else◌, Option, Some, None, option_map, option_and_then}
use Rattle.serde_json.specs.Data.{Data, null, Items, no_items, item}
use Rattle.serde_json.specs.Find.{get, as_bool, as_str, as_number, as_u64, as_array}

abbrev pub none_if_null : Data → Option Data
none_if_null null = None
none_if_null d = Some d

-- the value under a key; None if the key is absent, its value is null, or there is no object
abbrev pub value_at_key : List ℕ → Data → Option Data
value_at_key key d = option_and_then none_if_null (get key d)

-- a required value
abbrev pub required_value_under_key : {A : Type 0} → (Data → Option A) → List ℕ → Data → Option A
required_value_under_key form key d = option_and_then form (value_at_key key d)

abbrev pub read_if_present : {A : Type 0} → (Data → Option A) → Option Data → Option (Option A)
read_if_present form None = Some None
read_if_present form (Some d) = option_map Some (form d)

-- an optional value
abbrev pub optional_value_under_key : {A : Type 0} → (Data → Option A) → List ℕ → Data → Option (Option A)
optional_value_under_key form key d = read_if_present form (value_at_key key d)

-- every item, in order
abbrev pub read_each_item : {A : Type 0} → (Data → Option A) → Items → Option (List A)
read_each_item form no_items = Some []
read_each_item form (item d ds) = option_and_then (λ x. option_map (λ xs. x ∷ xs) (read_each_item form ds)) (form d)

abbrev pub array_items_or_empty : Option Data → Option Items
array_items_or_empty None = Some no_items
array_items_or_empty (Some d) = as_array d

-- the items of the list under a key; none if the key is absent
abbrev pub array_items_under_key : List ℕ → Data → Option Items
array_items_under_key key d = array_items_or_empty (value_at_key key d)

abbrev pub list_under_key : {A : Type 0} → (Data → Option A) → List ℕ → Data → Option (List A)
list_under_key form key d = option_and_then (read_each_item form) (array_items_under_key key d)

abbrev pub bool_or_false : Option Data → Option Bool
bool_or_false None = Some false
bool_or_false (Some d) = as_bool d

-- a boolean; false if it is absent
abbrev pub bool_under_key : List ℕ → Data → Option Bool
bool_under_key key d = bool_or_false (value_at_key key d)

-- ---- single values

-- a number that fits 64 bits
abbrev pub as_u64_number : Data → Option ℕ
as_u64_number d = option_and_then as_u64 (as_number d)

abbrev pub some_if_u32 : ℕ → Option ℕ
some_if_u32 n = if nat_lt n (2 ^ 32) then Some n else None

-- a number that fits 32 bits
abbrev pub as_u32 : Data → Option ℕ
as_u32 d = option_and_then some_if_u32 (as_u64_number d)

abbrev pub two_items : Items → Option (Data × Data)
two_items (item a (item b no_items)) = Some (a, b)
two_items _ = None

-- the items of a list of exactly two
abbrev pub as_pair : Data → Option (Data × Data)
as_pair d = option_and_then two_items (as_array d)

abbrev pub three_items : Items → Option (Data × Data × Data)
three_items (item a (item b (item c no_items))) = Some (a, b, c)
three_items _ = None

-- the items of a list of exactly three
abbrev pub as_triple : Data → Option (Data × Data × Data)
as_triple d = option_and_then three_items (as_array d)

-- a name with its scope
abbrev pub as_identifier : Data → Option (List ℕ × ℕ)
as_identifier d = option_and_then (λ p. option_and_then (λ name. option_map (λ scope. (name, scope)) (as_u32 p.1)) (as_str p.0)) (as_pair d)
