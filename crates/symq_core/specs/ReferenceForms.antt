-- References as JSON values, in queries and answers alike.
use Rattle.std.specs.Prelude.{ℕ, List, [], ◌∷◌, find, codes, Option, None, option_map, option_and_then}
use Rattle.std.specs.Str.{bytes_eq}
use Rattle.serde_json.specs.Data.{Data, Items, no_items, item}
use Rattle.serde_json.specs.Find.{as_array, as_str}
use Rattle.symbols_ast.specs.Ids.{IdView}
use Rattle.symbols_nodes.specs.References.{SymbolReference, id, qualified_id, import_type}
use Rattle.symq_reader.specs.UnderKeys.{read_each_item, as_u32}

-- a name with its scope, if the values are a string and a number of 32 bits
abbrev pub read_id : Data → Data → Option IdView
read_id name scope = option_and_then (λ n. option_map (λ s. record { name = n; scope = s }) (as_u32 scope)) (as_str name)

-- a list of strings
abbrev pub read_string_list : Data → Option (List (List ℕ))
read_string_list value = option_and_then (read_each_item as_str) (as_array value)

-- the items after the keyword in `["id", name, scope]`
abbrev pub read_id_reference : Items → Option SymbolReference
read_id_reference (item name (item scope no_items)) = option_map (λ it. id it) (read_id name scope)
read_id_reference _ = None

-- the items after the keyword in `["qualified", name, scope, [part, ..]]`
abbrev pub read_qualified_reference : Items → Option SymbolReference
read_qualified_reference (item name (item scope (item parts no_items))) =
    option_and_then (λ it. option_map (λ texts. qualified_id it texts) (read_string_list parts)) (read_id name scope)
read_qualified_reference _ = None

-- the items after the keyword in `["import", specifier, [part, ..]]`
abbrev pub read_import_reference : Items → Option SymbolReference
read_import_reference (item specifier_text (item parts no_items)) =
    option_and_then (λ it. option_map (λ texts. import_type it texts) (read_string_list parts)) (as_str specifier_text)
read_import_reference _ = None

-- the form of each reference, by its keyword
abbrev pub reference_readers : List (List ℕ × (Items → Option SymbolReference))
reference_readers = (codes "id", read_id_reference) ∷ (codes "qualified", read_qualified_reference) ∷ (codes "import", read_import_reference) ∷ []

abbrev pub reference_by_keyword : List ℕ → Items → Option SymbolReference
reference_by_keyword keyword items = option_and_then (λ form. form.1 items) (find (λ form. bytes_eq keyword form.0) reference_readers)

-- the keyword at the front of a list, and the items after it
abbrev pub keyword_and_items : Items → Option (List ℕ × Items)
keyword_and_items (item keyword rest) = option_map (λ w. (w, rest)) (as_str keyword)
keyword_and_items no_items = None

-- the reference that a value describes; None if it is no reference
abbrev pub reference_of_json : Data → Option SymbolReference
reference_of_json value = option_and_then (λ parts. reference_by_keyword parts.0 parts.1) (option_and_then keyword_and_items (as_array value))
