-- The JSON value of a list of strings.
use Rattle.std.specs.Prelude.{ℕ, List, map}
use Rattle.serde_json.specs.Data.{Data, string, array}
use Rattle.serde_json.specs.View.{items_of}

abbrev pub string_list_json : List (List ℕ) → Data
string_list_json texts = array (items_of (map string texts))
