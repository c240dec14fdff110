-- The contents of the maps of a graph.
use Rattle.std.specs.Prelude.{ℕ, List, map, String, string_bytes}
use Rattle.std.specs.Global.{Global}
use Rattle.std.specs.List.{flat_map}
use Rattle.std.specs.declared.random_state.RandomState.{RandomState}
use Rattle.indexmap.specs.IndexMap.{IndexMap}
use Rattle.symbols_ast.specs.Graph.{Resolution}

-- A map from strings.
abbrev pub StringMap : Type 0 → Type 0
StringMap V = IndexMap (String Global) V RandomState

-- Pairs of strings, as bytes.
abbrev pub string_pairs_bytes : List (String Global × String Global) → List (List ℕ × List ℕ)
string_pairs_bytes entries = map (λ e. (string_bytes e.0, string_bytes e.1)) entries

-- The resolutions of one referrer.
abbrev pub resolutions_of_referrer : String Global × StringMap (String Global) → List Resolution
resolutions_of_referrer e = map (λ r. record { referrer = string_bytes e.0; specifier_text = string_bytes r.0; specifier = string_bytes r.1 }) e.1.entries

-- The resolutions as one list, referrer by referrer.
abbrev pub resolutions_of_map_entries : List (String Global × StringMap (String Global)) → List Resolution
resolutions_of_map_entries entries = flat_map resolutions_of_referrer entries
