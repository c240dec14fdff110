-- The items of a query in the form of the fast path.
use Rattle.std.specs.Prelude.{Option, Some, None, option_map, option_and_then}
use Rattle.std.specs.Option.{option_map_or}
use Rattle.serde_json.specs.Data.{Items, no_items, item, number, unsigned, string}
use Rattle.serde_json.specs.Find.{as_str}
use Rattle.symq_reader.specs.UnderKeys.{as_u32}

-- the items if they are none, a number of 32 bits, or such a number and a string in either order
abbrev pub tail_items : Items → Option Items
tail_items no_items = Some no_items
tail_items (item first no_items) = option_map (λ n. item (number (unsigned n)) no_items) (as_u32 first)
tail_items (item first (item second no_items)) =
    option_map_or (λ n. option_map (λ text. item (number (unsigned n)) (item (string text) no_items)) (as_str second)) (as_u32 first)
    (option_and_then (λ text. option_map (λ n. item (string text) (item (number (unsigned n)) no_items)) (as_u32 second)) (as_str first))
tail_items _ = None
