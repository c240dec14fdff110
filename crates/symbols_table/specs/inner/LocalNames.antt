-- The keys by which a builder finds the children and members of a holder.
use Rattle.std.specs.Prelude.{ℕ, Bool, false, ◌&&◌, List, Option}
use Rattle.std.specs.Option.{option_map_or}
use Rattle.std.specs.Str.{bytes_eq}
use Rattle.std.specs.Cow.{cow_str_bytes}
use Rattle.symbols_ast.specs.declared.ids.SymbolId.{SymbolId}
use Rattle.symbols_table.specs.declared.builder.names.LocalName.{LocalName}
use Rattle.symbols_table.specs.Changes.{is_same_symbol_id}

-- The key is the one of a symbol of this holder and name. A symbol without a name has no key.
abbrev pub is_local_name_of_symbol : SymbolId → Option (List ℕ) → LocalName → Bool
is_local_name_of_symbol holder name q = is_same_symbol_id holder q.holder
    && option_map_or (λ (local_name_bytes : List ℕ). bytes_eq local_name_bytes (cow_str_bytes q.name)) name false
