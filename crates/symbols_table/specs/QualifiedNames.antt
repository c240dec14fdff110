-- The fully qualified name of a symbol: the names on the path from the module down to it.
use Rattle.std.specs.Prelude.{ℕ, zero, suc, Bool, not, if◌then◌else◌, ◌==◌, List, [], ◌∷◌, ◌++◌, Option, None, Some, codes}
use Rattle.std.specs.Bool.{⊤}
use Rattle.std.specs.List.{list_any, flat_map}
use Rattle.std.specs.Str.{chars, encode_utf8_all}
use Rattle.std.specs.Option.{option_and_then, option_map, option_map_or}
use Rattle.symbols_ast.specs.declared.ids.SymbolId.{SymbolId}
use Rattle.symbols_nodes.specs.NodeTests.{is_class_exported_or_not}
use Rattle.symbols_table.specs.Changes.{is_same_symbol_id}
use Rattle.symbols_table.specs.SymbolViews.{SymbolView, symbol_name, first_decl_node_satisfies}
use Rattle.symbols_table.specs.declared.info.fault.SymbolsFault.{SymbolsFault}
use Rattle.symbols_table.specs.declared.info.fault.SymbolsFault.TheVariants as fault

-- The symbols of a module by their numbers.
abbrev pub SymbolById : Type 0
SymbolById = SymbolId → Option SymbolView

abbrev pub has_member_symbol : SymbolView → SymbolId → Bool
has_member_symbol symbol inner = list_any (is_same_symbol_id inner) symbol.members

-- A character, with `\` before it if it is `"`.
abbrev pub char_with_quote_escaped : ℕ → List ℕ
char_with_quote_escaped c = if c == 34 then 92 ∷ 34 ∷ [] else c ∷ []

-- The text with `\` before each `"`.
abbrev pub text_with_quotes_escaped : List ℕ → List ℕ
text_with_quotes_escaped text = encode_utf8_all (flat_map char_with_quote_escaped (chars text))

-- What follows a symbol's name in the name of a symbol inside it: `.text`, for a member `["text"]`, for a member of a class
-- `.prototype.text`.
abbrev pub dot_prototype_or_bracket_suffix : SymbolView → SymbolId → List ℕ → List ℕ
dot_prototype_or_bracket_suffix symbol inner text =
    if not (has_member_symbol symbol inner) then codes "." ++ text else
    if first_decl_node_satisfies is_class_exported_or_not symbol then codes ".prototype." ++ text else
    codes "[\"" ++ (text_with_quotes_escaped text ++ codes "\"]")

-- The name of a symbol followed by the inner name, or alone if the inner name is empty.
abbrev pub name_with_dot_or_bracket_suffix : SymbolView → SymbolId → List ℕ → List ℕ → List ℕ
name_with_dot_or_bracket_suffix symbol inner [] name = name
name_with_dot_or_bracket_suffix symbol inner (b ∷ text) name = name ++ dot_prototype_or_bracket_suffix symbol inner (b ∷ text)

-- The name along a path of symbols, each in the one before; `None` if a symbol on it has no name.
abbrev pub symbol_path_name : List SymbolView → Option (List ℕ)
symbol_path_name [] = None
symbol_path_name (symbol ∷ []) = symbol_name symbol
symbol_path_name (symbol ∷ inner ∷ path) =
    option_and_then (λ (text : List ℕ). option_map (name_with_dot_or_bracket_suffix symbol inner.number text) (symbol_name symbol))
    (symbol_path_name (inner ∷ path))

-- The path from below the module to a symbol, of a bounded number of symbols.
abbrev pub symbol_path_after_parent : (SymbolId → List SymbolView) → SymbolView → Option SymbolId → List SymbolView
symbol_path_after_parent outer symbol None = []
symbol_path_after_parent outer symbol (Some parent) = outer parent ++ symbol ∷ []

unfoldable pub symbol_path_within_length : SymbolById → ℕ → SymbolId → List SymbolView
symbol_path_within_length symbols zero s = []
symbol_path_within_length symbols (suc n) s = option_map_or (λ (symbol : SymbolView). symbol_path_after_parent (symbol_path_within_length symbols n) symbol
    symbol.parent) (symbols s) []

-- The whole path. Parents have lower numbers, so no path has more symbols than the symbol's number.
abbrev pub symbol_path_from_module : SymbolById → SymbolId → List SymbolView
symbol_path_from_module symbols s = symbol_path_within_length symbols (suc s.0) s

-- The text, unless it is empty.
abbrev pub text_unless_empty : List ℕ → Option (List ℕ)
text_unless_empty [] = None
text_unless_empty (b ∷ text) = Some (b ∷ text)

-- The fully qualified name; `None` for the module, and where the name is empty.
abbrev pub qualified_name : SymbolById → SymbolId → Option (List ℕ)
qualified_name symbols s = option_and_then text_unless_empty (symbol_path_name (symbol_path_from_module symbols s))

-- The faults: the module has no such symbol; or it has one and an allocation failed.
abbrev pub IsQualifiedNameFault : Option SymbolView → SymbolsFault → Type 0
IsQualifiedNameFault None fault.UnknownSymbol = ⊤
IsQualifiedNameFault (Some _) fault.OutOfMemory = ⊤
IsQualifiedNameFault _ _ = ⊥
