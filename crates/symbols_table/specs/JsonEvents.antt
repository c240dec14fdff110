-- The events of a JSON text: the module, and its `default` export.
use Rattle.std.specs.Prelude.{ℕ, ◌+◌, ◌-◌, List, [], ◌∷◌, length, None}
use Rattle.std.specs.Str.{trim, trim_start}
use Rattle.symbols_ast.specs.declared.tree.arena.SourceRange.{SourceRange}
use Rattle.symbols_table.specs.DeclViews.{Declaration, definition, declaration_of_kind}
use Rattle.symbols_table.specs.Events.{DeclarationEvent, begins, default}

-- The range starts after the leading white space. For a text of white space only, it starts at the text's end.
abbrev pub trimmed_json_start : List ℕ → ℕ
trimmed_json_start text = length text - length (trim_start text)

-- The range of the text without the white space at its ends, by Unicode's definition of white space.
abbrev pub trimmed_json_range : List ℕ → SourceRange
trimmed_json_range text = record { start = trimmed_json_start text; end = trimmed_json_start text + length (trim text) }

-- A definition without a node, at that range.
abbrev pub json_decl : List ℕ → Declaration
json_decl text = declaration_of_kind (definition None) (trimmed_json_range text)

abbrev pub json_events : List ℕ → List DeclarationEvent
json_events text = begins (json_decl text) ∷ default 0 (json_decl text) ∷ []
