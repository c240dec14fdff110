-- The name of the lower part of a path, in pieces.
use Rattle.std.specs.Prelude.{◌≡◌, ◌⊎◌, ℕ, ◌<◌, List, [], ◌∷◌, ◌++◌, length, Option, None, Some}
use Rattle.std.specs.Global.{Global}
use Rattle.std.specs.declared.borrow.CowStr.{CowStr}
use Rattle.std.specs.Cow.{cow_str_bytes}
use Rattle.symbols_table.specs.declared.info.qualified_name.NamedSuffix.{NamedSuffix}
use Rattle.symbols_table.specs.SymbolViews.{SymbolView}
use Rattle.symbols_table.specs.QualifiedNames.{symbol_path_name}

-- The text of pieces that are stored from the last to the first.
abbrev pub reversed_pieces_text : List (CowStr Global) → List ℕ
reversed_pieces_text [] = []
reversed_pieces_text (piece ∷ pieces) = reversed_pieces_text pieces ++ cow_str_bytes piece

-- The name of the part.
abbrev pub suffix_text : NamedSuffix → List ℕ
suffix_text named = cow_str_bytes named.first ++ reversed_pieces_text named.later.items

-- The part of the path begins with a symbol of this number, and its non-empty name is the stored one.
pub record IsNameOfPathSuffix (named : NamedSuffix) (path : List SymbolView) : Type 0 where
  pub first : (symbol : SymbolView) × (lower : List SymbolView) × (path ≡ symbol ∷ lower) × (symbol.number ≡ named.number)
  pub name : symbol_path_name path ≡ Some (suffix_text named)
  pub some : 0 < length (suffix_text named)

-- Either nothing of the path was read, or what was read has an empty name; or the stored part was read.
abbrev pub IsNameOfPathSuffixIfAny : Option NamedSuffix → List SymbolView → Type 0
IsNameOfPathSuffixIfAny None path = (path ≡ []) ⊎ (symbol_path_name path ≡ Some [])
IsNameOfPathSuffixIfAny (Some named) path = IsNameOfPathSuffix named path
