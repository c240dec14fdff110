-- Lemmas about paths of symbols, and the names along them.
use Rattle.std.proofs.Common.{◌≡◌, inl, inr, ℕ, zero, suc, ◌<◌, Bool, true, false, not, if◌then◌else◌, codes, length, get_or}
use Rattle.std.proofs.Common.{arith, subst, List, [], ◌∷◌, ◌++◌, Option, None, Some, refl, sym, ap, ◌∙◌, append_assoc, append-nil}
use Rattle.std.specs.Prelude.{slice_get}
use Rattle.std.specs.Cow.{cow_str_bytes}
use Rattle.std.specs.Global.{Global}
use Rattle.std.specs.declared.borrow.CowStr.{CowStr}
use Rattle.std.proofs.lemmas.Option.{slice_get_read, slice_get-get_or, get_or_from_slice_get}
use Rattle.std.specs.Option.{option_and_then, option_map}
use Rattle.symbols_ast.specs.declared.ids.ModuleId.{ModuleId}
use Rattle.symbols_ast.specs.declared.ids.SymbolId.{SymbolId}
use Rattle.symbols_table.specs.declared.decl.symbol.Symbol.{Symbol}
use Rattle.symbols_table.specs.declared.info.qualified_name.NamedSuffix.{NamedSuffix}
use Rattle.symbols_table.specs.Laws.{IsLawfulParent, AreLawfulSymbols}
use Rattle.symbols_table.specs.inner.NamePaths.{reversed_pieces_text, suffix_text, IsNameOfPathSuffixIfAny, IsNameOfPathSuffix}
use Rattle.symbols_nodes.specs.NodeTests.{is_class_exported_or_not}
use Rattle.symbols_table.specs.SymbolViews.{SymbolView, symbol_view, symbol_name, first_decl_node_satisfies, symbol_view_of_number}
use Rattle.symbols_table.specs.QualifiedNames.{SymbolById, has_member_symbol, dot_prototype_or_bracket_suffix, name_with_dot_or_bracket_suffix}
use Rattle.symbols_table.specs.QualifiedNames.{text_with_quotes_escaped, symbol_path_name, symbol_path_within_length, symbol_path_from_module}
use Rattle.symbols_table.specs.QualifiedNames.{text_unless_empty, qualified_name}

-- The path to a symbol without a parent is empty.
pub path_ends : (symbols : SymbolById) (n : ℕ) (s : SymbolId) (symbol : SymbolView) → symbols s ≡ Some symbol → symbol.parent ≡ None
    → symbol_path_within_length symbols (suc n) s ≡ []
unfolding symbol_path_within_length
path_ends symbols n s symbol at none = rw (at, none) refl

-- The path to any other symbol is its parent's path followed by the symbol.
pub path_goes_on : (symbols : SymbolById) (n : ℕ) (s parent : SymbolId) (symbol : SymbolView) → symbols s ≡ Some symbol → symbol.parent ≡ Some parent
    → symbol_path_within_length symbols (suc n) s ≡ symbol_path_within_length symbols n parent ++ symbol ∷ []
unfolding symbol_path_within_length
path_goes_on symbols n s parent symbol at has = rw (at, has) refl

-- If the lower part of a path has no name, the whole path has none.
pub no_name_greater : (path : List SymbolView) (symbol : SymbolView) (lower : List SymbolView) → symbol_path_name (symbol ∷ lower) ≡ None
    → symbol_path_name (path ++ symbol ∷ lower) ≡ None
no_name_greater [] symbol lower none = none
no_name_greater (first ∷ []) symbol lower none = rw none refl
no_name_greater (first ∷ second ∷ path) symbol lower none = let rest : symbol_path_name (second ∷ (path ++ symbol ∷ lower)) ≡ None =
    no_name_greater (second ∷ path) symbol lower none in rw rest refl

-- A path that begins with a symbol without a name has no name.
pub no_name_first : (symbol : SymbolView) (lower : List SymbolView) → symbol_name symbol ≡ None → symbol_path_name (symbol ∷ lower) ≡ None
no_name_first symbol [] none = none
no_name_first symbol (inner ∷ lower) none = by (symbol_path_name (inner ∷ lower)) refl
  where
    by : (o : Option (List ℕ)) → symbol_path_name (inner ∷ lower) ≡ o
        → option_and_then (λ (text : List ℕ). option_map (name_with_dot_or_bracket_suffix symbol inner.number text) (symbol_name symbol)) o ≡ None
    by None e = refl
    by (Some text) e = rw none refl

-- ---- a symbol before a part that has a name

over_text : (symbol : SymbolView) (inner : SymbolId) (text name : List ℕ) → 0 < length text
    → name_with_dot_or_bracket_suffix symbol inner text name ≡ name ++ dot_prototype_or_bracket_suffix symbol inner text
over_text symbol inner [] name some = absurd (omega (arith, some))
over_text symbol inner (b ∷ text) name some = refl

more_after : (xs ys : List ℕ) → 0 < length ys → 0 < length (xs ++ ys)
more_after [] ys some = some
more_after (x ∷ xs) ys some = omega arith

some_suffix : (symbol : SymbolView) (inner : SymbolId) (text : List ℕ) → 0 < length (dot_prototype_or_bracket_suffix symbol inner text)
some_suffix symbol inner text = by (has_member_symbol symbol inner) (first_decl_node_satisfies is_class_exported_or_not symbol)
  where
    by : (is_member of_class : Bool) → 0 < length (if not is_member then codes "." ++ text else if of_class then codes ".prototype." ++ text
        else codes "[\"" ++ (text_with_quotes_escaped text ++ codes "\"]"))
    by false of_class = omega arith
    by true true = omega arith
    by true false = omega arith

name_of_both : (symbol inner : SymbolView) (lower path : List SymbolView) (text name : List ℕ) → path ≡ inner ∷ lower → symbol_path_name path ≡ Some text
    → symbol_name symbol ≡ Some name → symbol_path_name (symbol ∷ path) ≡ Some (name_with_dot_or_bracket_suffix symbol inner.number text name)
name_of_both symbol inner lower path text name is inner_is is_named = rw (is, sym (ap symbol_path_name is) ∙ inner_is, is_named) refl

pub part_greater : (symbol : SymbolView) (path : List SymbolView) (inner named : NamedSuffix) (name : List ℕ) → IsNameOfPathSuffix inner path
    → symbol_name symbol ≡ Some name → named.number ≡ symbol.number
    → suffix_text named ≡ name ++ dot_prototype_or_bracket_suffix symbol inner.number (suffix_text inner) → IsNameOfPathSuffix named (symbol ∷ path)
part_greater symbol path inner named name part is_named number text =
    let over = over_text symbol inner.number (suffix_text inner) name part.some in
    let some = some_suffix symbol inner.number (suffix_text inner) in
    record {
      first = (symbol, path, refl, sym number);
      name =
          name_of_both symbol part.first.0 part.first.1 path (suffix_text inner) name part.first.2 part.name is_named
          ∙ ap Some (ap (λ n. name_with_dot_or_bracket_suffix symbol n (suffix_text inner) name) part.first.3 ∙ (over ∙ sym text));
      some = subst (λ (t : List ℕ). 0 < length t) (sym text) (more_after name (dot_prototype_or_bracket_suffix symbol inner.number (suffix_text inner)) some);
    }

-- The last piece of the list is the first of the text.
pub piece_first : (pieces : List (CowStr Global)) (piece : CowStr Global) → reversed_pieces_text (pieces ++ piece ∷ []) ≡ cow_str_bytes piece
    ++ reversed_pieces_text pieces
piece_first [] piece = sym (append-nil (cow_str_bytes piece))
piece_first (last ∷ pieces) piece = ap (λ (text : List ℕ). text ++ cow_str_bytes last) (piece_first pieces piece)
    ∙ append_assoc (cow_str_bytes piece) (reversed_pieces_text pieces) (cow_str_bytes last)

-- Appending the first piece leaves the text of the remaining pieces to append.
pub one_consumed : (text first : List ℕ) (pieces rest : List (CowStr Global)) (piece : CowStr Global) (whole : List ℕ) → pieces ≡ rest ++ piece ∷ []
    → first ≡ cow_str_bytes piece → text ++ reversed_pieces_text pieces ≡ whole → (text ++ first) ++ reversed_pieces_text rest ≡ whole
one_consumed text first pieces rest piece whole is first_is so =
    append_assoc text first (reversed_pieces_text rest)
    ∙ (ap (λ t. text ++ t) (ap (λ t. t ++ reversed_pieces_text rest) first_is ∙ (sym (piece_first rest piece) ∙ sym (ap reversed_pieces_text is))) ∙ so)

-- The state of the loop: the lower part of the path was read, and the path to this number, of a bounded length, remains.
abbrev pub IsReadTo : List Symbol → SymbolId → SymbolId → Option NamedSuffix → Type 0
IsReadTo symbols queried number inner =
    (n : ℕ) × (lower : List SymbolView) × (number.0 < length symbols) × (number.0 < n)
    × (symbol_path_from_module (symbol_view_of_number symbols) queried ≡ symbol_path_within_length (symbol_view_of_number symbols) n number ++ lower)
    × IsNameOfPathSuffixIfAny inner lower

-- The symbol that was read at a number is the one of that number.
occurs : (symbols : List Symbol) (number : SymbolId) (symbol : Symbol) → number.0 < length symbols → symbol ≡ get_or symbols number.0 symbol
    → slice_get symbols number.0 ≡ Some symbol
occurs symbols number symbol below read = slice_get_read symbols (length symbols) number.0 symbol refl below read

has_parent : (symbols : List Symbol) (number parent : SymbolId) (symbol d : Symbol) → slice_get symbols number.0 ≡ Some symbol
    → (get_or symbols number.0 d).parent_id ≡ Some parent → symbol.parent_id ≡ Some parent
has_parent symbols number parent symbol d at has = sym (ap (λ (s : Symbol). s.parent_id) (get_or_from_slice_get symbols number.0 symbol d at)) ∙ has

-- A parent has a lower number than its symbol.
pub falls : (symbols : List Symbol) (module_id : ModuleId) (number parent : SymbolId) (d : Symbol) → AreLawfulSymbols module_id symbols
    → number.0 < length symbols
    → (get_or symbols number.0 d).parent_id ≡ Some parent → parent.0 < number.0
falls symbols module_id number parent d lawful below has =
    let law = lawful number (get_or symbols number.0 d) (slice_get-get_or symbols number.0 d below) in
    subst (IsLawfulParent number.0) has law.parent

-- The remaining path gets one symbol shorter.
shorter : (symbols : List Symbol) (queried number parent : SymbolId) (symbol : Symbol) (n : ℕ) (lower : List SymbolView)
    → slice_get symbols number.0 ≡ Some symbol → symbol.parent_id ≡ Some parent
    → symbol_path_from_module (symbol_view_of_number symbols) queried ≡ symbol_path_within_length (symbol_view_of_number symbols) (suc n) number ++ lower
    → symbol_path_from_module (symbol_view_of_number symbols) queried ≡ symbol_path_within_length (symbol_view_of_number symbols) n parent ++ symbol_view symbol
    ∷ lower
shorter symbols queried number parent symbol n lower at has path =
    let up = path_goes_on (symbol_view_of_number symbols) n number parent (symbol_view symbol) (ap (option_map symbol_view) at) has in
    path ∙ ap (λ (p : List SymbolView). p ++ lower) up ∙ append_assoc (symbol_path_within_length (symbol_view_of_number symbols) n parent)
    (symbol_view symbol ∷ [])
    lower

-- The state of the loop holds after one more symbol.
pub one_more : (symbols : List Symbol) (module_id : ModuleId) (queried number parent : SymbolId) (symbol d : Symbol) (inner named : Option
    NamedSuffix) (name : List ℕ) → AreLawfulSymbols module_id symbols → symbol ≡ get_or symbols number.0 symbol
    → (get_or symbols number.0 d).parent_id ≡ Some parent → symbol_name (symbol_view symbol) ≡ Some name
    → ((path : List SymbolView) → IsNameOfPathSuffixIfAny inner path → symbol_name (symbol_view symbol) ≡ Some name
    → IsNameOfPathSuffixIfAny named (symbol_view symbol ∷ path))
    → IsReadTo symbols queried number inner
    → IsReadTo symbols queried parent named
one_more symbols module_id queried number parent symbol d inner named name lawful read has has_name called (zero, lower, below, few, path, viewed) =
    absurd (omega (arith, few))
one_more symbols module_id queried number parent symbol d inner named name lawful read has has_name called (suc n, lower, below, few, path, viewed) =
    let at = occurs symbols number symbol below read in
    let lower_number = falls symbols module_id number parent d lawful below has in (
      n,
      symbol_view symbol ∷ lower,
      omega (arith, lower_number, below),
      omega (arith, lower_number, few),
      shorter symbols queried number parent symbol n lower at (has_parent symbols number parent symbol d at has) path,
      called lower viewed has_name,
    )

-- If a symbol on the path has no name, the qualified name is `None`.
pub unnamed : (symbols : List Symbol) (queried number parent : SymbolId) (symbol d : Symbol) (inner : Option NamedSuffix)
    → symbol ≡ get_or symbols number.0 symbol → (get_or symbols number.0 d).parent_id ≡ Some parent → symbol_name (symbol_view symbol) ≡ None
    → IsReadTo symbols queried number inner → None ≡ qualified_name (symbol_view_of_number symbols) queried
unnamed symbols queried number parent symbol d inner read has none (zero, lower, below, few, path, viewed) = absurd (omega (arith, few))
unnamed symbols queried number parent symbol d inner read has none (suc n, lower, below, few, path, viewed) =
    let at = occurs symbols number symbol below read in
    let whole = shorter symbols queried number parent symbol n lower at (has_parent symbols number parent symbol d at has) path in
    sym (ap (option_and_then text_unless_empty) (ap symbol_path_name whole
    ∙ no_name_greater (symbol_path_within_length (symbol_view_of_number symbols) n parent) (symbol_view symbol) lower
    (no_name_first (symbol_view symbol) lower none)))

-- At a symbol without a parent the whole path was read.
all_read : (symbols : List Symbol) (queried number : SymbolId) (d : Symbol) (inner : Option NamedSuffix) → (get_or symbols number.0 d).parent_id ≡ None
    → (is : IsReadTo symbols queried number inner) → symbol_path_from_module (symbol_view_of_number symbols) queried ≡ is.1
all_read symbols queried number d inner none (zero, lower, below, few, path, viewed) = absurd (omega (arith, few))
all_read symbols queried number d inner none (suc n, lower, below, few, path, viewed) =
    let at = ap (option_map symbol_view) (slice_get-get_or symbols number.0 d below) in
    path ∙ ap (λ (p : List SymbolView). p ++ lower) (path_ends (symbol_view_of_number symbols) n number (symbol_view (get_or symbols number.0 d)) at none)

any_text : (text : List ℕ) → 0 < length text → text_unless_empty text ≡ Some text
any_text [] some = absurd (omega (arith, some))
any_text (b ∷ text) some = refl

pub whole_name : (symbols : List Symbol) (queried number : SymbolId) (d : Symbol) (inner : Option NamedSuffix) (named : NamedSuffix)
    → (get_or symbols number.0 d).parent_id ≡ None → IsReadTo symbols queried number inner → inner ≡ Some named
    → Some (suffix_text named) ≡ qualified_name (symbol_view_of_number symbols) queried
whole_name symbols queried number d inner named none is has =
    let part : IsNameOfPathSuffix named is.1 = subst (λ (o : Option NamedSuffix). IsNameOfPathSuffixIfAny o is.1) has is.5 in
    sym (ap (option_and_then text_unless_empty) (ap symbol_path_name (all_read symbols queried number d inner none is) ∙ part.name)
    ∙ any_text (suffix_text named) part.some)

pub no_path : (symbols : List Symbol) (queried number : SymbolId) (d : Symbol) (inner : Option NamedSuffix) → (get_or symbols number.0 d).parent_id ≡ None
    → IsReadTo symbols queried number inner → inner ≡ None → None ≡ qualified_name (symbol_view_of_number symbols) queried
no_path symbols queried number d inner none is has = by (subst (λ (o : Option NamedSuffix). IsNameOfPathSuffixIfAny o is.1) has is.5)
  where
    whole : qualified_name (symbol_view_of_number symbols) queried ≡ option_and_then text_unless_empty (symbol_path_name is.1)
    whole = ap (λ path. option_and_then text_unless_empty (symbol_path_name path)) (all_read symbols queried number d inner none is)

    by : IsNameOfPathSuffixIfAny None is.1 → None ≡ qualified_name (symbol_view_of_number symbols) queried
    by (inl empty) = sym (whole ∙ ap (λ path. option_and_then text_unless_empty (symbol_path_name path)) empty)
    by (inr empty) = sym (whole ∙ ap (option_and_then text_unless_empty) empty)

-- ---- symbols right below the module

-- The module has no qualified name, as its path is empty.
pub module_name : (symbols : List Symbol) (s : SymbolId) (symbol : Symbol) → s.0 < length symbols → symbol ≡ get_or symbols s.0 symbol → symbol.parent_id ≡ None
    → None ≡ qualified_name (symbol_view_of_number symbols) s
module_name symbols s symbol below read none =
    let at = ap (option_map symbol_view) (occurs symbols s symbol below read) in
    sym (ap (λ (p : List SymbolView). option_and_then text_unless_empty (symbol_path_name p))
    (path_ends (symbol_view_of_number symbols) s.0 s (symbol_view symbol) at none))

none_at_zero : (n : ℕ) (parent : Option SymbolId) → n ≡ 0 → IsLawfulParent n parent → parent ≡ None
none_at_zero n None least is = refl
none_at_zero n (Some parent) least is = absurd (omega (arith, least, is))

no_path_greater : (symbols : SymbolById) (n : ℕ) (s : SymbolId) (symbol : SymbolView) → 0 < n → symbols s ≡ Some symbol → symbol.parent ≡ None
    → symbol_path_within_length symbols n s ≡ []
no_path_greater symbols zero s symbol some at none = absurd (omega (arith, some))
no_path_greater symbols (suc n) s symbol some at none = path_ends symbols n s symbol at none

-- The qualified name of a symbol right below the module is its own name.
pub lone_name : (symbols : List Symbol) (module_id : ModuleId) (s parent : SymbolId) (symbol : Symbol) → AreLawfulSymbols module_id symbols
    → s.0 < length symbols
    → symbol ≡ get_or symbols s.0 symbol → symbol.parent_id ≡ Some parent → parent.0 ≡ 0
    → option_and_then text_unless_empty (symbol_name (symbol_view symbol)) ≡ qualified_name (symbol_view_of_number symbols) s
lone_name symbols module_id s parent symbol lawful below read has least =
    let at = ap (option_map symbol_view) (occurs symbols s symbol below read) in
    let less = falls symbols module_id s parent symbol lawful below (ap (λ (x : Symbol). x.parent_id) (sym read) ∙ has) in
    let first : Symbol = get_or symbols parent.0 symbol in
    let first_at : slice_get symbols parent.0 ≡ Some first = slice_get-get_or symbols parent.0 symbol (omega (arith, least, below)) in
    let none = none_at_zero parent.0 first.parent_id least (lawful parent first first_at).parent in
    sym (ap (λ (p : List SymbolView). option_and_then text_unless_empty (symbol_path_name p))
    (path_goes_on (symbol_view_of_number symbols) s.0 s parent (symbol_view symbol) at has
    ∙ ap (λ (p : List SymbolView). p ++ symbol_view symbol
    ∷ []) (no_path_greater (symbol_view_of_number symbols) s.0 parent (symbol_view first) (omega (arith, less)) (ap (option_map symbol_view) first_at) none)))
