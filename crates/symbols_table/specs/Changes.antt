-- Changes, which are elementary updates of a symbol table, and the table's contents as functions of the list of changes.
use Rattle.std.specs.Prelude.{◌≡◌, ℕ, ◌==◌, Bool, false, if◌then◌else◌, List, [], ◌∷◌, ◌++◌, fold, map, slice_get, Option, None, Some}
use Rattle.std.specs.List.{filter_map, last_or, list_any, find, IsDistinct}
use Rattle.std.specs.Map.{lookup}
use Rattle.std.specs.Option.{option_and_then, option_map_or}
use Rattle.std.specs.Str.{bytes_eq}
use Rattle.indexmap.specs.IndexMap.{insert_all}
use Rattle.symbols_ast.specs.declared.ids.SymbolId.{SymbolId}
use Rattle.symbols_ast.specs.Ids.{IdView, is_same_id}
use Rattle.symbols_table.specs.DeclViews.{Declaration, append_decl_with_overload_flag, decl_name, decl_node_satisfies}
use Rattle.symbols_nodes.specs.NodeTests.{is_function_exported_or_not}

-- An `export * from "specifier"` statement: the number of its node and its specifier.
pub record ExportStarStatement : Type 0 where
  pub number : ℕ
  pub specifier_text : List ℕ

-- An elementary update of the table: a new symbol with its parent; a declaration of a symbol; a name that a symbol exports; a child or a
-- member of a symbol; the symbol that an identifier is bound to; an `export *` statement.
pub data Change : Type 0 where
  adds_symbol : Option SymbolId → Change
  adds_decl : SymbolId → Declaration → Change
  exports : SymbolId → List ℕ → SymbolId → Change
  adds_child : SymbolId → SymbolId → Change
  adds_member : SymbolId → SymbolId → Change
  maps : IdView → SymbolId → Change
  re_exports_all : ExportStarStatement → Change

abbrev pub is_same_symbol_id : SymbolId → SymbolId → Bool
is_same_symbol_id s t = s.0 == t.0

-- The value if the test holds, else `None`.
abbrev pub some_if : {A : Type 0} → Bool → A → Option A
some_if test x = if test then Some x else None

abbrev pub parent_of_symbol_made_by : Change → Option (Option SymbolId)
parent_of_symbol_made_by (adds_symbol parent) = Some parent
parent_of_symbol_made_by _ = None

abbrev pub decl_added_by : SymbolId → Change → Option Declaration
decl_added_by s (adds_decl t decl) = some_if (is_same_symbol_id t s) decl
decl_added_by s _ = None

abbrev pub export_inserted_by : SymbolId → Change → Option (List ℕ × SymbolId)
export_inserted_by s (exports t name x) = some_if (is_same_symbol_id t s) (name, x)
export_inserted_by s _ = None

abbrev pub child_added_by : SymbolId → Change → Option SymbolId
child_added_by s (adds_child t x) = some_if (is_same_symbol_id t s) x
child_added_by s _ = None

abbrev pub member_added_by : SymbolId → Change → Option SymbolId
member_added_by s (adds_member t x) = some_if (is_same_symbol_id t s) x
member_added_by s _ = None

abbrev pub symbol_bound_to_ident_by : IdView → Change → Option SymbolId
symbol_bound_to_ident_by id (maps other x) = some_if (is_same_id other id) x
symbol_bound_to_ident_by id _ = None

abbrev pub export_star_added_by : Change → Option ExportStarStatement
export_star_added_by (re_exports_all star) = Some star
export_star_added_by _ = None

-- Appends a symbol unless the list has it, so that each has the position of its first insertion.
abbrev pub append_if_absent : List SymbolId → SymbolId → List SymbolId
append_if_absent xs x = if list_any (is_same_symbol_id x) xs then xs else xs ++ x ∷ []

-- The exports that the changes set for a symbol, in order, repeated names included.
abbrev pub export_insertions_after_changes : List Change → SymbolId → List (List ℕ × SymbolId)
export_insertions_after_changes changes s = filter_map (export_inserted_by s) changes

-- Appends a name unless the list has it.
abbrev pub append_name_if_absent : List (List ℕ) → List ℕ → List (List ℕ)
append_name_if_absent names name = if list_any (bytes_eq name) names then names else names ++ name ∷ []

abbrev pub distinct_names : List (List ℕ) → List (List ℕ)
distinct_names names = fold append_name_if_absent [] names

abbrev pub exported_names_of_entries : List (List ℕ × SymbolId) → List (List ℕ)
exported_names_of_entries entries = map (λ entry. entry.0) entries

abbrev pub symbol_if_export_named : List ℕ → List ℕ × SymbolId → Option SymbolId
symbol_if_export_named name setting = some_if (bytes_eq setting.0 name) setting.1

-- The exports after all settings: each name once, at the position of its first setting, with the symbol of its last.
pub record AreExportsOfInsertions (settings entries : List (List ℕ × SymbolId)) : Type 0 where
  pub names_are_in_insertion_order : exported_names_of_entries entries ≡ distinct_names (exported_names_of_entries settings)
  pub values : (name : List ℕ) → lookup (bytes_eq name) entries ≡ last_or None (filter_map (symbol_if_export_named name) settings)
  pub has_no_duplicates : IsDistinct bytes_eq (exported_names_of_entries entries)

-- The parents of the symbols, in order of their numbers. Its length is the number of symbols.
unfoldable pub parents_after_changes : List Change → List (Option SymbolId)
parents_after_changes changes = filter_map parent_of_symbol_made_by changes

-- The declarations of a symbol in order, each with its overload flag.
unfoldable pub decls_after_changes : List Change → SymbolId → List Declaration
decls_after_changes changes s = fold append_decl_with_overload_flag [] (filter_map (decl_added_by s) changes)

-- The exports of a symbol, with the settings applied in order. `AreExportsOfInsertions` states the result without the order of steps.
unfoldable pub exports_after_changes : List Change → SymbolId → List (List ℕ × SymbolId)
exports_after_changes changes s = insert_all bytes_eq [] (export_insertions_after_changes changes s)

-- The children of a symbol, and its members, each once, in order of first insertion.
unfoldable pub children_after_changes : List Change → SymbolId → List SymbolId
children_after_changes changes s = fold append_if_absent [] (filter_map (child_added_by s) changes)

unfoldable pub members_after_changes : List Change → SymbolId → List SymbolId
members_after_changes changes s = fold append_if_absent [] (filter_map (member_added_by s) changes)

-- The symbol that an identifier is bound to: that of its last binding.
unfoldable pub symbol_of_ident_after_changes : List Change → IdView → Option SymbolId
symbol_of_ident_after_changes changes id = last_or None (filter_map (symbol_bound_to_ident_by id) changes)

-- The `export *` statements, in order.
unfoldable pub export_stars_after_changes : List Change → List ExportStarStatement
export_stars_after_changes changes = filter_map export_star_added_by changes

-- The symbol that a symbol exports under a name.
abbrev pub exported_symbol_after_changes : List Change → SymbolId → List ℕ → Option SymbolId
exported_symbol_after_changes changes s name = lookup (λ key. bytes_eq name key) (exports_after_changes changes s)

-- The local name of a symbol is the name of its first declaration.
abbrev pub local_name_after_changes : List Change → SymbolId → Option (List ℕ)
local_name_after_changes changes s = option_and_then decl_name (slice_get (decls_after_changes changes s) 0)

abbrev pub is_symbol_named : List Change → List ℕ → SymbolId → Bool
is_symbol_named changes name s = option_map_or (λ (local_name_bytes : List ℕ). bytes_eq local_name_bytes name) (local_name_after_changes changes s) false

-- The first child, and the first member, of a local name.
abbrev pub first_child_named : List Change → SymbolId → List ℕ → Option SymbolId
first_child_named changes s name = find (is_symbol_named changes name) (children_after_changes changes s)

abbrev pub first_member_named : List Change → SymbolId → List ℕ → Option SymbolId
first_member_named changes s name = find (is_symbol_named changes name) (members_after_changes changes s)

-- At least one declaration of the symbol is a function.
abbrev pub has_function_decl : List Change → SymbolId → Bool
has_function_decl changes s = list_any (decl_node_satisfies is_function_exported_or_not) (decls_after_changes changes s)
