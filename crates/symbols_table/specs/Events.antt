-- Events, which are the declaration steps found in a tree in order, and the effect of each on the symbol table, given the events before it.
use Rattle.std.specs.Prelude.{ℕ, Bool, true, false, if◌then◌else◌, List, [], ◌∷◌, ◌++◌, length, slice_index_or, map, Option, None, Some, codes}
use Rattle.std.specs.List.{flat_map}
use Rattle.std.specs.Option.{option_or}
use Rattle.symbols_ast.specs.declared.ids.SymbolId.{SymbolId}
use Rattle.symbols_ast.specs.Ids.{IdView}
use Rattle.symbols_table.specs.DeclViews.{Declaration, decl_name, is_definition}
use Rattle.symbols_table.specs.Changes.{Change, ExportStarStatement, adds_symbol, adds_decl, exports, adds_child, adds_member, maps, re_exports_all}
use Rattle.symbols_table.specs.Changes.{parents_after_changes, symbol_of_ident_after_changes, exported_symbol_after_changes, first_child_named}
use Rattle.symbols_table.specs.Changes.{first_member_named, has_function_decl}

-- A declaration step of the table's builder, like 'declare this identifier' or 'export that symbol'. Numbers are positions of earlier
-- events, by which an event refers to their symbols: first its holder's, then, for `binds`, `export` and `child`, the symbol's own.
pub data DeclarationEvent : Type 0 where
  begins : Declaration → DeclarationEvent
  declare : ℕ → IdView → Declaration → DeclarationEvent
  declare_alias : ℕ → IdView → Declaration → DeclarationEvent
  declare_unnamed : ℕ → Declaration → DeclarationEvent
  default : ℕ → Declaration → DeclarationEvent
  binds : IdView → ℕ → DeclarationEvent
  member : ℕ → Declaration → Bool → DeclarationEvent
  expando : IdView → Declaration → DeclarationEvent
  export : ℕ → List ℕ → ℕ → DeclarationEvent
  child : ℕ → ℕ → DeclarationEvent
  star : ExportStarStatement → DeclarationEvent

-- The effect of an event: the symbol that it yields, if any, and the changes to the table.
pub record EventEffect : Type 0 where
  pub symbol : Option SymbolId
  pub changes : List Change

abbrev pub empty_effect : EventEffect
empty_effect = record { symbol = None; changes = [] }

-- The effect of an event that yields no symbol.
abbrev pub effect_of_changes : List Change → EventEffect
effect_of_changes changes = record { symbol = None; changes = changes }

abbrev pub effect_yielding_symbol : SymbolId → List Change → EventEffect
effect_yielding_symbol s changes = record { symbol = Some s; changes = changes }

-- The number of the next new symbol is the count of the symbols before it.
abbrev pub next_symbol_id : List Change → SymbolId
next_symbol_id before = record { 0 = length (parents_after_changes before) }

-- The effect that adds a new symbol with its first declaration, and further changes.
abbrev pub new_symbol_effect : List Change → Option SymbolId → Declaration → (SymbolId → List Change) → EventEffect
new_symbol_effect before parent decl more = effect_yielding_symbol (next_symbol_id before) (adds_symbol parent ∷ adds_decl (next_symbol_id before) decl
    ∷ more (next_symbol_id before))

-- A found symbol gets the declaration; otherwise the given row applies.
abbrev pub effect_of_redeclaring_or : Option SymbolId → Declaration → EventEffect → EventEffect
effect_of_redeclaring_or None decl row = row
effect_of_redeclaring_or (Some s) decl row = effect_yielding_symbol s (adds_decl s decl ∷ [])

-- Declaring an identifier: a bound one gives its symbol another declaration, an unbound one is bound to a new symbol of the holder.
abbrev pub declare_effect : List Change → SymbolId → IdView → Declaration → EventEffect
declare_effect before holder id decl =
    effect_of_redeclaring_or (symbol_of_ident_after_changes before id) decl (new_symbol_effect before (Some holder) decl (λ s. maps id s ∷ []))

-- For `import a = ..`: a bound identifier keeps its symbol, which gets no further declaration.
abbrev pub effect_of_existing_symbol_or : Option SymbolId → EventEffect → EventEffect
effect_of_existing_symbol_or None row = row
effect_of_existing_symbol_or (Some s) row = effect_yielding_symbol s []

abbrev pub declare_alias_unless_bound_effect : List Change → SymbolId → IdView → Declaration → EventEffect
declare_alias_unless_bound_effect before holder id decl =
    effect_of_existing_symbol_or (symbol_of_ident_after_changes before id) (new_symbol_effect before (Some holder) decl (λ s. maps id s ∷ []))

-- The exported name of a default export.
abbrev pub default_export_name : List ℕ
default_export_name = codes "default"

-- A default export: the holder's export `default` gets the declaration, else a new symbol, which is a child only if it is a definition.
abbrev pub default_export_effect : List Change → SymbolId → Declaration → EventEffect
default_export_effect before holder decl =
    effect_of_redeclaring_or (exported_symbol_after_changes before holder default_export_name) decl
    (new_symbol_effect before (Some holder) decl (λ s. exports holder default_export_name s
    ∷ (if is_definition decl.kind then adds_child holder s ∷ [] else [])))

-- The symbol that gets a member's declaration. For a static member it is the export of its name, else the first child of that local name.
-- For an instance member it is the first member of that local name. A member without a name has none.
abbrev pub find_member_symbol : List Change → SymbolId → Bool → Option (List ℕ) → Option SymbolId
find_member_symbol before holder is_static None = None
find_member_symbol before holder true (Some name) = option_or (exported_symbol_after_changes before holder name) (first_child_named before holder name)
find_member_symbol before holder false (Some name) = first_member_named before holder name

-- The changes that add a new member to its holder: a static one is an export by its name and a child, an instance one a member.
abbrev pub new_member_changes : SymbolId → Bool → Option (List ℕ) → SymbolId → List Change
new_member_changes holder true None s = adds_child holder s ∷ []
new_member_changes holder true (Some name) s = exports holder name s ∷ adds_child holder s ∷ []
new_member_changes holder false name s = adds_member holder s ∷ []

abbrev pub named_member_effect : List Change → SymbolId → Declaration → Bool → Option (List ℕ) → EventEffect
named_member_effect before holder decl is_static name =
    effect_of_redeclaring_or (find_member_symbol before holder is_static name) decl
    (new_symbol_effect before (Some holder) decl (new_member_changes holder is_static name))

abbrev pub member_effect : List Change → SymbolId → Declaration → Bool → EventEffect
member_effect before holder decl is_static = named_member_effect before holder decl is_static (decl_name decl)

-- An assigned property `f.p = ..` is a static member of the symbol that `f` is bound to, if that symbol has a function among its
-- declarations.
abbrev pub expando_effect : List Change → Option SymbolId → Declaration → EventEffect
expando_effect before None decl = empty_effect
expando_effect before (Some s) decl = if has_function_decl before s then member_effect before s decl true else empty_effect

-- The row for a symbol, or the empty row without one.
abbrev pub effect_if_symbol : Option SymbolId → (SymbolId → EventEffect) → EventEffect
effect_if_symbol None row = empty_effect
effect_if_symbol (Some s) row = row s

-- The effect of an event, from the changes before it and the symbols of the earlier events by position.
abbrev pub effect_of_event : List Change → (ℕ → Option SymbolId) → DeclarationEvent → EventEffect
effect_of_event before at (begins decl) = new_symbol_effect before None decl (λ _. [])
effect_of_event before at (declare holder id decl) = effect_if_symbol (at holder) (λ h. declare_effect before h id decl)
effect_of_event before at (declare_alias holder id decl) = effect_if_symbol (at holder) (λ h. declare_alias_unless_bound_effect before h id decl)
effect_of_event before at (declare_unnamed holder decl) = effect_if_symbol (at holder) (λ h. new_symbol_effect before (Some h) decl (λ _. []))
effect_of_event before at (default holder decl) = effect_if_symbol (at holder) (λ h. default_export_effect before h decl)
effect_of_event before at (binds id of) = effect_if_symbol (at of) (λ s. effect_yielding_symbol s (maps id s ∷ []))
effect_of_event before at (member holder decl is_static) = effect_if_symbol (at holder) (λ h. member_effect before h decl is_static)
effect_of_event before at (expando id decl) = expando_effect before (symbol_of_ident_after_changes before id) decl
effect_of_event before at (export holder name of) =
    effect_if_symbol (at holder) (λ h. effect_if_symbol (at of) (λ s. effect_of_changes (exports h name s ∷ [])))
effect_of_event before at (child holder of) = effect_if_symbol (at holder) (λ h. effect_if_symbol (at of) (λ s. effect_of_changes (adds_child h s ∷ [])))
effect_of_event before at (star statement) = effect_of_changes (re_exports_all statement ∷ [])

-- The changes of a list of rows, in order.
unfoldable pub changes_of_effects : List EventEffect → List Change
changes_of_effects rows = flat_map (λ row. row.changes) rows

-- The symbol of the event at a position.
unfoldable pub symbol_of_event_at : List EventEffect → ℕ → Option SymbolId
symbol_of_event_at rows index = slice_index_or (map (λ row. row.symbol) rows) index None

-- The rows of a list of events, each computed from the rows before it.
unfoldable pub effects_after_events : List EventEffect → List DeclarationEvent → List EventEffect
effects_after_events rows [] = rows
effects_after_events rows (event ∷ events) = effects_after_events (rows ++ effect_of_event (changes_of_effects rows) (symbol_of_event_at rows) event ∷ [])
    events

-- The changes that a whole list of events makes, from an empty table.
abbrev pub changes_of_events : List DeclarationEvent → List Change
changes_of_events events = changes_of_effects (effects_after_events [] events)
