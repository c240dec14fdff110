-- The relation between a builder and the changes that it has applied, and the contracts of its calls.
use Rattle.std.specs.Prelude.{◌≡◌, ℕ, ◌<◌, ◌≤◌, Bool, ◌&&◌, [], ◌++◌, List, length, map, Option, Some, All, Result, MatchResult, slice_index_or, slice_get}
use Rattle.std.specs.Option.{option_and_then}
use Rattle.std.specs.Map.{lookup}
use Rattle.std.specs.Str.{bytes_eq}
use Rattle.std.specs.Cow.{cow_str_bytes}
use Rattle.std.specs.HashMap.{HashMap, get as get_symbol}
use Rattle.symbols_ast.specs.declared.ids.SymbolId.{SymbolId}
use Rattle.symbols_ast.specs.Ids.{IdView, is_same_id}
use Rattle.symbols_table.specs.declared.decl.symbol.Symbol.{Symbol}
use Rattle.symbols_table.specs.declared.builder.names.LocalName.{LocalName}
use Rattle.symbols_table.specs.declared.builder.table.ModuleBuilder.{ModuleBuilder}
use Rattle.symbols_table.specs.declared.builder.table.BuildFault.{BuildFault}
use Rattle.symbols_table.specs.declared.builder.table.BuildFault.TheVariants.{TooManySymbols}
use Rattle.symbols_table.specs.Symbols.{symbol_decls}
use Rattle.symbols_table.specs.inner.Symbols.{IsSymbolOfChanges}
use Rattle.symbols_table.specs.Laws.{IsLawfulParent}
use Rattle.symbols_table.specs.ModuleViews.{identifier_bindings_view, export_star_view}
use Rattle.symbols_table.specs.Changes.{Change, adds_symbol, adds_decl, exports, adds_child, adds_member, maps, re_exports_all, is_same_symbol_id}
use Rattle.symbols_table.specs.Changes.{parents_after_changes, decls_after_changes, exports_after_changes, children_after_changes, members_after_changes}
use Rattle.symbols_table.specs.Changes.{export_stars_after_changes, symbol_of_ident_after_changes, first_child_named, first_member_named}
use Rattle.symbols_table.specs.Events.{EventEffect, changes_of_effects, symbol_of_event_at, effects_after_events}
use Rattle.symbols_table.specs.EventsByHolderAndStart.{EventsByHolderAndStart}
use Rattle.symbols_table.specs.DeclViews.{decl_name}

-- The changes concern no symbol of number s.
pub record HasNoChanges (changes : List Change) (s : SymbolId) : Type 0 where
  pub decls : decls_after_changes changes s ≡ []
  pub exports : exports_after_changes changes s ≡ []
  pub children : children_after_changes changes s ≡ []
  pub members : members_after_changes changes s ≡ []

-- The change names only symbols below the count.
abbrev pub NamesSymbolsBelow : ℕ → Change → Type 0
NamesSymbolsBelow count (adds_symbol _) = Unit {0}
NamesSymbolsBelow count (adds_decl s _) = s.0 < count
NamesSymbolsBelow count (exports s _ x) = (s.0 < count) × (x.0 < count)
NamesSymbolsBelow count (adds_child s x) = (s.0 < count) × (x.0 < count)
NamesSymbolsBelow count (adds_member s x) = (s.0 < count) × (x.0 < count)
NamesSymbolsBelow count (maps _ x) = x.0 < count
NamesSymbolsBelow count (re_exports_all _) = Unit {0}

-- The change neither binds an identifier to the module's own symbol nor exports that symbol.
abbrev pub DoesNotBindOrExportModuleSymbol : Change → Type 0
DoesNotBindOrExportModuleSymbol (adds_symbol _) = Unit {0}
DoesNotBindOrExportModuleSymbol (adds_decl _ _) = Unit {0}
DoesNotBindOrExportModuleSymbol (exports _ _ x) = 0 < x.0
DoesNotBindOrExportModuleSymbol (adds_child _ _) = Unit {0}
DoesNotBindOrExportModuleSymbol (adds_member _ _) = Unit {0}
DoesNotBindOrExportModuleSymbol (maps _ x) = 0 < x.0
DoesNotBindOrExportModuleSymbol (re_exports_all _) = Unit {0}

-- The local name of a symbol.
abbrev pub local_name_in_symbols : List Symbol → SymbolId → Option (List ℕ)
local_name_in_symbols symbols s = option_and_then (λ (symbol : Symbol). option_and_then decl_name (slice_get (symbol_decls symbol) 0)) (slice_get symbols s.0)

-- Both keys have the same holder and the same name.
abbrev pub is_same_local_name : LocalName → LocalName → Bool
is_same_local_name x y = is_same_symbol_id x.holder y.holder && bytes_eq (cow_str_bytes x.name) (cow_str_bytes y.name)

-- The symbol of a key.
abbrev pub symbol_by_local_name : {S : Type 0} → HashMap LocalName SymbolId S → LocalName → Option SymbolId
symbol_by_local_name names q = get_symbol is_same_local_name names q

pub record HasAppliedChanges (b : ModuleBuilder) (changes : List Change) : Type 0 where
  pub count : length b.symbols.items ≡ length (parents_after_changes changes)
  pub symbols : (s : SymbolId) (d : Symbol) → s.0 < length b.symbols.items
      → IsSymbolOfChanges b.setting.module_id changes s (slice_index_or b.symbols.items s.0 d)
  pub has_no_changes_beyond_count : (s : SymbolId) → length b.symbols.items ≤ s.0 → HasNoChanges changes s
  pub ids : (id : IdView) → lookup (is_same_id id) (identifier_bindings_view b.ids.entries) ≡ symbol_of_ident_after_changes changes id
  -- The children of the module's own symbol are not looked up by name.
  pub child_names : (q : LocalName) → 0 < q.holder.0 → symbol_by_local_name b.child_names q ≡ first_child_named changes q.holder (cow_str_bytes q.name)
  pub member_names : (q : LocalName) → symbol_by_local_name b.member_names q ≡ first_member_named changes q.holder (cow_str_bytes q.name)
  pub stars : map export_star_view b.stars.items ≡ export_stars_after_changes changes
  pub few : length b.symbols.items ≤ b.setting.limit
  pub sound : All (NamesSymbolsBelow (length b.symbols.items)) changes
  pub apart : All DoesNotBindOrExportModuleSymbol changes
  pub has_lawful_parents : (n : ℕ) (parent : Option SymbolId) → slice_get (parents_after_changes changes) n ≡ Some parent → IsLawfulParent n parent
  pub declared : (s : SymbolId) → s.0 < length b.symbols.items → 0 < length (decls_after_changes changes s)

abbrev pub HasValidTable : ModuleBuilder → Type 0
HasValidTable b = (changes : List Change) × HasAppliedChanges b changes

-- A call that applies one event: it returns the event's symbol, or an allocation failed, or the event needs more symbols than the limit.
abbrev pub AppliesEffectAndReturnsSymbol : {A : Type 0} → Result A BuildFault → (A → Option SymbolId) → ℕ → ModuleBuilder → List Change → EventEffect → Type 0
AppliesEffectAndReturnsSymbol result symbol limit new before row =
    MatchResult result
    (λ x. (row.symbol ≡ symbol x) × HasAppliedChanges new (before ++ row.changes))
    (λ fault. fault ≡ TooManySymbols → limit < length (parents_after_changes (before ++ row.changes)))

-- A call that applies several events, by their rows.
abbrev pub AppliesEffects : {A : Type 0} → Result A BuildFault → ℕ → ModuleBuilder → List EventEffect → Type 0
AppliesEffects result limit new rows =
    MatchResult result
    (λ _. HasAppliedChanges new (changes_of_effects rows))
    (λ fault. fault ≡ TooManySymbols → limit < length (parents_after_changes (changes_of_effects rows)))

-- A call that applies one event whose symbol no other event refers to.
abbrev pub AppliesEffectChanges : {A : Type 0} → Result A BuildFault → ℕ → ModuleBuilder → List Change → EventEffect → Type 0
AppliesEffectChanges result limit new before row =
    MatchResult result
    (λ _. HasAppliedChanges new (before ++ row.changes))
    (λ fault. fault ≡ TooManySymbols → limit < length (parents_after_changes (before ++ row.changes)))

-- A call that applies the events of a part of a tree under a holder, whatever events came before.
abbrev pub AppliesEventsUnderHolder : {A : Type 0} → Result A BuildFault → ModuleBuilder → ModuleBuilder → EventsByHolderAndStart → SymbolId → Type 0
AppliesEventsUnderHolder result old new walk holder =
    (rows : List EventEffect) (h : ℕ) → HasAppliedChanges old (changes_of_effects rows) → symbol_of_event_at rows h ≡ Some holder
    → AppliesEffects result old.setting.limit new (effects_after_events rows (walk h (length rows)))
