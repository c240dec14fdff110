-- Each event makes at most one symbol and one declaration, and only some kinds of events make any.
use Rattle.std.proofs.Common.{◌≡◌, ℕ, ◌+◌, ◌≤◌, Bool, true, false, if◌then◌else◌, List, [], ◌∷◌, ◌++◌, length, Option, Some, None, arith}
use Rattle.std.specs.List.{filter_map}
use Rattle.std.proofs.lemmas.List.{length-append}
use Rattle.std.proofs.lemmas.List.Elements.{filter_map-append}
use Rattle.symbols_ast.specs.declared.ids.SymbolId.{SymbolId}
use Rattle.symbols_table.specs.DeclViews.{Declaration, is_definition, decl_name}
use Rattle.symbols_table.specs.Changes.{Change, exports, adds_child, maps, parent_of_symbol_made_by, parents_after_changes, symbol_of_ident_after_changes}
use Rattle.symbols_table.specs.Changes.{exported_symbol_after_changes, has_function_decl}
use Rattle.symbols_table.specs.Events.{DeclarationEvent, begins, declare, declare_alias, declare_unnamed, default, binds, member, expando, export, child, star}
use Rattle.symbols_table.specs.Events.{EventEffect, empty_effect, new_symbol_effect, effect_of_redeclaring_or, effect_of_existing_symbol_or, new_member_changes}
use Rattle.symbols_table.specs.Events.{find_member_symbol, member_effect, declare_effect, declare_alias_unless_bound_effect, default_export_effect}
use Rattle.symbols_table.specs.Events.{default_export_name, expando_effect, effect_if_symbol, effect_of_event, changes_of_effects, symbol_of_event_at}
use Rattle.symbols_table.specs.Events.{effects_after_events, changes_of_events, effect_of_changes, effect_yielding_symbol}
use Rattle.symbols_table.proofs.Sums.{declared_in, declaration_count}
use Rattle.symbols_table.proofs.Rows.{changes_of_effects-push}

-- 1 for an event that may declare something, else 0.
abbrev pub declaring : DeclarationEvent → ℕ
declaring (binds _ _) = 0
declaring (export _ _ _) = 0
declaring (child _ _) = 0
declaring (star _) = 0
declaring _ = 1

abbrev pub count : List DeclarationEvent → ℕ
count [] = 0
count (event ∷ events) = declaring event + count events

pub count-append : (es fs : List DeclarationEvent) → count (es ++ fs) ≡ count es + count fs
count-append [] fs = omega arith
count-append (e ∷ es) fs = omega (arith, count-append es fs)

-- The changes make at most n symbols and at most n declarations.
pub record IsFew (changes : List Change) (n : ℕ) : Type 0 where
  pub symbols : length (filter_map parent_of_symbol_made_by changes) ≤ n
  pub declarations : declaration_count changes ≤ n

few_no_symbol : (n : ℕ) → IsFew empty_effect.changes n
few_no_symbol n = record { symbols = omega arith; declarations = omega arith }

few_new : (before : List Change) (parent : Option SymbolId) (decl : Declaration) (more : SymbolId → List Change) → ((s : SymbolId) → IsFew (more s) 0)
    → IsFew (new_symbol_effect before parent decl more).changes 1
few_new before parent decl more quiet =
    let none = quiet (record { 0 = length (parents_after_changes before) }) in
    record { symbols = omega (arith, none.symbols); declarations = omega (arith, none.declarations) }

few_found : (found : Option SymbolId) (decl : Declaration) (row : EventEffect) → IsFew row.changes 1 → IsFew (effect_of_redeclaring_or found decl row).changes 1
few_found None decl row few = few
few_found (Some s) decl row few = record { symbols = omega arith; declarations = omega arith }

few_known : (found : Option SymbolId) (row : EventEffect) → IsFew row.changes 1 → IsFew (effect_of_existing_symbol_or found row).changes 1
few_known None row few = few
few_known (Some s) row few = record { symbols = omega arith; declarations = omega arith }

few_with : (n : ℕ) (found : Option SymbolId) (row : SymbolId → EventEffect) → ((s : SymbolId) → IsFew (row s).changes n)
    → IsFew (effect_if_symbol found row).changes n
few_with n None row few = few_no_symbol n
few_with n (Some s) row few = few s

few_export : (holder s : SymbolId) (is_child : Bool) → IsFew (exports holder default_export_name s ∷ (if is_child then adds_child holder s ∷ [] else [])) 0
few_export holder s true = record { symbols = omega arith; declarations = omega arith }
few_export holder s false = record { symbols = omega arith; declarations = omega arith }

few_default : (before : List Change) (holder : SymbolId) (decl : Declaration) → IsFew (default_export_effect before holder decl).changes 1
few_default before holder decl =
    let more : SymbolId → List Change = λ s. exports holder default_export_name s ∷ (if is_definition decl.kind then adds_child holder s ∷ [] else []) in
    few_found (exported_symbol_after_changes before holder default_export_name) decl (new_symbol_effect before (Some holder) decl more)
    (few_new before (Some holder) decl more (λ s. few_export holder s (is_definition decl.kind)))

few_of_member : (holder : SymbolId) (is_static : Bool) (name : Option (List ℕ)) (s : SymbolId) → IsFew (new_member_changes holder is_static name s) 0
few_of_member holder true None s = record { symbols = omega arith; declarations = omega arith }
few_of_member holder true (Some name) s = record { symbols = omega arith; declarations = omega arith }
few_of_member holder false name s = record { symbols = omega arith; declarations = omega arith }

few_member : (before : List Change) (holder : SymbolId) (decl : Declaration) (is_static : Bool) → IsFew (member_effect before holder decl is_static).changes 1
few_member before holder decl is_static =
    let name = decl_name decl in
    few_found (find_member_symbol before holder is_static name) decl (new_symbol_effect before (Some holder) decl (new_member_changes holder is_static name))
    (few_new before (Some holder) decl (new_member_changes holder is_static name) (few_of_member holder is_static name))

few_function : (is_function : Bool) (row : EventEffect) → IsFew row.changes 1 → IsFew (if is_function then row else empty_effect).changes 1
few_function true row few = few
few_function false row few = few_no_symbol 1

few_expando : (before : List Change) (found : Option SymbolId) (decl : Declaration) → IsFew (expando_effect before found decl).changes 1
few_expando before None decl = few_no_symbol 1
few_expando before (Some s) decl = few_function (has_function_decl before s) (member_effect before s decl true) (few_member before s decl true)

-- A row makes no more symbols and declarations than its event may.
few_row : (before : List Change) (at : ℕ → Option SymbolId) (event : DeclarationEvent) → IsFew (effect_of_event before at event).changes (declaring event)
few_row before at (begins decl) = few_new before None decl (λ _. []) (λ s. record { symbols = omega arith; declarations = omega arith })
few_row before at (declare holder id decl) =
    few_with 1 (at holder) (λ h. declare_effect before h id decl) (λ h. few_found (symbol_of_ident_after_changes before id) decl
    (new_symbol_effect before (Some h) decl
    (λ s. maps id s ∷ [])) (few_new before (Some h) decl (λ s. maps id s ∷ []) (λ s. record { symbols = omega arith; declarations = omega arith })))
few_row before at (declare_alias holder id decl) =
    few_with 1 (at holder) (λ h. declare_alias_unless_bound_effect before h id decl)
    (λ h. few_known (symbol_of_ident_after_changes before id) (new_symbol_effect before (Some h) decl (λ s. maps id s ∷ []))
    (few_new before (Some h) decl (λ s. maps id s ∷ []) (λ s. record { symbols = omega arith; declarations = omega arith })))
few_row before at (declare_unnamed holder decl) = few_with 1 (at holder) (λ h. new_symbol_effect before (Some h) decl (λ _. []))
    (λ h. few_new before (Some h) decl (λ _. []) (λ s. record { symbols = omega arith; declarations = omega arith }))
few_row before at (default holder decl) = few_with 1 (at holder) (λ h. default_export_effect before h decl) (λ h. few_default before h decl)
few_row before at (binds id of) =
    few_with 0 (at of) (λ s. effect_yielding_symbol s (maps id s ∷ [])) (λ s. record { symbols = omega arith; declarations = omega arith })
few_row before at (member holder decl is_static) = few_with 1 (at holder) (λ h. member_effect before h decl is_static) (λ h. few_member before h decl is_static)
few_row before at (expando id decl) = few_expando before (symbol_of_ident_after_changes before id) decl
few_row before at (export holder name of) =
    few_with 0 (at holder) (λ h. effect_if_symbol (at of) (λ s. effect_of_changes (exports h name s ∷ [])))
    (λ h. few_with 0 (at of) (λ s. effect_of_changes (exports h name s ∷ [])) (λ s. record { symbols = omega arith; declarations = omega arith }))
few_row before at (child holder of) =
    few_with 0 (at holder) (λ h. effect_if_symbol (at of) (λ s. effect_of_changes (adds_child h s ∷ [])))
    (λ h. few_with 0 (at of) (λ s. effect_of_changes (adds_child h s ∷ [])) (λ s. record { symbols = omega arith; declarations = omega arith }))
few_row before at (star node) = record { symbols = omega arith; declarations = omega arith }

few-append : (before more : List Change) (n k : ℕ) → IsFew before n → IsFew more k → IsFew (before ++ more) (n + k)
few-append before more n k few rest = record {
  symbols = rw (filter_map-append parent_of_symbol_made_by before more)
      (omega (arith, few.symbols, rest.symbols, length-append (filter_map parent_of_symbol_made_by before) (filter_map parent_of_symbol_made_by more)));
  declarations = rw (filter_map-append declared_in before more)
      (omega (arith, few.declarations, rest.declarations, length-append (filter_map declared_in before) (filter_map declared_in more)));
}

few_as : (changes : List Change) (n k : ℕ) → n ≡ k → IsFew changes n → IsFew changes k
few_as changes n k is few = rw is at few

few_after : (rows : List EventEffect) (events : List DeclarationEvent) (n : ℕ) → IsFew (changes_of_effects rows) n
    → IsFew (changes_of_effects (effects_after_events rows events)) (n + count events)
unfolding effects_after_events
few_after rows [] n few = few_as (changes_of_effects rows) n (n + 0) (omega arith) few
few_after rows (e ∷ es) n few =
    let row = effect_of_event (changes_of_effects rows) (symbol_of_event_at rows) e in
    let here : IsFew (changes_of_effects (rows ++ row ∷ [])) (n + declaring e) =
    rw (changes_of_effects-push rows row)
    (few-append (changes_of_effects rows) row.changes n (declaring e) few (few_row (changes_of_effects rows) (symbol_of_event_at rows) e)) in
    few_as (changes_of_effects (effects_after_events (rows ++ row ∷ []) es)) ((n + declaring e) + count es) (n + (declaring e + count es)) (omega arith)
    (few_after (rows ++ row ∷ []) es (n + declaring e) here)

-- A list of events makes no more symbols, and no more declarations, than it has events that may declare something.
pub few_by : (events : List DeclarationEvent) → IsFew (changes_of_events events) (count events)
unfolding changes_of_effects
few_by events = few_as (changes_of_events events) (0 + count events) (count events) (omega arith)
    (few_after [] events 0 (record { symbols = omega arith; declarations = omega arith }))

pub symbols_by : (events : List DeclarationEvent) → length (parents_after_changes (changes_of_events events)) ≤ count events
unfolding parents_after_changes
symbols_by events = (few_by events).symbols
