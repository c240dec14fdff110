-- The changes of events name only symbols that the events make.
use Rattle.std.proofs.Common.{◌≡◌, ℕ, zero, suc, ◌+◌, ◌<◌, ◌≤◌, Bool, true, false, if◌then◌else◌, get_or, List}
use Rattle.std.proofs.Common.{[], ◌∷◌, ◌++◌, length, map, All, Option, None, Some, refl, sym, subst, arith}
use Rattle.std.specs.Prelude.{IfSome}
use Rattle.std.specs.List.{filter_map}
use Rattle.std.specs.Option.{option_or}
use Rattle.std.proofs.lemmas.List.{map-append}
use Rattle.std.proofs.lemmas.List.Elements.{All-nil, All-cons, All-append, All-weaker}
use Rattle.symbols_ast.specs.declared.ids.SymbolId.{SymbolId}
use Rattle.symbols_ast.specs.Ids.{IdView}
use Rattle.symbols_table.specs.DeclViews.{Declaration, is_definition, decl_name}
use Rattle.symbols_table.specs.Changes.{Change, adds_symbol, adds_decl, exports, adds_child, adds_member, maps, re_exports_all, parent_of_symbol_made_by}
use Rattle.symbols_table.specs.Changes.{parents_after_changes, symbol_of_ident_after_changes, exported_symbol_after_changes, first_child_named}
use Rattle.symbols_table.specs.Changes.{has_function_decl}
use Rattle.symbols_table.specs.Events.{DeclarationEvent, begins, declare, declare_alias, declare_unnamed, default, binds, member, expando, export, child, star}
use Rattle.symbols_table.specs.Events.{EventEffect, empty_effect, effect_of_changes, effect_yielding_symbol, next_symbol_id, new_symbol_effect}
use Rattle.symbols_table.specs.Events.{effect_of_redeclaring_or, effect_of_existing_symbol_or, new_member_changes, find_member_symbol, member_effect}
use Rattle.symbols_table.specs.Events.{declare_effect, declare_alias_unless_bound_effect, default_export_effect, default_export_name, expando_effect}
use Rattle.symbols_table.specs.Events.{effect_if_symbol, effect_of_event, changes_of_effects, symbol_of_event_at, effects_after_events, changes_of_events}
use Rattle.symbols_table.specs.inner.Tables.{NamesSymbolsBelow}
use Rattle.symbols_table.proofs.Inside.{Below, mapped_inside, exported_inside}
use Rattle.symbols_table.proofs.LocalNames.{child_inside, member_inside}
use Rattle.symbols_table.proofs.Rows.{changes_of_effects-push, length-parents_after-append}

-- ---- more symbols

below_up : (n k : ℕ) (found : Option SymbolId) → n ≤ k → IfSome found (Below n) → IfSome found (Below k)
below_up n k None le h = tt
below_up n k (Some s) le h = omega arith

fits_up : (n k : ℕ) → n ≤ k → (change : Change) → NamesSymbolsBelow n change → NamesSymbolsBelow k change
fits_up n k le (adds_symbol _) h = tt
fits_up n k le (adds_decl s _) h = omega arith
fits_up n k le (exports s _ x) h = (omega (arith, h.0), omega (arith, h.1))
fits_up n k le (adds_child s x) h = (omega (arith, h.0), omega (arith, h.1))
fits_up n k le (adds_member s x) h = (omega (arith, h.0), omega (arith, h.1))
fits_up n k le (maps _ x) h = omega arith
fits_up n k le (re_exports_all _) h = tt

-- ---- the row of an event, by the number of symbols before it

all_one : (k : ℕ) (change : Change) → NamesSymbolsBelow k change → All (NamesSymbolsBelow k) (change ∷ [])
all_one k change h = All-cons (NamesSymbolsBelow k) change [] h (All-nil (NamesSymbolsBelow k))

-- The row's changes and its symbol are below the count of symbols before it and those that it makes.
abbrev pub RowFits : ℕ → EventEffect → Type 0
RowFits n row = (k : ℕ) → n + length (filter_map parent_of_symbol_made_by row.changes) ≤ k → All (NamesSymbolsBelow k) row.changes × IfSome row.symbol (Below k)

row_nothing : (n : ℕ) → RowFits n empty_effect
row_nothing n = λ k le. (All-nil (NamesSymbolsBelow k), tt)

row_found : (n : ℕ) (found : Option SymbolId) (decl : Declaration) (row : EventEffect) → IfSome found (Below n) → RowFits n row
    → RowFits n (effect_of_redeclaring_or found decl row)
row_found n None decl row inside fits = fits
row_found n (Some s) decl row inside fits = λ k le. (all_one k (adds_decl s decl) (omega arith), omega arith)

row_known : (n : ℕ) (found : Option SymbolId) (row : EventEffect) → IfSome found (Below n) → RowFits n row → RowFits n (effect_of_existing_symbol_or found row)
row_known n None row inside fits = fits
row_known n (Some s) row inside fits = λ k le. (All-nil (NamesSymbolsBelow k), omega arith)

row_with : (n : ℕ) (found : Option SymbolId) (row : SymbolId → EventEffect) → IfSome found (Below n) → ((s : SymbolId) → s.0 < n → RowFits n (row s))
    → RowFits n (effect_if_symbol found row)
row_with n None row inside fits = row_nothing n
row_with n (Some s) row inside fits = fits s inside

option_or_below : (n : ℕ) (first second : Option SymbolId) → IfSome first (Below n) → IfSome second (Below n) → IfSome (option_or first second) (Below n)
option_or_below n None second h k = k
option_or_below n (Some s) second h k = h

default_fits : (k : ℕ) (holder s : SymbolId) (is_child : Bool) → holder.0 < k → s.0 < k
    → All (NamesSymbolsBelow k) (exports holder default_export_name s ∷ (if is_child then adds_child holder s ∷ [] else []))
default_fits k holder s true h l = All-cons (NamesSymbolsBelow k) (exports holder default_export_name s) (adds_child holder s ∷ []) (h, l)
    (all_one k (adds_child holder s) (h, l))
default_fits k holder s false h l = all_one k (exports holder default_export_name s) (h, l)

member_fits : (k : ℕ) (holder : SymbolId) (is_static : Bool) (name : Option (List ℕ)) (s : SymbolId) → holder.0 < k → s.0 < k
    → All (NamesSymbolsBelow k) (new_member_changes holder is_static name s)
member_fits k holder true None s h l = all_one k (adds_child holder s) (h, l)
member_fits k holder true (Some name) s h l = All-cons (NamesSymbolsBelow k) (exports holder name s) (adds_child holder s ∷ []) (h, l)
    (all_one k (adds_child holder s) (h, l))
member_fits k holder false name s h l = all_one k (adds_member holder s) (h, l)

module _ (before : List Change) (n : ℕ) (is : n ≡ length (parents_after_changes before)) (sound : All (NamesSymbolsBelow n) before) where
  row_new : (parent : Option SymbolId) (decl : Declaration) (more : SymbolId → List Change)
      → ((k : ℕ) (s : SymbolId) → n < k → s.0 < k → All (NamesSymbolsBelow k) (more s))
      → RowFits n (new_symbol_effect before parent decl more)
  row_new parent decl more fits = λ k le.
      let s = next_symbol_id before in
      let room : n < k = omega arith in
      let inside : s.0 < k = omega (arith, is) in (
        All-cons (NamesSymbolsBelow k) (adds_symbol parent) (adds_decl s decl ∷ more s) tt
            (All-cons (NamesSymbolsBelow k) (adds_decl s decl) (more s) inside (fits k s room inside)),
        inside,
      )

  row_default : (holder : SymbolId) (decl : Declaration) → holder.0 < n → RowFits n (default_export_effect before holder decl)
  row_default holder decl h =
      let more : SymbolId → List Change = λ s. exports holder default_export_name s ∷ (if is_definition decl.kind then adds_child holder s ∷ [] else []) in
      row_found n (exported_symbol_after_changes before holder default_export_name) decl (new_symbol_effect before (Some holder) decl more)
      (exported_inside n before holder default_export_name sound)
      (row_new (Some holder) decl more (λ k s room inside. default_fits k holder s (is_definition decl.kind) (omega arith) inside))

  found_below : (holder : SymbolId) (is_static : Bool) (name : Option (List ℕ)) → IfSome (find_member_symbol before holder is_static name) (Below n)
  found_below holder is_static None = tt
  found_below holder true (Some name) = option_or_below n (exported_symbol_after_changes before holder name) (first_child_named before holder name)
      (exported_inside n before holder name sound) (child_inside n before holder name sound)
  found_below holder false (Some name) = member_inside n before holder name sound

  row_member : (holder : SymbolId) (decl : Declaration) (is_static : Bool) → holder.0 < n → RowFits n (member_effect before holder decl is_static)
  row_member holder decl is_static h =
      let name = decl_name decl in
      let more : SymbolId → List Change = new_member_changes holder is_static name in
      row_found n (find_member_symbol before holder is_static name) decl (new_symbol_effect before (Some holder) decl more) (found_below holder is_static name)
      (row_new (Some holder) decl more (λ k s room inside. member_fits k holder is_static name s (omega arith) inside))

  row_expando : (found : Option SymbolId) (decl : Declaration) → IfSome found (Below n) → RowFits n (expando_effect before found decl)
  row_expando None decl h = row_nothing n
  row_expando (Some s) decl h = by (has_function_decl before s)
    where
      by : (is_function : Bool) → RowFits n (if is_function then member_effect before s decl true else empty_effect)
      by true = row_member s decl true h
      by false = row_nothing n

  row_mapped : (holder : SymbolId) (id : IdView) (decl : Declaration) → RowFits n (new_symbol_effect before (Some holder) decl (λ s. maps id s ∷ []))
  row_mapped holder id decl = row_new (Some holder) decl (λ s. maps id s ∷ []) (λ k s room inside. all_one k (maps id s) inside)

  row_fits : (at : ℕ → Option SymbolId) → ((index : ℕ) → IfSome (at index) (Below n)) → (event : DeclarationEvent) → RowFits n (effect_of_event before at event)
  row_fits at inside (begins decl) = row_new None decl (λ _. []) (λ k s room below. All-nil (NamesSymbolsBelow k))
  row_fits at inside (declare holder id decl) =
      row_with n (at holder) (λ h. declare_effect before h id decl) (inside holder) (λ h l. row_found n (symbol_of_ident_after_changes before id) decl
      (new_symbol_effect before (Some h) decl (λ s. maps id s ∷ [])) (mapped_inside n before id sound) (row_mapped h id decl))
  row_fits at inside (declare_alias holder id decl) =
      row_with n (at holder) (λ h. declare_alias_unless_bound_effect before h id decl) (inside holder) (λ h l.
      row_known n (symbol_of_ident_after_changes before id) (new_symbol_effect before (Some h) decl (λ s. maps id s ∷ [])) (mapped_inside n before id sound)
      (row_mapped h id decl))
  row_fits at inside (declare_unnamed holder decl) =
      row_with n (at holder) (λ h. new_symbol_effect before (Some h) decl (λ _. [])) (inside holder)
      (λ h l. row_new (Some h) decl (λ _. []) (λ k s room below. All-nil (NamesSymbolsBelow k)))
  row_fits at inside (default holder decl) = row_with n (at holder) (λ h. default_export_effect before h decl) (inside holder) (λ h l. row_default h decl l)
  row_fits at inside (binds id of) = row_with n (at of) (λ s. effect_yielding_symbol s (maps id s ∷ [])) (inside of)
      (λ s l k le. (all_one k (maps id s) (omega arith), omega arith))
  row_fits at inside (member holder decl is_static) =
      row_with n (at holder) (λ h. member_effect before h decl is_static) (inside holder) (λ h l. row_member h decl is_static l)
  row_fits at inside (expando id decl) = row_expando (symbol_of_ident_after_changes before id) decl (mapped_inside n before id sound)
  row_fits at inside (export holder name of) =
      row_with n (at holder) (λ h. effect_if_symbol (at of) (λ s. effect_of_changes (exports h name s ∷ []))) (inside holder) (λ h l.
      row_with n (at of) (λ s. effect_of_changes (exports h name s ∷ [])) (inside of)
      (λ s m k le. (all_one k (exports h name s) (omega arith, omega arith), tt)))
  row_fits at inside (child holder of) =
      row_with n (at holder) (λ h. effect_if_symbol (at of) (λ s. effect_of_changes (adds_child h s ∷ []))) (inside holder) (λ h l.
      row_with n (at of) (λ s. effect_of_changes (adds_child h s ∷ [])) (inside of) (λ s m k le. (all_one k (adds_child h s) (omega arith, omega arith), tt)))
  row_fits at inside (star node) = λ k le. (all_one k (re_exports_all node) tt, tt)

-- ---- all rows

abbrev symbols : List EventEffect → ℕ
symbols rows = length (parents_after_changes (changes_of_effects rows))

record AreSound (rows : List EventEffect) : Type 0 where
  fits : All (NamesSymbolsBelow (symbols rows)) (changes_of_effects rows)
  inside : (index : ℕ) → IfSome (symbol_of_event_at rows index) (Below (symbols rows))

one_more : (k : ℕ) (borrowed_symbol : List (Option SymbolId)) (x : Option SymbolId) → ((index : ℕ) → IfSome (get_or borrowed_symbol index None) (Below k))
    → IfSome x (Below k) → (index : ℕ) → IfSome (get_or (borrowed_symbol ++ x ∷ []) index None) (Below k)
one_more k [] x before here zero = here
one_more k [] x before here (suc index) = tt
one_more k (y ∷ ys) x before here zero = before zero
one_more k (y ∷ ys) x before here (suc index) = one_more k ys x (λ p. before (suc p)) here index

next_inside : (k : ℕ) (rows : List EventEffect) (row : EventEffect) → ((index : ℕ) → IfSome (symbol_of_event_at rows index) (Below k))
    → IfSome row.symbol (Below k) → (index : ℕ)
    → IfSome (symbol_of_event_at (rows ++ row ∷ []) index) (Below k)
unfolding symbol_of_event_at
next_inside k rows row before here index =
    rw (map-append (λ (r : EventEffect). r.symbol) rows (row ∷ [])) (one_more k (map (λ (r : EventEffect). r.symbol) rows) row.symbol before here index)

next_sound : (rows : List EventEffect) (event : DeclarationEvent) → AreSound rows
    → AreSound (rows ++ effect_of_event (changes_of_effects rows) (symbol_of_event_at rows) event ∷ [])
next_sound rows event sound =
    let row = effect_of_event (changes_of_effects rows) (symbol_of_event_at rows) event in
    let n = symbols rows in
    let k = symbols (rows ++ row ∷ []) in
    let more : k ≡ n + length (filter_map parent_of_symbol_made_by row.changes) =
    rw (changes_of_effects-push rows row) (length-parents_after-append (changes_of_effects rows) row.changes) in
    let le : n ≤ k = omega arith in
    let new = row_fits (changes_of_effects rows) n refl sound.fits (symbol_of_event_at rows) sound.inside event k (omega arith) in
    let old = All-weaker (NamesSymbolsBelow n) (NamesSymbolsBelow k) (fits_up n k le) (changes_of_effects rows) sound.fits in
    let all : All (NamesSymbolsBelow k) (changes_of_effects rows ++ row.changes) =
    All-append (NamesSymbolsBelow k) (changes_of_effects rows) row.changes old new.0 in
    record {
      fits = subst (All (NamesSymbolsBelow k)) (sym (changes_of_effects-push rows row)) all;
      inside = next_inside k rows row (λ index. below_up n k (symbol_of_event_at rows index) le (sound.inside index)) new.1;
    }

all_sound : (rows : List EventEffect) (events : List DeclarationEvent) → AreSound rows → AreSound (effects_after_events rows events)
unfolding effects_after_events
all_sound rows [] sound = sound
all_sound rows (e ∷ es) sound = all_sound (rows ++ effect_of_event (changes_of_effects rows) (symbol_of_event_at rows) e ∷ []) es (next_sound rows e sound)

none_sound : AreSound []
unfolding changes_of_effects symbol_of_event_at
none_sound = record { fits = All-nil (NamesSymbolsBelow (symbols [])); inside = λ index. tt }

-- The changes of events name only symbols below the number that they make.
pub sound_by : (events : List DeclarationEvent) → All (NamesSymbolsBelow (length (parents_after_changes (changes_of_events events)))) (changes_of_events events)
sound_by events = (all_sound [] events none_sound).fits
