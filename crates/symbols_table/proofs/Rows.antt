-- Lemmas about rows, and about lists of rows.
use Rattle.std.proofs.Common.{◌≡◌, ℕ, ◌+◌, ◌<◌, ◌≤◌, inl, inr, List, [], ◌∷◌, ◌++◌, length, map}
use Rattle.std.proofs.Common.{Option, None, Some, refl, sym, ◌∙◌, ap, subst, arith, append_assoc}
use Rattle.std.specs.Prelude.{Result, Ok, Err, IsErrAnd}
use Rattle.std.specs.List.{filter_map}
use Rattle.std.proofs.lemmas.List.{append-nil, length-append, length_push, length-map, map-append, get_or_append_left, get_or_push, get_or_past}
use Rattle.std.proofs.lemmas.Bool.{cases_lt}
use Rattle.std.proofs.lemmas.List.Concat.{flat_map-append}
use Rattle.std.proofs.lemmas.List.Elements.{filter_map-append}
use Rattle.symbols_ast.specs.declared.ids.SymbolId.{SymbolId}
use Rattle.symbols_table.specs.declared.builder.table.ModuleBuilder.{ModuleBuilder}
use Rattle.symbols_table.specs.declared.builder.table.BuildFault.{BuildFault}
use Rattle.symbols_table.specs.declared.builder.table.BuildFault.TheVariants.{TooManySymbols}
use Rattle.symbols_table.specs.DeclViews.{Declaration}
use Rattle.symbols_table.specs.Changes.{Change, adds_symbol, adds_decl, parent_of_symbol_made_by, parents_after_changes}
use Rattle.symbols_table.specs.Events.{DeclarationEvent, EventEffect, new_symbol_effect, next_symbol_id, effect_of_event, changes_of_effects}
use Rattle.symbols_table.specs.Events.{symbol_of_event_at, effects_after_events}
use Rattle.symbols_table.specs.inner.Tables.{HasAppliedChanges, AppliesEffectAndReturnsSymbol}

pub length-parents_after-append : (before more : List Change)
    → length (parents_after_changes (before ++ more)) ≡ length (parents_after_changes before) + length (filter_map parent_of_symbol_made_by more)
unfolding parents_after_changes
length-parents_after-append before more =
    rw (filter_map-append parent_of_symbol_made_by before more)
    (length-append (filter_map parent_of_symbol_made_by before) (filter_map parent_of_symbol_made_by more))

-- At the limit, a row with a new symbol needs more symbols than the limit.
pub past_limit : (before : List Change) (parent : Option SymbolId) (decl : Declaration) (more : SymbolId → List Change) (limit count : ℕ)
    → count ≡ length (parents_after_changes before) → limit ≤ count
    → limit < length (parents_after_changes (before ++ (new_symbol_effect before parent decl more).changes))
past_limit before parent decl more limit count e le = rw (length-parents_after-append before (new_symbol_effect before parent decl more).changes)
    (omega (arith, e, le))

-- A builder with the new symbol has the changes of its row.
pub new_reads : (b : ModuleBuilder) (before : List Change) (parent : Option SymbolId) (decl : Declaration) (more : SymbolId → List Change) (s : SymbolId)
    → s.0 ≡ length (parents_after_changes before)
    → HasAppliedChanges b (((before ++ adds_symbol parent ∷ []) ++ adds_decl s decl ∷ []) ++ more s)
    → ((new_symbol_effect before parent decl more).symbol ≡ Some s) × HasAppliedChanges b (before ++ (new_symbol_effect before parent decl more).changes)
new_reads b before parent decl more s number is =
    let next : s ≡ next_symbol_id before = ap (λ (n : ℕ). let t : SymbolId = record { 0 = n } in t) number in
    let joined : HasAppliedChanges b (before ++ (adds_symbol parent ∷ adds_decl s decl ∷ more s)) =
    subst (HasAppliedChanges b) (append_assoc (before ++ adds_symbol parent ∷ []) (adds_decl s decl ∷ []) (more s)
    ∙ append_assoc before (adds_symbol parent ∷ []) (adds_decl s decl ∷ more s)) is in (
      ap (λ (t : SymbolId). Some t) (sym next),
      subst (λ (t : SymbolId). HasAppliedChanges b (before ++ (adds_symbol parent ∷ adds_decl t decl ∷ more t))) next
          joined,
    )

-- A fault that is passed up satisfies the contract of the call.
pub err_reads : {A : Type 0} (r : Result A BuildFault) (symbol : A
    → Option SymbolId) (limit : ℕ) (new : ModuleBuilder) (before : List Change) (row : EventEffect) (fault : BuildFault) → IsErrAnd r (λ e. e ≡ fault)
    → (fault ≡ TooManySymbols → limit < length (parents_after_changes (before ++ row.changes))) → AppliesEffectAndReturnsSymbol r symbol limit new before row
err_reads (Ok x) symbol limit new before row fault h full = absurd h
err_reads (Err e) symbol limit new before row fault h full = λ is. full (sym h ∙ is)

pub changes_of_effects-push : (rows : List EventEffect) (row : EventEffect) → changes_of_effects (rows ++ row ∷ []) ≡ changes_of_effects rows ++ row.changes
unfolding changes_of_effects
changes_of_effects-push rows row = flat_map-append (λ (r : EventEffect). r.changes) rows (row ∷ []) ∙ rw (append-nil row.changes) refl

pub symbol_of_event_at-push : (rows : List EventEffect) (row : EventEffect) → symbol_of_event_at (rows ++ row ∷ []) (length rows) ≡ row.symbol
unfolding symbol_of_event_at
symbol_of_event_at-push rows row = rw (map-append (λ (r : EventEffect). r.symbol) rows (row ∷ []))
    (get_or_push (map (λ (r : EventEffect). r.symbol) rows) row.symbol None (length rows) (length-map rows (λ (r : EventEffect). r.symbol)))

pub symbol_at_retained : (rows : List EventEffect) (row : EventEffect) (index : ℕ) (s : SymbolId) → symbol_of_event_at rows index ≡ Some s
    → symbol_of_event_at (rows ++ row ∷ []) index ≡ Some s
unfolding symbol_of_event_at
symbol_at_retained rows row index s at = elim (cases_lt index (length (map (λ (r : EventEffect). r.symbol) rows))) [
  | inl lt ↦ rw (map-append (λ (r : EventEffect). r.symbol) rows (row ∷ []))
      (get_or_append_left (map (λ (r : EventEffect). r.symbol) rows) (row.symbol ∷ []) None index lt
      ∙ at)
  | inr le ↦ absurd (none_some s (sym (get_or_past (map (λ (r : EventEffect). r.symbol) rows) index None le) ∙ at))
]
  where
    none_some : (x : SymbolId) → None ≡ Some x → ⊥
    none_some x e = cc

-- The rows after an event are those after its row.
pub effects_after_events-step : (rows : List EventEffect) (event : DeclarationEvent) (events : List DeclarationEvent) (row : EventEffect)
    → effect_of_event (changes_of_effects rows) (symbol_of_event_at rows) event ≡ row
    → effects_after_events rows (event ∷ events) ≡ effects_after_events (rows ++ row ∷ []) events
unfolding effects_after_events
effects_after_events-step rows event events row is = ap (λ (x : EventEffect). effects_after_events (rows ++ x ∷ []) events) is

pub effects_after_events-nil : (rows : List EventEffect) → effects_after_events rows [] ≡ rows
unfolding effects_after_events
effects_after_events-nil rows = refl

pub effects_after_events-append : (rows : List EventEffect) (es fs : List DeclarationEvent)
    → effects_after_events rows (es ++ fs) ≡ effects_after_events (effects_after_events rows es) fs
unfolding effects_after_events
effects_after_events-append rows [] fs = refl
effects_after_events-append rows (e ∷ es) fs = effects_after_events-append (rows ++ effect_of_event (changes_of_effects rows) (symbol_of_event_at rows) e ∷ [])
    es fs

pub length-effects_after_events : (rows : List EventEffect) (events : List DeclarationEvent)
    → length (effects_after_events rows events) ≡ length rows + length events
unfolding effects_after_events
length-effects_after_events rows [] = omega arith
length-effects_after_events rows (e ∷ es) =
    let row = effect_of_event (changes_of_effects rows) (symbol_of_event_at rows) e in
    let rest = length-effects_after_events (rows ++ row ∷ []) es in
    omega (arith, rest, length_push rows row)

pub symbol_at_after : (rows : List EventEffect) (events : List DeclarationEvent) (index : ℕ) (s : SymbolId) → symbol_of_event_at rows index ≡ Some s
    → symbol_of_event_at (effects_after_events rows events) index ≡ Some s
unfolding effects_after_events
symbol_at_after rows [] index s at = at
symbol_at_after rows (e ∷ es) index s at =
    symbol_at_after (rows ++ effect_of_event (changes_of_effects rows) (symbol_of_event_at rows) e ∷ []) es index s
    (symbol_at_retained rows (effect_of_event (changes_of_effects rows) (symbol_of_event_at rows) e) index s at)

-- Events never remove symbols.
pub parents_after_grow : (rows : List EventEffect) (events : List DeclarationEvent)
    → length (parents_after_changes (changes_of_effects rows)) ≤ length (parents_after_changes (changes_of_effects (effects_after_events rows events)))
unfolding effects_after_events
parents_after_grow rows [] = omega arith
parents_after_grow rows (e ∷ es) =
    let row = effect_of_event (changes_of_effects rows) (symbol_of_event_at rows) e in
    let rest = parents_after_grow (rows ++ row ∷ []) es in
    let here : length (parents_after_changes (changes_of_effects (rows ++ row ∷ []))) ≡ length (parents_after_changes (changes_of_effects rows)) + length
    (filter_map parent_of_symbol_made_by row.changes) =
    rw (changes_of_effects-push rows row) (length-parents_after-append (changes_of_effects rows) row.changes) in
    omega (arith, rest, here)
