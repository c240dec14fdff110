-- Contracts of calls that apply one event, or an event and those after it.
use Rattle.std.proofs.Common.{◌≡◌, ℕ, Bool, ◌+◌, ◌<◌, List, [], ◌∷◌, ◌++◌, length, Some, sym, ◌∙◌, ap, subst, arith}
use Rattle.std.specs.Prelude.{Result, Ok, Err, IsErrAnd}
use Rattle.std.proofs.lemmas.List.{length_push}
use Rattle.symbols_ast.specs.Ids.{IdView}
use Rattle.symbols_ast.specs.declared.ids.SymbolId.{SymbolId}
use Rattle.symbols_table.specs.declared.builder.table.ModuleBuilder.{ModuleBuilder}
use Rattle.symbols_table.specs.declared.builder.table.BuildFault.{BuildFault}
use Rattle.symbols_table.specs.Changes.{parents_after_changes}
use Rattle.symbols_table.specs.DeclViews.{Declaration}
use Rattle.symbols_table.specs.Events.{DeclarationEvent, EventEffect, member, member_effect, declare, declare_effect, effect_of_event, changes_of_effects}
use Rattle.symbols_table.specs.Events.{symbol_of_event_at, effects_after_events}
use Rattle.symbols_table.specs.EventsByHolderAndStart.{EventsByHolderAndStart}
use Rattle.symbols_table.specs.inner.Tables.{HasAppliedChanges, AppliesEffects, AppliesEventsUnderHolder}
use Rattle.symbols_table.proofs.Rows.{effects_after_events-step, effects_after_events-nil, effects_after_events-append, symbol_of_event_at-push}
use Rattle.symbols_table.proofs.Rows.{symbol_at_retained, symbol_at_after, parents_after_grow}
use Rattle.symbols_table.proofs.Walks.{one_read, reads_from}

module _ (rows : List EventEffect) (event : DeclarationEvent) (row : EventEffect)
    (reads : effect_of_event (changes_of_effects rows) (symbol_of_event_at rows) event ≡ row) where
  -- A builder with the changes of an event's row has applied the event.
  pub event_read : (new : ModuleBuilder) → HasAppliedChanges new (changes_of_effects rows ++ row.changes)
      → HasAppliedChanges new (changes_of_effects (effects_after_events rows (event ∷ [])))
  event_read new is = rw (effects_after_events-step rows event [] row reads, effects_after_events-nil (rows ++ row ∷ [])) (one_read new rows row is)

  -- A call applies one event, and a further call applies others under the same holder.
  pub event_then : {A : Type 0} (r : Result A BuildFault) (limit : ℕ) (now new : ModuleBuilder) (walk : EventsByHolderAndStart) (holder : SymbolId)
      (h start : ℕ)
      → now.setting.limit ≡ limit → start ≡ length rows + 1
      → HasAppliedChanges now (changes_of_effects rows ++ row.changes) → symbol_of_event_at rows h ≡ Some holder
      → AppliesEventsUnderHolder r now new walk holder
      → AppliesEffects r limit new (effects_after_events rows (event ∷ walk h start))
  event_then r limit now new walk holder h start same from is at next =
      let len : length (rows ++ row ∷ []) ≡ start = length_push rows row ∙ sym from in
      let read : AppliesEffects r now.setting.limit new (effects_after_events (rows ++ row ∷ []) (walk h (length (rows ++ row ∷ [])))) =
      next (rows ++ row ∷ []) h (one_read now rows row is) (symbol_at_retained rows row h holder at) in
      reads_from r limit now.setting.limit new (effects_after_events rows (event ∷ walk h start))
      (effects_after_events (rows ++ row ∷ []) (walk h (length (rows ++ row ∷ []))))
      same (effects_after_events-step rows event (walk h start) row reads ∙ ap (λ (n : ℕ). effects_after_events (rows ++ row ∷ []) (walk h n)) (sym len)) read

  -- The rows of an event, the events under its symbol and further events are computed in that order.
  pub around_rows : (inner rest : List DeclarationEvent)
      → effects_after_events rows (event ∷ (inner ++ rest)) ≡ effects_after_events (effects_after_events (rows ++ row ∷ []) inner) rest
  around_rows inner rest = effects_after_events-step rows event (inner ++ rest) row reads ∙ effects_after_events-append (rows ++ row ∷ []) inner rest

  pub inner_read : {A : Type 0} (r : Result A BuildFault) (now new : ModuleBuilder) (walk : EventsByHolderAndStart) (s : SymbolId)
      → HasAppliedChanges now (changes_of_effects rows ++ row.changes) → row.symbol ≡ Some s → AppliesEventsUnderHolder r now new walk s
      → AppliesEffects r now.setting.limit new (effects_after_events (rows ++ row ∷ []) (walk (length rows) (length rows + 1)))
  inner_read r now new walk s is of next =
      let P : ℕ → Type 0 = λ n. AppliesEffects r now.setting.limit new (effects_after_events (rows ++ row ∷ []) (walk (length rows) n)) in
      subst P (length_push rows row) (next (rows ++ row ∷ []) (length rows) (one_read now rows row is) (symbol_of_event_at-push rows row ∙ of))

  pub inner_fault : (A : Type 0) {B : Type 0} (r : Result B BuildFault) (limit : ℕ) (now next
      new : ModuleBuilder) (walk : EventsByHolderAndStart) (s : SymbolId) (rest : List DeclarationEvent) (fault : BuildFault) → now.setting.limit ≡ limit
      → HasAppliedChanges now (changes_of_effects rows ++ row.changes) → row.symbol ≡ Some s → IsErrAnd r (λ e. e ≡ fault)
      → AppliesEventsUnderHolder {A = A} (Err fault) now next walk s
      → AppliesEffects r limit new (effects_after_events rows (event ∷ (walk (length rows) (length rows + 1) ++ rest)))
  inner_fault A {B} (Ok x) limit now next new walk s rest fault same is of h reads_inner = absurd h
  inner_fault A {B} (Err e) limit now next new walk s rest fault same is of h reads_inner = λ many.
      let inner = walk (length rows) (length rows + 1) in
      let here : now.setting.limit < length (parents_after_changes (changes_of_effects (effects_after_events (rows ++ row ∷ []) inner))) =
      inner_read {A = A} (Err fault) now next walk s is of reads_inner (sym h ∙ many) in
      rw (around_rows inner rest) (omega (arith, same, here, parents_after_grow (effects_after_events (rows ++ row ∷ []) inner) rest))

  -- The holder's symbol and the event's symbol are unchanged by the events under the latter.
  pub holder_after : (inner : List DeclarationEvent) (h : ℕ) (holder : SymbolId) → symbol_of_event_at rows h ≡ Some holder
      → symbol_of_event_at (effects_after_events (rows ++ row ∷ []) inner) h ≡ Some holder
  holder_after inner h holder at = symbol_at_after (rows ++ row ∷ []) inner h holder (symbol_at_retained rows row h holder at)

  pub symbol_after_changes : (inner : List DeclarationEvent) (s : SymbolId) → row.symbol ≡ Some s
      → symbol_of_event_at (effects_after_events (rows ++ row ∷ []) inner) (length rows) ≡ Some s
  symbol_after_changes inner s of = symbol_at_after (rows ++ row ∷ []) inner (length rows) s (symbol_of_event_at-push rows row ∙ of)

-- The row of an event is the same for an equal declaration.
module _ (rows : List EventEffect) (h : ℕ) (holder : SymbolId) (at : symbol_of_event_at rows h ≡ Some holder) (d decl : Declaration) (same : d ≡ decl) where
  pub member_reads : (is_static : Bool) → effect_of_event (changes_of_effects rows) (symbol_of_event_at rows) (member h d is_static) ≡ member_effect
      (changes_of_effects rows) holder decl is_static
  member_reads is_static = rw at (ap (λ (x : Declaration). member_effect (changes_of_effects rows) holder x is_static) same)

  pub declare_reads : (id : IdView) → effect_of_event (changes_of_effects rows) (symbol_of_event_at rows) (declare h id d) ≡ declare_effect
      (changes_of_effects rows) holder id decl
  declare_reads id = rw at (ap (λ (x : Declaration). declare_effect (changes_of_effects rows) holder id x) same)
