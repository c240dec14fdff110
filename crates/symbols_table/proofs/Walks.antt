-- Contracts of calls that apply events one after another.
use Rattle.std.proofs.Common.{◌≡◌, ℕ, suc, ◌+◌, ◌<◌, ◌≤◌, add-one, take, drop, get_or, List, [], ◌∷◌}
use Rattle.std.proofs.Common.{◌++◌, length, Option, None, Some, refl, sym, ◌∙◌, ap, arith, append_assoc}
use Rattle.std.specs.Prelude.{Result, Ok, Err, IsErrAnd}
use Rattle.std.proofs.Math.Seq.{take-suc}
use Rattle.std.proofs.lemmas.List.{append-nil, length-append, take-append-drop}
use Rattle.symbols_ast.specs.declared.ids.SymbolId.{SymbolId}
use Rattle.symbols_table.specs.declared.builder.table.ModuleBuilder.{ModuleBuilder}
use Rattle.symbols_table.specs.declared.builder.table.BuildFault.{BuildFault}
use Rattle.symbols_table.specs.declared.builder.table.BuildFault.TheVariants.{TooManySymbols}
use Rattle.symbols_table.specs.DeclViews.{Declaration}
use Rattle.symbols_table.specs.Changes.{Change, adds_symbol, adds_decl, parents_after_changes}
use Rattle.symbols_table.specs.Events.{DeclarationEvent, EventEffect, begins, new_symbol_effect, effect_of_event, changes_of_effects, symbol_of_event_at}
use Rattle.symbols_table.specs.Events.{effects_after_events}
use Rattle.symbols_table.specs.EventsByHolderAndStart.{EventsByHolderAndStart, no_events_by_holder_and_start, events_if_some, events_of_each}
use Rattle.symbols_table.specs.inner.Tables.{HasAppliedChanges, HasValidTable, AppliesEffects, AppliesEventsUnderHolder}
use Rattle.symbols_table.specs.inner.ModuleBuilderSteps.{LeavesValidTableWithNoFewerSymbols}
use Rattle.symbols_table.specs.declared.builder.table.Setting.{Setting}
use Rattle.symbols_table.proofs.OneChange.{empty_table}
use Rattle.symbols_table.proofs.Rows.{new_reads, changes_of_effects-push, effects_after_events-step, effects_after_events-nil}
use Rattle.symbols_table.proofs.Rows.{effects_after_events-append, length-effects_after_events, symbol_at_after, parents_after_grow}

-- The events of a part, followed by those of another under the same holder.
abbrev pub followed_by : EventsByHolderAndStart → EventsByHolderAndStart → EventsByHolderAndStart
followed_by first next holder start = first holder start ++ next holder (start + length (first holder start))

-- No event leaves the table unchanged.
pub none_read : (b : ModuleBuilder) (rows : List EventEffect) → HasAppliedChanges b (changes_of_effects rows)
    → HasAppliedChanges b (changes_of_effects (effects_after_events rows []))
none_read b rows is = rw (effects_after_events-nil rows) is

-- An absent part has no events.
pub on_none : {A : Type 0} (b : ModuleBuilder) (rows : List EventEffect) (found : Option A) (walk : A → EventsByHolderAndStart) (h start : ℕ) → found ≡ None
    → HasAppliedChanges b (changes_of_effects rows) → HasAppliedChanges b (changes_of_effects (effects_after_events rows (events_if_some found walk h start)))
on_none {A} b rows found walk h start e is = rw e (none_read b rows is)

-- The events of a present part.
pub on_some : {A : Type 0} (b : ModuleBuilder) (rows : List EventEffect) (found : Option A) (x : A) (walk : A → EventsByHolderAndStart) (h start : ℕ) → found
    ≡ Some x
    → HasAppliedChanges b (changes_of_effects (effects_after_events rows (walk x h start)))
    → HasAppliedChanges b (changes_of_effects (effects_after_events rows (events_if_some found walk h start)))
on_some b rows found x walk h start e is = rw e is

-- A call on a present part applies its events.
pub on_reads : {A R : Type 0} (r : Result R BuildFault) (limit : ℕ) (new : ModuleBuilder) (rows : List EventEffect) (found : Option A) (x : A) (walk : A
    → EventsByHolderAndStart) (h start : ℕ) → found ≡ Some x → AppliesEffects r limit new (effects_after_events rows (walk x h start))
    → AppliesEffects r limit new (effects_after_events rows (events_if_some found walk h start))
on_reads r limit new rows found x walk h start e is = rw e is

pub one_read : (b : ModuleBuilder) (rows : List EventEffect) (row : EventEffect) → HasAppliedChanges b (changes_of_effects rows ++ row.changes)
    → HasAppliedChanges b (changes_of_effects (rows ++ row ∷ []))
one_read b rows row is = rw (changes_of_effects-push rows row) is

-- A later call continues from the builder of an earlier one.
pub reads_from : {A : Type 0} (r : Result A BuildFault) (limit between : ℕ) (new : ModuleBuilder) (all rest : List EventEffect) → between ≡ limit → all ≡ rest
    → AppliesEffects r between new rest → AppliesEffects r limit new all
reads_from (Ok x) limit between new all rest e same is = rw same is
reads_from (Err fault) limit between new all rest e same is = λ many. rw (same, ← e) (is many)

-- A fault at the first of several events.
pub err_all : {A : Type 0} (r : Result A BuildFault) (limit : ℕ) (new : ModuleBuilder) (rows : List EventEffect) (event : DeclarationEvent) (row : EventEffect)
    (events : List
    DeclarationEvent) (fault : BuildFault) → effect_of_event (changes_of_effects rows) (symbol_of_event_at rows) event ≡ row → IsErrAnd r (λ e. e ≡ fault)
    → (fault ≡ TooManySymbols → limit < length (parents_after_changes (changes_of_effects rows ++ row.changes)))
    → AppliesEffects r limit new (effects_after_events rows (event ∷ events))
err_all (Ok x) limit new rows event row events fault is h full = absurd h
err_all (Err e) limit new rows event row events fault is h full = λ many.
    let here : limit < length (parents_after_changes (changes_of_effects rows ++ row.changes)) = full (sym h ∙ many) in
    let there : limit < length (parents_after_changes (changes_of_effects (rows ++ row ∷ []))) = rw (changes_of_effects-push rows row) here in
    rw (effects_after_events-step rows event events row is) (omega (arith, there, parents_after_grow (rows ++ row ∷ []) events))

-- The events of a concatenated list are those of its parts in order.
pub each-append : {A : Type 0} (walk : A → EventsByHolderAndStart) (h start : ℕ) (xs ys : List A)
    → events_of_each walk (xs ++ ys) h start ≡ followed_by (events_of_each walk xs) (events_of_each walk ys) h start
each-append walk h start [] ys = let e : start + 0 ≡ start = omega arith in rw e refl
each-append walk h start (x ∷ xs) ys =
    let first = walk x h start in
    let after = events_of_each walk xs h (start + length first) in
    let rest = each-append walk h (start + length first) xs ys in
    let e : (start + length first) + length after ≡ start + length (first ++ after) = omega (arith, length-append first after) in
    ap (λ es. first ++ es) rest ∙ rw e (sym (append_assoc first after (events_of_each walk ys h (start + length (first ++ after)))))

pub each-more : {A : Type 0} (walk : A → EventsByHolderAndStart) (h start : ℕ) (xs : List A) (x : A)
    → events_of_each walk (xs ++ x ∷ []) h start ≡ followed_by (events_of_each walk xs) (walk x) h start
each-more walk h start xs x = each-append walk h start xs (x ∷ [])
    ∙ ap (λ (es : List DeclarationEvent). events_of_each walk xs h start ++ es) (append-nil (walk x h (start + length (events_of_each walk xs h start))))

-- The first i + 1 items are the first i and item i.
pub take_item : (items : List ℕ) (i n : ℕ) → i < length items → n ≡ get_or items i n → take (i + 1) items ≡ take i items ++ n ∷ []
take_item items i n below is = rw (add-one, take-suc items i n below) (ap (λ m. take i items ++ m ∷ []) (sym is))

pub split_item : (items : List ℕ) (i n : ℕ) → i < length items → n ≡ get_or items i n → (take i items ++ n ∷ []) ++ drop (suc i) items ≡ items
split_item items i n below is =
    ap (λ m. (take i items ++ m ∷ []) ++ drop (suc i) items) is ∙ ap (λ (xs : List ℕ). xs ++ drop (suc i) items) (sym (take-suc items i n below))
    ∙ take-append-drop (suc i) items

-- A builder that has applied the events of a part under a holder.
pub record IsWalked (begun now : ModuleBuilder) (walk : EventsByHolderAndStart) (holder : SymbolId) : Type 0 where
  pub filled : HasValidTable now
  pub setting : now.setting ≡ begun.setting
  pub longer : length begun.symbols.items ≤ length now.symbols.items
  pub table : (rows : List EventEffect) (h : ℕ) → HasAppliedChanges begun (changes_of_effects rows) → symbol_of_event_at rows h ≡ Some holder
      → HasAppliedChanges now (changes_of_effects (effects_after_events rows (walk h (length rows))))

rows_then : (rows : List EventEffect) (first next : EventsByHolderAndStart) (h : ℕ)
    → effects_after_events rows (followed_by first next h (length rows))
    ≡ effects_after_events (effects_after_events rows (first h (length rows))) (next h (length (effects_after_events rows (first h (length rows)))))
rows_then rows first next h =
    rw (
      effects_after_events-append rows (first h (length rows)) (next h (length rows + length (first h (length rows)))),
      length-effects_after_events rows
          (first h (length rows)),
    )
    refl

pub walked_none : (b : ModuleBuilder) (holder : SymbolId) → HasValidTable b → IsWalked b b no_events_by_holder_and_start holder
walked_none b holder filled = record { filled = filled; setting = refl; longer = omega arith; table = λ rows h is at. rw (effects_after_events-nil rows) is }

pub walked_then : {A : Type 0} {begun now : ModuleBuilder} {first : EventsByHolderAndStart} {holder : SymbolId} (w : IsWalked begun now first holder)
    (next : ModuleBuilder) (then : EventsByHolderAndStart) (x : A)
    → LeavesValidTableWithNoFewerSymbols (Ok x) now next → AppliesEventsUnderHolder (Ok x) now next then holder → IsWalked begun next (followed_by first then)
    holder
walked_then {A} {begun} {now} {first} {holder} w next then x keeps reads = record {
  filled = keeps.filled;
  setting = keeps.setting ∙ w.setting;
  longer = omega (arith, w.longer, keeps.longer);
  table = λ rows h is at.
      let so_far = effects_after_events rows (first h (length rows)) in
      rw (rows_then rows first then h) (reads so_far h (w.table rows h is at) (symbol_at_after rows (first h (length rows)) h holder at));
}

-- The last call of a part completes it.
pub walked_last : {A : Type 0} {begun now : ModuleBuilder} {first : EventsByHolderAndStart} {holder : SymbolId} (w : IsWalked begun now first holder)
    (r : Result A
    BuildFault) (next : ModuleBuilder) (then : EventsByHolderAndStart) → AppliesEventsUnderHolder r now next then holder
    → AppliesEventsUnderHolder r begun next (followed_by first then) holder
walked_last {A} {begun} {now} {first} {holder} w (Ok x) next then reads rows h is at =
    rw (rows_then rows first then h) (reads (effects_after_events rows (first h (length rows))) h (w.table rows h is at)
    (symbol_at_after rows (first h (length rows)) h holder at))
walked_last {A} {begun} {now} {first} {holder} w (Err e) next then reads rows h is at = λ many.
    rw (rows_then rows first then h, ← ap (λ (s : Setting). s.limit) w.setting)
    (reads (effects_after_events rows (first h (length rows))) h (w.table rows h is at) (symbol_at_after rows (first h (length rows)) h holder at) many)

-- A fault at a call that would be followed by others.
pub walked_fault : (A : Type 0) {B : Type 0} {begun now : ModuleBuilder} {first : EventsByHolderAndStart} {holder : SymbolId}
    (w : IsWalked begun now first holder)
    (next new : ModuleBuilder) (then rest : EventsByHolderAndStart) (fault : BuildFault) (r : Result B BuildFault)
    → IsErrAnd r (λ e. e ≡ fault) → AppliesEventsUnderHolder {A = A} (Err fault) now next then holder
    → AppliesEventsUnderHolder r begun new (followed_by (followed_by first then) rest) holder
walked_fault A {B} {begun} {now} {first} {holder} w next new then rest fault (Ok x) h reads rows index is at = absurd h
walked_fault A {B} {begun} {now} {first} {holder} w next new then rest fault (Err e) h reads rows index is at = λ many.
    let both = followed_by first then in
    let here : begun.setting.limit < length (parents_after_changes (changes_of_effects (effects_after_events rows (both index (length rows))))) =
    walked_last {A = A} w (Err fault) next then reads rows index is at (sym h ∙ many) in
    let after = rest index (length rows + length (both index (length rows))) in
    rw (effects_after_events-append rows (both index (length rows)) after)
    (omega (arith, here, parents_after_grow (effects_after_events rows (both index (length rows))) after))

-- A call that applies events also applies an equal function of events.
pub read_as : {A : Type 0} (r : Result A BuildFault) (old new : ModuleBuilder) (walk : EventsByHolderAndStart) (holder : SymbolId)
    (other : EventsByHolderAndStart)
    → ((h start : ℕ) → other h start ≡ walk h start) → AppliesEventsUnderHolder r old new walk holder → AppliesEventsUnderHolder r old new other holder
read_as r old new walk holder other same reads rows h is at = rw (same h (length rows)) (reads rows h is at)

pub walked_as : {begun now : ModuleBuilder} (walk : EventsByHolderAndStart) {holder : SymbolId} (other : EventsByHolderAndStart)
    → ((h start : ℕ) → other h start ≡ walk h start)
    → IsWalked begun now walk holder → IsWalked begun now other holder
walked_as {begun} {now} walk {holder} other same w =
    record { filled = w.filled; setting = w.setting; longer = w.longer; table = λ rows h is at. rw (same h (length rows)) (w.table rows h is at) }

-- ---- a loop over a list of parts

pub each_none : {A : Type 0} (b : ModuleBuilder) (walk : A → EventsByHolderAndStart) (holder : SymbolId) → HasValidTable b
    → IsWalked b b (events_of_each walk []) holder
each_none b walk holder filled = walked_none b holder filled

pub each_next : {A : Type 0} {begun now : ModuleBuilder} (walk : ℕ
    → EventsByHolderAndStart) (items : List ℕ) {holder : SymbolId} (w : IsWalked begun now
    (events_of_each walk items) holder) (next : ModuleBuilder) (n : ℕ) (x : A)
    → LeavesValidTableWithNoFewerSymbols (Ok x) now next → AppliesEventsUnderHolder (Ok x) now next (walk n) holder
    → IsWalked begun next (events_of_each walk (items ++ n ∷ [])) holder
each_next {A} {begun} {now} walk items {holder} w next n x keeps reads =
    walked_as (followed_by (events_of_each walk items) (walk n)) (events_of_each walk (items ++ n ∷ [])) (λ h start. each-more walk h start items n)
    (walked_then w next (walk n) x keeps reads)

pub each_fault : (A : Type 0) {B : Type 0} {begun now : ModuleBuilder} (walk : ℕ → EventsByHolderAndStart) (items : List ℕ) {holder : SymbolId}
    (w : IsWalked begun now
    (events_of_each walk items) holder) (next new : ModuleBuilder) (n : ℕ) (rest : List ℕ) (fault : BuildFault) (r : Result B BuildFault)
    → IsErrAnd r (λ e. e ≡ fault) → AppliesEventsUnderHolder {A = A} (Err fault) now next (walk n) holder
    → AppliesEventsUnderHolder r begun new (events_of_each walk ((items ++ n ∷ []) ++ rest)) holder
each_fault A {B} {begun} {now} walk items {holder} w next new n rest fault r h reads =
    let same : (h start : ℕ) → events_of_each walk ((items ++ n ∷ []) ++ rest) h start
    ≡ followed_by (followed_by (events_of_each walk items) (walk n)) (events_of_each walk rest) h start =
    λ h start. each-append walk h start (items ++ n ∷ []) rest
    ∙ ap (λ (es : List DeclarationEvent). es ++ events_of_each walk rest h (start + length es)) (each-more walk h start items n) in
    read_as r begun new (followed_by (followed_by (events_of_each walk items) (walk n)) (events_of_each walk rest)) holder
    (events_of_each walk ((items ++ n ∷ []) ++ rest)) same (walked_fault A w next new (walk n) (events_of_each walk rest) fault r h reads)

-- The row of the module.
abbrev pub first_row : Declaration → EventEffect
first_row decl = new_symbol_effect [] None decl (λ _. [])

pub first_step : (decl : Declaration) (events : List DeclarationEvent)
    → effects_after_events [] (begins decl ∷ events) ≡ effects_after_events (first_row decl ∷ []) events
unfolding changes_of_effects
first_step decl events = effects_after_events-step [] (begins decl) events (first_row decl) refl

pub begun_read : (b0 b1 : ModuleBuilder) (decl : Declaration) (s : SymbolId) → b0.symbols.items ≡ [] → b0.ids.entries ≡ [] → b0.child_names.entries ≡ []
    → b0.member_names.entries ≡ [] → b0.stars.items ≡ [] → s.0 ≡ length b0.symbols.items
    → ((changes : List Change) → HasAppliedChanges b0 changes → HasAppliedChanges b1 ((changes ++ adds_symbol None ∷ []) ++ adds_decl s decl ∷ []))
    → HasAppliedChanges b1 (changes_of_effects (first_row decl ∷ [])) × (symbol_of_event_at (first_row decl ∷ []) 0 ≡ Some s)
unfolding changes_of_effects symbol_of_event_at parents_after_changes
begun_read b0 b1 decl s no_symbols no_ids no_children no_members no_stars number made =
    let empty = empty_table b0 no_symbols no_ids no_children no_members no_stars in
    let read = new_reads b1 [] None decl (λ _. []) s (number ∙ ap length no_symbols) (made [] empty) in
    (read.1, read.0)

first_counts : (decl : Declaration) → 1 ≤ length (parents_after_changes (changes_of_effects (first_row decl ∷ [])))
unfolding changes_of_effects parents_after_changes
first_counts decl = omega arith

-- With limit 0 not even the module's symbol fits.
pub begun_fault : (decl : Declaration) (events : List DeclarationEvent) (limit count : ℕ) → count ≡ 0 → limit ≤ count
    → limit < length (parents_after_changes (changes_of_effects (effects_after_events [] (begins decl ∷ events))))
begun_fault decl events limit count none le =
    let one : 1 ≤ length (parents_after_changes (changes_of_effects (first_row decl ∷ []))) = first_counts decl in
    rw (first_step decl events) (omega (arith, one, parents_after_grow (first_row decl ∷ []) events))
