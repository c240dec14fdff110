-- Lists of greater node numbers, and the contract of calls that return the symbol of the first event.
use Rattle.std.specs.Prelude.{◌≡◌, ℕ, ◌<◌, List, length, All, Some, Result, MatchResult}
use Rattle.symbols_ast.specs.declared.tree.arena.Node.{Node}
use Rattle.symbols_ast.specs.declared.ids.SymbolId.{SymbolId}
use Rattle.symbols_table.specs.declared.builder.table.ModuleBuilder.{ModuleBuilder}
use Rattle.symbols_table.specs.declared.builder.table.BuildFault.{BuildFault}
use Rattle.symbols_table.specs.declared.builder.table.BuildFault.TheVariants.{TooManySymbols}
use Rattle.symbols_table.specs.Changes.{parents_after_changes}
use Rattle.symbols_table.specs.Events.{DeclarationEvent, EventEffect, changes_of_effects, symbol_of_event_at, effects_after_events}
use Rattle.symbols_table.specs.inner.Tables.{HasAppliedChanges}

-- The numbers of the list are greater than n and are nodes of the tree.
abbrev pub AreGreaterNodeNumbers : List Node → ℕ → List ℕ → Type 0
AreGreaterNodeNumbers nodes n items = All (λ m. (n < m) × (m < length nodes)) items

-- A call applies these events and returns the symbol of the first of them.
abbrev pub AppliesEventsAndReturnsSymbolOfFirst : Result SymbolId BuildFault → ℕ → ModuleBuilder → List EventEffect → List DeclarationEvent → Type 0
AppliesEventsAndReturnsSymbolOfFirst result limit new rows events =
    MatchResult result
    (λ s. HasAppliedChanges new (changes_of_effects (effects_after_events rows events))
    × (symbol_of_event_at (effects_after_events rows events) (length rows) ≡ Some s))
    (λ fault. fault ≡ TooManySymbols → limit < length (parents_after_changes (changes_of_effects (effects_after_events rows events))))
