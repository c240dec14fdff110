use Rattle.std.proofs.Common.{◌≡◌, [], ◌∷◌, refl}
use Rattle.symbols_table.specs.Changes.{exports}
use Rattle.symbols_table.specs.Events.{effect_of_changes, effect_of_event, changes_of_effects, symbol_of_event_at, export}
use Rattle.symbols_table.proofs.Rows.{effects_after_events-step, effects_after_events-nil}
use Rattle.symbols_table.proofs.Walks.{one_read}
use Rattle.symbols_table.proofs.builder.table.ModuleBuilder.export_event_if.Goals as goal

pub returns-in_ok-add_export-clause-table : goal.returns-in_ok-add_export-clause-table
returns-in_ok-add_export-clause-table c = λ rows h s is at of.
    let row = effect_of_changes (exports c.args.holder c.args.name.now c.args.symbol ∷ []) in
    let reads : effect_of_event (changes_of_effects rows) (symbol_of_event_at rows) (export h c.args.name.now s) ≡ row = rw at (rw of refl) in
    rw (c.if-is_exported.true, effects_after_events-step rows (export h c.args.name.now s) [] row reads, effects_after_events-nil)
    (one_read c.add_export.new.self rows row (c.in_ok-add_export.ensures.table (changes_of_effects rows) is))

pub returns-else-is_exported-clause-table : goal.returns-else-is_exported-clause-table
returns-else-is_exported-clause-table c = λ rows h s is at of. rw (c.if-is_exported.false, effects_after_events-nil rows) is
