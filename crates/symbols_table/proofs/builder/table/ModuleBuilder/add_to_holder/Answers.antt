use Rattle.std.proofs.Common.{◌≡◌, ap, [], ◌∷◌, ◌++◌, refl}
use Rattle.symbols_table.specs.declared.builder.table.Setting.{Setting}
use Rattle.symbols_table.specs.Changes.{adds_child}
use Rattle.symbols_table.specs.Events.{effect_of_changes, effect_of_event, changes_of_effects, symbol_of_event_at, child}
use Rattle.symbols_table.specs.DeclarationEvents.{export_event_if}
use Rattle.symbols_table.proofs.Rows.{effects_after_events-step, symbol_at_retained}
use Rattle.symbols_table.proofs.Walks.{one_read, reads_from}
use Rattle.symbols_table.proofs.builder.table.ModuleBuilder.add_to_holder.Goals as goal

pub returns-clause-table : goal.returns-clause-table
returns-clause-table c = λ rows h s is at of.
    let row = effect_of_changes (adds_child c.args.holder c.args.symbol ∷ []) in
    let reads : effect_of_event (changes_of_effects rows) (symbol_of_event_at rows) (child h s) ≡ row = rw at (rw of refl) in
    reads_from _ _ _ _ _ _ (ap (λ (s : Setting). s.limit) c.in_ok-add_child.ensures.keeps.setting)
    (effects_after_events-step rows (child h s) (export_event_if c.args.is_exported h c.args.name.now s) row reads)
    (c.export_event_if.ensures.table (rows ++ row ∷ []) h s (one_read c.add_child.new.self rows row
    (c.in_ok-add_child.ensures.table (changes_of_effects rows) is))
    (symbol_at_retained rows row h c.args.holder at) (symbol_at_retained rows row s c.args.symbol of))
