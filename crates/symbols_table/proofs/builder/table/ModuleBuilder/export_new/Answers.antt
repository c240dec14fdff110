use Rattle.std.proofs.Common.{◌≡◌, Some, [], ◌∷◌, ◌++◌, length, refl, ◌∙◌}
use Rattle.symbols_table.specs.DeclViews.{decl_view}
use Rattle.symbols_table.specs.Changes.{exports}
use Rattle.symbols_table.specs.Events.{declare_unnamed, export, effect_of_changes, effect_of_event, changes_of_effects, symbol_of_event_at}
use Rattle.symbols_table.proofs.Rows.{past_limit, effects_after_events-step, symbol_at_retained}
use Rattle.symbols_table.proofs.Walks.{err_all}
use Rattle.symbols_table.proofs.ModuleWalks.{event_read, fresh_row, fresh_read}
use Rattle.symbols_table.proofs.builder.table.ModuleBuilder.export_new.Goals as goal

pub returns-clause-table : goal.returns-clause-table
returns-clause-table c = λ rows h is at.
    let decl = decl_view c.args.decl in
    let s = c.in_ok-symbol.symbol in
    let row = fresh_row rows c.args.holder decl in
    let more = rows ++ row ∷ [] in
    let read = fresh_read c.add_symbol.new.self rows c.args.holder decl s (c.in_ok-symbol.ensures.numbered
    ∙ is.count) (c.in_ok-symbol.ensures.table (changes_of_effects rows) is) in
    let begun : effect_of_event (changes_of_effects rows) (symbol_of_event_at rows) (declare_unnamed h decl) ≡ row = rw at refl in
    let last = effect_of_changes (exports c.args.holder c.args.name.now s ∷ []) in
    let reads : effect_of_event (changes_of_effects more) (symbol_of_event_at more) (export h c.args.name.now (length rows)) ≡ last =
    rw (symbol_at_retained rows row h c.args.holder at) (rw read.0 refl) in
    rw (effects_after_events-step rows (declare_unnamed h decl) (export h c.args.name.now (length rows) ∷ []) row begun)
    (event_read c.add_export.new.self more (export h c.args.name.now (length rows)) last reads
    (c.in_ok-add_export.ensures.table (changes_of_effects more) read.1))

pub returns-in_err-symbol-clause-table : goal.returns-in_err-symbol-clause-table
returns-in_err-symbol-clause-table c = λ rows h is at.
    let decl = decl_view c.args.decl in
    let row = fresh_row rows c.args.holder decl in
    let begun : effect_of_event (changes_of_effects rows) (symbol_of_event_at rows) (declare_unnamed h decl) ≡ row = rw at refl in
    err_all _ _ _ rows (declare_unnamed h decl) row (export h c.args.name.now (length rows) ∷ []) c.in_err-symbol.field-0.0 begun c.from_residual.ensures.1
    (λ e. past_limit (changes_of_effects rows) (Some c.args.holder) decl (λ _. []) c.args.self.now.setting.limit _ is.count (c.in_err-symbol.ensures.full e))
