use Rattle.std.proofs.Common.{◌≡◌, [], refl}
use Rattle.symbols_table.specs.DeclViews.{decl_view}
use Rattle.symbols_table.specs.Events.{default, default_export_effect, effect_of_event, changes_of_effects, symbol_of_event_at}
use Rattle.symbols_table.proofs.Walks.{err_all}
use Rattle.symbols_table.proofs.ModuleWalks.{event_read}
use Rattle.symbols_table.proofs.builder.table.ModuleBuilder.walk_default.Goals as goal

pub returns-clause-table : goal.returns-clause-table
returns-clause-table c = λ rows h is at.
    let decl = decl_view c.args.decl in
    let row = default_export_effect (changes_of_effects rows) c.args.holder decl in
    let reads : effect_of_event (changes_of_effects rows) (symbol_of_event_at rows) (default h decl) ≡ row = rw at refl in
    let read = c.in_ok-declare_default.ensures.table (changes_of_effects rows) is in
    event_read c.declare_default.new.self rows (default h decl) row reads read.1

pub returns-in_err-declare_default-clause-table : goal.returns-in_err-declare_default-clause-table
returns-in_err-declare_default-clause-table c = λ rows h is at.
    let decl = decl_view c.args.decl in
    let row = default_export_effect (changes_of_effects rows) c.args.holder decl in
    let reads : effect_of_event (changes_of_effects rows) (symbol_of_event_at rows) (default h decl) ≡ row = rw at refl in
    err_all _ _ _ rows (default h decl) row [] c.in_err-declare_default.field-0.0 reads c.from_residual.ensures.1
    (c.in_err-declare_default.ensures.table (changes_of_effects rows) is)
