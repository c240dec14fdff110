use Rattle.std.proofs.Common.{◌≡◌, [], ◌∷◌, ◌++◌, length, refl, ap, ◌∙◌, subst, List, ℕ}
use Rattle.symbols_ast.specs.Ids.{id_view}
use Rattle.symbols_table.specs.declared.builder.table.Setting.{Setting}
use Rattle.symbols_table.specs.DeclViews.{decl_view}
use Rattle.symbols_table.specs.Events.{declare_effect, effect_of_event, changes_of_effects, symbol_of_event_at, effects_after_events, declare}
use Rattle.symbols_table.specs.DeclarationEvents.{child_and_export_events}
use Rattle.symbols_table.specs.inner.Tables.{AppliesEffects}
use Rattle.symbols_table.proofs.Rows.{effects_after_events-step, symbol_at_retained, symbol_of_event_at-push}
use Rattle.symbols_table.proofs.Walks.{one_read, reads_from, err_all}
use Rattle.symbols_table.proofs.builder.table.ModuleBuilder.declare_in_holder.Goals as goal

pub returns-clause-table : goal.returns-clause-table
returns-clause-table c = λ rows h is at.
    let id = id_view c.args.id.now in
    let decl = decl_view c.args.decl in
    let row = declare_effect (changes_of_effects rows) c.args.holder id decl in
    let reads : effect_of_event (changes_of_effects rows) (symbol_of_event_at rows) (declare h id decl) ≡ row = rw at refl in
    let read = c.in_ok-symbol.ensures.table (changes_of_effects rows) is in
    let rest = c.add_to_holder.ensures.table (rows ++ row ∷ []) h (length rows) (one_read c.declare.new.self rows row read.1)
    (symbol_at_retained rows row h c.args.holder at) (symbol_of_event_at-push rows row ∙ read.0) in
    let P : List ℕ → Type 0 = λ name. AppliesEffects c.add_to_holder.result c.declare.new.self.setting.limit c.add_to_holder.new.self
    (effects_after_events (rows ++ row ∷ [])
    (child_and_export_events c.args.is_exported h name (length rows))) in
    reads_from _ _ _ _ _ _ (ap (λ (s : Setting). s.limit) c.in_ok-symbol.ensures.keeps.setting)
    (effects_after_events-step rows (declare h id decl) (child_and_export_events c.args.is_exported h id.name (length rows)) row reads)
    (subst P c.as_str.ensures.value rest)

pub returns-in_err-symbol-clause-table : goal.returns-in_err-symbol-clause-table
returns-in_err-symbol-clause-table c = λ rows h is at.
    let id = id_view c.args.id.now in
    let decl = decl_view c.args.decl in
    let row = declare_effect (changes_of_effects rows) c.args.holder id decl in
    let reads : effect_of_event (changes_of_effects rows) (symbol_of_event_at rows) (declare h id decl) ≡ row = rw at refl in
    err_all _ _ _ rows (declare h id decl) row (child_and_export_events c.args.is_exported h id.name (length rows)) c.in_err-symbol.field-0.0 reads
    c.from_residual.ensures.1 (c.in_err-symbol.ensures.table (changes_of_effects rows) is)
