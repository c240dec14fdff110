use Rattle.std.proofs.Common.{◌≡◌, Some, [], ◌∷◌, ◌++◌, ℕ, List, length, refl, ◌∙◌, ap, subst}
use Rattle.symbols_ast.specs.NodeRefs.{node_view}
use Rattle.symbols_table.specs.declared.builder.table.Setting.{Setting}
use Rattle.symbols_table.specs.DeclViews.{decl_view}
use Rattle.symbols_table.specs.DeclarationEvents.{declared_name}
use Rattle.symbols_table.specs.Events.{default, default_export_effect, effect_of_event, changes_of_effects, symbol_of_event_at, effects_after_events}
use Rattle.symbols_table.specs.MemberEvents.{member_events_at}
use Rattle.symbols_table.specs.ModuleEvents.{bind_events_if}
use Rattle.symbols_table.specs.inner.Tables.{AppliesEffects}
use Rattle.symbols_table.specs.EventsByHolderAndStart.{events_of_each}
use Rattle.symbols_table.proofs.Rows.{symbol_of_event_at-push, symbol_at_after}
use Rattle.symbols_table.proofs.Walks.{one_read, reads_from}
use Rattle.symbols_table.proofs.ModuleWalks.{err_as, default_decl_as, default_decl_rows}
use Rattle.symbols_table.proofs.builder.table.ModuleBuilder.walk_export_default_decl.Goals as goal

pub returns-clause-table : goal.returns-clause-table
returns-clause-table c = λ rows h is at.
    let node = node_view c.args.node in
    let declared = node_view c.args.decl in
    let decl = decl_view c.definition-definition.result in
    let row = default_export_effect (changes_of_effects rows) c.args.holder decl in
    let reads : effect_of_event (changes_of_effects rows) (symbol_of_event_at rows) (default h decl) ≡ row = rw at refl in
    let read = c.in_ok-symbol.ensures.table (changes_of_effects rows) is in
    let more = rows ++ row ∷ [] in
    let names = bind_events_if (declared_name declared) (length rows) in
    let so_far = effects_after_events more names in
    let found : symbol_of_event_at more (length rows) ≡ Some c.in_ok-symbol.symbol = symbol_of_event_at-push rows row ∙ read.0 in
    let named = c.in_ok-bind_name.ensures.table more (length rows) (one_read c.declare_default.new.self rows row read.1) found in
    let rest = c.walk_members.ensures.table so_far (length rows) named (symbol_at_after more names (length rows) c.in_ok-symbol.symbol found) in
    let P : List ℕ → Type 0 = λ ms. AppliesEffects c.walk_members.result c.bind_name.new.self.setting.limit c.walk_members.new.self (effects_after_events so_far
    (events_of_each (member_events_at declared.tree) ms (length rows) (length so_far))) in
    reads_from _ _ _ _ _ _ (ap (λ (s : Setting). s.limit) (c.in_ok-bind_name.ensures.keeps.setting ∙ c.in_ok-symbol.ensures.keeps.setting))
    (default_decl_rows rows node declared c.range.result decl row h c.range.ensures c.definition-definition.ensures reads)
    (subst P c.member_nodes.ensures rest)

pub returns-in_err-symbol-clause-table : goal.returns-in_err-symbol-clause-table
returns-in_err-symbol-clause-table c = λ rows h is at.
    let node = node_view c.args.node in
    let declared = node_view c.args.decl in
    let decl = decl_view c.definition-definition.result in
    let row = default_export_effect (changes_of_effects rows) c.args.holder decl in
    let reads : effect_of_event (changes_of_effects rows) (symbol_of_event_at rows) (default h decl) ≡ row = rw at refl in
    err_as _ _ _ rows _ (default h decl) row _ c.in_err-symbol.field-0.0 (default_decl_as node declared c.range.result decl h (length rows) c.range.ensures
    c.definition-definition.ensures) reads c.from_residual.ensures.1 (c.in_err-symbol.ensures.table (changes_of_effects rows) is)
