use Rattle.std.proofs.Common.{◌≡◌, ◌+◌, [], ◌∷◌, ◌++◌, length, refl, ap, ◌∙◌, subst, List, ℕ}
use Rattle.std.specs.Prelude.{Ok, Err}
use Rattle.symbols_ast.specs.Ids.{id_view}
use Rattle.symbols_ast.specs.NodeRefs.{node_view}
use Rattle.symbols_table.specs.declared.builder.table.Setting.{Setting}
use Rattle.symbols_table.specs.DeclViews.{decl_view}
use Rattle.symbols_table.specs.Events.{declare_effect, effect_of_event, changes_of_effects, symbol_of_event_at, effects_after_events, declare}
use Rattle.symbols_table.specs.MemberEvents.{member_events_at, class_or_interface_member_numbers}
use Rattle.symbols_table.specs.DeclarationEvents.{child_and_export_events}
use Rattle.symbols_table.specs.inner.Tables.{AppliesEffects, AppliesEventsUnderHolder}
use Rattle.symbols_table.specs.EventsByHolderAndStart.{events_of_each}
use Rattle.symbols_table.proofs.Walks.{reads_from, err_all}
use Rattle.symbols_table.proofs.EventReads.{around_rows, inner_read, inner_fault, holder_after, symbol_after_changes}
use Rattle.symbols_table.proofs.builder.table.ModuleBuilder.declare_with_members.Goals as goal

pub returns-in_err-symbol-clause-table : goal.returns-in_err-symbol-clause-table
returns-in_err-symbol-clause-table c = λ rows h is at.
    let id = id_view c.args.id.now in
    let decl = decl_view c.args.decl in
    let event = declare h id decl in
    let row = declare_effect (changes_of_effects rows) c.args.holder id decl in
    let reads : effect_of_event (changes_of_effects rows) (symbol_of_event_at rows) event ≡ row = rw at refl in
    let walk = events_of_each (member_events_at c.args.node.tree.now) (class_or_interface_member_numbers (node_view c.args.node)) in
    let inner = walk (length rows) (length rows + 1) in
    err_all _ _ _ rows event row (inner ++ child_and_export_events c.args.is_exported h id.name (length rows)) c.in_err-symbol.field-0.0 reads
    c.from_residual.ensures.1
    (c.in_err-symbol.ensures.table (changes_of_effects rows) is)

pub returns-in_err-walk_members-clause-table : goal.returns-in_err-walk_members-clause-table
returns-in_err-walk_members-clause-table c = λ rows h is at.
    let id = id_view c.args.id.now in
    let decl = decl_view c.args.decl in
    let event = declare h id decl in
    let row = declare_effect (changes_of_effects rows) c.args.holder id decl in
    let reads : effect_of_event (changes_of_effects rows) (symbol_of_event_at rows) event ≡ row = rw at refl in
    let walk = events_of_each (member_events_at c.args.node.tree.now) (class_or_interface_member_numbers (node_view c.args.node)) in
    let inner = walk (length rows) (length rows + 1) in
    let read = c.in_ok-symbol.ensures.table (changes_of_effects rows) is in
    let P : List ℕ → Type 0 = λ ms. AppliesEventsUnderHolder {A = Unit {0}} (Err c.in_err-walk_members.field-0.0) c.declare.new.self c.walk_members.new.self
    (events_of_each
    (member_events_at c.args.node.tree.now) ms) c.in_ok-symbol.symbol in
    inner_fault rows event row reads (Unit {0}) c.from_residual-in_err-walk_members.result c.args.self.now.setting.limit c.declare.new.self
    c.walk_members.new.self c.walk_members.new.self walk c.in_ok-symbol.symbol (child_and_export_events c.args.is_exported h id.name (length rows))
    c.in_err-walk_members.field-0.0
    (ap (λ (s : Setting). s.limit) c.in_ok-symbol.ensures.keeps.setting) read.1 read.0 c.from_residual-in_err-walk_members.ensures.1
    (subst P c.member_nodes.ensures c.in_err-walk_members.ensures.table)

pub returns-clause-table : goal.returns-clause-table
returns-clause-table c = λ rows h is at.
    let id = id_view c.args.id.now in
    let decl = decl_view c.args.decl in
    let event = declare h id decl in
    let row = declare_effect (changes_of_effects rows) c.args.holder id decl in
    let reads : effect_of_event (changes_of_effects rows) (symbol_of_event_at rows) event ≡ row = rw at refl in
    let walk = events_of_each (member_events_at c.args.node.tree.now) (class_or_interface_member_numbers (node_view c.args.node)) in
    let inner = walk (length rows) (length rows + 1) in
    let read = c.in_ok-symbol.ensures.table (changes_of_effects rows) is in
    let P : List ℕ → Type 0 = λ ms. AppliesEventsUnderHolder (Ok c.in_ok-walk_members.field-0) c.declare.new.self c.walk_members.new.self (events_of_each
    (member_events_at c.args.node.tree.now) ms) c.in_ok-symbol.symbol in
    let walked = inner_read rows event row reads (Ok c.in_ok-walk_members.field-0) c.declare.new.self c.walk_members.new.self walk c.in_ok-symbol.symbol read.1
    read.0 (subst P c.member_nodes.ensures c.in_ok-walk_members.ensures.table) in
    let last = c.add_to_holder.ensures.table (effects_after_events (rows ++ row ∷ []) inner) h (length rows) walked
    (holder_after rows event row reads inner h c.args.holder at) (symbol_after_changes rows event row reads inner c.in_ok-symbol.symbol read.0) in
    let Q : List ℕ → Type 0 = λ name. AppliesEffects c.add_to_holder.result c.walk_members.new.self.setting.limit c.add_to_holder.new.self (effects_after_events
    (effects_after_events (rows ++ row ∷ []) inner) (child_and_export_events c.args.is_exported h name (length rows))) in
    reads_from _ _ _ _ _ _ (ap (λ (s : Setting). s.limit) (c.in_ok-walk_members.ensures.keeps.setting ∙ c.in_ok-symbol.ensures.keeps.setting))
    (around_rows rows event row reads inner (child_and_export_events c.args.is_exported h id.name (length rows))) (subst Q c.as_str.ensures.value last)
