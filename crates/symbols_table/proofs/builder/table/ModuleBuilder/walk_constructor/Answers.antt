use Rattle.std.proofs.Common.{◌≡◌, ◌+◌, length, refl, sym, ap, ◌∙◌}
use Rattle.symbols_ast.specs.declared.tree.arena.SourceRange.{SourceRange}
use Rattle.symbols_ast.specs.NodeRefs.{node_view}
use Rattle.symbols_nodes.specs.NodeViews.{constructor}
use Rattle.std.specs.Prelude.{true}
use Rattle.symbols_table.specs.declared.builder.table.Setting.{Setting}
use Rattle.symbols_table.specs.DeclViews.{decl_view, definition_of_node}
use Rattle.symbols_table.specs.Events.{member, member_effect, effect_of_event, changes_of_effects, symbol_of_event_at}
use Rattle.symbols_table.specs.MemberEvents.{constructor_param_events_at}
use Rattle.symbols_table.specs.EventsByHolderAndStart.{events_of_each, range_or_empty}
use Rattle.symbols_table.proofs.Walks.{err_all}
use Rattle.symbols_table.proofs.EventReads.{event_then, member_reads}
use Rattle.symbols_table.proofs.builder.table.ModuleBuilder.walk_constructor.Goals as goal

pub returns-clause-table : goal.returns-clause-table
returns-clause-table c = λ rows h is at.
    let node = node_view c.args.node in
    let range : range_or_empty node ≡ c.range.result = rw c.range.ensures refl in
    let decl = decl_view c.definition-decl.result in
    let declared : definition_of_node (constructor node) (range_or_empty node) ≡ decl =
    sym (c.definition-decl.ensures ∙ ap (λ (r : SourceRange). definition_of_node (constructor node) r) (sym range)) in
    let row = member_effect (changes_of_effects rows) c.args.holder decl true in
    let event = member h (definition_of_node (constructor node) (range_or_empty node)) true in
    let reads : effect_of_event (changes_of_effects rows) (symbol_of_event_at rows) event ≡ row =
    member_reads rows h c.args.holder at (definition_of_node (constructor node) (range_or_empty node)) decl declared true in
    event_then rows event row reads c.walk_params.result c.args.self.now.setting.limit c.declare_member.new.self c.walk_params.new.self
    (events_of_each (constructor_param_events_at c.args.node.tree.now) c.args.params.now) c.args.holder h (length rows + 1)
    (ap (λ (s : Setting). s.limit) c.in_ok-declare_member.ensures.keeps.setting) refl (c.in_ok-declare_member.ensures.table (changes_of_effects rows) is).1 at
    c.walk_params.ensures.table

pub returns-in_err-declare_member-clause-table : goal.returns-in_err-declare_member-clause-table
returns-in_err-declare_member-clause-table c = λ rows h is at.
    let node = node_view c.args.node in
    let range : range_or_empty node ≡ c.range.result = rw c.range.ensures refl in
    let decl = decl_view c.definition-decl.result in
    let declared : definition_of_node (constructor node) (range_or_empty node) ≡ decl =
    sym (c.definition-decl.ensures ∙ ap (λ (r : SourceRange). definition_of_node (constructor node) r) (sym range)) in
    let row = member_effect (changes_of_effects rows) c.args.holder decl true in
    let event = member h (definition_of_node (constructor node) (range_or_empty node)) true in
    let reads : effect_of_event (changes_of_effects rows) (symbol_of_event_at rows) event ≡ row =
    member_reads rows h c.args.holder at (definition_of_node (constructor node) (range_or_empty node)) decl declared true in
    err_all _ _ _ rows event row (events_of_each (constructor_param_events_at c.args.node.tree.now) c.args.params.now h (length rows + 1))
    c.in_err-declare_member.field-0.0 reads
    c.from_residual.ensures.1 (c.in_err-declare_member.ensures.table (changes_of_effects rows) is)
