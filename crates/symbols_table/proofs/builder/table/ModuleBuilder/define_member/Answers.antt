use Rattle.std.proofs.Common.{◌≡◌, [], refl, sym, ap, ◌∙◌}
use Rattle.symbols_ast.specs.declared.tree.arena.SourceRange.{SourceRange}
use Rattle.symbols_ast.specs.NodeRefs.{node_view}
use Rattle.symbols_nodes.specs.NodeViews.{symbol_node_view}
use Rattle.symbols_table.specs.DeclViews.{decl_view, definition_of_node}
use Rattle.symbols_table.specs.Events.{member, member_effect, effect_of_event, changes_of_effects, symbol_of_event_at}
use Rattle.symbols_table.specs.EventsByHolderAndStart.{range_or_empty}
use Rattle.symbols_table.proofs.Walks.{err_all}
use Rattle.symbols_table.proofs.EventReads.{event_read, member_reads}
use Rattle.symbols_table.proofs.builder.table.ModuleBuilder.define_member.Goals as goal

pub returns-clause-table : goal.returns-clause-table
returns-clause-table c = λ rows h is at.
    let range : range_or_empty (node_view c.args.node) ≡ c.range.result = rw c.range.ensures refl in
    let form = symbol_node_view c.args.form in
    let decl = decl_view c.definition-decl.result in
    let declared : definition_of_node form (range_or_empty (node_view c.args.node)) ≡ decl =
    sym (c.definition-decl.ensures ∙ ap (λ (r : SourceRange). definition_of_node form r) (sym range)) in
    let row = member_effect (changes_of_effects rows) c.args.holder decl c.args.is_static in
    let reads : effect_of_event (changes_of_effects rows) (symbol_of_event_at rows)
    (member h (definition_of_node form (range_or_empty (node_view c.args.node))) c.args.is_static) ≡ row =
    member_reads rows h c.args.holder at (definition_of_node form (range_or_empty (node_view c.args.node))) decl declared c.args.is_static in
    event_read rows (member h (definition_of_node form (range_or_empty (node_view c.args.node))) c.args.is_static) row reads c.declare_member.new.self
    (c.in_ok-declare_member.ensures.table (changes_of_effects rows) is).1

pub returns-in_err-declare_member-clause-table : goal.returns-in_err-declare_member-clause-table
returns-in_err-declare_member-clause-table c = λ rows h is at.
    let range : range_or_empty (node_view c.args.node) ≡ c.range.result = rw c.range.ensures refl in
    let form = symbol_node_view c.args.form in
    let decl = decl_view c.definition-decl.result in
    let declared : definition_of_node form (range_or_empty (node_view c.args.node)) ≡ decl =
    sym (c.definition-decl.ensures ∙ ap (λ (r : SourceRange). definition_of_node form r) (sym range)) in
    let row = member_effect (changes_of_effects rows) c.args.holder decl c.args.is_static in
    let reads : effect_of_event (changes_of_effects rows) (symbol_of_event_at rows)
    (member h (definition_of_node form (range_or_empty (node_view c.args.node))) c.args.is_static) ≡ row =
    member_reads rows h c.args.holder at (definition_of_node form (range_or_empty (node_view c.args.node))) decl declared c.args.is_static in
    err_all _ _ _ rows (member h (definition_of_node form (range_or_empty (node_view c.args.node))) c.args.is_static) row [] c.in_err-declare_member.field-0.0
    reads
    c.from_residual.ensures.1 (c.in_err-declare_member.ensures.table (changes_of_effects rows) is)
