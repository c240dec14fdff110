use Rattle.std.proofs.Common.{◌≡◌, refl, sym, ap, ◌∙◌}
use Rattle.symbols_ast.specs.declared.tree.arena.SourceRange.{SourceRange}
use Rattle.symbols_ast.specs.NodeRefs.{node_view}
use Rattle.symbols_nodes.specs.NodeViews.{ts_namespace}
use Rattle.symbols_table.specs.DeclViews.{decl_view, definition_of_node}
use Rattle.symbols_table.specs.Events.{changes_of_effects}
use Rattle.symbols_table.specs.EventsByHolderAndStart.{range_or_empty}
use Rattle.symbols_table.proofs.ItemWalks.{part_read, part_fault}
use Rattle.symbols_table.proofs.builder.table.ModuleBuilder.declare_part.Goals as goal

pub returns-clause-table : goal.returns-clause-table
returns-clause-table c = λ rows h is at.
    let whole = node_view c.args.whole in
    let node = node_view c.args.node in
    let range : range_or_empty node ≡ c.range.result = rw c.range.ensures refl in
    let decl : decl_view c.definition-decl.result ≡ definition_of_node (ts_namespace whole) (range_or_empty node) =
    c.definition-decl.ensures ∙ ap (λ (r : SourceRange). definition_of_node (ts_namespace whole) r) (sym range) in
    part_read whole node c.args.id.now (decl_view c.definition-decl.result) rows h c.args.holder c.in_ok-symbol.symbol c.declare.new.self c.add_export.new.self
    c.add_child.new.self decl at (c.in_ok-symbol.ensures.table (changes_of_effects rows) is)
    (rw c.as_str.ensures.value at c.in_ok-add_export.ensures.table) c.in_ok-add_child.ensures.table

pub returns-in_err-symbol-clause-table : goal.returns-in_err-symbol-clause-table
returns-in_err-symbol-clause-table c = λ rows h is at.
    let whole = node_view c.args.whole in
    let node = node_view c.args.node in
    let range : range_or_empty node ≡ c.range.result = rw c.range.ensures refl in
    let decl : decl_view c.definition-decl.result ≡ definition_of_node (ts_namespace whole) (range_or_empty node) =
    c.definition-decl.ensures ∙ ap (λ (r : SourceRange). definition_of_node (ts_namespace whole) r) (sym range) in
    part_fault c.from_residual.result whole node c.args.id.now (decl_view c.definition-decl.result) rows h c.args.holder c.args.self.now.setting.limit
    c.declare.new.self c.in_err-symbol.field-0.0 decl at c.from_residual.ensures.1 (c.in_err-symbol.ensures.table (changes_of_effects rows) is)
