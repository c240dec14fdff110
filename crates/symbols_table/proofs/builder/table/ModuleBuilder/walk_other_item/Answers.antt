use Rattle.std.proofs.Common.{◌≡◌, length, Some, sym, ap, ◌∙◌, rules}
use Rattle.symbols_ast.specs.declared.tree.kinds.Kind.{Kind}
use Rattle.symbols_ast.specs.declared.tree.kinds.Item.TheVariants as Item
use Rattle.symbols_ast.specs.NodeRefs.{node_view, kind_of, child_in_field}
use Rattle.symbols_ast.specs.Fields.{decl_child_of}
use Rattle.symbols_table.specs.TreeEvents.{export_decl_events, non_namespace_item_events}
use Rattle.symbols_table.proofs.Walks.{on_some, on_none}
use Rattle.symbols_table.proofs.builder.table.ModuleBuilder.walk_other_item.Goals as goal

pub returns-in-None-clause-table : goal.returns-in-None-clause-table
returns-in-None-clause-table c = λ rows h is at.
    let node = node_view c.args.node in
    let kind : c.kind.result.now ≡ Kind.Item (Item.ExportDecl c.in-Item-ExportDecl.field-0-0) = search rules in
    on_some c.args.self.now rows (kind_of node) (Kind.Item (Item.ExportDecl c.in-Item-ExportDecl.field-0-0)) (non_namespace_item_events c.args.scope node) h
    (length rows) (c.kind.ensures ∙ ap (λ (k : Kind). Some k) kind)
    (on_none c.args.self.now rows (child_in_field node decl_child_of) (export_decl_events c.args.scope node) h (length rows) (sym c.in-None.ensures) is)
