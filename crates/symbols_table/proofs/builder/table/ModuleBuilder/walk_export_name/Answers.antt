use Rattle.std.proofs.Common.{◌≡◌, Some, [], length, sym, ◌∙◌, rules}
use Rattle.std.specs.Option.{option_copied}
use Rattle.symbols_ast.specs.NodeRefs.{TreeNode, node_view, kind_of, node_in}
use Rattle.symbols_table.specs.EventsByHolderAndStart.{events_if_some}
use Rattle.symbols_table.specs.ModuleEvents.{export_specifier_events}
use Rattle.symbols_table.proofs.ModuleBuilderSteps.{keeps_same}
use Rattle.symbols_table.proofs.Walks.{on_none}
use Rattle.symbols_table.proofs.ModuleWalks.{no_events, on_thing}
use Rattle.symbols_table.proofs.builder.table.ModuleBuilder.walk_export_name.Goals as goal

pub returns-in_default-clause-table : goal.returns-in_default-clause-table
returns-in_default-clause-table c = λ rows h is at. on_none _ rows (node_in c.args.export.tree.now (Some c.args.n)) _ _ _ (sym c.in_default.ensures) is

pub returns-in-None-clause-table : goal.returns-in-None-clause-table
returns-in-None-clause-table c = λ rows h is at.
    let src = option_copied c.args.src in
    let none : events_if_some (kind_of (node_view c.in-Some.node)) (export_specifier_events src (node_view c.in-Some.node)) h (length rows) ≡ [] =
    search rules in
    no_events _ rows _ (on_thing (node_in c.args.export.tree.now (Some c.args.n)) (node_view c.in-Some.node) (λ (node : TreeNode).
    events_if_some (kind_of node) (export_specifier_events src node)) h _ (sym c.in-Some.ensures) ∙ none) is

pub returns-in_default-kind : goal.returns-in_default-kind
returns-in_default-kind c = record {
  keeps = keeps_same _ _ c.requires.filled;
  table = λ rows h is at.
      let src = option_copied c.args.src in
      let none : events_if_some (kind_of (node_view c.in-Some.node)) (export_specifier_events src (node_view c.in-Some.node)) h (length rows) ≡ [] =
      search rules in
      no_events _ rows _ (on_thing (node_in c.args.export.tree.now (Some c.args.n)) (node_view c.in-Some.node) (λ (node : TreeNode).
      events_if_some (kind_of node) (export_specifier_events src node)) h _ (sym c.in-Some.ensures) ∙ none) is;
}

pub returns-in_default-kind-2 : goal.returns-in_default-kind-2
returns-in_default-kind-2 c = record {
  keeps = keeps_same _ _ c.requires.filled;
  table = λ rows h is at.
      let src = option_copied c.args.src in
      let none : events_if_some (kind_of (node_view c.in-Some.node)) (export_specifier_events src (node_view c.in-Some.node)) h (length rows) ≡ [] =
      search rules in
      no_events _ rows _ (on_thing (node_in c.args.export.tree.now (Some c.args.n)) (node_view c.in-Some.node) (λ (node : TreeNode).
      events_if_some (kind_of node) (export_specifier_events src node)) h _ (sym c.in-Some.ensures) ∙ none) is;
}
