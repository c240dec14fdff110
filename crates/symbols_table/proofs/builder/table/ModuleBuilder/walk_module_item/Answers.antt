use Rattle.std.proofs.Common.{◌≡◌, [], ◌∷◌, length, refl, ◌∙◌, rules}
use Rattle.std.specs.Prelude.{string_bytes}
use Rattle.symbols_ast.specs.NodeRefs.{node_view, kind_of}
use Rattle.symbols_table.specs.Changes.{ExportStarStatement, re_exports_all}
use Rattle.symbols_table.specs.Events.{effect_of_changes, star, changes_of_effects}
use Rattle.symbols_table.specs.ModuleEvents.{import_export_or_expando_events}
use Rattle.symbols_table.specs.EventsByHolderAndStart.{events_if_some}
use Rattle.symbols_table.proofs.ModuleBuilderSteps.{keeps_same}
use Rattle.symbols_table.proofs.ModuleWalks.{no_events, on_thing, on_ok, only_memory, not_item}
use Rattle.symbols_table.proofs.builder.table.ModuleBuilder.walk_module_item.Goals as goal

pub returns-in_default : goal.returns-in_default
returns-in_default c = record {
  keeps = keeps_same _ _ c.requires.filled;
  table = λ rows h is at.
      let node = node_view c.args.node in
      no_events _ rows _ (on_thing (kind_of node) c.kind.result.now (import_export_or_expando_events node) h (length rows) c.kind.ensures
      ∙ not_item node c.kind.result.now h (length rows) c.in_default.not-Item) is;
}

pub returns-in-ExportAll-clause-table : goal.returns-in-ExportAll-clause-table
returns-in-ExportAll-clause-table c = λ rows h is at.
    let node = node_view c.args.node in
    let text : c.as_str-in-ExportAll.result.now ≡ string_bytes c.in-ExportAll.src = c.as_str-in-ExportAll.ensures.value in
    let statement : ExportStarStatement = record { number = c.node_id.result; specifier_text = string_bytes c.in-ExportAll.src } in
    let events : events_if_some (kind_of node) (import_export_or_expando_events node) h (length rows) ≡ star statement ∷ [] =
    rw (c.kind.ensures, c.in-Item.is, c.in-ExportAll.is, c.node_id.ensures) refl in
    only_memory c.add_star.result _ _ rows _ (star statement) (effect_of_changes (re_exports_all statement ∷ [])) events refl
    (on_ok c.add_star.result (λ table. rw (← text) (table (changes_of_effects rows) is)) c.add_star.ensures.table) c.add_star.ensures.full

pub returns-in-None-clause-table : goal.returns-in-None-clause-table
returns-in-None-clause-table c = λ rows h is at.
    no_events _ rows (events_if_some (kind_of (node_view c.args.node)) (import_export_or_expando_events (node_view c.args.node)) h (length rows)) (search rules)
    is

pub returns-in-None-expr-clause-table : goal.returns-in-None-expr-clause-table
returns-in-None-expr-clause-table c = λ rows h is at.
    no_events _ rows (events_if_some (kind_of (node_view c.args.node)) (import_export_or_expando_events (node_view c.args.node)) h (length rows)) (search rules)
    is

pub returns-in-None-expr-2-clause-table : goal.returns-in-None-expr-2-clause-table
returns-in-None-expr-2-clause-table c = λ rows h is at.
    no_events _ rows (events_if_some (kind_of (node_view c.args.node)) (import_export_or_expando_events (node_view c.args.node)) h (length rows)) (search rules)
    is

pub returns-in-None-expr-3-clause-table : goal.returns-in-None-expr-3-clause-table
returns-in-None-expr-3-clause-table c = λ rows h is at.
    no_events _ rows (events_if_some (kind_of (node_view c.args.node)) (import_export_or_expando_events (node_view c.args.node)) h (length rows)) (search rules)
    is

pub returns-in_default-item-clause-table : goal.returns-in_default-item-clause-table
returns-in_default-item-clause-table c = λ rows h is at.
    no_events _ rows (events_if_some (kind_of (node_view c.args.node)) (import_export_or_expando_events (node_view c.args.node)) h (length rows)) (search rules)
    is
