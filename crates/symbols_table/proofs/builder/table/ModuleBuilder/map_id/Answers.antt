use Rattle.std.proofs.Common.{refl, ap, ◌∙◌}
use Rattle.std.specs.Map.{lookup}
use Rattle.symbols_ast.specs.Ids.{id_view, is_same_id}
use Rattle.symbols_table.specs.ModuleViews.{identifier_bindings_view}
use Rattle.symbols_table.proofs.Views.{identifier_bindings_view-insert, is_same_id-Decides, lookup-insert}
use Rattle.symbols_table.proofs.OneChange.{only_maps}
use Rattle.symbols_table.proofs.builder.table.ModuleBuilder.map_id.Goals as goal

pub returns-in-Ok-clause-table : goal.returns-in-Ok-clause-table
returns-in-Ok-clause-table c = λ changes is.
    only_maps c.args.self.now _ changes (id_view c.args.id.now) c.args.symbol c.requires.symbol c.requires.inner refl refl refl refl refl (λ q.
    ap (λ es. lookup (is_same_id q) (identifier_bindings_view es)) c.in-Ok.ensures.entries
    ∙ (ap (λ es. lookup (is_same_id q) es) (identifier_bindings_view-insert c.args.id c.args.symbol c.args.self.now.ids.entries)
    ∙ lookup-insert is_same_id is_same_id-Decides (identifier_bindings_view c.args.self.now.ids.entries) (id_view c.args.id.now) q c.args.symbol)) is
