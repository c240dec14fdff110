use Rattle.std.proofs.Common.{◌∙◌}
use Rattle.symbols_ast.specs.Ids.{id_view}
use Rattle.symbols_table.proofs.Views.{lookup-identifier_bindings_view}
use Rattle.symbols_table.proofs.info.es_module.EsModuleInfo.symbol_id_from_swc.Goals as goal

pub returns : goal.returns
returns c = c.copied.ensures ∙ (c.get.ensures.value ∙ lookup-identifier_bindings_view (id_view c.args.id.now) c.args.self.now.ids.entries)
