use Rattle.std.proofs.Common.{rules, ap, ◌∙◌}
use Rattle.symbols_table.specs.DeclViews.{exports_view}
use Rattle.symbols_table.proofs.Views.{exports_view-insert}
use Rattle.symbols_table.proofs.decl.tables.Tables.add_export.Goals as goal

pub returns : goal.returns
returns c =
    let set = ap exports_view c.in_ok-insert-in-Some.ensures.entries ∙ exports_view-insert c.args.name c.args.symbol c.deref_mut.result.now.exports.entries in
    search (rules, set)
