use Rattle.std.proofs.Common.{rules}
use Rattle.symbols_table.proofs.Views.{lookup-exports_view}
use Rattle.symbols_table.proofs.decl.tables.Tables.export.Goals as goal

pub returns-in-Some : goal.returns-in-Some
returns-in-Some c = search (rules, lookup-exports_view c.args.name.now c.in-Some.maps.value.exports.entries)
