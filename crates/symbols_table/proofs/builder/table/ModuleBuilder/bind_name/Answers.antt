use Rattle.std.proofs.Common.{◌≡◌, None, sym, ap}
use Rattle.symbols_ast.specs.NodeRefs.{node_view}
use Rattle.symbols_table.specs.Events.{changes_of_effects}
use Rattle.symbols_table.specs.DeclarationEvents.{declared_name}
use Rattle.symbols_table.specs.ModuleEvents.{bind_events_if}
use Rattle.symbols_table.proofs.ModuleWalks.{no_events, on_ok, bound}
use Rattle.symbols_table.proofs.builder.table.ModuleBuilder.bind_name.Goals as goal

pub returns-in-Some-clause-table : goal.returns-in-Some-clause-table
returns-in-Some-clause-table c =
    on_ok c.map_id.result (λ table rows s is at. bound c.map_id.new.self rows (declared_name (node_view c.args.decl)) c.in-Some.id.now s c.args.symbol
    (sym c.in-Some.ensures) at (table (changes_of_effects rows) is)) c.map_id.ensures.table

pub returns-in-None-clause-table : goal.returns-in-None-clause-table
returns-in-None-clause-table c = λ rows s is at.
    let unnamed : declared_name (node_view c.args.decl) ≡ None = sym c.in-None.ensures in
    no_events _ rows _ (ap (λ found. bind_events_if found s) unnamed) is
