use Rattle.std.proofs.Common.{refl}
use Rattle.symbols_table.proofs.OneChange.{only_star}
use Rattle.symbols_table.proofs.builder.table.ModuleBuilder.add_star.Goals as goal

pub returns-in-Ok-clause-table : goal.returns-in-Ok-clause-table
returns-in-Ok-clause-table c = λ changes is.
    only_star c.args.self.now _ changes (record { node_id = c.args.node_id; src = c.args.src }) refl refl refl refl refl c.in-Ok.ensures.items is
