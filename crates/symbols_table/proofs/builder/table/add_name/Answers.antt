use Rattle.symbols_table.specs.inner.Tables.{symbol_by_local_name}
use Rattle.symbols_table.proofs.LocalNames.{no_entry}
use Rattle.symbols_table.proofs.builder.table.add_name.Goals as goal

pub returns-in_default-clause-named : goal.returns-in_default-clause-named
returns-in_default-clause-named c = λ q. rw c.in_default.is (no_entry c.args.holder c.args.symbol q (symbol_by_local_name c.args.names.now q))
