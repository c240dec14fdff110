use Rattle.std.specs.Prelude.{string_bytes}
use Rattle.std.specs.Option.{option_map}
use Rattle.symbols_table.specs.Modules.{symbol_table_of_ref}
use Rattle.symbols_queries.proofs.QueriesAnswered.{name_given, unnamed_symbol}
use Rattle.symbols_queries.proofs.answer_queries.name_answer.Goals as goal

pub returns-in-Ok-clause-given : goal.returns-in-Ok-clause-given
returns-in-Ok-clause-given c = name_given c.args.root.now c.args.module_id (symbol_table_of_ref c.in-Some.info) c.requires c.in-Some.ensures.table c.args.symbol
    (option_map string_bytes c.in-Ok.name) c.in-Ok.ensures.name.0 c.in-Ok.ensures.name.1

pub returns-in-Err-clause-faults : goal.returns-in-Err-clause-faults
returns-in-Err-clause-faults c = unnamed_symbol c.args.root.now c.args.module_id (symbol_table_of_ref c.in-Some.info) c.in-Some.ensures.table c.args.symbol
    c.in-Err.fault c.in-Err.ensures.fault
