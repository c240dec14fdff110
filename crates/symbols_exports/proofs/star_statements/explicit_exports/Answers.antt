use Rattle.std.proofs.Common.{◌∙◌}
use Rattle.symbols_table.specs.Modules.{symbol_table_of_ref}
use Rattle.symbols_exports.proofs.StoredSymbols.{stored_table_has_module_bindings}
use Rattle.symbols_exports.proofs.star_statements.explicit_exports.Goals as goal

pub returns : goal.returns
returns c = c.exports.ensures ∙ stored_table_has_module_bindings c.args.root.now c.args.module_id (symbol_table_of_ref
    c.in-Some.info) c.module_symbol.result.now c.in-Some.ensures.table c.module_symbol.ensures
