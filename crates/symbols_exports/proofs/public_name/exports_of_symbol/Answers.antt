use Rattle.std.proofs.Common.{sym, ◌∙◌}
use Rattle.symbols_table.specs.Modules.{symbol_table_of_ref}
use Rattle.symbols_exports.proofs.StoredSymbols.{explicit_is_there, stored_exports}
use Rattle.symbols_exports.proofs.public_name.exports_of_symbol.Goals as goal

pub unreachable-requires : goal.unreachable-requires
unreachable-requires c = explicit_is_there c.args.root.now c.args.export.now.«module» c.in-Some.info c.requires.name c.args.export.now.symbol_id
    c.in-Some.ensures.table c.requires.explicit (sym c.in-None-symbol.ensures)

pub returns : goal.returns
returns c = c.exports.ensures ∙ stored_exports c.args.root.now c.args.export.now.«module» (symbol_table_of_ref
    c.in-Some.info) c.args.export.now.symbol_id c.in-Some-symbol.symbol.now c.in-Some.ensures.table (sym c.in-Some-symbol.ensures)
