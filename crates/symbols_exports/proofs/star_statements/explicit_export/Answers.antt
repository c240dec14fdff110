use Rattle.std.proofs.Common.{List, ℕ, ap, ◌∙◌}
use Rattle.std.specs.Map.{lookup}
use Rattle.std.specs.Str.{bytes_eq}
use Rattle.symbols_ast.specs.declared.ids.SymbolId.{SymbolId}
use Rattle.symbols_table.specs.Modules.{symbol_table_of_ref}
use Rattle.symbols_exports.proofs.StoredSymbols.{stored_table_has_module_bindings}
use Rattle.symbols_exports.proofs.star_statements.explicit_export.Goals as goal

pub returns : goal.returns
returns c = c.export.ensures ∙ ap (λ (exported : List (List ℕ × SymbolId)). lookup (λ key. bytes_eq c.args.name.now key) exported)
    (stored_table_has_module_bindings c.args.root.now c.args.module_id (symbol_table_of_ref c.in-Some.info) c.module_symbol.result.now c.in-Some.ensures.table
    c.module_symbol.ensures)
