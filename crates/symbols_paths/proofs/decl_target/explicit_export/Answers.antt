use Rattle.std.proofs.Common.{◌∙◌, ap}
use Rattle.std.specs.Map.{lookup}
use Rattle.std.specs.Str.{bytes_eq}
use Rattle.symbols_table.specs.Modules.{symbol_table_of_ref}
use Rattle.symbols_paths.proofs.StoredReads.{stored_exports}
use Rattle.symbols_paths.proofs.decl_target.explicit_export.Goals as goal

pub returns : goal.returns
returns c = c.export.ensures
    ∙ ap (lookup (λ key. bytes_eq c.args.name.now key)) (stored_exports c.args.root.now c.args.module_id (symbol_table_of_ref c.in-Some.info)
    c.module_symbol.result.now c.in-Some.ensures.table c.module_symbol.ensures)
