use Rattle.std.proofs.Common.{◌∙◌, sym}
use Rattle.symbols_table.specs.Modules.{json_symbol_table}
use Rattle.symbols_paths.proofs.StoredReads.{stored_decls, few_in_tree, few_in_text}
use Rattle.symbols_paths.proofs.decl_target.decls_of_symbol.Goals as goal

pub returns-in_ok-symbol-in-Esm-clause-few : goal.returns-in_ok-symbol-in-Esm-clause-few
returns-in_ok-symbol-in-Esm-clause-few c =
    few_in_tree c.in-Esm.esm.now c.args.symbol.symbol_id c.in_ok-symbol-in-Esm.field-0.now c.decls.result.now c.in_ok-symbol-in-Esm.ensures c.decls.ensures

pub returns-in_ok-symbol-in-Json-clause-decls : goal.returns-in_ok-symbol-in-Json-clause-decls
returns-in_ok-symbol-in-Json-clause-decls c = c.decls-in-Json.ensures ∙ stored_decls c.args.root.now c.args.symbol (json_symbol_table
    c.in-Json.json.now) c.in_ok-symbol-in-Json.field-0.now (rw c.in-Json.is at c.in_ok-esm.ensures.table) (sym c.in_ok-symbol-in-Json.ensures)

pub returns-in_ok-symbol-in-Json-clause-few : goal.returns-in_ok-symbol-in-Json-clause-few
returns-in_ok-symbol-in-Json-clause-few c = few_in_text c.args.root.now c.args.symbol c.in-Json.json.now c.in_ok-symbol-in-Json.field-0.now
    c.decls-in-Json.result.now (rw c.in-Json.is at c.in_ok-esm.ensures.table) c.in_ok-symbol-in-Json.ensures c.decls-in-Json.ensures
