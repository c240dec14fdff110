use Rattle.std.proofs.Common.{◌∙◌, sym, ap}
use Rattle.std.specs.Map.{lookup}
use Rattle.std.specs.Str.{bytes_eq}
use Rattle.symbols_table.specs.Modules.{esm_symbol_table, json_symbol_table}
use Rattle.symbols_table.specs.Symbols.{symbol_export_entries}
use Rattle.symbols_paths.specs.Views.{strings_view}
use Rattle.symbols_paths.specs.inner.Views.{first_part}
use Rattle.symbols_paths.proofs.PartTargetReads.{first_read}
use Rattle.symbols_paths.proofs.StoredReads.{symbol_exports}
use Rattle.symbols_paths.proofs.decl_target.export_of_symbol.Goals as goal

pub returns-in_ok-symbol-in-Esm : goal.returns-in_ok-symbol-in-Esm
returns-in_ok-symbol-in-Esm c =
    let symbol = c.in_ok-symbol-in-Esm.field-0.now in
    let exports = symbol_exports c.args.root.now c.args.symbol (esm_symbol_table c.in-Esm.esm.now) symbol (rw c.in-Esm.is at c.in_ok-esm.ensures.table)
    (sym c.in_ok-symbol-in-Esm.ensures) in
    c.export.ensures ∙ (ap (λ name. lookup (λ key. bytes_eq name key) (symbol_export_entries symbol)) (c.as_str.ensures.value
    ∙ first_read c.args.parts.now c.index-parts-0.result c.requires.some c.index-parts-0.is)
    ∙ ap (lookup (λ key. bytes_eq (first_part (strings_view c.args.parts.now)) key)) exports)

pub returns-in_ok-symbol-in-Json : goal.returns-in_ok-symbol-in-Json
returns-in_ok-symbol-in-Json c =
    let symbol = c.in_ok-symbol-in-Json.field-0.now in
    let exports = symbol_exports c.args.root.now c.args.symbol (json_symbol_table c.in-Json.json.now) symbol (rw c.in-Json.is at c.in_ok-esm.ensures.table)
    (sym c.in_ok-symbol-in-Json.ensures) in
    c.export-in-Json.ensures ∙ (ap (λ name. lookup (λ key. bytes_eq name key) (symbol_export_entries symbol)) (c.as_str-in-Json.ensures.value
    ∙ first_read c.args.parts.now c.index-parts-0-in-Json.result c.requires.some c.index-parts-0-in-Json.is)
    ∙ ap (lookup (λ key. bytes_eq (first_part (strings_view c.args.parts.now)) key)) exports)
