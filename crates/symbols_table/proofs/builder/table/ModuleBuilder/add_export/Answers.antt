use Rattle.std.proofs.Common.{refl, ap, ◌∙◌, ℕ, List}
use Rattle.std.specs.Str.{bytes_eq}
use Rattle.indexmap.specs.IndexMap.{insert_entry}
use Rattle.symbols_table.specs.TableViews.{SymbolMapsView}
use Rattle.symbols_table.proofs.OneChange.{only_exports}
use Rattle.symbols_table.proofs.builder.table.ModuleBuilder.add_export.Goals as goal

pub returns-clause-table : goal.returns-clause-table
returns-clause-table c = λ changes is.
    let borrowed_symbol = c.index_mut-borrowed_symbol.result.now in
    let set = ap (λ (tables : SymbolMapsView). tables.exports) c.in_ok-add_export.ensures
    ∙ ap (λ (name : List ℕ). insert_entry bytes_eq borrowed_symbol.tables.exports name c.args.symbol) c.in_ok-name.ensures.ok in
    only_exports {old = borrowed_symbol} (record {
      below = c.requires.holder;
      read = c.index_mut-borrowed_symbol.ensures.value;
      set_to = refl;
      ids = refl;
      stars = refl;
      setting = refl;
      number = refl;
      module_number = refl;
      parent = refl;
    }) changes is
    c.args.name.now c.args.symbol c.requires.symbol c.requires.inner set refl (ap (λ (tables : SymbolMapsView). tables.children) c.in_ok-add_export.ensures)
    (ap (λ (tables : SymbolMapsView). tables.members) c.in_ok-add_export.ensures) refl refl
