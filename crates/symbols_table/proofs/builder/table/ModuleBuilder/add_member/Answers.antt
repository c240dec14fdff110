use Rattle.std.proofs.Common.{◌≡◌, Option, refl, ◌∙◌, ap}
use Rattle.std.specs.Option.{option_map, option_or}
use Rattle.std.specs.Cow.{cow_str_bytes}
use Rattle.std.proofs.lemmas.Result.{on_ok_weaker}
use Rattle.symbols_ast.specs.declared.ids.SymbolId.{SymbolId}
use Rattle.symbols_table.specs.TableViews.{SymbolMapsView}
use Rattle.symbols_table.specs.Changes.{local_name_after_changes}
use Rattle.symbols_table.specs.inner.Tables.{symbol_by_local_name}
use Rattle.symbols_table.proofs.LocalNames.{name_is, in_tree_entry}
use Rattle.symbols_table.proofs.OneChange.{only_member}
use Rattle.symbols_table.proofs.builder.table.ModuleBuilder.add_member.Goals as goal

pub returns-clause-table : goal.returns-clause-table
returns-clause-table c = on_ok_weaker c.add_name.result
    (λ found changes is.
    let borrowed_symbol = c.index_mut-borrowed_symbol.result.now in
    let local_name_bytes = option_map cow_str_bytes c.in_ok-name.name in
    let called : local_name_bytes ≡ local_name_after_changes changes c.args.symbol =
    c.in_ok-name.ensures ∙ name_is c.args.self.now changes c.args.symbol borrowed_symbol c.requires.symbol is in
    only_member {old = borrowed_symbol} (record {
      below = c.requires.holder;
      read = c.index_mut-borrowed_symbol.ensures.value;
      set_to = refl;
      ids = refl;
      stars = refl;
      setting = refl;
      number = refl;
      module_number = refl;
      parent = refl;
    }) changes is
    c.args.symbol c.requires.symbol (ap (λ (tables : SymbolMapsView). tables.members) c.in_ok-add_member.ensures) refl
    (ap (λ (tables : SymbolMapsView). tables.exports)
    c.in_ok-add_member.ensures) (ap (λ (tables : SymbolMapsView). tables.children) c.in_ok-add_member.ensures) refl
    (λ q. found q ∙ ap (λ (o : Option SymbolId).
    option_or (symbol_by_local_name c.args.self.now.member_names q) o) (in_tree_entry changes c.args.holder c.args.symbol local_name_bytes q called)))
    c.add_name.ensures.named
