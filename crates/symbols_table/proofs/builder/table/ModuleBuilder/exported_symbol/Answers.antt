use Rattle.std.specs.Prelude.{IfSome}
use Rattle.std.proofs.Common.{◌≡◌, subst, sym, Option, length, rules}
use Rattle.symbols_ast.specs.declared.ids.SymbolId.{SymbolId}
use Rattle.symbols_table.specs.Changes.{exported_symbol_after_changes}
use Rattle.symbols_table.proofs.Inside.{Below, Inner, exported_inside, exported_apart}
use Rattle.symbols_table.proofs.builder.table.ModuleBuilder.exported_symbol.Goals as goal

pub returns-clause-inside : goal.returns-clause-inside
returns-clause-inside c =
    let count = length c.args.self.now.symbols.items in
    let changes = c.requires.filled.0 in
    let is = c.requires.filled.1 in
    let table : c.export.result ≡ exported_symbol_after_changes changes c.args.holder c.args.name.now = search rules in
    let P : Option SymbolId → Type 0 = λ o. IfSome o (Below count) in
    subst P (sym table) (exported_inside count changes c.args.holder c.args.name.now is.sound)

pub returns-clause-inner : goal.returns-clause-inner
returns-clause-inner c =
    let changes = c.requires.filled.0 in
    let is = c.requires.filled.1 in
    let table : c.export.result ≡ exported_symbol_after_changes changes c.args.holder c.args.name.now = search rules in
    let P : Option SymbolId → Type 0 = λ o. IfSome o Inner in
    subst P (sym table) (exported_apart changes c.args.holder c.args.name.now is.apart)
