use Rattle.std.specs.Prelude.{IfSome}
use Rattle.std.specs.Cow.{cow_str_bytes}
use Rattle.std.proofs.Common.{subst, sym, ◌∙◌, Option, length}
use Rattle.symbols_ast.specs.declared.ids.SymbolId.{SymbolId}
use Rattle.symbols_table.proofs.Inside.{Below}
use Rattle.symbols_table.proofs.LocalNames.{child_inside, member_inside}
use Rattle.symbols_table.proofs.builder.table.ModuleBuilder.member_symbol.Goals as goal

pub returns-then-not-is_static-clause-inside : goal.returns-then-not-is_static-clause-inside
returns-then-not-is_static-clause-inside c =
    let filled = c.requires.filled in
    let count = length c.args.self.now.symbols.items in
    let P : Option SymbolId → Type 0 = λ o. IfSome o (Below count) in
    subst P (sym (c.copied.ensures ∙ (c.get.ensures.value ∙ filled.1.member_names c.args.key.now)))
    (member_inside count filled.0 c.args.key.now.holder (cow_str_bytes c.args.key.now.name) filled.1.sound)

pub returns-in-None-clause-inside : goal.returns-in-None-clause-inside
returns-in-None-clause-inside c =
    let filled = c.requires.filled in
    let count = length c.args.self.now.symbols.items in
    let P : Option SymbolId → Type 0 = λ o. IfSome o (Below count) in
    subst P (sym (c.copied-in-None.ensures ∙ (c.get-in-None.ensures.value ∙ filled.1.child_names c.args.key.now c.requires.inner)))
    (child_inside count filled.0 c.args.key.now.holder (cow_str_bytes c.args.key.now.name) filled.1.sound)
