use Rattle.std.specs.Prelude.{IfSome}
use Rattle.std.proofs.Common.{subst, sym, ◌∙◌, ◌<◌, length, Option}
use Rattle.symbols_ast.specs.declared.ids.SymbolId.{SymbolId}
use Rattle.symbols_ast.specs.Ids.{id_view}
use Rattle.symbols_table.proofs.Inside.{Inner, mapped_inside, mapped_apart}
use Rattle.symbols_table.proofs.Views.{lookup-identifier_bindings_view}
use Rattle.symbols_table.proofs.builder.table.ModuleBuilder.mapped_symbol.Goals as goal

pub returns-clause-inside : goal.returns-clause-inside
returns-clause-inside c =
    let filled = c.requires in
    let P : Option SymbolId → Type 0 = λ o. IfSome o (λ s. s.0 < length c.args.self.now.symbols.items) in
    subst P (sym (c.copied.ensures ∙ (c.get.ensures.value ∙ (lookup-identifier_bindings_view (id_view c.args.id.now) c.args.self.now.ids.entries
    ∙ filled.1.ids (id_view c.args.id.now))))) (mapped_inside (length c.args.self.now.symbols.items) filled.0 (id_view c.args.id.now) filled.1.sound)

pub returns-clause-inner : goal.returns-clause-inner
returns-clause-inner c =
    let filled = c.requires in
    let P : Option SymbolId → Type 0 = λ o. IfSome o Inner in
    subst P (sym (c.copied.ensures ∙ (c.get.ensures.value ∙ (lookup-identifier_bindings_view (id_view c.args.id.now) c.args.self.now.ids.entries
    ∙ filled.1.ids (id_view c.args.id.now))))) (mapped_apart filled.0 (id_view c.args.id.now) filled.1.apart)

pub returns-clause-table : goal.returns-clause-table
returns-clause-table c = λ changes is.
    c.copied.ensures
    ∙ (c.get.ensures.value ∙ (lookup-identifier_bindings_view (id_view c.args.id.now) c.args.self.now.ids.entries ∙ is.ids (id_view c.args.id.now)))
