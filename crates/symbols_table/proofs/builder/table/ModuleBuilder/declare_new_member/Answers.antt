use Rattle.std.proofs.Common.{Some, ◌∙◌}
use Rattle.std.specs.Cow.{cow_str_bytes}
use Rattle.symbols_table.specs.DeclViews.{decl_view}
use Rattle.symbols_table.specs.Events.{new_symbol_effect, new_member_changes}
use Rattle.symbols_table.proofs.Rows.{new_reads, past_limit, err_reads}
use Rattle.symbols_table.proofs.builder.table.ModuleBuilder.declare_new_member.Goals as goal

pub returns-clause-table : goal.returns-clause-table
returns-clause-table c = λ changes is.
    new_reads c.add_named_member.new.self changes (Some c.args.key.now.holder) (decl_view c.args.decl)
    (new_member_changes c.args.key.now.holder c.args.is_static
    (Some (cow_str_bytes c.args.key.now.name))) c.in_ok-symbol.symbol (c.in_ok-symbol.ensures.numbered ∙ is.count)
    (c.in_ok-add_named_member.ensures.table _ (c.in_ok-symbol.ensures.table changes is))

pub returns-in_err-symbol-clause-table : goal.returns-in_err-symbol-clause-table
returns-in_err-symbol-clause-table c = λ changes is.
    let more = new_member_changes c.args.key.now.holder c.args.is_static (Some (cow_str_bytes c.args.key.now.name)) in
    let row = new_symbol_effect changes (Some c.args.key.now.holder) (decl_view c.args.decl) more in
    err_reads c.from_residual.result (λ s. Some s) c.args.self.now.setting.limit c.add_symbol.new.self changes row c.in_err-symbol.field-0.0
    c.from_residual.ensures.1
    (λ e. past_limit changes (Some c.args.key.now.holder) (decl_view c.args.decl) more c.args.self.now.setting.limit _ is.count
    (c.in_err-symbol.ensures.full e))
