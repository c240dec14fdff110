use Rattle.std.proofs.Common.{Some, None, true, false, ◌∙◌}
use Rattle.symbols_table.specs.DeclViews.{decl_view}
use Rattle.symbols_table.specs.Events.{new_symbol_effect, new_member_changes}
use Rattle.symbols_table.proofs.Rows.{new_reads, past_limit, err_reads}
use Rattle.symbols_table.proofs.builder.table.ModuleBuilder.declare_unnamed_member.Goals as goal

pub returns-in_ok-add_child-clause-table : goal.returns-in_ok-add_child-clause-table
returns-in_ok-add_child-clause-table c = λ changes is.
    rw c.if-is_static.true
    (new_reads c.add_child.new.self changes (Some c.args.holder) (decl_view c.args.decl) (new_member_changes c.args.holder true None) c.in_ok-symbol.symbol
    (c.in_ok-symbol.ensures.numbered ∙ is.count)
    (c.in_ok-add_child.ensures.table _ (c.in_ok-symbol.ensures.table changes is)))

pub returns-in_ok-add_member-clause-table : goal.returns-in_ok-add_member-clause-table
returns-in_ok-add_member-clause-table c = λ changes is.
    rw c.if-is_static.false
    (new_reads c.add_member.new.self changes (Some c.args.holder) (decl_view c.args.decl) (new_member_changes c.args.holder false None) c.in_ok-symbol.symbol
    (c.in_ok-symbol.ensures.numbered ∙ is.count)
    (c.in_ok-add_member.ensures.table _ (c.in_ok-symbol.ensures.table changes is)))

pub returns-in_err-symbol-clause-table : goal.returns-in_err-symbol-clause-table
returns-in_err-symbol-clause-table c = λ changes is.
    let more = new_member_changes c.args.holder c.args.is_static None in
    let row = new_symbol_effect changes (Some c.args.holder) (decl_view c.args.decl) more in
    err_reads c.from_residual.result (λ s. Some s) c.args.self.now.setting.limit c.add_symbol.new.self changes row c.in_err-symbol.field-0.0
    c.from_residual.ensures.1
    (λ e. past_limit changes (Some c.args.holder) (decl_view c.args.decl) more c.args.self.now.setting.limit _ is.count (c.in_err-symbol.ensures.full e))
