use Rattle.std.proofs.Common.{Some, ◌∙◌, [], ◌∷◌}
use Rattle.symbols_ast.specs.Ids.{id_view}
use Rattle.symbols_table.specs.DeclViews.{decl_view}
use Rattle.symbols_table.specs.Changes.{maps}
use Rattle.symbols_table.specs.Events.{new_symbol_effect}
use Rattle.symbols_table.proofs.Rows.{new_reads, past_limit, err_reads}
use Rattle.symbols_table.proofs.builder.table.ModuleBuilder.declare_new.Goals as goal

pub returns-clause-table : goal.returns-clause-table
returns-clause-table c = λ changes is.
    new_reads c.map_id.new.self changes (Some c.args.holder) (decl_view c.args.decl) (λ s. maps (id_view c.args.id.now) s ∷ []) c.in_ok-symbol.symbol
    (c.in_ok-symbol.ensures.numbered ∙ is.count)
    (c.in_ok-map_id.ensures.table _ (c.in_ok-symbol.ensures.table changes is))

pub returns-in_err-symbol-clause-table : goal.returns-in_err-symbol-clause-table
returns-in_err-symbol-clause-table c = λ changes is.
    let row = new_symbol_effect changes (Some c.args.holder) (decl_view c.args.decl) (λ s. maps (id_view c.args.id.now) s ∷ []) in
    err_reads c.from_residual.result (λ s. Some s) c.args.self.now.setting.limit c.add_symbol.new.self changes row c.in_err-symbol.field-0.0
    c.from_residual.ensures.1
    (λ e. past_limit changes (Some c.args.holder) (decl_view c.args.decl) (λ s. maps (id_view c.args.id.now) s ∷ []) c.args.self.now.setting.limit _ is.count
    (c.in_err-symbol.ensures.full e))
