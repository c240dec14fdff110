use Rattle.std.proofs.Common.{◌≡◌, Some, Bool, true, false, ◌∙◌, ◌++◌, List, [], ◌∷◌, subst, sym, append_assoc}
use Rattle.std.specs.Prelude.{if◌then◌else◌}
use Rattle.symbols_ast.specs.declared.ids.SymbolId.{SymbolId}
use Rattle.symbols_table.specs.DeclViews.{decl_view, is_definition}
use Rattle.symbols_table.specs.Changes.{Change, adds_symbol, adds_decl, exports, adds_child}
use Rattle.symbols_table.specs.Events.{new_symbol_effect, default_export_name}
use Rattle.symbols_table.specs.inner.Tables.{HasAppliedChanges}
use Rattle.symbols_table.proofs.Rows.{new_reads, past_limit, err_reads}
use Rattle.symbols_table.proofs.builder.table.ModuleBuilder.declare_new_default.Goals as goal

abbrev more : SymbolId → Bool → SymbolId → List Change
more holder test s = exports holder default_export_name s ∷ (if test then adds_child holder s ∷ [] else [])

pub returns-in_ok-add_child-clause-table : goal.returns-in_ok-add_child-clause-table
returns-in_ok-add_child-clause-table c = λ changes is.
    let symbol = c.in_ok-symbol.symbol in
    let before = (changes ++ adds_symbol (Some c.args.holder) ∷ []) ++ adds_decl symbol (decl_view c.args.decl) ∷ [] in
    let test : is_definition (decl_view c.args.decl).kind ≡ true = sym c.is_definition-is_definition.ensures ∙ c.if-is_definition.true in
    let both = c.in_ok-add_child.ensures.table _ (c.in_ok-add_export.ensures.table _ (c.in_ok-symbol.ensures.table changes is)) in
    rw test
    (new_reads c.add_child.new.self changes (Some c.args.holder) (decl_view c.args.decl) (more c.args.holder true) symbol (c.in_ok-symbol.ensures.numbered
    ∙ is.count)
    (subst (HasAppliedChanges c.add_child.new.self)
    (append_assoc before (exports c.args.holder default_export_name symbol ∷ []) (adds_child c.args.holder symbol ∷ [])) both))

pub returns-else-is_definition-clause-table : goal.returns-else-is_definition-clause-table
returns-else-is_definition-clause-table c = λ changes is.
    let test : is_definition (decl_view c.args.decl).kind ≡ false = sym c.is_definition-is_definition.ensures ∙ c.if-is_definition.false in
    rw test
    (new_reads c.add_export.new.self changes (Some c.args.holder) (decl_view c.args.decl) (more c.args.holder false) c.in_ok-symbol.symbol
    (c.in_ok-symbol.ensures.numbered ∙ is.count)
    (c.in_ok-add_export.ensures.table _ (c.in_ok-symbol.ensures.table changes is)))

pub returns-in_err-symbol-clause-table : goal.returns-in_err-symbol-clause-table
returns-in_err-symbol-clause-table c = λ changes is.
    let row = new_symbol_effect changes (Some c.args.holder) (decl_view c.args.decl) (more c.args.holder (is_definition (decl_view c.args.decl).kind)) in
    err_reads c.from_residual.result (λ s. Some s) c.args.self.now.setting.limit c.add_symbol.new.self changes row c.in_err-symbol.field-0.0
    c.from_residual.ensures.1
    (λ e. past_limit changes (Some c.args.holder) (decl_view c.args.decl) (more c.args.holder (is_definition (decl_view c.args.decl).kind))
    c.args.self.now.setting.limit _ is.count (c.in_err-symbol.ensures.full e))
