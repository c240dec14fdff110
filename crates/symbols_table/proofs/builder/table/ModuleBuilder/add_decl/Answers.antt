use Rattle.std.proofs.Common.{refl, ap, ◌∙◌, List, map}
use Rattle.symbols_table.specs.declared.decl.symbol_decl.SymbolDecl.{SymbolDecl}
use Rattle.symbols_table.specs.DeclViews.{decl_view, last_decl, gets_overload_flag_after_decl}
use Rattle.symbols_table.proofs.OneChange.{only_decl}
use Rattle.symbols_table.proofs.Views.{pushed_decl}
use Rattle.symbols_table.proofs.builder.table.ModuleBuilder.add_decl.Goals as goal

pub returns-clause-table : goal.returns-clause-table
returns-clause-table c = λ changes is.
    let borrowed_symbol = c.index_mut-borrowed_symbol.result.now in
    let flag = c.is_overload_after_decl-has_overloads.ensures
    ∙ ap (λ (ds : List SymbolDecl). gets_overload_flag_after_decl (last_decl (map decl_view ds)) (decl_view c.args.decl)) c.as_slice.ensures in
    only_decl {old = borrowed_symbol} (record {
      below = c.requires;
      read = c.index_mut-borrowed_symbol.ensures.value;
      set_to = refl;
      ids = refl;
      stars = refl;
      setting = refl;
      number = refl;
      module_number = refl;
      parent = refl;
    }) changes is
    (decl_view c.args.decl) (pushed_decl borrowed_symbol.decls.items _ c.args.decl c.with_overloads.result _ c.in_ok-push.ensures.ok c.with_overloads.ensures
    flag) refl refl refl refl refl
