use Rattle.std.proofs.Common.{sym, ap, ◌∙◌}
use Rattle.symbols_ast.specs.Ids.{id_view}
use Rattle.symbols_table.specs.DeclViews.{qualified_target, decl_kind_view}
use Rattle.symbols_paths.specs.inner.Views.{borrowed_strings_view}
use Rattle.symbols_paths.proofs.decl_target.target_of_decl.Goals as goal

pub returns-in_ok-new-in-Some-symbol_id_of_id-clause-imports : goal.returns-in_ok-new-in-Some-symbol_id_of_id-clause-imports
returns-in_ok-new-in-Some-symbol_id_of_id-clause-imports c = (
  id_view c.in-QualifiedTarget.id.now,
  ap decl_kind_view c.in-QualifiedTarget.is ∙ ap (qualified_target (id_view c.in-QualifiedTarget.id.now))
      (sym (c.in_ok-new-in-Some-symbol_id_of_id.ensures ∙ ap borrowed_strings_view c.deref.ensures.value)),
)
