use Rattle.std.proofs.Common.{◌≡◌, [], ◌∷◌, sym, ap, ◌∙◌, arith}
use Rattle.symbols_table.specs.DeclViews.{decl_view}
use Rattle.symbols_answers.specs.Questions.{append_resolved_specifiers, import_specifiers_among}
use Rattle.symbols_queries.proofs.TargetLists.{decl_more, decl_imports, decl_imports_nothing}
use Rattle.symbols_queries.proofs.inputs.add_symbol_targets.Goals as goal
use Rattle.symbols_queries.proofs.inputs.add_symbol_targets.Goals.{in-FileRef+in_ok-add_target, in_default}

pub loop-decl-preserved : goal.loop-decl-preserved
loop-decl-preserved c =
    let Adds = c.match-decl.list ≡ append_resolved_specifiers c.args.graph.now c.args.referrer.now c.loop-decl.list
    (import_specifiers_among (decl_view c.decl-item.result ∷ [])) in
    let added : Adds = elim c.match-decl.branch [
      | in-FileRef+in_ok-add_target w ↦ w.list-is ∙ (w.in_ok-add_target.ensures
          ∙ ap (append_resolved_specifiers c.args.graph.now c.args.referrer.now c.loop-decl.list)
          (sym (decl_imports c.decl-item.result w.in-FileRef.dep w.in-FileRef.is)))
      | in_default w ↦ w.list-is ∙ ap (append_resolved_specifiers c.args.graph.now c.args.referrer.now c.loop-decl.list)
          (sym (decl_imports_nothing c.decl-item.result w.in_default.not-FileRef))
    ] in
    decl_more c.args.graph.now c.args.referrer.now c.decls-decl-items.result.now c.args.list.now c.loop-decl.list c.match-decl.list c.loop-decl.decl-index
    c.decl-item.result (omega (arith, c.loop-decl-test.true)) c.decl-item.is c.loop-decl.invariant added
