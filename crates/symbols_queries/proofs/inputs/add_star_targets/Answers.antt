use Rattle.std.proofs.Common.{◌≡◌, [], ◌∷◌, map, slice_get, Some, None, sym, subst, ◌∙◌}
use Rattle.std.proofs.lemmas.Option.{slice_get-map}
use Rattle.symbols_table.specs.Changes.{ExportStarStatement}
use Rattle.symbols_table.specs.Modules.{symbol_table_of_ref}
use Rattle.symbols_answers.specs.Questions.{append_resolved_specifiers}
use Rattle.symbols_queries.proofs.TargetLists.{target_more, targets_all}
use Rattle.symbols_queries.proofs.inputs.add_star_targets.Goals as goal

pub loop-specifier_text-preserved : goal.loop-specifier_text-preserved
loop-specifier_text-preserved c =
    let table = symbol_table_of_ref c.args.info in
    let texts = map (λ (star : ExportStarStatement). star.specifier_text) table.stars in
    let at : slice_get texts c.loop-specifier_text.position ≡ Some c.in-Some.specifier_text.now =
    slice_get-map (λ (star : ExportStarStatement). star.specifier_text) table.stars c.loop-specifier_text.position ∙ sym c.in-Some.ensures.specifier_text in
    target_more c.args.graph.now table.specifier texts c.args.list.now c.loop-specifier_text.list c.add_target.new.list c.loop-specifier_text.position
    c.in-Some.specifier_text.now c.loop-specifier_text.invariant at
    (subst (λ referrer. c.add_target.new.list ≡ append_resolved_specifiers c.args.graph.now referrer c.loop-specifier_text.list
    (c.in-Some.specifier_text.now ∷ [])) c.specifier.ensures
    c.in_ok-add_target.ensures)

pub returns : goal.returns
returns c =
    let table = symbol_table_of_ref c.args.info in
    let texts = map (λ (star : ExportStarStatement). star.specifier_text) table.stars in
    let past : slice_get texts c.loop-specifier_text.position ≡ None =
    slice_get-map (λ (star : ExportStarStatement). star.specifier_text) table.stars c.loop-specifier_text.position ∙ sym c.in_default.ensures.specifier_text in
    targets_all c.args.graph.now table.specifier texts c.args.list.now c.loop-specifier_text.list c.loop-specifier_text.position
    c.loop-specifier_text.invariant past
