use Rattle.std.proofs.Common.{◌≡◌, inl, inr, sym, ap, ◌∙◌}
use Rattle.std.proofs.lemmas.Result.{on_ok_weaker}
use Rattle.symbols_table.specs.Modules.{symbol_table_of_ref}
use Rattle.symbols_root.specs.Roots.{specifier_in}
use Rattle.symbols_exports.specs.StarStatements.{star_specifiers}
use Rattle.symbols_answers.specs.Questions.{append_resolved_specifiers, star_and_import_specifiers, followed_specifiers}
use Rattle.symbols_queries.specs.Queries.{query_view}
use Rattle.symbols_queries.specs.declared.query.Query.{Query}
use Rattle.symbols_queries.proofs.StoredSpecifiers.{stars_requested, stars_and_imports_requested}
use Rattle.symbols_queries.proofs.inputs.add_followed_targets.Goals as goal

pub returns-in_ok-add_star_targets-in-Paths : goal.returns-in_ok-add_star_targets-in-Paths
returns-in_ok-add_star_targets-in-Paths c =
    let root = c.args.root.now in
    let requested = λ (query : Query). append_resolved_specifiers root.graph (specifier_in root c.args.module_id) c.args.list.now
    (followed_specifiers root.graph (query_view query).question (specifier_in root c.args.module_id)) in
    let Same = append_resolved_specifiers root.graph (specifier_in root c.args.module_id) c.args.list.now
    (star_and_import_specifiers root.graph (specifier_in root c.args.module_id)) ≡ requested c.args.query.now in
    let same : Same = elim c.in-Paths.is [
      | inl paths ↦ ap requested (sym paths.2)
      | inr (inl definitions) ↦ ap requested (sym definitions.2)
      | inr (inr (inl leaves)) ↦ ap requested (sym leaves.2)
      | inr (inr (inr resolve)) ↦ ap requested (sym resolve.2)
    ] in
    on_ok_weaker c.add_import_targets.result (λ added.
    stars_and_imports_requested root c.args.module_id (symbol_table_of_ref c.in-Some.info) c.in-Some.ensures.table c.graph-graph.result.now c.args.list.now
    c.add_star_targets.new.list c.add_import_targets.new.list c.graph-graph.ensures c.in_ok-add_star_targets-in-Paths.ensures added ∙ same)
    c.add_import_targets.ensures

pub returns-in-Exports : goal.returns-in-Exports
returns-in-Exports c =
    let root = c.args.root.now in
    let requested = λ (query : Query). append_resolved_specifiers root.graph (specifier_in root c.args.module_id) c.args.list.now
    (followed_specifiers root.graph (query_view query).question (specifier_in root c.args.module_id)) in
    let Same = append_resolved_specifiers root.graph (specifier_in root c.args.module_id) c.args.list.now
    (star_specifiers root.graph (specifier_in root c.args.module_id)) ≡ requested c.args.query.now in
    let same : Same = elim c.in-Exports.is [
      | inl exports ↦ ap requested (sym exports.1)
      | inr names ↦ ap requested (sym names.1)
    ] in
    on_ok_weaker c.add_star_targets-in-Exports.result (λ added.
    stars_requested root c.args.module_id (symbol_table_of_ref c.in-Some.info) c.in-Some.ensures.table c.graph-graph.result.now c.args.list.now
    c.add_star_targets-in-Exports.new.list c.graph-graph.ensures added ∙ same) c.add_star_targets-in-Exports.ensures
