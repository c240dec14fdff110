use Rattle.std.proofs.Common.{List, ℕ, subst, map}
use Rattle.std.proofs.lemmas.Result.{err_from_is_err_and, IfOk-weaker, IfErr-weaker}
use Rattle.indexmap.specs.IndexMap.{values}
use Rattle.symbols_ast.specs.Graph.{module_view, redirect_view}
use Rattle.symbols_graph.specs.inner.PutSteps.{IsFirstRepeatedText}
use Rattle.symbols_graph.proofs.PutFaults.{refused_by_texts, refused_by_tree, accepted_put}
use Rattle.symbols_graph.proofs.put_check.check_put.Goals as goal

pub returns-in_err-check_texts-clause-refused : goal.returns-in_err-check_texts-clause-refused
returns-in_err-check_texts-clause-refused c =
    let resolved = map redirect_view c.args.resolutions.now in
    let gives = err_from_is_err_and c.from_residual-in_err-check_texts.result c.from_residual-in_err-check_texts.ensures.1 in
    let repeated = subst (λ (s : List ℕ). IsFirstRepeatedText s resolved c.in_err-check_texts.field-0.0) c.as_str.ensures.value
    c.in_err-check_texts.ensures.refused in
    rw (gives.1, gives.2) (refused_by_texts (values c.args.modules.now) (module_view c.args.raw.now) resolved c.in_ok-check_room.ensures.accepted _ repeated)

pub returns-clause-accepted : goal.returns-clause-accepted
returns-clause-accepted c =
    let accepted = accepted_put (values c.args.modules.now) (module_view c.args.raw.now) (map redirect_view c.args.resolutions.now)
    c.in_ok-check_room.ensures.accepted c.in_ok-check_texts.ensures.distinct in
    IfOk-weaker c.check_tree.result _ _ (λ _ checked. accepted checked) c.check_tree.ensures.checked

pub returns-clause-refused : goal.returns-clause-refused
returns-clause-refused c =
    let refused = refused_by_tree (values c.args.modules.now) (module_view c.args.raw.now) (map redirect_view c.args.resolutions.now)
    c.in_ok-check_room.ensures.accepted c.in_ok-check_texts.ensures.distinct in
    IfErr-weaker c.check_tree.result _ _ (λ fault found. refused fault found) c.check_tree.ensures.refused
