use Rattle.std.proofs.lemmas.Result.{err_from_is_err_and, IfOk-weaker, IfErr-weaker}
use Rattle.symbols_ast.specs.Graph.{graph_view}
use Rattle.symbols_graph.proofs.GraphFaultOrder.{none_before_first, none_before_more, first_of_all, none_at_all}
use Rattle.symbols_graph.proofs.graph_check.check.Goals as goal

pub returns-in_err-check_sources-clause-refused : goal.returns-in_err-check_sources-clause-refused
returns-in_err-check_sources-clause-refused c =
    let before = none_before_more (graph_view c.args.raw.now) 1 (none_before_more (graph_view c.args.raw.now) 0 (none_before_first (graph_view c.args.raw.now))
    c.in_ok-check_count.ensures.accepted) c.in_ok-check_specifiers.ensures.accepted in
    let gives = err_from_is_err_and c.from_residual-in_err-check_sources.result c.from_residual-in_err-check_sources.ensures.1 in
    rw (gives.1, gives.2) (first_of_all (graph_view c.args.raw.now) 2 _ before c.in_err-check_sources.ensures.refused)

pub returns-in_err-check_redirect_targets-clause-refused : goal.returns-in_err-check_redirect_targets-clause-refused
returns-in_err-check_redirect_targets-clause-refused c =
    let before = none_before_more (graph_view c.args.raw.now) 2 (none_before_more (graph_view c.args.raw.now) 1 (none_before_more (graph_view c.args.raw.now) 0
    (none_before_first (graph_view c.args.raw.now)) c.in_ok-check_count.ensures.accepted) c.in_ok-check_specifiers.ensures.accepted)
    c.in_ok-check_sources.ensures.accepted in
    let gives = err_from_is_err_and c.from_residual-in_err-check_redirect_targets.result c.from_residual-in_err-check_redirect_targets.ensures.1 in
    rw (gives.1, gives.2) (first_of_all (graph_view c.args.raw.now) 3 _ before c.in_err-check_redirect_targets.ensures.refused)

pub returns-in_err-check_resolutions-clause-refused : goal.returns-in_err-check_resolutions-clause-refused
returns-in_err-check_resolutions-clause-refused c =
    let before = none_before_more (graph_view c.args.raw.now) 3 (none_before_more (graph_view c.args.raw.now) 2 (none_before_more (graph_view c.args.raw.now) 1
    (none_before_more (graph_view c.args.raw.now) 0 (none_before_first (graph_view c.args.raw.now)) c.in_ok-check_count.ensures.accepted)
    c.in_ok-check_specifiers.ensures.accepted) c.in_ok-check_sources.ensures.accepted) c.in_ok-check_redirect_targets.ensures.accepted in
    let gives = err_from_is_err_and c.from_residual-in_err-check_resolutions.result c.from_residual-in_err-check_resolutions.ensures.1 in
    rw (gives.1, gives.2) (first_of_all (graph_view c.args.raw.now) 4 _ before c.in_err-check_resolutions.ensures.refused)

pub returns-clause-accepted : goal.returns-clause-accepted
returns-clause-accepted c =
    let before = none_before_more (graph_view c.args.raw.now) 4 (none_before_more (graph_view c.args.raw.now) 3 (none_before_more (graph_view c.args.raw.now) 2
    (none_before_more (graph_view c.args.raw.now) 1 (none_before_more (graph_view c.args.raw.now) 0 (none_before_first (graph_view c.args.raw.now))
    c.in_ok-check_count.ensures.accepted) c.in_ok-check_specifiers.ensures.accepted) c.in_ok-check_sources.ensures.accepted)
    c.in_ok-check_redirect_targets.ensures.accepted) c.in_ok-check_resolutions.ensures.accepted in
    IfOk-weaker c.check_trees.result _ _ (λ _ none. none_at_all (graph_view c.args.raw.now) (none_before_more (graph_view c.args.raw.now) 5 before none))
    c.check_trees.ensures.accepted

pub returns-clause-refused : goal.returns-clause-refused
returns-clause-refused c =
    let before = none_before_more (graph_view c.args.raw.now) 4 (none_before_more (graph_view c.args.raw.now) 3 (none_before_more (graph_view c.args.raw.now) 2
    (none_before_more (graph_view c.args.raw.now) 1 (none_before_more (graph_view c.args.raw.now) 0 (none_before_first (graph_view c.args.raw.now))
    c.in_ok-check_count.ensures.accepted) c.in_ok-check_specifiers.ensures.accepted) c.in_ok-check_sources.ensures.accepted)
    c.in_ok-check_redirect_targets.ensures.accepted) c.in_ok-check_resolutions.ensures.accepted in
    IfErr-weaker c.check_trees.result _ _ (λ fault first. first_of_all (graph_view c.args.raw.now) 5 fault before first) c.check_trees.ensures.refused
