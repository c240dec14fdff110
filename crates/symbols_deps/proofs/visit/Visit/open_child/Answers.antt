use Rattle.std.proofs.Common.{◌≡◌, ◌||◌, true, false, not, unwrap_or, rules}
use Rattle.symbols_ast.specs.NodeRefs.{node_view}
use Rattle.symbols_deps.specs.Dependencies.{edge_namespace, is_guard_for_expressions_mode}
use Rattle.symbols_nodes.specs.References.{visits_expressions}
use Rattle.symbols_deps.proofs.VisitLists.{no_child, closed_child, open_child}
use Rattle.symbols_deps.proofs.visit.Visit.open_child.Goals as goal

pub returns-in_default-clause-closed : goal.returns-in_default-clause-closed
returns-in_default-clause-closed c =
    let visit = c.args.self in
    let unresolved = rw c.in_default.is at c.node_of_greater_number.ensures.found in
    λ _. no_child visit.mode visit.namespace (node_view visit.node) c.args.rules c.args.id unresolved

pub returns-then-not-is_step_followed_in_mode-clause-closed : goal.returns-then-not-is_step_followed_in_mode-clause-closed
returns-then-not-is_step_followed_in_mode-clause-closed c =
    let visit = c.args.self in
    let there = rw c.in-Some.is at c.node_of_greater_number.ensures.found in
    let closed : (visits_expressions visit.mode || not (is_guard_for_expressions_mode c.args.rules.guard c.kind-kind.result.now)) ≡ false = search rules in
    λ _. closed_child visit.mode visit.namespace (node_view visit.node) c.args.rules c.args.id (node_view c.in-Some.node) c.kind-kind.result.now there
    c.kind-kind.ensures closed

pub returns-clause-reaches : goal.returns-clause-reaches
returns-clause-reaches c =
    let visit = c.args.self in
    let there = rw c.in-Some.is at c.node_of_greater_number.ensures.found in
    let opens : (visits_expressions visit.mode || not (is_guard_for_expressions_mode c.args.rules.guard c.kind-kind.result.now)) ≡ true = search rules in
    let marked : c.unwrap_or-namespace.result ≡ unwrap_or (edge_namespace c.args.rules.mark c.kind-kind.result.now) visit.namespace = search rules in
    rw (marked, c.pattern_context_of-form.ensures)
    (open_child visit.mode visit.namespace (node_view visit.node) c.args.rules c.args.id (node_view c.in-Some.node)
    c.kind-kind.result.now there c.kind-kind.ensures opens)
