use Rattle.std.proofs.Common.{◌||◌, Bool, ◌∙◌, sym, ap, subst, take, map, List, ℕ}
use Rattle.std.specs.List.{list_any}
use Rattle.std.specs.Str.{bytes_eq}
use Rattle.symbols_ast.specs.Graph.{redirect_view}
use Rattle.symbols_graph.specs.GraphFaults.{redirect_sources, IsRedirectToRedirect}
use Rattle.symbols_graph.proofs.ChainLemmas.{source_more, target_viewed, chained_at, unchained_more, unchained_all, gained}
use Rattle.symbols_graph.proofs.redirects.redirect_to_redirect.Goals as goal

pub loop-source-preserved : goal.loop-source-preserved
loop-source-preserved c = λ q.
    let test : List ℕ → Bool = λ y. bytes_eq y q.now in
    let more = source_more c.args.redirects.now test c.loop-source.source-index c.loop-source-item.result c.loop-source-test.true c.loop-source-item.is in
    gained (bytes_eq c.as_str.result.now q.now) _ _ _ (c.in_ok-insert.ensures.updates.0 q) (c.loop-source.invariant q)
    (more ∙ ap (λ t. list_any test (take c.loop-source.source-index (redirect_sources (map redirect_view c.args.redirects.now)))
    || test t) (sym c.as_str.ensures.value))

pub returns-then-contains : goal.returns-then-contains
returns-then-contains c =
    let depth_of_each = target_viewed c.args.redirects.now c.loop-source.source-index c.loop-source-test.false c.as_str-in-loop-source-2.result.now _
    c.as_str-in-loop-source-2.ensures.value c.contains.result _ c.contains.ensures (c.loop-source.invariant c.as_str-in-loop-source-2.result) in
    let here = chained_at c.args.redirects.now c.loop-source-2.source-index c.loop-source-2-item.result c.loop-source-2-test.true c.loop-source-2-item.is
    c.contains.result depth_of_each c.if-contains.true in (
      c.loop-source-2.source-index,
      subst (IsRedirectToRedirect (map redirect_view c.args.redirects.now) c.loop-source-2.source-index)
          (sym c.as_str-then-contains.ensures.value) here,
      c.loop-source-2.invariant,
    )

pub loop-source-2-preserved : goal.loop-source-2-preserved
loop-source-2-preserved c =
    let depth_of_each = target_viewed c.args.redirects.now c.loop-source.source-index c.loop-source-test.false c.as_str-in-loop-source-2.result.now _
    c.as_str-in-loop-source-2.ensures.value c.contains.result _ c.contains.ensures (c.loop-source.invariant c.as_str-in-loop-source-2.result) in
    unchained_more c.args.redirects.now c.loop-source-2.source-index c.loop-source-2-item.result c.loop-source-2-test.true c.loop-source-2-item.is
    c.contains.result depth_of_each c.if-contains.false c.loop-source-2.invariant

pub returns : goal.returns
returns c = unchained_all c.args.redirects.now c.loop-source-2.source-index c.loop-source-2-test.false c.loop-source-2.invariant
