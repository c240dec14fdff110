use Rattle.std.proofs.Common.{refl, rules, length, string_bytes}
use Rattle.std.proofs.lemmas.Iterator.Adapters.{YieldsList-from_vec}
use Rattle.std.proofs.lemmas.Iterator.Consumers.{YieldsList-turn, YieldsList-end}
use Rattle.symbols_ast.specs.Graph.{redirect_view}
use Rattle.symbols_graph.proofs.FilledMaps.{inserted_more, filled_all}
use Rattle.symbols_graph.proofs.graph_maps.keyed_redirects.Goals as goal

pub loop-source-preserved : goal.loop-source-preserved
loop-source-preserved c =
    let all = c.args.redirects.items in
    let given = c.into_iter-source-iterator.ensures.into_iter_gives in
    let n = length c.loop-source.yielded in
    let rank = YieldsList-turn (YieldsList-from_vec all given.0 (search rules)) c.loop-source.yielded c.loop-source.source-iterator c.loop-source.yielded_by
    c.next.result c.next.new.self (c.in-Some.source, c.in-Some.target) c.in-Some.is c.next.ensures.steps in
    inserted_more (λ e. (string_bytes e.0, string_bytes e.1)) redirect_view (λ p. p.0) (λ _. refl) c.loop-source.keyed all n c.requires.distinct
    c.loop-source.invariant c.in-Some.source c.in-Some.target (c.in-Some.source, c.in-Some.target) rank.0 rank.1 refl _ c.in_ok-put.ensures.entries
    c.loop-source.yielded _ refl

pub returns : goal.returns
returns c =
    let all = c.args.redirects.items in
    let given = c.into_iter-source-iterator.ensures.into_iter_gives in
    let n = length c.loop-source.yielded in
    let end = YieldsList-end (YieldsList-from_vec all given.0 (search rules)) c.loop-source.yielded c.loop-source.source-iterator c.loop-source.yielded_by
    c.next.result c.next.new.self c.in-None.is c.next.ensures.steps in
    filled_all (λ e. (string_bytes e.0, string_bytes e.1)) redirect_view c.loop-source.keyed.entries all n c.loop-source.invariant end.1
