use Rattle.std.proofs.Common.{◌≡◌, ℕ, List, take, map, Bor}
use Rattle.std.specs.List.{list_any}
use Rattle.std.specs.Str.{bytes_eq}
use Rattle.std.specs.HashSet.{contains}
use Rattle.symbols_ast.specs.Graph.{redirect_view}
use Rattle.symbols_graph.specs.GraphFaults.{redirect_sources, IsRedirectToRedirect}
use Rattle.symbols_graph.proofs.RepeatLemmas.{NoneBelow}
use Rattle.symbols_graph.proofs.redirects.redirect_to_redirect.Given as goal

abbrev pub invariant-loop-source : goal.invariant-loop-source
invariant-loop-source l =
    (q : Bor (List ℕ)) → contains (λ x y. bytes_eq x.now y.now) l.starts q
    ≡ list_any (λ y. bytes_eq y q.now) (take l.source-index (redirect_sources (map redirect_view l.redirects)))

abbrev pub invariant-loop-source-2 : goal.invariant-loop-source-2
invariant-loop-source-2 l = NoneBelow (IsRedirectToRedirect (map redirect_view l.redirects)) l.source-index
