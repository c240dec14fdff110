use Rattle.std.proofs.Common.{arith}
use Rattle.std.proofs.lemmas.List.{length-map}
use Rattle.symbols_ast.specs.Graph.{graph_view}
use Rattle.symbols_graph.proofs.GraphFaultOrder.{none_of}
use Rattle.symbols_graph.proofs.graph_check.check_count.Goals as goal

pub returns-clause-accepted : goal.returns-clause-accepted
returns-clause-accepted c = none_of (graph_view c.args.raw.now) 0 (λ i many. omega (arith, rw length-map at many))
