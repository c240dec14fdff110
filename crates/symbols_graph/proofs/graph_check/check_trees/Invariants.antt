use Rattle.std.specs.List.{AllWithin}
use Rattle.symbols_ast.specs.Graph.{IsCheckedContent, content_view}
use Rattle.symbols_graph.proofs.graph_check.check_trees.Given as goal

abbrev pub invariant-loop-module : goal.invariant-loop-module
invariant-loop-module l = AllWithin (λ m. IsCheckedContent (content_view m.kind)) l.raw.modules.items 0 l.module-index
