use Rattle.symbols_ast.specs.Graph.{content_view}
use Rattle.symbols_ast.proofs.CheckedModules.{faultless_from_checked}
use Rattle.std.proofs.Common.{rules, ◌≡◌}
use Rattle.symbols_ast.specs.Graph.{content_tree}
use Rattle.std.specs.Option.{option_copied}
use Rattle.symbols_ast.proofs.graph.module.GraphModule.tree.Goals as goal

pub returns-in-Esm-clause-faultless : goal.returns-in-Esm-clause-faultless
returns-in-Esm-clause-faultless c =
    let is : option_copied c.as_ref.result ≡ content_tree (content_view c.self.inside.kind) = search rules in
    rw (← c.self.view_is) (faultless_from_checked (content_view c.self.inside.kind) c.as_ref.result is c.self.invariant)
