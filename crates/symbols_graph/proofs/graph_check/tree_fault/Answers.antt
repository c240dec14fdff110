use Rattle.std.proofs.Common.{◌≡◌, ◌∙◌, sym, ap, List, ℕ, Option, Some, string_bytes}
use Rattle.std.specs.Option.{option_map}
use Rattle.symbols_ast.specs.declared.tree.arena.Tree.{Tree}
use Rattle.symbols_ast.specs.Graph.{esm, content_view}
use Rattle.symbols_graph.proofs.TreeRefusal.{content_viewed}
use Rattle.symbols_graph.proofs.graph_check.tree_fault.Goals as goal

pub returns : goal.returns
returns c =
    let types = option_map string_bytes c.in-Esm.types in
    let is : content_view c.args.kind.now ≡ esm c.as_str.result.now (Some c.in-Some.tree) types =
    ap content_view c.in-Esm.is ∙ ap (λ (o : Option Tree). esm (string_bytes c.in-Esm.text) o types) c.in-Some.is
    ∙ ap (λ (t : List ℕ). esm t (Some c.in-Some.tree) types) (sym c.as_str.ensures.value) in
    content_viewed (content_view c.args.kind.now) c.as_str.result.now c.in-Some.tree types is c.first_tree_fault.result c.first_tree_fault.ensures.first
    c.first_tree_fault.ensures.whole
