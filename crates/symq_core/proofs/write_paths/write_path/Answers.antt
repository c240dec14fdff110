use Rattle.std.proofs.Common.{sym, ap, subst, ◌∙◌}
use Rattle.symbols_paths.specs.PathTrees.{PathTree}
use Rattle.symbols_queries.specs.Queries.{path_tree_view}
use Rattle.symq_core.specs.PathData.{path_tree_json}
use Rattle.symq_core.specs.inner.JsonWriting.{AppendsValueTokensIfOk}
use Rattle.symq_core.proofs.Paths.{definition_is, path_is}
use Rattle.symq_core.proofs.write_paths.write_path.Goals as goal

pub returns-in-Link : goal.returns-in-Link
returns-in-Link c =
    let is = ap path_tree_view c.in-Link.is ∙ path_is c.in-Link.link in
    subst (λ (x : PathTree). AppendsValueTokensIfOk c.write_link.result c.args.out.now c.write_link.new.out (path_tree_json x)) (sym is) c.write_link.ensures

pub returns-in-Definition : goal.returns-in-Definition
returns-in-Definition c =
    let is = ap path_tree_view c.in-Definition.is ∙ definition_is c.in-Definition.definition in
    subst (λ (x : PathTree). AppendsValueTokensIfOk c.write_definition.result c.args.out.now c.write_definition.new.out (path_tree_json x)) (sym is)
    c.write_definition.ensures
