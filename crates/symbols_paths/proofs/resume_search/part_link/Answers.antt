use Rattle.std.proofs.Common.{◌<◌, ◌∙◌, length, sym, ap, subst}
use Rattle.std.proofs.lemmas.Result.{IfOk-weaker}
use Rattle.symbols_ast.specs.declared.ids.ModuleId.{ModuleId}
use Rattle.symbols_root.specs.Roots.{RootView}
use Rattle.symbols_paths.specs.PathTrees.{forest_below_link_unless_empty}
use Rattle.symbols_paths.specs.inner.PathBuilders.{remaining_parts, built_paths}
use Rattle.symbols_paths.proofs.QualifiedSteps.{head_in_index}
use Rattle.symbols_paths.proofs.resume_search.part_link.Goals as goal

pub returns-clause-view : goal.returns-clause-view
returns-clause-view c = IfOk-weaker c.link_builder_with_parts.result _ _ (λ builder is (root : RootView). is root
    ∙ ap (λ head. forest_below_link_unless_empty head (built_paths root c.args.next.items)) (head_in_index root c.new-symbol.result c.args.definition.now
    (remaining_parts c.args.parts.now) c.new-symbol.ensures.module c.new-symbol.ensures.symbol)) c.link_builder_with_parts.ensures.view

pub returns-clause-stored : goal.returns-clause-stored
returns-clause-stored c = IfOk-weaker c.link_builder_with_parts.result _ _ (λ builder is (root : RootView) within next.
    is root (subst (λ (id : ModuleId). id.0 < length root.stored) (sym c.new-symbol.ensures.module) within) next) c.link_builder_with_parts.ensures.stored
