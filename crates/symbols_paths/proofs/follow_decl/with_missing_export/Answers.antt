use Rattle.std.proofs.Common.{◌∙◌, ap}
use Rattle.std.proofs.lemmas.Result.{IfOk-weaker}
use Rattle.symbols_root.specs.Roots.{RootView}
use Rattle.symbols_paths.specs.PathTrees.{forest_below_link_unless_empty, joined_forests}
use Rattle.symbols_paths.specs.inner.PathBuilders.{built_paths}
use Rattle.symbols_paths.specs.inner.StillToCome.{link_head_of_current_decl}
use Rattle.symbols_paths.proofs.follow_decl.with_missing_export.Goals as goal

pub returns-clause-next : goal.returns-clause-next
returns-clause-next c = IfOk-weaker c.with_link.result _ _ (λ next is. record {
  symbol = is.symbol;
  index = is.index;
  paths = λ (root : RootView). is.paths root ∙ ap (λ f. joined_forests (built_paths root c.args.here.paths.items)
      (forest_below_link_unless_empty (link_head_of_current_decl root c.args.here c.args.here.symbol) f)) (c.in_ok-next.ensures.view root);
}) c.with_link.ensures.next

pub returns-clause-stored : goal.returns-clause-stored
returns-clause-stored c = IfOk-weaker c.with_link.result _ _ (λ next is root known before within.
    is root known before (c.in_ok-next.ensures.stored root within)) c.with_link.ensures.stored
