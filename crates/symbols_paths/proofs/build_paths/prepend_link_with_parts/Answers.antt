use Rattle.std.proofs.Common.{◌∙◌}
use Rattle.std.proofs.lemmas.Result.{IfOk-weaker}
use Rattle.symbols_paths.specs.PathTrees.{forest_below_link_unless_empty}
use Rattle.symbols_paths.specs.Views.{decl_by_specifier, paths_by_specifier}
use Rattle.symbols_paths.specs.inner.Views.{symbol_of_unique_id}
use Rattle.symbols_paths.proofs.build_paths.prepend_link_with_parts.Goals as goal

pub returns-clause-view : goal.returns-clause-view
returns-clause-view c =
    let step = c.args.step in
    IfOk-weaker c.prepend_link.result _ _ (λ paths view root.
    view root
    ∙ (λ i. forest_below_link_unless_empty (record {
      symbol = symbol_of_unique_id root step.symbol;
      decl = decl_by_specifier root step.symbol.module_id step.symbol_decl;
      parts = c.in_ok-same.ensures i;
    }) (paths_by_specifier root c.args.next.items))) c.prepend_link.ensures.view
