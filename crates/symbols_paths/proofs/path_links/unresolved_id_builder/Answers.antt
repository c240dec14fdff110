use Rattle.std.proofs.Common.{ap, ◌∙◌}
use Rattle.std.proofs.lemmas.Result.{IfOk-weaker}
use Rattle.symbols_root.specs.Roots.{specifier_in}
use Rattle.symbols_paths.specs.PathTrees.{forest_of_tree, leaf, forest_below_link_unless_empty, unresolved, no_symbol}
use Rattle.symbols_paths.specs.inner.PathBuilders.{remaining_parts}
use Rattle.symbols_paths.proofs.NamedPathLemmas.{head_named}
use Rattle.symbols_paths.proofs.path_links.unresolved_id_builder.Goals as goal

pub returns-clause-view : goal.returns-clause-view
returns-clause-view c =
    let s = c.args.symbol in
    IfOk-weaker c.link_builder_with_parts.result _ _ (λ builder view root.
    view root
    ∙ ap (forest_below_link_unless_empty (head_named root s.module_id s.symbol_id c.args.symbol_decl (remaining_parts c.args.parts.now)))
    (c.in_ok-next.ensures.view root
    ∙ (λ i. forest_of_tree (leaf (unresolved (record {
      specifier = specifier_in root s.module_id;
      reason = no_symbol (c.in_ok-copied_id.ensures i);
      parts = (c.in_ok-missing.ensures ∙ c.texts.ensures.view) i;
    })))))) c.link_builder_with_parts.ensures.view

pub returns-clause-stored : goal.returns-clause-stored
returns-clause-stored c = IfOk-weaker c.link_builder_with_parts.result _ _ (λ builder stored root h. stored root h (c.in_ok-next.ensures.stored root h))
    c.link_builder_with_parts.ensures.stored
