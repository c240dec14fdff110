use Rattle.std.proofs.Common.{ap, sym, ◌∙◌}
use Rattle.std.proofs.lemmas.Result.{IfOk-weaker}
use Rattle.symbols_paths.specs.PathTrees.{forest_below_link_unless_empty}
use Rattle.symbols_paths.specs.Views.{decl_by_specifier}
use Rattle.symbols_paths.specs.inner.Views.{symbol_of_unique_id}
use Rattle.symbols_paths.specs.inner.PathBuilders.{remaining_parts, built_paths}
use Rattle.symbols_paths.proofs.NamedPathLemmas.{head_named}
use Rattle.symbols_paths.proofs.BuilderLemmas.{is_none}
use Rattle.symbols_paths.proofs.path_links.link_builder_with_parts.Goals as goal

pub returns-then-is_empty-clause-view : goal.returns-then-is_empty-clause-view
returns-then-is_empty-clause-view c = λ root.
    let s = c.args.symbol in
    ap (forest_below_link_unless_empty (head_named root s.module_id s.symbol_id c.args.symbol_decl (remaining_parts c.args.parts.now)))
    (sym (is_none root c.args.next (sym c.if-is_empty.true ∙ c.is_empty.ensures)))

pub returns-clause-view : goal.returns-clause-view
returns-clause-view c =
    let s = c.args.symbol in
    IfOk-weaker c.link_builder_of_step.result _ _ (λ builder view root.
    view root
    ∙ (λ i. forest_below_link_unless_empty
    (record { symbol = symbol_of_unique_id root s; decl = decl_by_specifier root s.module_id c.args.symbol_decl; parts = c.in_ok-same.ensures i })
    (built_paths root c.args.next.items))) c.link_builder_of_step.ensures.view
