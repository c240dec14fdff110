use Rattle.std.proofs.Common.{◌∙◌}
use Rattle.symbols_paths.specs.PathTrees.{forest_below_link_unless_empty}
use Rattle.symbols_paths.specs.Views.{decl_by_specifier}
use Rattle.symbols_paths.specs.inner.Views.{symbol_of_unique_id}
use Rattle.symbols_paths.specs.inner.PathBuilders.{built_paths, remaining_parts}
use Rattle.symbols_paths.specs.Derived.{alias_link_head}
use Rattle.symbols_paths.proofs.Forwards.{option_stored}
use Rattle.symbols_paths.proofs.NextDecls.{next_with, next_stored}
use Rattle.symbols_paths.proofs.follow_decl.with_alias_link.Goals as goal

pub returns-clause-next : goal.returns-clause-next
returns-clause-next c =
    let added = c.in_ok-push_link_with_parts.ensures in
    next_with c.args.here c.at_next_decl.result added.0 (λ root. forest_below_link_unless_empty (alias_link_head (symbol_of_unique_id root c.args.here.symbol)
    c.args.here.index (remaining_parts c.args.parts.now)) (built_paths root c.args.next.items)) c.at_next_decl.ensures.next.symbol
    c.at_next_decl.ensures.next.index
    (c.at_next_decl.ensures.same ∙ added.1) (λ root. added.2 root
    ∙ (λ i. forest_below_link_unless_empty (record {
      symbol = symbol_of_unique_id root c.args.here.symbol;
      decl = decl_by_specifier root c.args.here.symbol.module_id (c.decl-decl.ensures i);
      parts = remaining_parts c.args.parts.now;
    }) (built_paths root c.args.next.items)))

pub returns-clause-stored : goal.returns-clause-stored
returns-clause-stored c =
    let added = c.in_ok-push_link_with_parts.ensures in
    λ root known before next.
    next_stored c.args.here c.at_next_decl.result added.0 (λ root. forest_below_link_unless_empty (alias_link_head (symbol_of_unique_id root c.args.here.symbol)
    c.args.here.index (remaining_parts c.args.parts.now)) (built_paths root c.args.next.items)) c.at_next_decl.ensures.next.symbol
    c.at_next_decl.ensures.next.index
    (c.at_next_decl.ensures.same ∙ added.1) root before (option_stored root added.0 (added.3 root known next))
