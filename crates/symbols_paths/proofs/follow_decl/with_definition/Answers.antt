use Rattle.std.proofs.Common.{◌∙◌, Some}
use Rattle.symbols_paths.specs.PathTrees.{leaf, definition, forest_of_tree}
use Rattle.symbols_paths.specs.Views.{decl_by_specifier, star_import_view}
use Rattle.symbols_paths.proofs.Forwards.{option_stored}
use Rattle.symbols_paths.proofs.NextDecls.{next_with, next_stored}
use Rattle.symbols_paths.proofs.follow_decl.with_definition.Goals as goal

pub returns-clause-next : goal.returns-clause-next
returns-clause-next c =
    let added = c.in_ok-push_definition.ensures in
    next_with c.args.here c.at_next_decl.result (Some added.0) (λ root. forest_of_tree (leaf (definition (record {
      decl = decl_by_specifier root c.args.here.symbol.module_id (record { symbol = c.args.here.symbol.symbol_id; index = c.args.here.index });
      range = c.args.range;
      star = star_import_view c.args.kind;
    })))) c.at_next_decl.ensures.next.symbol c.at_next_decl.ensures.next.index
    (c.at_next_decl.ensures.same ∙ added.1) (λ root. added.2 root
    ∙ (λ i. forest_of_tree (leaf (definition (record {
      decl = decl_by_specifier root c.args.here.symbol.module_id (c.decl-decl.ensures i);
      range = c.args.range;
      star = star_import_view c.args.kind;
    })))))

pub returns-clause-stored : goal.returns-clause-stored
returns-clause-stored c =
    let added = c.in_ok-push_definition.ensures in
    λ root known before.
    next_stored c.args.here c.at_next_decl.result (Some added.0) (λ root. forest_of_tree (leaf (definition (record {
      decl = decl_by_specifier root c.args.here.symbol.module_id (record { symbol = c.args.here.symbol.symbol_id; index = c.args.here.index });
      range = c.args.range;
      star = star_import_view c.args.kind;
    })))) c.at_next_decl.ensures.next.symbol c.at_next_decl.ensures.next.index
    (c.at_next_decl.ensures.same ∙ added.1) root before (option_stored root (Some added.0) (added.3 root known))
