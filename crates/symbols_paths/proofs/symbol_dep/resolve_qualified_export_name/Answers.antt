use Rattle.symbols_root.specs.laws.Growing.{has_grown_refl}
use Rattle.symbols_paths.specs.inner.PathBuilders.{remaining_parts}
use Rattle.symbols_paths.specs.laws.Storing.{newly_stored_among_more, newly_stored_by_two_calls}
use Rattle.symbols_paths.proofs.DepEntries.{part_searched, part_symbol_needs}
use Rattle.symbols_paths.proofs.SearchPreconditions.{keeps_wider, fault_wider}
use Rattle.symbols_paths.proofs.symbol_dep.resolve_qualified_export_name.Goals as goal

pub returns-in-Err-clause-keeps : goal.returns-in-Err-clause-keeps
returns-in-Err-clause-keeps c = fault_wider (has_grown_refl c.args.root.now) (part_searched c.args.root.now c.args.module_id c.args.specifier_text.now
    (remaining_parts c.args.parts.now) c.requires.some) (rw c.texts.ensures.view at c.in-Err.ensures.keeps)

pub returns-in-Err-clause-stores : goal.returns-in-Err-clause-stores
returns-in-Err-clause-stores c = newly_stored_among_more (rw c.texts.ensures.view at c.in-Err.ensures.stores) (part_searched c.args.root.now c.args.module_id
    c.args.specifier_text.now (remaining_parts c.args.parts.now) c.requires.some)

pub returns-in-Ok-Symbol-clause-keeps : goal.returns-in-Ok-Symbol-clause-keeps
returns-in-Ok-Symbol-clause-keeps c =
    let decl_targets = rw (c.in-Ok-Symbol.field-0-is, c.texts.ensures.view) at c.in-Ok-Symbol.ensures.view in
    let first = c.in-Ok-Symbol.ensures.keeps.grown in
    keeps_wider c.resolve_after_first_part.result first (part_symbol_needs c.args.root.now c.import_part_target.new.root c.args.module_id
    c.args.specifier_text.now (remaining_parts c.args.parts.now) c.in-Ok-Symbol.target c.requires.some first decl_targets)
    c.resolve_after_first_part.ensures.keeps

pub returns-in-Ok-Symbol-clause-stores : goal.returns-in-Ok-Symbol-clause-stores
returns-in-Ok-Symbol-clause-stores c =
    let decl_targets = rw (c.in-Ok-Symbol.field-0-is, c.texts.ensures.view) at c.in-Ok-Symbol.ensures.view in
    let parts = remaining_parts c.args.parts.now in
    newly_stored_by_two_calls (newly_stored_among_more (rw c.texts.ensures.view at c.in-Ok-Symbol.ensures.stores)
    (part_searched c.args.root.now c.args.module_id
    c.args.specifier_text.now parts c.requires.some)) c.resolve_after_first_part.ensures.stores (part_symbol_needs c.args.root.now
    c.import_part_target.new.root c.args.module_id c.args.specifier_text.now parts c.in-Ok-Symbol.target c.requires.some
    c.in-Ok-Symbol.ensures.keeps.grown decl_targets)

pub returns-in_err-unresolved_builder-in-Ok-UnresolvedEntry-clause-stores : goal.returns-in_err-unresolved_builder-in-Ok-UnresolvedEntry-clause-stores
returns-in_err-unresolved_builder-in-Ok-UnresolvedEntry-clause-stores c =
    newly_stored_among_more (rw c.texts.ensures.view at c.in-Ok-UnresolvedEntry.ensures.stores) (part_searched c.args.root.now c.args.module_id
    c.args.specifier_text.now (remaining_parts c.args.parts.now) c.requires.some)

pub returns-in_ok-unresolved_builder-in-Ok-UnresolvedEntry-clause-stores : goal.returns-in_ok-unresolved_builder-in-Ok-UnresolvedEntry-clause-stores
returns-in_ok-unresolved_builder-in-Ok-UnresolvedEntry-clause-stores c =
    newly_stored_among_more (rw c.texts.ensures.view at c.in-Ok-UnresolvedEntry.ensures.stores) (part_searched c.args.root.now c.args.module_id
    c.args.specifier_text.now (remaining_parts c.args.parts.now) c.requires.some)
