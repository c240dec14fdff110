use Rattle.std.proofs.Common.{length, map, sym, subst, ◌∙◌}
use Rattle.std.proofs.lemmas.List.{nil_from_length}
use Rattle.symbols_nodes.specs.References.{import_type}
use Rattle.symbols_root.specs.Roots.{specifier_in}
use Rattle.symbols_paths.specs.PathTrees.{QualifiedNameParts}
use Rattle.symbols_paths.specs.NeededModules.{IsNeededByReference, AreNewlyStoredAmong}
use Rattle.symbols_paths.specs.inner.PathBuilders.{remaining_parts, built_paths}
use Rattle.symbols_paths.specs.DepAnswers.{resolved_dep_entry_view}
use Rattle.symbols_paths.proofs.DepEntries.{import_answer}
use Rattle.symbols_paths.proofs.NamedPathLemmas.{none_at, some_at}
use Rattle.symbols_paths.proofs.symbol_dep.resolve_import_type_dep.Goals as goal

pub returns-in_ok-entries_of_builders-in-Ok-clause-answers : goal.returns-in_ok-entries_of_builders-in-Ok-clause-answers
returns-in_ok-entries_of_builders-in-Ok-clause-answers c =
    let root = c.resolve_qualified_export_name.new.root in
    let some = some_at (length (remaining_parts c.args.parts.now)) (sym c.if-is_empty.false ∙ c.is_empty.ensures) in
    (import_answer c.args.root.now.rules c.args.root.now.graph (specifier_in c.args.root.now c.args.module_id) c.args.specifier_text.now
    (remaining_parts c.args.parts.now) (built_paths root c.in-Ok.paths.items)
    (map (resolved_dep_entry_view root) c.in_ok-entries_of_builders-in-Ok.field-0.items)
    some c.in-Ok.ensures.found (c.in_ok-entries_of_builders-in-Ok.ensures.view root)).0

pub returns-in_ok-entries_of_builders-in-Ok-clause-listed : goal.returns-in_ok-entries_of_builders-in-Ok-clause-listed
returns-in_ok-entries_of_builders-in-Ok-clause-listed c =
    let root = c.resolve_qualified_export_name.new.root in
    let some = some_at (length (remaining_parts c.args.parts.now)) (sym c.if-is_empty.false ∙ c.is_empty.ensures) in
    (import_answer c.args.root.now.rules c.args.root.now.graph (specifier_in c.args.root.now c.args.module_id) c.args.specifier_text.now
    (remaining_parts c.args.parts.now) (built_paths root c.in-Ok.paths.items)
    (map (resolved_dep_entry_view root) c.in_ok-entries_of_builders-in-Ok.field-0.items)
    some c.in-Ok.ensures.found (c.in_ok-entries_of_builders-in-Ok.ensures.view root)).1

pub returns-in_ok-entries_of_builders-in-Ok-clause-stored : goal.returns-in_ok-entries_of_builders-in-Ok-clause-stored
returns-in_ok-entries_of_builders-in-Ok-clause-stored c =
    c.in_ok-entries_of_builders-in-Ok.ensures.stored c.resolve_qualified_export_name.new.root c.in-Ok.ensures.stored

pub returns-then-is_empty-clause-stores : goal.returns-then-is_empty-clause-stores
returns-then-is_empty-clause-stores c =
    let root = c.args.root.now in
    let parts = remaining_parts c.args.parts.now in
    let none = nil_from_length parts (none_at (length parts) (sym c.if-is_empty.true ∙ c.is_empty.ensures)) in
    subst (λ (ps : QualifiedNameParts). AreNewlyStoredAmong root c.resolve_import_type.new.root (IsNeededByReference root.rules root.graph
    (specifier_in root c.args.module_id) (import_type c.args.specifier_text.now ps))) (sym none) c.resolve_import_type.ensures.stores
