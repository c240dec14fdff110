use Rattle.std.proofs.Common.{map, refl}
use Rattle.symbols_ast.specs.Ids.{id_view}
use Rattle.symbols_root.specs.Roots.{specifier_in}
use Rattle.symbols_paths.specs.inner.PathBuilders.{remaining_parts, built_paths}
use Rattle.symbols_paths.specs.DepAnswers.{resolved_dep_entry_view, path_entries, symbol_referenced_by_id, unresolved_id_path}
use Rattle.symbols_paths.proofs.DepEntries.{entries_answer, entries_listed}
use Rattle.symbols_paths.proofs.symbol_dep.resolve_id_dep.Goals as goal

pub returns-in_ok-entries_of_builders-in-Ok-clause-answers : goal.returns-in_ok-entries_of_builders-in-Ok-clause-answers
returns-in_ok-entries_of_builders-in-Ok-clause-answers c =
    let m = specifier_in c.args.root.now c.args.module_id in
    let root = c.go_to_id_and_parts_definition_paths.new.root in
    let otherwise = unresolved_id_path m (id_view c.args.id.now) (remaining_parts c.args.parts.now) in
    entries_answer c.args.root.now.rules c.args.root.now.graph (symbol_referenced_by_id c.args.root.now.graph m (id_view c.args.id.now)
    (remaining_parts c.args.parts.now)) otherwise (built_paths root c.in-Ok.paths.items) (map (resolved_dep_entry_view root)
    c.in_ok-entries_of_builders-in-Ok.field-0.items) (path_entries otherwise) c.in-Ok.ensures.found (c.in_ok-entries_of_builders-in-Ok.ensures.view root) refl

pub returns-in_ok-entries_of_builders-in-Ok-clause-listed : goal.returns-in_ok-entries_of_builders-in-Ok-clause-listed
returns-in_ok-entries_of_builders-in-Ok-clause-listed c =
    let m = specifier_in c.args.root.now c.args.module_id in
    let root = c.go_to_id_and_parts_definition_paths.new.root in
    let otherwise = unresolved_id_path m (id_view c.args.id.now) (remaining_parts c.args.parts.now) in
    entries_listed c.args.root.now.rules c.args.root.now.graph (symbol_referenced_by_id c.args.root.now.graph m (id_view c.args.id.now)
    (remaining_parts c.args.parts.now)) otherwise (built_paths root c.in-Ok.paths.items) (map (resolved_dep_entry_view root)
    c.in_ok-entries_of_builders-in-Ok.field-0.items) (path_entries otherwise) c.in-Ok.ensures.found (c.in_ok-entries_of_builders-in-Ok.ensures.view root) refl

pub returns-in_ok-entries_of_builders-in-Ok-clause-stored : goal.returns-in_ok-entries_of_builders-in-Ok-clause-stored
returns-in_ok-entries_of_builders-in-Ok-clause-stored c =
    c.in_ok-entries_of_builders-in-Ok.ensures.stored c.go_to_id_and_parts_definition_paths.new.root c.in-Ok.ensures.stored
