use Rattle.std.proofs.Common.{◌≡◌, Some, None, ◌∷◌, [], length, refl, sym, ◌∙◌}
use Rattle.std.specs.Option.{option_and_then}
use Rattle.symbols_ast.specs.Ids.{id_view}
use Rattle.symbols_ast.specs.NodeRefs.{node_view, kind_of, node_in}
use Rattle.symbols_ast.specs.Fields.{local_child_of}
use Rattle.symbols_table.specs.DeclViews.{decl_view, file_dep_name_view}
use Rattle.symbols_table.specs.Events.{declare, declare_effect, effect_of_event, changes_of_effects, symbol_of_event_at}
use Rattle.symbols_table.specs.EventsByHolderAndStart.{id_of_ident_child}
use Rattle.symbols_table.specs.ModuleEvents.{import_specifier_events_at, import_dep_name}
use Rattle.symbols_table.proofs.Walks.{on_none}
use Rattle.symbols_table.proofs.ModuleWalks.{no_events, event_as, err_as, on_nothing, import_unnamed, import_named, import_found, import_one}
use Rattle.symbols_table.proofs.builder.table.ModuleBuilder.walk_import_specifier.Goals as goal

pub returns-in_default-clause-table : goal.returns-in_default-clause-table
returns-in_default-clause-table c = λ rows h is at. on_none _ rows (node_in c.args.import.tree.now (Some c.args.n)) _ _ _ (sym c.in_default.ensures) is

pub returns-in_default-local-clause-table : goal.returns-in_default-local-clause-table
returns-in_default-local-clause-table c = λ rows h is at.
    let node = node_view c.in-Some.node in
    let unnamed : id_of_ident_child local_child_of node ≡ None = rw (sym c.in_default-local.ensures) refl in
    no_events _ rows _ (import_found _ c.args.import.tree.now c.args.n node h _ (sym c.in-Some.ensures)
    ∙ import_unnamed c.args.src.now node h (length rows) unnamed) is

pub returns-in_default-sym-clause-table : goal.returns-in_default-sym-clause-table
returns-in_default-sym-clause-table c = λ rows h is at.
    let node = node_view c.in-Some.node in
    let unnamed : id_of_ident_child local_child_of node ≡ None = rw (sym c.in-Some-local.ensures) (sym c.in_default-sym.ensures) in
    no_events _ rows _ (import_found _ c.args.import.tree.now c.args.n node h _ (sym c.in-Some.ensures)
    ∙ import_unnamed c.args.src.now node h (length rows) unnamed) is

pub returns-in_default-import_dep_name-clause-table : goal.returns-in_default-import_dep_name-clause-table
returns-in_default-import_dep_name-clause-table c = λ rows h is at.
    let node = node_view c.in-Some.node in
    let id = c.in-Some-sym.id.now in
    let is_named : id_of_ident_child local_child_of node ≡ Some id = rw (sym c.in-Some-local.ensures) (sym c.in-Some-sym.ensures) in
    let other : option_and_then (import_dep_name id) (kind_of node) ≡ None = sym c.in_default-import_dep_name.ensures in
    no_events _ rows _ (import_found _ c.args.import.tree.now c.args.n node h _ (sym c.in-Some.ensures)
    ∙ import_named c.args.src.now node id h (length rows) is_named ∙ on_nothing (option_and_then (import_dep_name id) (kind_of node)) _ h _ other) is

pub returns-clause-table : goal.returns-clause-table
returns-clause-table c = λ rows h is at.
    let node = node_view c.in-Some.node in
    let id = c.in-Some-sym.id.now in
    let name = file_dep_name_view c.in-Some-import_dep_name.name in
    let decl = decl_view c.new.result in
    let row = declare_effect (changes_of_effects rows) c.args.holder (id_view id) decl in
    let is_named : id_of_ident_child local_child_of node ≡ Some id = rw (sym c.in-Some-local.ensures) (sym c.in-Some-sym.ensures) in
    let reads : effect_of_event (changes_of_effects rows) (symbol_of_event_at rows) (declare h (id_view id) decl) ≡ row = rw at refl in
    let events : import_specifier_events_at c.args.src.now c.args.import.tree.now c.args.n h (length rows) ≡ declare h (id_view id) decl ∷ [] =
    import_one c.args.src.now c.args.import.tree.now c.args.n node id name _ c.range.result decl h (length rows) (sym c.in-Some.ensures) is_named
    (sym c.in-Some-import_dep_name.ensures) c.range.ensures c.file_ref.ensures c.new.ensures in
    let read = c.in_ok-declare.ensures.table (changes_of_effects rows) is in
    event_as c.declare.new.self rows _ (declare h (id_view id) decl) row events reads read.1

pub returns-in_err-declare-clause-table : goal.returns-in_err-declare-clause-table
returns-in_err-declare-clause-table c = λ rows h is at.
    let node = node_view c.in-Some.node in
    let id = c.in-Some-sym.id.now in
    let name = file_dep_name_view c.in-Some-import_dep_name.name in
    let decl = decl_view c.new.result in
    let row = declare_effect (changes_of_effects rows) c.args.holder (id_view id) decl in
    let is_named : id_of_ident_child local_child_of node ≡ Some id = rw (sym c.in-Some-local.ensures) (sym c.in-Some-sym.ensures) in
    let reads : effect_of_event (changes_of_effects rows) (symbol_of_event_at rows) (declare h (id_view id) decl) ≡ row = rw at refl in
    let events : import_specifier_events_at c.args.src.now c.args.import.tree.now c.args.n h (length rows) ≡ declare h (id_view id) decl ∷ [] =
    import_one c.args.src.now c.args.import.tree.now c.args.n node id name _ c.range.result decl h (length rows) (sym c.in-Some.ensures) is_named
    (sym c.in-Some-import_dep_name.ensures) c.range.ensures c.file_ref.ensures c.new.ensures in
    err_as _ _ _ rows _ (declare h (id_view id) decl) row [] c.in_err-declare.field-0.0 events reads c.from_residual.ensures.1
    (c.in_err-declare.ensures.table (changes_of_effects rows) is)
