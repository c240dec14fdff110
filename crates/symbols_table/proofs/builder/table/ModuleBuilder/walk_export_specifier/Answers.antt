use Rattle.std.proofs.Common.{◌≡◌, Some, None, length, refl, sym, ◌∙◌}
use Rattle.std.specs.Prelude.{string_bytes}
use Rattle.std.specs.Option.{option_map, option_copied, option_and_then}
use Rattle.symbols_ast.specs.NodeRefs.{node_view, kind_of, child_in_field}
use Rattle.symbols_ast.specs.Fields.{orig_child_of}
use Rattle.symbols_table.specs.ModuleEvents.{orig_specifier_name, orig_specifier_decl_kind, export_named_specifier_events}
use Rattle.symbols_table.proofs.Walks.{on_none}
use Rattle.symbols_table.proofs.ModuleWalks.{no_events, on_nothing, on_thing, some_kind}
use Rattle.symbols_table.proofs.builder.table.ModuleBuilder.walk_export_specifier.Goals as goal

pub returns-in_default-clause-table : goal.returns-in_default-clause-table
returns-in_default-clause-table c = λ rows h is at.
    let none : option_and_then kind_of (child_in_field (node_view c.args.node) orig_child_of) ≡ None = rw (sym c.in_default.ensures) refl in
    on_none _ rows (option_and_then kind_of (child_in_field (node_view c.args.node) orig_child_of)) _ _ _ none is

pub returns-in_default-orig_specifier_name-clause-table : goal.returns-in_default-orig_specifier_name-clause-table
returns-in_default-orig_specifier_name-clause-table c = λ rows h is at.
    let kind = c.kind.result.now in
    let events = export_named_specifier_events (option_copied c.args.src) (node_view c.args.node) (option_map string_bytes c.args.exported.now) in
    let kinds : option_and_then kind_of (child_in_field (node_view c.args.node) orig_child_of) ≡ Some kind = rw (sym c.in-Some.ensures) c.kind.ensures in
    let none : orig_specifier_name kind ≡ None = sym c.in_default-orig_specifier_name.ensures in
    no_events _ rows _ (on_thing (option_and_then kind_of (child_in_field (node_view c.args.node) orig_child_of)) kind events h (length rows) kinds
    ∙ on_nothing (orig_specifier_name kind) _ h _ none) is

pub returns-in_default-orig_specifier_decl_kind-clause-table : goal.returns-in_default-orig_specifier_decl_kind-clause-table
returns-in_default-orig_specifier_decl_kind-clause-table c = λ rows h is at.
    let kind = c.kind.result.now in
    let name = c.in-Some-orig_specifier_name.name.now in
    let src = option_copied c.args.src in
    let events = export_named_specifier_events src (node_view c.args.node) (option_map string_bytes c.args.exported.now) in
    let kinds : option_and_then kind_of (child_in_field (node_view c.args.node) orig_child_of) ≡ Some kind = rw (sym c.in-Some.ensures) c.kind.ensures in
    let is_name : orig_specifier_name kind ≡ Some name = sym c.in-Some-orig_specifier_name.ensures in
    let none : orig_specifier_decl_kind src kind name ≡ None =
    some_kind (kind_of (node_view c.in-Some.orig)) kind
    (λ k. orig_specifier_decl_kind src k name) None c.kind.ensures c.in_default-orig_specifier_decl_kind.ensures in
    no_events _ rows _
    (on_thing (option_and_then kind_of (child_in_field (node_view c.args.node) orig_child_of)) kind events h (length rows) kinds
    ∙ on_thing (orig_specifier_name kind) name _ h _ is_name
    ∙ on_nothing (orig_specifier_decl_kind src kind name) _ h _ none) is
