use Rattle.std.proofs.Common.{◌≡◌, Some, None, [], ◌∷◌, ◌++◌, ℕ, List, length, refl, sym, ◌∙◌, ap, subst}
use Rattle.std.specs.Prelude.{string_bytes}
use Rattle.std.specs.Option.{option_map}
use Rattle.symbols_ast.specs.Ids.{id_view}
use Rattle.symbols_ast.specs.NodeRefs.{node_view}
use Rattle.symbols_ast.specs.Fields.{id_child_of}
use Rattle.symbols_table.specs.declared.builder.table.Setting.{Setting}
use Rattle.symbols_table.specs.DeclViews.{decl_view, decl_kind_view}
use Rattle.symbols_table.specs.DeclarationEvents.{export_event_if}
use Rattle.symbols_table.specs.Events.{DeclarationEvent, declare_alias, declare_alias_unless_bound_effect, effect_of_event, changes_of_effects}
use Rattle.symbols_table.specs.Events.{symbol_of_event_at, effects_after_events}
use Rattle.symbols_table.specs.ModuleEvents.{import_equals_decl_kind}
use Rattle.symbols_table.specs.inner.Tables.{AppliesEffects}
use Rattle.symbols_table.specs.EventsByHolderAndStart.{id_of_ident_child}
use Rattle.symbols_table.proofs.Rows.{effects_after_events-step, symbol_of_event_at-push, symbol_at_retained}
use Rattle.symbols_table.proofs.Walks.{on_none, one_read, reads_from}
use Rattle.symbols_table.proofs.ModuleWalks.{no_events, err_as, on_nothing, on_thing, alias_one}
use Rattle.symbols_table.proofs.builder.table.ModuleBuilder.walk_import_equals.Goals as goal

pub returns-in_default-clause-table : goal.returns-in_default-clause-table
returns-in_default-clause-table c = λ rows h is at.
    let unnamed : id_of_ident_child id_child_of (node_view c.args.node) ≡ None = rw (sym c.in_default.ensures) refl in
    on_none _ rows (id_of_ident_child id_child_of (node_view c.args.node)) _ _ _ unnamed is

pub returns-in_default-sym-clause-table : goal.returns-in_default-sym-clause-table
returns-in_default-sym-clause-table c = λ rows h is at.
    let unnamed : id_of_ident_child id_child_of (node_view c.args.node) ≡ None = rw (sym c.in-Some.ensures) (sym c.in_default-sym.ensures) in
    on_none _ rows (id_of_ident_child id_child_of (node_view c.args.node)) _ _ _ unnamed is

pub returns-in_default-2-clause-table : goal.returns-in_default-2-clause-table
returns-in_default-2-clause-table c = λ rows h is at.
    let node = node_view c.args.node in
    let is_named : id_of_ident_child id_child_of node ≡ Some c.in-Some-sym.id.now = rw (sym c.in-Some.ensures) (sym c.in-Some-sym.ensures) in
    let other : import_equals_decl_kind node c.args.entity c.args.external.now ≡ None =
    sym c.in_ok-kind.ensures ∙ ap (λ kind. option_map decl_kind_view kind) c.in_default-2.is in
    no_events _ rows _ (on_thing (id_of_ident_child id_child_of node) c.in-Some-sym.id.now _ h (length rows) is_named
    ∙ on_nothing (import_equals_decl_kind node c.args.entity c.args.external.now) _ h _ other) is

pub returns-clause-table : goal.returns-clause-table
returns-clause-table c = λ rows h is at.
    let node = node_view c.args.node in
    let id = c.in-Some-sym.id.now in
    let kind = decl_kind_view c.in-Some-2.kind in
    let decl = decl_view c.new.result in
    let row = declare_alias_unless_bound_effect (changes_of_effects rows) c.args.holder (id_view id) decl in
    let is_named : id_of_ident_child id_child_of node ≡ Some id = rw (sym c.in-Some.ensures) (sym c.in-Some-sym.ensures) in
    let is_kind : import_equals_decl_kind node c.args.entity c.args.external.now ≡ Some kind =
    sym c.in_ok-kind.ensures ∙ ap (λ k. option_map decl_kind_view k) c.in-Some-2.is in
    let last = export_event_if c.args.is_export h (string_bytes id.name) (length rows) in
    let reads : effect_of_event (changes_of_effects rows) (symbol_of_event_at rows) (declare_alias h (id_view id) decl) ≡ row = rw at refl in
    let read = c.in_ok-symbol.ensures.table (changes_of_effects rows) is in
    let rest = c.export_event_if.ensures.table (rows ++ row ∷ []) h (length rows) (one_read c.declare_alias.new.self rows row read.1)
    (symbol_at_retained rows row h c.args.holder at) (symbol_of_event_at-push rows row ∙ read.0) in
    let P : List ℕ → Type 0 = λ name. AppliesEffects c.export_event_if.result c.declare_alias.new.self.setting.limit c.export_event_if.new.self
    (effects_after_events (rows ++ row ∷ [])
    (export_event_if c.args.is_export h name (length rows))) in
    reads_from _ _ _ _ _ _ (ap (λ (s : Setting). s.limit) c.in_ok-symbol.ensures.keeps.setting)
    (ap (λ (events : List DeclarationEvent). effects_after_events rows events)
    (alias_one node c.args.is_export c.args.entity c.args.external.now id kind c.range.result decl h
    (length rows) is_named is_kind c.range.ensures c.new.ensures) ∙ effects_after_events-step rows (declare_alias h (id_view id) decl) last row reads)
    (subst P c.as_str.ensures.value rest)

pub returns-in_err-symbol-clause-table : goal.returns-in_err-symbol-clause-table
returns-in_err-symbol-clause-table c = λ rows h is at.
    let node = node_view c.args.node in
    let id = c.in-Some-sym.id.now in
    let kind = decl_kind_view c.in-Some-2.kind in
    let decl = decl_view c.new.result in
    let row = declare_alias_unless_bound_effect (changes_of_effects rows) c.args.holder (id_view id) decl in
    let is_named : id_of_ident_child id_child_of node ≡ Some id = rw (sym c.in-Some.ensures) (sym c.in-Some-sym.ensures) in
    let is_kind : import_equals_decl_kind node c.args.entity c.args.external.now ≡ Some kind =
    sym c.in_ok-kind.ensures ∙ ap (λ k. option_map decl_kind_view k) c.in-Some-2.is in
    let reads : effect_of_event (changes_of_effects rows) (symbol_of_event_at rows) (declare_alias h (id_view id) decl) ≡ row = rw at refl in
    err_as _ _ _ rows _ (declare_alias h (id_view id) decl) row (export_event_if c.args.is_export h (string_bytes id.name)
    (length rows)) c.in_err-symbol.field-0.0
    (alias_one node c.args.is_export c.args.entity c.args.external.now id kind c.range.result decl h (length rows) is_named is_kind c.range.ensures
    c.new.ensures) reads c.from_residual-in_err-symbol.ensures.1 (c.in_err-symbol.ensures.table (changes_of_effects rows) is)
