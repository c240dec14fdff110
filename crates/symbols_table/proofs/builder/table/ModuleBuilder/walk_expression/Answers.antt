use Rattle.std.proofs.Common.{◌≡◌, None, length, refl, sym, ◌∙◌, ap}
use Rattle.std.specs.Option.{option_and_then}
use Rattle.symbols_ast.specs.Ids.{id_view, ident_id}
use Rattle.symbols_ast.specs.NodeRefs.{node_view, kind_of}
use Rattle.symbols_nodes.specs.Expando.{Expando, expando_of_assignment}
use Rattle.symbols_table.specs.DeclViews.{decl_view}
use Rattle.symbols_table.specs.Changes.{symbol_of_ident_after_changes}
use Rattle.symbols_table.specs.Events.{expando, expando_effect, changes_of_effects}
use Rattle.symbols_table.proofs.ModuleWalks.{no_events, on_nothing, only_read, nothing_found, same_found, expando_sym, expando_one}
use Rattle.symbols_table.proofs.builder.table.ModuleBuilder.walk_expression.Goals as goal

pub returns-in_default-clause-table : goal.returns-in_default-clause-table
returns-in_default-clause-table c = λ rows h is at.
    let node = node_view c.args.expr in
    let none : expando_of_assignment node ≡ None = nothing_found (expando_of_assignment node) node c.in_default.ensures in
    let unnamed = ap (λ found. option_and_then (λ (e : Expando). option_and_then ident_id (kind_of e.object)) found) none in
    no_events _ rows _ (on_nothing (option_and_then (λ (e : Expando). option_and_then ident_id (kind_of e.object)) (expando_of_assignment node)) _ h _ unnamed)
    is

pub returns-in_default-sym-clause-table : goal.returns-in_default-sym-clause-table
returns-in_default-sym-clause-table c = λ rows h is at.
    let node = node_view c.args.expr in
    let same = same_found (expando_of_assignment node) (node_view c.in-Some.expando.inner) node c.in-Some.ensures in
    let unnamed = expando_sym node (node_view c.in-Some.expando.inner) (node_view c.obj_ident.result) same c.obj_ident.ensures ∙ sym c.in_default-sym.ensures in
    no_events _ rows _ (on_nothing (option_and_then (λ (e : Expando). option_and_then ident_id (kind_of e.object)) (expando_of_assignment node)) _ h _ unnamed)
    is

pub returns-clause-table : goal.returns-clause-table
returns-clause-table c = λ rows h is at.
    let node = node_view c.args.expr in
    let id = c.in-Some-sym.id.now in
    let decl = decl_view c.definition.result in
    let same = same_found (expando_of_assignment node) (node_view c.in-Some.expando.inner) node c.in-Some.ensures in
    let is_named = expando_sym node (node_view c.in-Some.expando.inner) (node_view c.obj_ident.result) same c.obj_ident.ensures ∙ sym c.in-Some-sym.ensures in
    only_read c.declare_expando.result _ _ rows _ (expando (id_view id) decl)
    (expando_effect (changes_of_effects rows) (symbol_of_ident_after_changes (changes_of_effects rows) (id_view id)) decl)
    (expando_one node (node_view c.in-Some.expando.inner) id c.range.result decl h (length rows) is_named same c.range.ensures c.definition.ensures) refl
    (c.declare_expando.ensures.table (changes_of_effects rows) is)
