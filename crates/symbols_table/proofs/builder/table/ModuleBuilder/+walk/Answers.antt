use Rattle.std.proofs.Common.{◌≡◌, ℕ, suc, ◌+◌, ◌≤◌, take, drop, List, [], length, Some, refl, sym, ◌∙◌, ap, subst, arith, rules}
use Rattle.std.proofs.lemmas.List.{take_all}
use Rattle.symbols_ast.specs.declared.tree.kinds.Kind.{Kind}
use Rattle.symbols_ast.specs.declared.tree.kinds.Decl.TheVariants as Decl
use Rattle.symbols_ast.specs.NodeRefs.{node_view, child_in_field}
use Rattle.symbols_ast.specs.Fields.{id_child_of, body_child_of}
use Rattle.symbols_ast.specs.Ids.{id_view}
use Rattle.symbols_ast.specs.WellFormed.{IsWellFormedTree}
use Rattle.symbols_table.specs.declared.builder.table.Setting.{Setting}
use Rattle.symbols_table.specs.inner.NamespaceViews.{namespace_view}
use Rattle.symbols_table.specs.DeclViews.{Declaration, decl_view}
use Rattle.symbols_table.specs.DeclarationEvents.{is_exported, declare_and_add_events}
use Rattle.symbols_table.specs.EventsByHolderAndStart.{events_of_each, id_of_ident_child}
use Rattle.symbols_table.specs.inner.Levels.{AreGreaterNodeNumbers}
use Rattle.symbols_table.specs.Events.{effects_after_events, changes_of_effects}
use Rattle.symbols_table.specs.TreeEvents.{namespace_name_part_events, namespace_body_events_of_kind, namespace_body_events_within_levels}
use Rattle.symbols_table.specs.TreeEvents.{namespace_body_events, item_events_within_levels, item_list_events_within_levels}
use Rattle.symbols_table.specs.inner.Tables.{AppliesEffects, AppliesEventsUnderHolder}
use Rattle.symbols_table.proofs.ModuleBuilderSteps.{keeps_same}
use Rattle.symbols_table.proofs.Walks.{take_item, split_item, each_none, each_next, each_fault, none_read, on_none, on_reads}
use Rattle.symbols_table.proofs.PatternLemmas.{is_found}
use Rattle.symbols_table.proofs.ItemWalks.{later_read, later_fault, declared_fault, declared_inner_fault, declared_read, child_found}
use Rattle.symbols_table.proofs.ItemWalks.{bodies_are_children, items_greater, rest_greater, body_reads, item_reads, other_reads, body_stays}
use Rattle.symbols_table.proofs.ItemWalks.{namespace_reads, namespace_inner, namespace_decl, namespace_read, namespace_stays, namespace_at}
use Rattle.symbols_table.proofs.builder.table.ModuleBuilder.+walk.Goals as goal

-- ---- body

pub walk_body-walk_items-requires : goal.walk_body-walk_items-requires
walk_body-walk_items-requires t c =
    let node = node_view c.in-Some.node in
    let found = is_found c.args.whole.tree.now c.args.n node c.in-Some.ensures in
    let formed : IsWellFormedTree node.tree.nodes.items = rw found.same_tree c.requires.well_formed in
    let kind : c.kind.result.now ≡ Kind.Decl (Decl.TsModuleBlock c.in-Decl-TsModuleBlock.body) = search rules in
    let greater : AreGreaterNodeNumbers node.tree.nodes.items node.number c.deref.result.now = rw c.deref.ensures.value (items_greater node
    (Kind.Decl (Decl.TsModuleBlock c.in-Decl-TsModuleBlock.body)) formed c.in-Some.node.inside (c.kind.ensures ∙ ap (λ (k : Kind). Some k) kind)) in
    (rw (found.same_tree, found.number_is) (omega arith), (formed, (greater, (c.requires.filled, c.requires.holder))))

pub walk_body-returns-in-Decl-TsModuleBlock-clause-table : goal.walk_body-returns-in-Decl-TsModuleBlock-clause-table
walk_body-returns-in-Decl-TsModuleBlock-clause-table t c = λ levels parts enough deep.
    let whole = node_view c.args.whole in
    let node = node_view c.in-Some.node in
    let found = is_found c.args.whole.tree.now c.args.n node c.in-Some.ensures in
    let kind : c.kind.result.now ≡ Kind.Decl (Decl.TsModuleBlock c.in-Decl-TsModuleBlock.body) = search rules in
    let read = rw (found.same_tree, c.deref.ensures.value) at (c.walk_items.ensures.table levels) in
    body_reads c.walk_items.result c.args.self.now c.walk_items.new.self c.args.holder (item_list_events_within_levels c.args.whole.tree.now levels) whole
    c.args.ambient parts
    c.args.n node (Kind.Decl (Decl.TsModuleBlock c.in-Decl-TsModuleBlock.body)) found (c.kind.ensures ∙ ap (λ (k : Kind). Some k) kind) deep
    (λ left more. read (omega arith))

pub walk_body-returns-in_default-namespace_id-clause-table : goal.walk_body-returns-in_default-namespace_id-clause-table
walk_body-returns-in_default-namespace_id-clause-table t c = λ levels parts enough deep.
    let whole = node_view c.args.whole in
    let node = node_view c.in-Some.node in
    let found = is_found c.args.whole.tree.now c.args.n node c.in-Some.ensures in
    let id = c.in-Decl-TsNamespaceDecl.field-0-0 in
    let rest = c.in-Decl-TsNamespaceDecl.body in
    let kind : c.kind.result.now ≡ Kind.Decl (Decl.TsNamespaceDecl id rest) = search rules in
    let is = c.kind.ensures ∙ ap (λ (k : Kind). Some k) kind in
    let block = item_list_events_within_levels c.args.whole.tree.now levels in
    body_stays c.args.self.now c.args.holder block whole c.args.ambient parts c.args.n node (Kind.Decl (Decl.TsNamespaceDecl id rest)) found is deep
    (λ left rows h before. on_none c.args.self.now rows (id_of_ident_child id_child_of node)
    (namespace_name_part_events whole node (namespace_body_events_within_levels block whole c.args.ambient left rest)) h
    (length rows) (sym c.in_default-namespace_id.ensures) before)

pub walk_body-returns-in_err-symbol-in-Decl-TsNamespaceDecl-clause-table : goal.walk_body-returns-in_err-symbol-in-Decl-TsNamespaceDecl-clause-table
walk_body-returns-in_err-symbol-in-Decl-TsNamespaceDecl-clause-table t c = λ levels parts enough deep.
    let whole = node_view c.args.whole in
    let node = node_view c.in-Some.node in
    let found = is_found c.args.whole.tree.now c.args.n node c.in-Some.ensures in
    let id = c.in-Decl-TsNamespaceDecl.field-0-0 in
    let rest = c.in-Decl-TsNamespaceDecl.body in
    let kind : c.kind.result.now ≡ Kind.Decl (Decl.TsNamespaceDecl id rest) = search rules in
    let is = c.kind.ensures ∙ ap (λ (k : Kind). Some k) kind in
    let block = item_list_events_within_levels c.args.whole.tree.now levels in
    let limit = c.args.self.now.setting.limit in
    body_reads c.from_residual.result c.args.self.now c.declare_part.new.self c.args.holder block whole c.args.ambient parts c.args.n node
    (Kind.Decl (Decl.TsNamespaceDecl id rest)) found is deep
    (λ left more rows h before at.
    let name = c.in-Some-namespace_id.id.now in
    let inner = namespace_body_events_within_levels block whole c.args.ambient left rest in
    on_reads c.from_residual.result limit c.declare_part.new.self rows (id_of_ident_child id_child_of node) name (namespace_name_part_events whole node inner) h
    (length rows)
    (sym c.in-Some-namespace_id.ensures)
    (later_fault c.from_residual.result whole node name inner rows h limit c.declare_part.new.self c.in_err-symbol-in-Decl-TsNamespaceDecl.field-0.0
    c.from_residual.ensures.1 (c.in_err-symbol-in-Decl-TsNamespaceDecl.ensures.table rows h before at)))

pub walk_body-walk_body-requires : goal.walk_body-walk_body-requires
walk_body-walk_body-requires t c =
    let node = node_view c.in-Some.node in
    let found = is_found c.args.whole.tree.now c.args.n node c.in-Some.ensures in
    let formed : IsWellFormedTree node.tree.nodes.items = rw found.same_tree c.requires.well_formed in
    let id = c.in-Decl-TsNamespaceDecl.field-0-0 in
    let rest = c.in-Decl-TsNamespaceDecl.body in
    let kind : c.kind.result.now ≡ Kind.Decl (Decl.TsNamespaceDecl id rest) = search rules in
    let is = c.kind.ensures ∙ ap (λ (k : Kind). Some k) kind in
    let greater = rw (found.same_tree, found.number_is) at (rest_greater node id rest formed c.in-Some.node.inside is) in (
      omega (arith, greater.0),
      (
        c.requires.well_formed,
        (greater.1, (c.in_ok-symbol-in-Decl-TsNamespaceDecl.ensures.keeps.filled, c.in_ok-symbol-in-Decl-TsNamespaceDecl.ensures.inside)),
      ),
    )

pub walk_body-returns-in_ok-symbol-in-Decl-TsNamespaceDecl-clause-table : goal.walk_body-returns-in_ok-symbol-in-Decl-TsNamespaceDecl-clause-table
walk_body-returns-in_ok-symbol-in-Decl-TsNamespaceDecl-clause-table t c = λ levels parts enough deep.
    let whole = node_view c.args.whole in
    let node = node_view c.in-Some.node in
    let found = is_found c.args.whole.tree.now c.args.n node c.in-Some.ensures in
    let formed : IsWellFormedTree node.tree.nodes.items = rw found.same_tree c.requires.well_formed in
    let id = c.in-Decl-TsNamespaceDecl.field-0-0 in
    let rest = c.in-Decl-TsNamespaceDecl.body in
    let kind : c.kind.result.now ≡ Kind.Decl (Decl.TsNamespaceDecl id rest) = search rules in
    let is = c.kind.ensures ∙ ap (λ (k : Kind). Some k) kind in
    let greater = rw (found.same_tree, found.number_is) at (rest_greater node id rest formed c.in-Some.node.inside is) in
    let block = item_list_events_within_levels c.args.whole.tree.now levels in
    let limit = c.args.self.now.setting.limit in
    body_reads c.walk_body.result c.args.self.now c.walk_body.new.self c.args.holder block whole c.args.ambient parts c.args.n node
    (Kind.Decl (Decl.TsNamespaceDecl id rest)) found is deep
    (λ left more rows h before at.
    let name = c.in-Some-namespace_id.id.now in
    let inner = namespace_body_events_within_levels block whole c.args.ambient left rest in
    on_reads c.walk_body.result limit c.walk_body.new.self rows (id_of_ident_child id_child_of node) name (namespace_name_part_events whole node inner) h
    (length rows)
    (sym c.in-Some-namespace_id.ensures)
    (later_read c.walk_body.result whole node name inner rows h c.in_ok-symbol-in-Decl-TsNamespaceDecl.symbol limit c.declare_part.new.self c.walk_body.new.self
    (ap (λ (s : Setting). s.limit) c.in_ok-symbol-in-Decl-TsNamespaceDecl.ensures.keeps.setting)
    (c.in_ok-symbol-in-Decl-TsNamespaceDecl.ensures.table rows h before at)
    (c.walk_body.ensures.table levels left (omega (arith, greater.0)) (omega (arith, greater.0)))))

pub walk_body-returns-in_default-kind : goal.walk_body-returns-in_default-kind
walk_body-returns-in_default-kind t c = record {
  keeps = keeps_same _ _ c.requires.filled;
  table = λ levels parts enough deep.
      let whole = node_view c.args.whole in
      let node = node_view c.in-Some.node in
      let block = item_list_events_within_levels c.args.whole.tree.now levels in
      let found = is_found c.args.whole.tree.now c.args.n node c.in-Some.ensures in
      body_stays c.args.self.now c.args.holder block whole c.args.ambient parts c.args.n node c.kind.result.now found c.kind.ensures deep
      (λ left rows h is. let nothing : namespace_body_events_of_kind (namespace_body_events_within_levels block whole c.args.ambient left) block whole
      c.args.ambient
      node c.kind.result.now h (length
      rows) ≡ [] = search rules in rw nothing (none_read c.args.self.now rows is));
}

pub walk_body-returns-in_default-kind-2 : goal.walk_body-returns-in_default-kind-2
walk_body-returns-in_default-kind-2 t c = record {
  keeps = keeps_same _ _ c.requires.filled;
  table = λ levels parts enough deep.
      let whole = node_view c.args.whole in
      let node = node_view c.in-Some.node in
      let block = item_list_events_within_levels c.args.whole.tree.now levels in
      let found = is_found c.args.whole.tree.now c.args.n node c.in-Some.ensures in
      body_stays c.args.self.now c.args.holder block whole c.args.ambient parts c.args.n node c.kind.result.now found c.kind.ensures deep
      (λ left rows h is. let nothing : namespace_body_events_of_kind (namespace_body_events_within_levels block whole c.args.ambient left) block whole
      c.args.ambient
      node c.kind.result.now h (length
      rows) ≡ [] = search rules in rw nothing (none_read c.args.self.now rows is));
}

-- ---- inside

pub walk_inside-walk_body-requires : goal.walk_inside-walk_body-requires
walk_inside-walk_body-requires t c =
    let whole = node_view c.args.whole in
    let child = child_found whole (node_view c.in-Some.body) body_child_of c.requires.well_formed c.args.whole.inside bodies_are_children c.in-Some.ensures in
    rw c.node_id.ensures (omega (arith, child.greater), (c.requires.well_formed, (child.inside, (c.requires.filled, c.requires.holder))))

pub walk_inside-returns-in-Some-clause-table : goal.walk_inside-returns-in-Some-clause-table
walk_inside-returns-in-Some-clause-table t c = λ levels enough rows h is at.
    let whole = node_view c.args.whole in
    let body = node_view c.in-Some.body in
    let child = child_found whole body body_child_of c.requires.well_formed c.args.whole.inside bodies_are_children c.in-Some.ensures in
    let read = rw c.node_id.ensures at (c.walk_body.ensures.table levels (length whole.tree.nodes.items)) in
    on_reads c.walk_body.result c.args.self.now.setting.limit c.walk_body.new.self rows (child_in_field whole body_child_of) body
    (namespace_body_events (item_list_events_within_levels whole.tree levels) whole c.args.ambient) h (length rows) (sym c.in-Some.ensures)
    (read (omega (arith, child.greater)) (omega arith) rows h is at)

pub walk_inside-returns-in-None-clause-table : goal.walk_inside-returns-in-None-clause-table
walk_inside-returns-in-None-clause-table t c = λ levels enough rows h is at.
    let whole = node_view c.args.whole in
    on_none c.args.self.now rows (child_in_field whole body_child_of)
    (namespace_body_events (item_list_events_within_levels whole.tree levels) whole c.args.ambient) h
    (length rows)
    (sym c.in-None.ensures) is

-- ---- item

pub walk_item-walk_namespace-requires : goal.walk_item-walk_namespace-requires
walk_item-walk_namespace-requires t c =
    let node = node_view c.in-Some.node in
    let found = is_found c.args.parent.tree.now c.args.n node c.in-Some.ensures in
    let formed : IsWellFormedTree node.tree.nodes.items = rw found.same_tree c.requires.well_formed in
    let at = namespace_at node (namespace_view c.in-Some-namespace_of.namespace) formed c.in-Some.node.inside c.in-Some-namespace_of.ensures in
    let same : c.in-Some-namespace_of.namespace.decl.tree.now ≡ c.args.parent.tree.now = at.same_tree ∙ found.same_tree in
    let there : IsWellFormedTree c.in-Some-namespace_of.namespace.decl.tree.now.nodes.items = rw same c.requires.well_formed in
    (rw same (omega (arith, at.from, found.number_is)), (there, (c.requires.filled, c.requires.holder)))

pub walk_item-returns-in-Some-namespace_of-clause-table : goal.walk_item-returns-in-Some-namespace_of-clause-table
walk_item-returns-in-Some-namespace_of-clause-table t c = λ levels enough.
    let tree = c.args.parent.tree.now in
    let node = node_view c.in-Some.node in
    let found = is_found tree c.args.n node c.in-Some.ensures in
    let formed : IsWellFormedTree node.tree.nodes.items = rw found.same_tree c.requires.well_formed in
    let namespace = namespace_view c.in-Some-namespace_of.namespace in
    let at = namespace_at node namespace formed c.in-Some.node.inside c.in-Some-namespace_of.ensures in
    let same : namespace.decl.tree ≡ tree = at.same_tree ∙ found.same_tree in
    item_reads c.walk_namespace.result c.args.self.now c.walk_namespace.new.self c.args.holder tree c.args.scope levels c.args.n node found enough
    (λ left more.
    let far : length namespace.decl.tree.nodes.items ≤ namespace.decl.number + suc left = rw same (omega (arith, at.from, found.number_is)) in
    namespace_reads c.walk_namespace.result c.args.self.now c.walk_namespace.new.self c.args.holder tree left c.args.scope node namespace same
    c.in-Some-namespace_of.ensures (c.walk_namespace.ensures.table left far))

pub walk_item-returns-in-None-clause-table : goal.walk_item-returns-in-None-clause-table
walk_item-returns-in-None-clause-table t c = λ levels enough.
    let tree = c.args.parent.tree.now in
    let node = node_view c.in-Some.node in
    let found = is_found tree c.args.n node c.in-Some.ensures in
    item_reads c.walk_other_item.result c.args.self.now c.walk_other_item.new.self c.args.holder tree c.args.scope levels c.args.n node found enough
    (λ left more. other_reads c.walk_other_item.result c.args.self.now c.walk_other_item.new.self c.args.holder (item_list_events_within_levels tree left)
    c.args.scope
    node
    c.in-None.ensures c.walk_other_item.ensures.table)

-- ---- items

pub walk_items-loop-n-init : goal.walk_items-loop-n-init
walk_items-loop-n-init t c = λ levels enough. each_none _ (item_events_within_levels c.args.parent.tree.now levels c.args.scope) _ c.requires.filled

pub walk_items-walk_item-requires : goal.walk_items-walk_item-requires
walk_items-walk_item-requires t c =
    let n = c.n-item.result in
    let greater = c.requires.greater c.loop-n.n-index n c.loop-n-test.true in
    let walked = c.loop-n.invariant (length c.args.parent.tree.now.nodes.items) (omega arith) in (
      omega (arith, greater.0, c.n-item.is, c.args.parent.inside),
      (c.requires.well_formed, (omega (arith, greater.1, c.n-item.is), (walked.filled, omega (arith, walked.longer, c.requires.holder)))),
    )

pub walk_items-loop-n-preserved : goal.walk_items-loop-n-preserved
walk_items-loop-n-preserved t c = λ levels enough.
    let n = c.n-item.result in
    let walk = item_events_within_levels c.args.parent.tree.now levels c.args.scope in
    let greater = c.requires.greater c.loop-n.n-index n c.loop-n-test.true in
    rw (take_item c.args.items.now c.loop-n.n-index n c.loop-n-test.true c.n-item.is)
    (each_next walk (take c.loop-n.n-index c.args.items.now) (c.loop-n.invariant levels enough) c.walk_item.new.self n c.in_ok-walk_item.field-0
    c.in_ok-walk_item.ensures.keeps (c.in_ok-walk_item.ensures.table levels (omega (arith, greater.0, c.n-item.is))))

pub walk_items-returns-in_err-walk_item-clause-keeps : goal.walk_items-returns-in_err-walk_item-clause-keeps
walk_items-returns-in_err-walk_item-clause-keeps t c =
    let walked = c.loop-n.invariant (length c.args.parent.tree.now.nodes.items) (omega arith) in
    record { setting = c.in_err-walk_item.ensures.keeps.setting ∙ walked.setting; filled = search rules; longer = search rules }

pub walk_items-returns-in_err-walk_item-clause-table : goal.walk_items-returns-in_err-walk_item-clause-table
walk_items-returns-in_err-walk_item-clause-table t c = λ levels enough.
    let items = c.args.items.now in
    let n = c.n-item.result in
    let walk = item_events_within_levels c.args.parent.tree.now levels c.args.scope in
    let greater = c.requires.greater c.loop-n.n-index n c.loop-n-test.true in
    let P : List ℕ → Type 0 = λ ms. AppliesEventsUnderHolder c.from_residual.result c.args.self.now c.walk_item.new.self (events_of_each walk ms) c.args.holder
    in
    subst P (split_item items c.loop-n.n-index n c.loop-n-test.true c.n-item.is)
    (each_fault ℕ walk (take c.loop-n.n-index items) (c.loop-n.invariant levels enough) c.walk_item.new.self c.walk_item.new.self n (drop (suc c.loop-n.n-index)
    items) c.in_err-walk_item.field-0.0 c.from_residual.result c.from_residual.ensures.1
    (c.in_err-walk_item.ensures.table levels (omega (arith, greater.0, c.n-item.is))))

pub walk_items-returns-clause-keeps : goal.walk_items-returns-clause-keeps
walk_items-returns-clause-keeps t c =
    let walked = c.loop-n.invariant (length c.args.parent.tree.now.nodes.items) (omega arith) in
    record { setting = walked.setting; filled = walked.filled; longer = walked.longer }

pub walk_items-returns-clause-table : goal.walk_items-returns-clause-table
walk_items-returns-clause-table t c = λ levels enough.
    let all = take_all c.loop-n.n-index c.args.items.now (omega arith) in
    let walked = rw all at (c.loop-n.invariant levels enough) in
    walked.table

-- ---- namespace

pub walk_namespace-returns-in_default-clause-table : goal.walk_namespace-returns-in_default-clause-table
walk_namespace-returns-in_default-clause-table t c = λ levels enough rows h is at.
    let namespace = namespace_view c.args.namespace in
    namespace_stays c.args.self.now rows h (item_list_events_within_levels namespace.decl.tree levels) c.args.scope namespace c.kind-kind.result.now
    c.kind-kind.ensures
    (sym c.in_default.ensures) is

pub walk_namespace-returns-in_err-symbol-clause-table : goal.walk_namespace-returns-in_err-symbol-clause-table
walk_namespace-returns-in_err-symbol-clause-table t c = λ levels enough rows h is at.
    let namespace = namespace_view c.args.namespace in
    let kind = c.kind-kind.result.now in
    let id = c.in-Some.id.now in
    let block = item_list_events_within_levels namespace.decl.tree levels in
    let limit = c.args.self.now.setting.limit in
    let r = c.from_residual.result in
    let inner = namespace_inner block c.args.scope namespace kind in
    let test = is_exported c.args.scope namespace.exported in
    let decl : decl_view c.definition-definition.result ≡ namespace_decl namespace =
    c.definition-definition.ensures ∙ (rw (c.declared_as-form.ensures, c.export_or_decl_range.ensures) refl) in
    let P : Declaration
    → Type 0 = λ d. AppliesEffects r limit c.declare.new.self (effects_after_events rows (declare_and_add_events test (id_view id) d inner h (length rows)))
    in
    namespace_read r limit c.declare.new.self rows h block c.args.scope namespace kind id c.kind-kind.ensures (sym c.in-Some.ensures)
    (subst P decl (declared_fault r test (id_view id) (decl_view c.definition-definition.result) inner rows h c.args.holder limit c.declare.new.self
    c.in_err-symbol.field-0.0 at c.from_residual.ensures.1 (c.in_err-symbol.ensures.table (changes_of_effects rows) is)))

pub walk_namespace-returns-in_err-walk_inside-clause-table : goal.walk_namespace-returns-in_err-walk_inside-clause-table
walk_namespace-returns-in_err-walk_inside-clause-table t c = λ levels enough rows h is at.
    let namespace = namespace_view c.args.namespace in
    let kind = c.kind-kind.result.now in
    let id = c.in-Some.id.now in
    let block = item_list_events_within_levels namespace.decl.tree levels in
    let limit = c.args.self.now.setting.limit in
    let r = c.from_residual-in_err-walk_inside.result in
    let inner = namespace_inner block c.args.scope namespace kind in
    let test = is_exported c.args.scope namespace.exported in
    let decl : decl_view c.definition-definition.result ≡ namespace_decl namespace =
    c.definition-definition.ensures ∙ (rw (c.declared_as-form.ensures, c.export_or_decl_range.ensures) refl) in
    let P : Declaration → Type 0 = λ d. AppliesEffects r limit c.walk_inside.new.self (effects_after_events rows
    (declare_and_add_events test (id_view id) d inner h (length rows))) in
    let read = rw c.inner_ambient.ensures at (c.in_err-walk_inside.ensures.table levels enough) in
    namespace_read r limit c.walk_inside.new.self rows h block c.args.scope namespace kind id c.kind-kind.ensures (sym c.in-Some.ensures)
    (subst P decl (declared_inner_fault ℕ r test (id_view id) (decl_view c.definition-definition.result) inner rows h c.args.holder c.in_ok-symbol.symbol limit
    c.declare.new.self c.walk_inside.new.self c.walk_inside.new.self c.in_err-walk_inside.field-0.0 (ap (λ (s : Setting). s.limit)
    c.in_ok-symbol.ensures.keeps.setting) at (c.in_ok-symbol.ensures.table (changes_of_effects rows) is) c.from_residual-in_err-walk_inside.ensures.1 read))

pub walk_namespace-returns-clause-table : goal.walk_namespace-returns-clause-table
walk_namespace-returns-clause-table t c = λ levels enough rows h is at.
    let namespace = namespace_view c.args.namespace in
    let kind = c.kind-kind.result.now in
    let id = c.in-Some.id.now in
    let block = item_list_events_within_levels namespace.decl.tree levels in
    let limit = c.args.self.now.setting.limit in
    let r = c.add_to_holder.result in
    let inner = namespace_inner block c.args.scope namespace kind in
    let test = is_exported c.args.scope namespace.exported in
    let decl : decl_view c.definition-definition.result ≡ namespace_decl namespace =
    c.definition-definition.ensures ∙ (rw (c.declared_as-form.ensures, c.export_or_decl_range.ensures) refl) in
    let P : Declaration → Type 0 = λ d. AppliesEffects r limit c.add_to_holder.new.self (effects_after_events rows
    (declare_and_add_events test (id_view id) d inner h (length rows))) in
    let read = rw c.inner_ambient.ensures at (c.in_ok-walk_inside.ensures.table levels enough) in
    let put = rw (c.is_exported.ensures, c.as_str.ensures.value) at c.add_to_holder.ensures.table in
    namespace_read r limit c.add_to_holder.new.self rows h block c.args.scope namespace kind id c.kind-kind.ensures (sym c.in-Some.ensures)
    (subst P decl (declared_read r test (id_view id) (decl_view c.definition-definition.result) inner rows h c.args.holder c.in_ok-symbol.symbol limit
    c.declare.new.self c.walk_inside.new.self c.add_to_holder.new.self (ap (λ (s : Setting). s.limit) (c.in_ok-walk_inside.ensures.keeps.setting
    ∙ c.in_ok-symbol.ensures.keeps.setting)) at (c.in_ok-symbol.ensures.table (changes_of_effects rows) is) read put))
