-- The declaring events of items, of namespaces and of a whole tree are at most as many as the items weigh.
use Rattle.std.proofs.Common.{◌≡◌, ℕ, zero, suc, ◌+◌, ◌≤◌, Bool, true, false, ◌||◌, cond, ltb, List}
use Rattle.std.proofs.Common.{[], length, Option, Some, None, option_map, option_to_list, refl, arith}
use Rattle.std.specs.Prelude.{String, string_bytes, unwrap_or}
use Rattle.std.specs.Global.{Global}
use Rattle.std.specs.Option.{option_and_then}
use Rattle.symbols_ast.specs.declared.tree.arena.Tree.{Tree}
use Rattle.symbols_ast.specs.declared.tree.arena.Id.{Id}
use Rattle.symbols_ast.specs.declared.tree.kinds.Kind.{Kind}
use Rattle.symbols_ast.specs.declared.tree.kinds.Item.TheVariants as Item
use Rattle.symbols_ast.specs.declared.tree.kinds.Decl.TheVariants as Decl
use Rattle.symbols_ast.specs.declared.tree.kinds.Expr.TheVariants as Expr
use Rattle.symbols_ast.specs.Nodes.{child_numbers}
use Rattle.symbols_ast.specs.NodeRefs.{TreeNode, kind_of, node_in, child_in_field}
use Rattle.symbols_ast.specs.Fields.{body_children_of, body_child_of, decl_child_of, expr_child_of, orig_child_of, local_child_of, id_child_of}
use Rattle.symbols_ast.specs.Ids.{id_view, ident_id}
use Rattle.symbols_nodes.specs.Expando.{Expando, expando_of_assignment}
use Rattle.symbols_nodes.specs.NodeViews.{exported_ts_module}
use Rattle.symbols_table.specs.declared.builder.scope.Scope.{Scope}
use Rattle.symbols_table.specs.DeclViews.{DeclKindView, definition_of_node, declaration_of_kind, file_ref, all_names}
use Rattle.symbols_table.specs.EventsByHolderAndStart.{EventsByHolderAndStart, events_if_some, events_of_each, range_or_empty, id_of_ident_child}
use Rattle.symbols_table.specs.MemberEvents.{member_events_at, class_or_interface_member_numbers}
use Rattle.symbols_table.specs.DeclarationEvents.{maybe_exported_node, export_or_decl_range, is_exported, declare_and_add_events, declared_name}
use Rattle.symbols_table.specs.DeclarationEvents.{declaration_events}
use Rattle.symbols_table.specs.ModuleEvents.{import_dep_name, import_decl_events, import_specifier_events, import_specifier_events_at}
use Rattle.symbols_table.specs.ModuleEvents.{new_exported_symbol_events, orig_specifier_name, orig_specifier_decl_kind, export_named_specifier_events}
use Rattle.symbols_table.specs.ModuleEvents.{export_specifier_events, export_specifier_events_at, bind_events_if, default_decl_events, default_export_events}
use Rattle.symbols_table.specs.ModuleEvents.{default_expr_decl, export_assignment_of_ident_events, import_equals_decl_kind, import_equals_alias_events}
use Rattle.symbols_table.specs.ModuleEvents.{import_equals_events, expando_events, import_export_or_expando_events}
use Rattle.symbols_table.specs.TreeEvents.{Namespace, as_namespace, exported_namespace, namespace_of, is_ambient_namespace, namespace_scope, ItemListEvents}
use Rattle.symbols_table.specs.TreeEvents.{namespace_name_part_events, namespace_body_events_of_kind, namespace_body_events_within_levels}
use Rattle.symbols_table.specs.TreeEvents.{namespace_body_events, namespace_events, export_decl_events, non_namespace_item_events, namespace_events_or}
use Rattle.symbols_table.specs.TreeEvents.{item_events, item_events_within_levels, item_list_events_within_levels, module_scope, tree_events}
use Rattle.symbols_table.proofs.CountsWeights.{weights, weights-append}
use Rattle.symbols_table.proofs.CountsFields.{body_weighs, body_node_weighs, decl_weighs}
use Rattle.symbols_table.proofs.CountsEvents.{count, count-append}
use Rattle.symbols_table.proofs.CountsParts.{IsLight, light_up, light_none, light_on, light_each, node_at, kinds, light_kind}
use Rattle.symbols_table.proofs.CountsParts.{light_child, light_field, light_export, light_declared, light_members, light_declaration}

-- ---- at most one event

light_import : (src : List ℕ) (node : TreeNode) (kind : Kind) → IsLight (import_specifier_events src node kind) 1
light_import src node kind = light_on (id_of_ident_child local_child_of node) (λ (id : Id). events_if_some (import_dep_name id kind)
    (import_decl_events src node id)) 1
    (λ id at. light_on (import_dep_name id kind) (import_decl_events src node id) 1 (λ name is holder start. omega arith))

light_specifier : (src : Option (List ℕ)) (node : TreeNode) (exported : Option (List ℕ)) (orig : Kind)
    → IsLight (export_named_specifier_events src node exported orig) 1
light_specifier src node exported orig =
    light_on (orig_specifier_name orig) (λ (name : List ℕ). events_if_some (orig_specifier_decl_kind src orig name) (export_as name)) 1
    (λ name at. light_on (orig_specifier_decl_kind src orig name) (export_as name) 1 (λ kind is holder start. omega arith))
  where
    export_as : List ℕ → DeclKindView → EventsByHolderAndStart
    export_as name kind = new_exported_symbol_events (unwrap_or exported name) (declaration_of_kind kind (range_or_empty node))

light_exported : (src : Option (List ℕ)) (node : TreeNode) (kind : Kind) → IsLight (export_specifier_events src node kind) 1
light_exported src node (Kind.Item (Item.ExportSpecifier _ exported)) =
    light_on (option_and_then kind_of (child_in_field node orig_child_of)) (export_named_specifier_events src node (option_map string_bytes exported)) 1
    (λ orig at. light_specifier src node (option_map string_bytes exported) orig)
light_exported src node (Kind.Item (Item.ExportNamespace name)) =
    light_on src (λ (text : List ℕ). new_exported_symbol_events (string_bytes name) (declaration_of_kind (file_ref all_names text) (range_or_empty node))) 1
    (λ text is holder start. omega arith)
light_exported src node _ = light_none 1

light_assignment : (expr : TreeNode) (kind : Kind) → IsLight (export_assignment_of_ident_events expr kind) 1
light_assignment expr (Kind.Expr (Expr.Ident id)) = λ holder start. omega arith
light_assignment expr _ = light_none 1

light_import_equals : (node : TreeNode) (is_export : Bool) (entity : Option ℕ) (external : Option (String Global))
    → IsLight (import_equals_events node is_export entity external) 1
light_import_equals node is_export entity external =
    light_on (id_of_ident_child id_child_of node)
    (λ (id : Id). events_if_some (import_equals_decl_kind node entity external) (import_equals_alias_events node is_export id)) 1
    (λ id at. light_on (import_equals_decl_kind node entity external) (import_equals_alias_events node is_export id) 1 (λ kind is holder start.
    omega (arith, light_export is_export holder (string_bytes id.name) start)))

light_expando : (node : TreeNode) → IsLight (expando_events node) 1
light_expando node = light_on (option_and_then (λ (e : Expando). option_and_then ident_id (kind_of e.object)) (expando_of_assignment node)) _ 1
    (λ (id : Id) at holder start. omega arith)

count_binds : (id : Option Id) (of : ℕ) → count (bind_events_if id of) ≡ 0
count_binds None of = refl
count_binds (Some id) of = refl

module _ (tree : Tree) (w : ℕ → ℕ) (weighs : (n : ℕ) (kind : Kind) → kinds tree n ≡ Some kind → suc (weights w (child_numbers kind)) ≤ w n) where
  light_import_at : (src : List ℕ) (n : ℕ) → IsLight (import_specifier_events_at src tree n) (w n)
  light_import_at src n = light_kind tree n (import_specifier_events src) (w n)
      (λ kind is. light_up (import_specifier_events src (node_at tree n) kind) 1 (w n) (omega (arith, weighs n kind is))
      (light_import src (node_at tree n) kind))

  light_export_at : (src : Option (List ℕ)) (n : ℕ) → IsLight (export_specifier_events_at src tree n) (w n)
  light_export_at src n = light_kind tree n (export_specifier_events src) (w n)
      (λ kind is. light_up (export_specifier_events src (node_at tree n) kind) 1 (w n) (omega (arith, weighs n kind is))
      (light_exported src (node_at tree n) kind))

  light_members_of : (c : ℕ) → IsLight (events_of_each (member_events_at tree) (class_or_interface_member_numbers (node_at tree c))) (w c)
  light_members_of c = by (kinds tree c) refl
    where
      by : (o : Option Kind) → kinds tree c ≡ o → IsLight (events_of_each (member_events_at tree) (class_or_interface_member_numbers (node_at tree c))) (w c)
      by None is = rw is (light_none (w c))
      by (Some kind) is = light_up (events_of_each (member_events_at tree) (class_or_interface_member_numbers (node_at tree c)))
          (weights w (child_numbers kind)) (w c) (omega (arith, weighs c kind is)) (light_members tree w weighs c kind is)

  -- The declaring events of a default declaration with its members are at most its weight and one.
  light_default : (node : TreeNode) (c : ℕ) → IsLight (default_decl_events node (node_at tree c)) (suc (w c))
  light_default node c = λ holder start.
      let bound = bind_events_if (declared_name (node_at tree c)) start in
      let after = start + 1 + length bound in
      omega (
        arith,
        light_members_of c start after,
        count_binds (declared_name (node_at tree c)) start,
        count-append bound (events_of_each (member_events_at tree) (class_or_interface_member_numbers (node_at tree c)) start after),
      )

  light_module : (n : ℕ) (kind : Kind) → kinds tree n ≡ Some kind → IsLight (import_export_or_expando_events (node_at tree n) kind) (w n)
  light_module n kind is = by kind is (weighs n kind is)
    where
      some : (kind : Kind) → suc (weights w (child_numbers kind)) ≤ w n → 1 ≤ w n
      some kind heavy = omega arith

      by : (kind : Kind) → kinds tree n ≡ Some kind → suc (weights w (child_numbers kind)) ≤ w n
          → IsLight (import_export_or_expando_events (node_at tree n) kind) (w n)
      by (Kind.Item (Item.Import specifiers src)) is heavy =
          light_up (events_of_each (import_specifier_events_at (string_bytes src) tree) specifiers.items) (weights w specifiers.items) (w n)
          (omega (arith, heavy, weights-append w specifiers.items []))
          (light_each (import_specifier_events_at (string_bytes src) tree) w specifiers.items (light_import_at (string_bytes src)))
      by (Kind.Item (Item.ExportNamed specifiers src)) is heavy =
          let from = option_map string_bytes src in
          light_up (events_of_each (export_specifier_events_at from tree) specifiers.items) (weights w specifiers.items) (w n)
          (omega (arith, heavy, weights-append w specifiers.items []))
          (light_each (export_specifier_events_at from tree) w specifiers.items (light_export_at from))
      by (Kind.Item (Item.ExportDefaultDecl decl)) is heavy =
          light_field tree n decl_child_of (default_decl_events (node_at tree n)) (w n) (λ kind c is field.
          light_up (default_decl_events (node_at tree n) (node_at tree c)) (suc (w c)) (w n) (omega (arith, weighs n kind is, rw field at (decl_weighs w kind)))
          (light_default (node_at tree n) c))
      by (Kind.Item (Item.ExportDefaultExpr expr)) is heavy =
          light_field tree n expr_child_of (λ (expr : TreeNode).
          events_if_some (kind_of expr) (λ (kind : Kind). default_export_events (default_expr_decl (node_at tree n) expr kind))) (w n) (λ kind c at field.
          light_on (kinds tree c) (λ (kind : Kind). default_export_events (default_expr_decl (node_at tree n) (node_at tree c) kind)) (w n)
          (λ kind at holder start. omega arith))
      by (Kind.Item (Item.TsExportAssignment expr)) is heavy =
          light_field tree n expr_child_of (λ (expr : TreeNode). events_if_some (kind_of expr) (export_assignment_of_ident_events expr)) (w n)
          (λ kind c at field. light_on (kinds tree c) (export_assignment_of_ident_events (node_at tree c)) (w n)
          (λ kind at. light_up (export_assignment_of_ident_events (node_at tree c) kind) 1 (w n) (omega arith) (light_assignment (node_at tree c) kind)))
      by (Kind.Item (Item.TsImportEqualsDecl is_export id entity external)) is heavy =
          light_up (import_equals_events (node_at tree n) is_export entity external) 1 (w n) (omega arith)
          (light_import_equals (node_at tree n) is_export entity external)
      by (Kind.Item (Item.ExprStmt expr)) is heavy =
          light_field tree n expr_child_of expando_events (w n)
          (λ kind c at field. light_up (expando_events (node_at tree c)) 1 (w n) (omega arith) (light_expando (node_at tree c)))
      by (Kind.Item (Item.ExportAll _)) is heavy = λ holder start. omega arith
      by _ is heavy = light_none (w n)

  light_exported_item : (scope : Scope) (n : ℕ) → IsLight (events_if_some (child_in_field (node_at tree n) decl_child_of)
      (export_decl_events scope (node_at tree n))) (w n)
  light_exported_item scope n =
      light_field tree n decl_child_of (export_decl_events scope (node_at tree n)) (w n) (λ kind c is field.
      light_on (kinds tree c) (declaration_events scope (Some (node_at tree n)) (node_at tree c)) (w n) (λ inner at.
      light_up (declaration_events scope (Some (node_at tree n)) (node_at tree c) inner) (w c) (w n)
      (omega (arith, weighs n kind is, rw field at (decl_weighs w kind)))
      (light_declaration tree w weighs scope (Some (node_at tree n)) c inner at)))

  light_other_item : (scope : Scope) (n : ℕ) (kind : Kind) → kinds tree n ≡ Some kind → IsLight (non_namespace_item_events scope (node_at tree n) kind) (w n)
  light_other_item scope n (Kind.Item (Item.ExportDecl decl)) is = light_exported_item scope n
  light_other_item scope n (Kind.Item item) is = light_module n (Kind.Item item) is
  light_other_item scope n kind is = light_declaration tree w weighs scope None n kind is

  -- ---- namespaces, given the result for their items

  module _ (block : ItemListEvents) (light : (scope : Scope) (items : List ℕ) → IsLight (block scope items) (weights w items)) where
    light_body : (whole : ℕ) (ambient : Bool) (levels n : ℕ) → IsLight (namespace_body_events_within_levels block (node_at tree whole) ambient levels n) (w n)
    unfolding namespace_body_events_within_levels
    light_body whole ambient zero n = light_none (w n)
    light_body whole ambient (suc levels) n =
        light_kind tree n (namespace_body_events_of_kind (namespace_body_events_within_levels block (node_at tree whole) ambient levels) block
        (node_at tree whole) ambient) (w n) (λ kind is. by kind (weighs n kind is) (light_body whole ambient levels))
      where
        inner : ℕ → EventsByHolderAndStart
        inner = namespace_body_events_within_levels block (node_at tree whole) ambient levels

        by : (kind : Kind) → suc (weights w (child_numbers kind)) ≤ w n → ((m : ℕ) → IsLight (inner m) (w m))
            → IsLight (namespace_body_events_of_kind inner block (node_at tree whole) ambient (node_at tree n) kind) (w n)
        by (Kind.Decl (Decl.TsModuleBlock items)) heavy rest = light_up (block (namespace_scope ambient) items.items) (weights w items.items) (w n)
            (omega (arith, heavy, weights-append w items.items [])) (light (namespace_scope ambient) items.items)
        by (Kind.Decl (Decl.TsNamespaceDecl id body)) heavy rest =
            light_on (id_of_ident_child id_child_of (node_at tree n)) (namespace_name_part_events (node_at tree whole) (node_at tree n) (inner body)) (w n)
            (λ id at holder start. omega (arith, heavy, rest body start (start + 3)))
        by _ heavy rest = light_none (w n)

    light_namespace : (scope : Scope) (exported : Option TreeNode) (n : ℕ) (kind : Kind) → kinds tree n ≡ Some kind
        → IsLight (namespace_events block scope (record { exported = exported; decl = node_at tree n }) kind) (w n)
    light_namespace scope exported n kind is =
        let ambient = scope.ambient || is_ambient_namespace kind in
        let parts = weights w (child_numbers kind) in
        let body : EventsByHolderAndStart = events_if_some (child_in_field (node_at tree n) body_child_of)
        (namespace_body_events block (node_at tree n) ambient) in
        let light_parts : IsLight body parts = light_child tree n kind body_child_of (namespace_body_events block (node_at tree n) ambient) parts is (λ c field.
        light_up (namespace_body_events block (node_at tree n) ambient (node_at tree c)) (w c) parts (omega (arith, rw field at (body_node_weighs w kind)))
        (light_body n ambient (length tree.nodes.items) c)) in
        light_on (id_of_ident_child id_child_of (node_at tree n)) _ (w n) (λ (id : Id) at.
        let decl = definition_of_node (maybe_exported_node exported (exported_ts_module (node_at tree n))) (export_or_decl_range exported (node_at tree n)) in
        light_up (declare_and_add_events (is_exported scope exported) (id_view id) decl body) (suc parts) (w n) (weighs n kind is)
        (light_declared (is_exported scope exported) (id_view id) decl body parts light_parts))

    -- ---- items

    abbrev namespace_walk : Scope → Namespace → EventsByHolderAndStart
    namespace_walk scope namespace = events_if_some (kind_of namespace.decl) (namespace_events block scope namespace)

    light_found : (scope : Scope) (exported : Option TreeNode) (n : ℕ)
        → IsLight (namespace_walk scope (record { exported = exported; decl = node_at tree n })) (w n)
    light_found scope exported n =
        light_on (kinds tree n) (namespace_events block scope (record { exported = exported; decl = node_at tree n })) (w n)
        (λ kind is. light_namespace scope exported n kind is)

    light_other : (scope : Scope) (exported : Option TreeNode) (n k : ℕ) (kind : Kind) (other : EventsByHolderAndStart) → w n ≤ k → IsLight other k
        → IsLight (namespace_events_or (as_namespace exported (node_at tree n) kind) (namespace_walk scope) other) k
    light_other scope exported n k (Kind.Decl (Decl.TsModuleDecl _ _ _)) other le rest =
        light_up (namespace_walk scope (record { exported = exported; decl = node_at tree n })) (w n) k le (light_found scope exported n)
    light_other scope exported n k _ other le rest = rest

    light_exported_namespace : (scope : Scope) (n : ℕ) (found : Option ℕ) (other : EventsByHolderAndStart) → weights w (option_to_list found) ≤ w n
        → IsLight other (w n)
        → IsLight (namespace_events_or (option_and_then (exported_namespace (node_at tree n)) (node_in tree found)) (namespace_walk scope) other) (w n)
    light_exported_namespace scope n None other le rest = rest
    light_exported_namespace scope n (Some c) other le rest = by (ltb c (length tree.nodes.items))
      where
        of_kind : (o : Option Kind)
            → IsLight (namespace_events_or (option_and_then (as_namespace (Some (node_at tree n)) (node_at tree c)) o) (namespace_walk scope)
            other) (w n)
        of_kind None = rest
        of_kind (Some kind) = light_other scope (Some (node_at tree n)) c (w n) kind other (omega arith) rest

        by : (b : Bool)
            → IsLight (namespace_events_or (option_and_then (exported_namespace (node_at tree n)) (cond b (Some (node_at tree c)) None)) (namespace_walk scope)
            other) (w n)
        by true = of_kind (kinds tree c)
        by false = rest

    light_item : (scope : Scope) (n : ℕ) (kind : Kind) → kinds tree n ≡ Some kind → IsLight (item_events block scope (node_at tree n) kind) (w n)
    light_item scope n kind is = by kind is (light_other_item scope n kind is)
      where
        by : (kind : Kind) → kinds tree n ≡ Some kind → IsLight (non_namespace_item_events scope (node_at tree n) kind) (w n)
            → IsLight (namespace_events_or (namespace_of (node_at tree n) kind) (namespace_walk scope) (non_namespace_item_events scope (node_at tree n) kind))
            (w n)
        by (Kind.Item (Item.ExportDecl decl)) is rest =
            light_exported_namespace scope n (option_and_then decl_child_of (kinds tree n)) (non_namespace_item_events scope (node_at tree n)
            (Kind.Item (Item.ExportDecl decl))) (rw is (omega (arith, weighs n (Kind.Item (Item.ExportDecl decl)) is))) rest
        by kind is rest = light_other scope None n (w n) kind (non_namespace_item_events scope (node_at tree n) kind) (omega arith) rest

  light_items : (levels : ℕ) (scope : Scope) (n : ℕ) → IsLight (item_events_within_levels tree levels scope n) (w n)
  unfolding item_events_within_levels
  light_items zero scope n = light_none (w n)
  light_items (suc levels) scope n =
      light_kind tree n (item_events (item_list_events_within_levels tree levels) scope) (w n) (λ kind is.
      light_item (item_list_events_within_levels tree levels) (λ inner items. light_each (item_events_within_levels tree levels inner) w items
      (light_items levels inner)) scope n kind is)

  -- A whole tree has at most as many declaring events as node 0 weighs.
  pub light_tree : (kind : Kind) → kinds tree 0 ≡ Some kind → count (tree_events tree) ≤ w 0
  light_tree kind is =
      rw is (omega (arith, weighs 0 kind is, body_weighs w kind, light_each item w (body_children_of kind) (light_items levels (module_scope tree)) 0 1))
    where
      levels : ℕ
      levels = length tree.nodes.items

      item : ℕ → EventsByHolderAndStart
      item = item_events_within_levels tree levels (module_scope tree)
