-- The events of a tree concern the tree: their declarations consist of its nodes, and each `export *` is one of its statements.
use Rattle.std.proofs.Common.{◌≡◌, ℕ, zero, suc, ◌+◌, ◌<◌, Bool, true, false, ◌||◌, cond, ltb, List}
use Rattle.std.proofs.Common.{[], ◌∷◌, ◌++◌, length, All, Option, Some, None, option_map, refl}
use Rattle.std.specs.Prelude.{String, string_bytes, unwrap_or, IfSome}
use Rattle.std.specs.Global.{Global}
use Rattle.std.specs.Option.{option_and_then, option_map_or}
use Rattle.std.proofs.lemmas.Bool.Decides.{Decides-ltb}
use Rattle.std.proofs.lemmas.List.Elements.{All-nil, All-cons, All-append}
use Rattle.symbols_ast.specs.declared.tree.arena.Tree.{Tree}
use Rattle.symbols_ast.specs.declared.tree.arena.Id.{Id}
use Rattle.symbols_ast.specs.declared.tree.kinds.Kind.{Kind}
use Rattle.symbols_ast.specs.declared.tree.kinds.Item.TheVariants as Item
use Rattle.symbols_ast.specs.declared.tree.kinds.Decl.TheVariants as Decl
use Rattle.symbols_ast.specs.declared.tree.kinds.Member.TheVariants as Member
use Rattle.symbols_ast.specs.declared.tree.kinds.Expr.TheVariants as Expr
use Rattle.symbols_ast.specs.NodeRefs.{TreeNode, kind_of, node_in, child_in_field, child_list_in_field}
use Rattle.symbols_ast.specs.Fields.{body_children_of, body_child_of, decl_child_of, decl_children_of, expr_child_of, orig_child_of, local_child_of}
use Rattle.symbols_ast.specs.Fields.{id_child_of, name_child_of}
use Rattle.symbols_ast.specs.Ids.{IdView, id_view, ident_id}
use Rattle.symbols_nodes.specs.DottedNames.{DottedName, entity_name}
use Rattle.symbols_nodes.specs.Expando.{Expando, expando_of_assignment}
use Rattle.symbols_nodes.specs.NodeViews.{SymbolNodeView, ExportDeclView, decl_nodes, export_decl_nodes, exported_class, exported_fn, exported_var}
use Rattle.symbols_nodes.specs.NodeViews.{exported_ts_enum, exported_ts_interface, exported_ts_module, exported_ts_type_alias}
use Rattle.symbols_nodes.specs.NodeViews.{class_param_prop, constructor, export_default_decl, expando_property, ts_namespace}
use Rattle.symbols_table.specs.declared.builder.scope.Scope.{Scope}
use Rattle.symbols_table.specs.DeclViews.{Declaration, DeclKindView, definition_of_node, declaration_of_kind, decl_kind_node, file_ref, all_names, target}
use Rattle.symbols_table.specs.Events.{DeclarationEvent, begins, declare, declare_alias, declare_unnamed, default, binds, member, expando, export, child, star}
use Rattle.symbols_table.specs.Laws.{IsTreeNode, IsDeclaredInTree, IsExportStarInTree}
use Rattle.symbols_table.specs.EventsByHolderAndStart.{EventsByHolderAndStart, no_events_by_holder_and_start, events_if_some, events_of_each, range_or_empty}
use Rattle.symbols_table.specs.EventsByHolderAndStart.{id_of_ident_child}
use Rattle.symbols_table.specs.Patterns.{pattern_bindings}
use Rattle.symbols_table.specs.MemberEvents.{class_or_interface_member_numbers, member_event, constructor_param_events, constructor_param_events_at}
use Rattle.symbols_table.specs.MemberEvents.{node_of_non_constructor_member, member_events, member_events_at}
use Rattle.symbols_table.specs.DeclarationEvents.{maybe_exported_node, unexported_node_view, export_or_decl_range, is_exported, variable_node, export_event_if}
use Rattle.symbols_table.specs.DeclarationEvents.{child_and_export_events, declare_and_add_events, VariableStatement, binding_events, binding_events_at}
use Rattle.symbols_table.specs.DeclarationEvents.{declarator_events}
use Rattle.symbols_table.specs.DeclarationEvents.{declarator_events_at, variable_statement_events, export_decl_view_of_kind, declared_name, named_decl_events}
use Rattle.symbols_table.specs.DeclarationEvents.{declaration_events}
use Rattle.symbols_table.specs.ModuleEvents.{import_dep_name, import_decl_events, import_specifier_events, import_specifier_events_at}
use Rattle.symbols_table.specs.ModuleEvents.{new_exported_symbol_events, orig_specifier_name, orig_specifier_decl_kind, export_named_specifier_events}
use Rattle.symbols_table.specs.ModuleEvents.{export_specifier_events, export_specifier_events_at, bind_events_if, default_decl_events, default_export_events}
use Rattle.symbols_table.specs.ModuleEvents.{default_expr_decl, export_assignment_of_ident_events, import_equals_decl_kind, import_equals_alias_events}
use Rattle.symbols_table.specs.ModuleEvents.{import_equals_events, expando_events, import_export_or_expando_events}
use Rattle.symbols_table.specs.TreeEvents.{Namespace, as_namespace, exported_namespace, namespace_of, is_ambient_namespace, namespace_scope, ItemListEvents}
use Rattle.symbols_table.specs.TreeEvents.{namespace_name_part_events, namespace_body_events_of_kind, namespace_body_events_within_levels}
use Rattle.symbols_table.specs.TreeEvents.{namespace_body_events, namespace_events, export_decl_events, non_namespace_item_events, namespace_events_or}
use Rattle.symbols_table.specs.TreeEvents.{item_events, item_events_within_levels, item_list_events_within_levels, module_scope, program_node, program_decl}
use Rattle.symbols_table.specs.TreeEvents.{tree_events}
use Rattle.symbols_table.proofs.CountsParts.{node_at, kinds}

-- The declaration of an event, or its `export *`, is of the tree.
abbrev pub IsEventOf : Tree → DeclarationEvent → Type 0
IsEventOf tree (begins decl) = IsDeclaredInTree tree decl
IsEventOf tree (declare _ _ decl) = IsDeclaredInTree tree decl
IsEventOf tree (declare_alias _ _ decl) = IsDeclaredInTree tree decl
IsEventOf tree (declare_unnamed _ decl) = IsDeclaredInTree tree decl
IsEventOf tree (default _ decl) = IsDeclaredInTree tree decl
IsEventOf tree (member _ decl _) = IsDeclaredInTree tree decl
IsEventOf tree (expando _ decl) = IsDeclaredInTree tree decl
IsEventOf tree (star statement) = IsExportStarInTree tree statement
IsEventOf tree (binds _ _) = Unit {0}
IsEventOf tree (export _ _ _) = Unit {0}
IsEventOf tree (child _ _) = Unit {0}

abbrev pub AreInTree : Tree → List DeclarationEvent → Type 0
AreInTree tree events = All (IsEventOf tree) events

abbrev pub IsInTree : Tree → EventsByHolderAndStart → Type 0
IsInTree tree walk = (holder start : ℕ) → AreInTree tree (walk holder start)

-- The nodes of a declaration's kind are nodes of the tree.
abbrev AreNodesOf : Tree → DeclKindView → Type 0
AreNodesOf tree kind = All (IsTreeNode tree) (option_map_or decl_nodes (decl_kind_node kind) [])

module _ (tree : Tree) where
  in_tree_nil : AreInTree tree []
  in_tree_nil = All-nil (IsEventOf tree)

  in_tree_cons : (event : DeclarationEvent) (events : List DeclarationEvent) → IsEventOf tree event → AreInTree tree events → AreInTree tree (event ∷ events)
  in_tree_cons event events is rest = All-cons (IsEventOf tree) event events is rest

  in_tree_one : (event : DeclarationEvent) → IsEventOf tree event → AreInTree tree (event ∷ [])
  in_tree_one event is = in_tree_cons event [] is in_tree_nil

  in_tree_append : (es fs : List DeclarationEvent) → AreInTree tree es → AreInTree tree fs → AreInTree tree (es ++ fs)
  in_tree_append es fs first rest = All-append (IsEventOf tree) es fs first rest

  in_tree_none : IsInTree tree no_events_by_holder_and_start
  in_tree_none = λ holder start. in_tree_nil

  in_tree_on : {A : Type 0} (found : Option A) (walk : A → EventsByHolderAndStart) → ((x : A) → found ≡ Some x → IsInTree tree (walk x))
      → IsInTree tree (events_if_some found walk)
  in_tree_on None walk local_name_bytes = in_tree_none
  in_tree_on (Some x) walk local_name_bytes = local_name_bytes x refl

  in_tree_if : {A : Type 0} (P : A → Type 0) (found : Option A) (walk : A → EventsByHolderAndStart) → IfSome found P → ((x : A) → P x → IsInTree tree (walk x))
      → IsInTree tree (events_if_some found walk)
  in_tree_if P None walk is local_name_bytes = in_tree_none
  in_tree_if P (Some x) walk is local_name_bytes = local_name_bytes x is

  in_tree_each : (walk : ℕ → EventsByHolderAndStart) (xs : List ℕ) → ((x : ℕ) → IsInTree tree (walk x)) → IsInTree tree (events_of_each walk xs)
  in_tree_each walk [] local_name_bytes = in_tree_none
  in_tree_each walk (x ∷ xs) local_name_bytes = λ holder start.
      let after = start + length (walk x holder start) in
      in_tree_append (walk x holder start) (events_of_each walk xs holder after) (local_name_bytes x holder start)
      (in_tree_each walk xs local_name_bytes holder after)

  -- ---- nodes

  abbrev IsInside : ℕ → Type 0
  IsInside n = n < length tree.nodes.items

  in_tree_node : (found : Option ℕ) (walk : TreeNode → EventsByHolderAndStart) → ((n : ℕ) → IsInside n → IsInTree tree (walk (node_at tree n)))
      → IsInTree tree (events_if_some (node_in tree found) walk)
  in_tree_node None walk local_name_bytes = in_tree_none
  in_tree_node (Some n) walk local_name_bytes = by (ltb n (length tree.nodes.items)) refl
    where
      by : (b : Bool) → ltb n (length tree.nodes.items) ≡ b → IsInTree tree (events_if_some (cond b (Some (node_at tree n)) None) walk)
      by true is = local_name_bytes n ((Decides-ltb n (length tree.nodes.items)).0 is)
      by false is = in_tree_none

  in_tree_kind : (found : Option ℕ) (walk : TreeNode → Kind → EventsByHolderAndStart)
      → ((n : ℕ) (kind : Kind) → IsInside n → kinds tree n ≡ Some kind → IsInTree tree (walk (node_at tree n) kind))
      → IsInTree tree (events_if_some (node_in tree found) (λ (node : TreeNode). events_if_some (kind_of node) (walk node)))
  in_tree_kind found walk local_name_bytes =
      in_tree_node found (λ (node : TreeNode). events_if_some (kind_of node) (walk node))
      (λ n inside. in_tree_on (kinds tree n) (walk (node_at tree n)) (λ kind is. local_name_bytes n kind inside is))

  one_node : (n : ℕ) → IsInside n → All (IsTreeNode tree) (node_at tree n ∷ [])
  one_node n inside = All-cons (IsTreeNode tree) (node_at tree n) [] (refl, inside) (All-nil (IsTreeNode tree))

  three_nodes : (k m n : ℕ) → IsInside k → IsInside m → IsInside n → All (IsTreeNode tree) (node_at tree k ∷ node_at tree m ∷ node_at tree n ∷ [])
  three_nodes k m n h i j =
      All-cons (IsTreeNode tree) (node_at tree k) (node_at tree m ∷ node_at tree n ∷ []) (refl, h)
      (All-cons (IsTreeNode tree) (node_at tree m) (node_at tree n ∷ []) (refl, i) (one_node n j))

  no_nodes : All (IsTreeNode tree) []
  no_nodes = All-nil (IsTreeNode tree)

  -- ---- a declaration, with the `export` before it, if any

  in_tree_other : (form : ExportDeclView) → All (IsTreeNode tree) (export_decl_nodes form) → All (IsTreeNode tree) (decl_nodes (unexported_node_view form))
  in_tree_other (exported_class _) local_name_bytes = local_name_bytes
  in_tree_other (exported_fn _) local_name_bytes = local_name_bytes
  in_tree_other (exported_var _ _ _) local_name_bytes = local_name_bytes
  in_tree_other (exported_ts_enum _) local_name_bytes = local_name_bytes
  in_tree_other (exported_ts_interface _) local_name_bytes = local_name_bytes
  in_tree_other (exported_ts_module _) local_name_bytes = local_name_bytes
  in_tree_other (exported_ts_type_alias _) local_name_bytes = local_name_bytes

  in_tree_form : (exported : Option TreeNode) (form : ExportDeclView) → IfSome exported (IsTreeNode tree) → All (IsTreeNode tree) (export_decl_nodes form)
      → All (IsTreeNode tree) (decl_nodes (maybe_exported_node exported form))
  in_tree_form None form is local_name_bytes = in_tree_other form local_name_bytes
  in_tree_form (Some node) form is local_name_bytes = All-cons (IsTreeNode tree) node (export_decl_nodes form) is local_name_bytes

  explicit_export : (test : Bool) (holder : ℕ) (name : List ℕ) (of : ℕ) → AreInTree tree (export_event_if test holder name of)
  explicit_export true holder name of = in_tree_one (export holder name of) tt
  explicit_export false holder name of = in_tree_nil

  in_tree_declared : (test : Bool) (id : IdView) (decl : Declaration) (inner : EventsByHolderAndStart) → IsDeclaredInTree tree decl → IsInTree tree inner
      → IsInTree tree (declare_and_add_events test id decl inner)
  in_tree_declared test id decl inner is local_name_bytes = λ holder start.
      let last = child_and_export_events test holder id.name start in
      let added : AreInTree tree last = in_tree_cons (child holder start) (export_event_if test holder id.name start) tt
      (explicit_export test holder id.name start) in
      in_tree_cons (declare holder id decl) (inner start (start + 1) ++ last) is
      (in_tree_append (inner start (start + 1)) last (local_name_bytes start (start + 1)) added)

  -- ---- members

  in_tree_param : (n : ℕ) → IsInTree tree (constructor_param_events_at tree n)
  in_tree_param n = in_tree_kind (Some n) constructor_param_events (λ m kind inside is. by m inside kind)
    where
      by : (m : ℕ) → IsInside m → (kind : Kind) → IsInTree tree (constructor_param_events (node_at tree m) kind)
      by m inside (Kind.Member (Member.TsParamProp _ _)) =
          λ holder start. in_tree_one (member holder (definition_of_node (class_param_prop (node_at tree m)) (range_or_empty (node_at tree m))) false)
          (one_node m inside)
      by m inside _ = in_tree_none

  simple_in_tree : (n : ℕ) → All (IsTreeNode tree) (node_at tree n ∷ []) → (kind : Kind)
      → IfSome (node_of_non_constructor_member (node_at tree n) kind) (λ (m : SymbolNodeView × Bool). All (IsTreeNode tree) (decl_nodes m.0))
  simple_in_tree n here (Kind.Member (Member.ClassMethod _ _ _ _ _)) = here
  simple_in_tree n here (Kind.Member (Member.ClassProp _ _ _ _ _)) = here
  simple_in_tree n here (Kind.Member (Member.AutoAccessor _ _ _ _ _)) = here
  simple_in_tree n here (Kind.Member (Member.TsIndexSignature _ _ _)) = here
  simple_in_tree n here (Kind.Member (Member.TsCallSignatureDecl _ _ _)) = here
  simple_in_tree n here (Kind.Member (Member.TsConstructSignatureDecl _ _ _)) = here
  simple_in_tree n here (Kind.Member (Member.TsPropertySignature _ _ _)) = here
  simple_in_tree n here (Kind.Member (Member.TsGetterSignature _ _ _)) = here
  simple_in_tree n here (Kind.Member (Member.TsSetterSignature _ _ _)) = here
  simple_in_tree n here (Kind.Member (Member.TsMethodSignature _ _ _ _ _)) = here
  simple_in_tree n here _ = tt

  in_tree_member : (n : ℕ) → IsInTree tree (member_events_at tree n)
  in_tree_member n = in_tree_kind (Some n) member_events (λ m kind inside is. by m inside kind)
    where
      by : (m : ℕ) → IsInside m → (kind : Kind) → IsInTree tree (member_events (node_at tree m) kind)
      by m inside (Kind.Member (Member.Constructor params _ _)) = λ holder start.
          in_tree_cons (member holder (definition_of_node (constructor (node_at tree m)) (range_or_empty (node_at tree m))) true)
          (events_of_each (constructor_param_events_at tree) params.items holder (start + 1)) (one_node m inside)
          (in_tree_each (constructor_param_events_at tree) params.items in_tree_param holder (start + 1))
      by m inside kind =
          in_tree_if (λ (found : SymbolNodeView × Bool). All (IsTreeNode tree) (decl_nodes found.0)) (node_of_non_constructor_member (node_at tree m) kind)
          (λ (found : SymbolNodeView × Bool). member_event found.0 (node_at tree m) found.1) (simple_in_tree m (one_node m inside) kind)
          (λ found local_name_bytes holder start. in_tree_one (member holder (definition_of_node found.0 (range_or_empty (node_at tree m))) found.1)
          local_name_bytes)

  in_tree_members : (node : TreeNode) → IsInTree tree (events_of_each (member_events_at tree) (class_or_interface_member_numbers node))
  in_tree_members node = in_tree_each (member_events_at tree) (class_or_interface_member_numbers node) in_tree_member

  -- ---- variables

  in_tree_variable : (exported : Option TreeNode) (is_using : Bool) (k m n : ℕ) → IfSome exported (IsTreeNode tree) → IsInside k → IsInside m → IsInside n
      → All (IsTreeNode tree) (decl_nodes (variable_node exported is_using (node_at tree k) (node_at tree m) (node_at tree n)))
  in_tree_variable exported true k m n is h i j = three_nodes k m n h i j
  in_tree_variable exported false k m n is h i j =
      in_tree_form exported (exported_var (node_at tree k) (node_at tree m) (node_at tree n)) is (three_nodes k m n h i j)

  in_tree_variables : (scope : Scope) (exported : Option TreeNode) (is_using : Bool) (k : ℕ) → IfSome exported (IsTreeNode tree) → IsInside k
      → IsInTree tree (variable_statement_events (record { scope = scope; exported = exported; is_using = is_using; decl = node_at tree k }))
  in_tree_variables scope exported is_using k is inside = in_tree_each (declarator_events_at vars) (child_list_in_field (node_at tree k) decl_children_of)
      declarator
    where
      vars : VariableStatement
      vars = record { scope = scope; exported = exported; is_using = is_using; decl = node_at tree k }

      binding : (m : ℕ) → IsInside m → (n : ℕ) → IsInTree tree (binding_events_at vars (node_at tree m) n)
      binding m at n = in_tree_node (Some n) (binding_events vars (node_at tree m))
          (λ c here. in_tree_on (option_and_then ident_id (kinds tree c)) _ (λ (id : Id) found.
          in_tree_declared (is_exported scope exported) (id_view id) (definition_of_node (variable_node exported is_using (node_at tree k) (node_at tree m)
          (node_at tree c)) (range_or_empty
          (node_at tree m))) no_events_by_holder_and_start (in_tree_variable exported is_using k m c is inside at here) in_tree_none))

      declarator : (n : ℕ) → IsInTree tree (declarator_events_at vars n)
      declarator n = in_tree_node (Some n) (declarator_events vars) (λ m at.
          in_tree_node (option_and_then name_child_of (kinds tree m)) (λ (pattern : TreeNode). events_of_each (binding_events_at vars (node_at tree m))
          (pattern_bindings tree pattern.number)) (λ p here. in_tree_each (binding_events_at vars (node_at tree m)) (pattern_bindings tree p) (binding m at)))

  -- ---- declarations with an identifier

  named_in_tree : (n : ℕ) → All (IsTreeNode tree) (node_at tree n ∷ []) → (kind : Kind)
      → IfSome (export_decl_view_of_kind (node_at tree n) kind) (λ (form : ExportDeclView). All (IsTreeNode tree) (export_decl_nodes form))
  named_in_tree n here (Kind.Decl (Decl.ClassDecl _ _)) = here
  named_in_tree n here (Kind.Decl (Decl.FnDecl _ _)) = here
  named_in_tree n here (Kind.Decl (Decl.TsInterfaceDecl _ _ _ _)) = here
  named_in_tree n here (Kind.Decl (Decl.TsTypeAliasDecl _ _ _)) = here
  named_in_tree n here (Kind.Decl (Decl.TsEnumDecl _ _)) = here
  named_in_tree n here _ = tt

  in_tree_declaration : (scope : Scope) (exported : Option TreeNode) (n : ℕ) → IfSome exported (IsTreeNode tree) → IsInside n → (kind : Kind)
      → IsInTree tree (declaration_events scope exported (node_at tree n) kind)
  in_tree_declaration scope exported n is inside (Kind.Decl (Decl.VarDecl _)) = in_tree_variables scope exported false n is inside
  in_tree_declaration scope exported n is inside (Kind.Decl (Decl.UsingDecl _)) = in_tree_variables scope exported true n is inside
  in_tree_declaration scope exported n is inside kind =
      in_tree_if (λ (form : ExportDeclView). All (IsTreeNode tree) (export_decl_nodes form)) (export_decl_view_of_kind (node_at tree n) kind)
      (named_decl_events scope exported (node_at tree n)) (named_in_tree n (one_node n inside) kind) (λ form local_name_bytes.
      in_tree_on (declared_name (node_at tree n)) _ (λ (id : Id) at.
      in_tree_declared (is_exported scope exported) (id_view id)
      (definition_of_node (maybe_exported_node exported form) (export_or_decl_range exported (node_at tree n)))
      (events_of_each (member_events_at tree) (class_or_interface_member_numbers (node_at tree n))) (in_tree_form exported form is local_name_bytes)
      (in_tree_members (node_at tree n))))

  -- ---- imports and exports

  in_tree_import : (src : List ℕ) (n : ℕ) → IsInTree tree (import_specifier_events_at src tree n)
  in_tree_import src n = in_tree_kind (Some n) (import_specifier_events src) (λ m kind inside is.
      in_tree_on (id_of_ident_child local_child_of (node_at tree m)) (λ (id : Id). events_if_some (import_dep_name id kind)
      (import_decl_events src (node_at tree m) id))
      (λ id at.
      in_tree_on (import_dep_name id kind) (import_decl_events src (node_at tree m) id)
      (λ name here holder start. in_tree_one (declare holder (id_view id) (declaration_of_kind (file_ref name src) (range_or_empty (node_at tree m))))
      no_nodes)))

  in_tree_named_export : (name : List ℕ) (decl : Declaration) → IsDeclaredInTree tree decl → IsInTree tree (new_exported_symbol_events name decl)
  in_tree_named_export name decl is = λ holder start.
      in_tree_cons (declare_unnamed holder decl) (export holder name start ∷ []) is (in_tree_one (export holder name start) tt)

  orig_in_tree : (src : Option (List ℕ)) (orig : Kind) (name : List ℕ) → IfSome (orig_specifier_decl_kind src orig name) (AreNodesOf tree)
  orig_in_tree (Some text) orig name = no_nodes
  orig_in_tree None orig name = by (ident_id orig)
    where
      by : (o : Option Id) → IfSome (option_map (λ (id : Id). target (id_view id)) o) (AreNodesOf tree)
      by None = tt
      by (Some id) = no_nodes

  in_tree_specifier : (src : Option (List ℕ)) (node : TreeNode) (exported : Option (List ℕ)) (orig : Kind)
      → IsInTree tree (export_named_specifier_events src node exported orig)
  in_tree_specifier src node exported orig =
      in_tree_on (orig_specifier_name orig) _ (λ (name : List ℕ) at.
      in_tree_if (AreNodesOf tree) (orig_specifier_decl_kind src orig name) _ (orig_in_tree src orig name)
      (λ (kind : DeclKindView) local_name_bytes. in_tree_named_export (unwrap_or exported name) (declaration_of_kind kind (range_or_empty node))
      local_name_bytes))

  in_tree_export_at : (src : Option (List ℕ)) (n : ℕ) → IsInTree tree (export_specifier_events_at src tree n)
  in_tree_export_at src n = in_tree_kind (Some n) (export_specifier_events src) (λ m kind inside is. by m kind)
    where
      by : (m : ℕ) (kind : Kind) → IsInTree tree (export_specifier_events src (node_at tree m) kind)
      by m (Kind.Item (Item.ExportSpecifier _ exported)) =
          in_tree_on (option_and_then kind_of (child_in_field (node_at tree m) orig_child_of))
          (export_named_specifier_events src (node_at tree m) (option_map string_bytes exported))
          (λ orig at. in_tree_specifier src (node_at tree m) (option_map string_bytes exported) orig)
      by m (Kind.Item (Item.ExportNamespace name)) =
          in_tree_on src _ (λ (text : List ℕ) at.
          in_tree_named_export (string_bytes name) (declaration_of_kind (file_ref all_names text) (range_or_empty (node_at tree m))) no_nodes)
      by m _ = in_tree_none

  in_tree_binds : (id : Option Id) (of : ℕ) → AreInTree tree (bind_events_if id of)
  in_tree_binds None of = in_tree_nil
  in_tree_binds (Some id) of = in_tree_one (binds (id_view id) of) tt

  in_tree_default_decl : (n : ℕ) → IsInside n → (c : ℕ) → IsInTree tree (default_decl_events (node_at tree n) (node_at tree c))
  in_tree_default_decl n inside c = λ holder start.
      let names = bind_events_if (declared_name (node_at tree c)) start in
      let after = start + 1 + length names in
      let members = events_of_each (member_events_at tree) (class_or_interface_member_numbers (node_at tree c)) start after in
      in_tree_cons (default holder (definition_of_node (export_default_decl (node_at tree n)) (range_or_empty (node_at tree n)))) (names ++ members)
      (one_node n inside)
      (in_tree_append names members (in_tree_binds (declared_name (node_at tree c)) start) (in_tree_members (node_at tree c) start after))

  in_tree_default : (decl : Declaration) → IsDeclaredInTree tree decl → IsInTree tree (default_export_events decl)
  in_tree_default decl is = λ holder start. in_tree_one (default holder decl) is

  in_tree_default_expr : (n : ℕ) → IsInside n → (expr : TreeNode) (kind : Kind) → IsDeclaredInTree tree (default_expr_decl (node_at tree n) expr kind)
  in_tree_default_expr n inside expr (Kind.Expr (Expr.Ident _)) = no_nodes
  in_tree_default_expr n inside expr _ = one_node n inside

  in_tree_assignment : (expr : TreeNode) (kind : Kind) → IsInTree tree (export_assignment_of_ident_events expr kind)
  in_tree_assignment expr (Kind.Expr (Expr.Ident id)) = in_tree_default _ no_nodes
  in_tree_assignment expr _ = in_tree_none

  alias_in_tree : (node : TreeNode) (entity : Option ℕ) (external : Option (String Global))
      → IfSome (import_equals_decl_kind node entity external) (AreNodesOf tree)
  alias_in_tree node (Some entity) external = by (option_and_then entity_name (node_in node.tree (Some entity)))
    where
      by : (o : Option DottedName) → IfSome (option_map (λ (name : DottedName). DeclKindView.qualified_target name.leftmost name.parts) o) (AreNodesOf tree)
      by None = tt
      by (Some name) = no_nodes
  alias_in_tree node None None = tt
  alias_in_tree node None (Some text) = no_nodes

  in_tree_import_equals : (node : TreeNode) (is_export : Bool) (entity : Option ℕ) (external : Option (String Global))
      → IsInTree tree (import_equals_events node is_export entity external)
  in_tree_import_equals node is_export entity external =
      in_tree_on (id_of_ident_child id_child_of node) _ (λ (id : Id) at.
      in_tree_if (AreNodesOf tree) (import_equals_decl_kind node entity external) (import_equals_alias_events node is_export id)
      (alias_in_tree node entity external)
      (λ (kind : DeclKindView) local_name_bytes holder start.
      in_tree_cons (declare_alias holder (id_view id) (declaration_of_kind kind (range_or_empty node)))
      (export_event_if is_export holder (string_bytes id.name) start)
      local_name_bytes (explicit_export is_export holder (string_bytes id.name) start)))

  in_tree_expando : (n : ℕ) → IsInside n → IsInTree tree (expando_events (node_at tree n))
  in_tree_expando n inside =
      in_tree_on (option_and_then (λ (e : Expando). option_and_then ident_id (kind_of e.object)) (expando_of_assignment (node_at tree n))) _
      (λ (id : Id) at holder start.
      in_tree_one (expando (id_view id) (definition_of_node (expando_property (node_at tree n)) (range_or_empty (node_at tree n)))) (one_node n inside))

  in_tree_module : (n : ℕ) → IsInside n → (kind : Kind) → kinds tree n ≡ Some kind → IsInTree tree (import_export_or_expando_events (node_at tree n) kind)
  in_tree_module n inside (Kind.Item (Item.Import specifiers src)) is =
      in_tree_each (import_specifier_events_at (string_bytes src) tree) specifiers.items (in_tree_import (string_bytes src))
  in_tree_module n inside (Kind.Item (Item.ExportNamed specifiers src)) is =
      in_tree_each (export_specifier_events_at (option_map string_bytes src) tree) specifiers.items (in_tree_export_at (option_map string_bytes src))
  in_tree_module n inside (Kind.Item (Item.ExportDefaultDecl decl)) is =
      in_tree_node (option_and_then decl_child_of (kinds tree n)) (default_decl_events (node_at tree n)) (λ c here. in_tree_default_decl n inside c)
  in_tree_module n inside (Kind.Item (Item.ExportDefaultExpr expr)) is =
      in_tree_kind (option_and_then expr_child_of (kinds tree n))
      (λ (expr : TreeNode) (kind : Kind). default_export_events (default_expr_decl (node_at tree n) expr kind))
      (λ c kind here at. in_tree_default (default_expr_decl (node_at tree n) (node_at tree c) kind) (in_tree_default_expr n inside (node_at tree c) kind))
  in_tree_module n inside (Kind.Item (Item.TsExportAssignment expr)) is =
      in_tree_kind (option_and_then expr_child_of (kinds tree n)) export_assignment_of_ident_events (λ c kind here at. in_tree_assignment (node_at tree c) kind)
  in_tree_module n inside (Kind.Item (Item.TsImportEqualsDecl is_export id entity external)) is =
      in_tree_import_equals (node_at tree n) is_export entity external
  in_tree_module n inside (Kind.Item (Item.ExprStmt expr)) is = in_tree_node (option_and_then expr_child_of (kinds tree n)) expando_events in_tree_expando
  in_tree_module n inside (Kind.Item (Item.ExportAll src)) is = λ holder start. in_tree_one (star (record { number = n; specifier_text = string_bytes src }))
      (rw is refl)
  in_tree_module n inside _ is = in_tree_none

  in_tree_exported_item : (scope : Scope) (n : ℕ) → IsInside n
      → IsInTree tree (events_if_some (child_in_field (node_at tree n) decl_child_of) (export_decl_events scope (node_at tree n)))
  in_tree_exported_item scope n inside =
      in_tree_kind (option_and_then decl_child_of (kinds tree n)) (declaration_events scope (Some (node_at tree n)))
      (λ c kind here at. in_tree_declaration scope (Some (node_at tree n)) c (refl, inside) here kind)

  in_tree_other_item : (scope : Scope) (n : ℕ) → IsInside n → (kind : Kind) → kinds tree n ≡ Some kind
      → IsInTree tree (non_namespace_item_events scope (node_at tree n) kind)
  in_tree_other_item scope n inside (Kind.Item (Item.ExportDecl decl)) is = in_tree_exported_item scope n inside
  in_tree_other_item scope n inside (Kind.Item item) is = in_tree_module n inside (Kind.Item item) is
  in_tree_other_item scope n inside kind is = in_tree_declaration scope None n tt inside kind

  -- ---- namespaces, given the result for their items

  module _ (block : ItemListEvents) (local_name_bytes : (scope : Scope) (items : List ℕ) → IsInTree tree (block scope items)) where
    in_tree_body : (whole : ℕ) → IsInside whole → (ambient : Bool) (levels n : ℕ)
        → IsInTree tree (namespace_body_events_within_levels block (node_at tree whole) ambient levels n)
    unfolding namespace_body_events_within_levels
    in_tree_body whole at ambient zero n = in_tree_none
    in_tree_body whole at ambient (suc levels) n =
        in_tree_kind (Some n) (namespace_body_events_of_kind (namespace_body_events_within_levels block (node_at tree whole) ambient levels) block
        (node_at tree whole) ambient) (λ m kind inside is. by m kind (in_tree_body whole at ambient levels))
      where
        inner : ℕ → EventsByHolderAndStart
        inner = namespace_body_events_within_levels block (node_at tree whole) ambient levels

        by : (m : ℕ) (kind : Kind) → ((k : ℕ) → IsInTree tree (inner k))
            → IsInTree tree (namespace_body_events_of_kind inner block (node_at tree whole) ambient (node_at tree m) kind)
        by m (Kind.Decl (Decl.TsModuleBlock items)) rest = local_name_bytes (namespace_scope ambient) items.items
        by m (Kind.Decl (Decl.TsNamespaceDecl id body)) rest =
            in_tree_on (id_of_ident_child id_child_of (node_at tree m)) (namespace_name_part_events (node_at tree whole) (node_at tree m) (inner body))
            (λ (id : Id) found holder start.
            let last = inner body start (start + 3) in
            in_tree_cons (declare holder (id_view id) (definition_of_node (ts_namespace (node_at tree whole)) (range_or_empty (node_at tree m))))
            (export holder (id_view id).name start ∷ child holder start ∷ last) (one_node whole at)
            (in_tree_cons (export holder (id_view id).name start) (child holder start ∷ last) tt
            (in_tree_cons (child holder start) last tt (rest body start (start + 3)))))
        by m _ rest = in_tree_none

    abbrev namespace_walk : Scope → Namespace → EventsByHolderAndStart
    namespace_walk scope namespace = events_if_some (kind_of namespace.decl) (namespace_events block scope namespace)

    in_tree_namespace : (scope : Scope) (exported : Option TreeNode) (n : ℕ) → IfSome exported (IsTreeNode tree) → IsInside n
        → IsInTree tree (namespace_walk scope (record { exported = exported; decl = node_at tree n }))
    in_tree_namespace scope exported n is inside =
        in_tree_on (kinds tree n) (namespace_events block scope (record { exported = exported; decl = node_at tree n })) (λ kind found.
        let ambient = scope.ambient || is_ambient_namespace kind in
        in_tree_on (id_of_ident_child id_child_of (node_at tree n)) _ (λ (id : Id) at.
        in_tree_declared (is_exported scope exported) (id_view id) (definition_of_node (maybe_exported_node exported (exported_ts_module (node_at tree n)))
        (export_or_decl_range exported (node_at tree n)))
        (events_if_some (child_in_field (node_at tree n) body_child_of) (namespace_body_events block (node_at tree n) ambient))
        (in_tree_form exported (exported_ts_module (node_at tree n)) is (one_node n inside))
        (in_tree_node (option_and_then body_child_of (kinds tree n)) (namespace_body_events block (node_at tree n) ambient)
        (λ c here. in_tree_body n inside ambient (length tree.nodes.items) c))))

    in_tree_found : (scope : Scope) (exported : Option TreeNode) (n : ℕ) → IfSome exported (IsTreeNode tree) → IsInside n
        → (kind : Kind) (other : EventsByHolderAndStart)
        → IsInTree tree other
        → IsInTree tree (namespace_events_or (as_namespace exported (node_at tree n) kind) (namespace_walk scope) other)
    in_tree_found scope exported n is inside (Kind.Decl (Decl.TsModuleDecl _ _ _)) other rest = in_tree_namespace scope exported n is inside
    in_tree_found scope exported n is inside _ other rest = rest

    in_tree_exported_found : (scope : Scope) (n : ℕ) → IsInside n → (found : Option ℕ) (other : EventsByHolderAndStart) → IsInTree tree other
        → IsInTree tree (namespace_events_or (option_and_then (exported_namespace (node_at tree n)) (node_in tree found)) (namespace_walk scope) other)
    in_tree_exported_found scope n inside None other rest = rest
    in_tree_exported_found scope n inside (Some c) other rest = by (ltb c (length tree.nodes.items)) refl
      where
        of_kind : IsInside c → (o : Option Kind)
            → IsInTree tree (namespace_events_or (option_and_then (as_namespace (Some (node_at tree n)) (node_at tree c)) o) (namespace_walk scope) other)
        of_kind here None = rest
        of_kind here (Some kind) = in_tree_found scope (Some (node_at tree n)) c (refl, inside) here kind other rest

        by : (b : Bool) → ltb c (length tree.nodes.items) ≡ b
            → IsInTree tree
            (namespace_events_or (option_and_then (exported_namespace (node_at tree n)) (cond b (Some (node_at tree c)) None)) (namespace_walk scope) other)
        by true is = of_kind ((Decides-ltb c (length tree.nodes.items)).0 is) (kinds tree c)
        by false is = rest

    in_tree_item : (scope : Scope) (n : ℕ) → IsInside n → (kind : Kind) → kinds tree n ≡ Some kind
        → IsInTree tree (item_events block scope (node_at tree n) kind)
    in_tree_item scope n inside kind is = by kind (in_tree_other_item scope n inside kind is)
      where
        by : (kind : Kind) → IsInTree tree (non_namespace_item_events scope (node_at tree n) kind)
            → IsInTree tree
            (namespace_events_or (namespace_of (node_at tree n) kind) (namespace_walk scope) (non_namespace_item_events scope (node_at tree n) kind))
        by (Kind.Item (Item.ExportDecl decl)) rest = in_tree_exported_found scope n inside (option_and_then decl_child_of (kinds tree n))
            (non_namespace_item_events scope (node_at tree n) (Kind.Item (Item.ExportDecl decl))) rest
        by kind rest = in_tree_found scope None n tt inside kind (non_namespace_item_events scope (node_at tree n) kind) rest

  in_tree_items : (levels : ℕ) (scope : Scope) (n : ℕ) → IsInTree tree (item_events_within_levels tree levels scope n)
  unfolding item_events_within_levels
  in_tree_items zero scope n = in_tree_none
  in_tree_items (suc levels) scope n =
      in_tree_kind (Some n) (item_events (item_list_events_within_levels tree levels) scope) (λ m kind inside is.
      in_tree_item (item_list_events_within_levels tree levels) (λ inner items. in_tree_each (item_events_within_levels tree levels inner) items
      (in_tree_items levels inner)) scope m inside kind is)

  -- All events of a tree concern the tree.
  pub in_tree_tree : IsInside 0 → AreInTree tree (tree_events tree)
  in_tree_tree first =
      let items = child_list_in_field (program_node tree) body_children_of in
      let item : ℕ → EventsByHolderAndStart = item_events_within_levels tree (length tree.nodes.items) (module_scope tree) in
      in_tree_cons (begins (program_decl tree)) (events_of_each item items 0 1) (one_node 0 first)
      (in_tree_each item items (in_tree_items (length tree.nodes.items) (module_scope tree)) 0 1)
