-- The table of edges: for each kind the children in which references are searched, in order, each with its rules.
use Rattle.std.specs.Prelude.{ℕ, Bool, false, true, is_some, not, ◌||◌, ◌&&◌, List, [], ◌∷◌, Some}
use Rattle.std.specs.Option.{option_map_or}
use Rattle.symbols_ast.specs.declared.tree.kinds.Kind.{Kind}
use Rattle.symbols_ast.specs.declared.tree.kinds.Item.{Item}
use Rattle.symbols_ast.specs.declared.tree.kinds.Decl.{Decl}
use Rattle.symbols_ast.specs.declared.tree.kinds.Member.{Member}
use Rattle.symbols_ast.specs.declared.tree.kinds.Ty.{Ty}
use Rattle.symbols_ast.specs.declared.tree.kinds.Expr.{Expr}
use Rattle.symbols_ast.specs.declared.tree.kinds.Pat.{Pat}
use Rattle.symbols_ast.specs.NodeRefs.{TreeNode, kind_of}
use Rattle.symbols_nodes.specs.declared.deps.dep.ReferenceNamespace.TheVariants as In
use Rattle.symbols_deps.specs.declared.rules.PatternContext.{PatternContext}
use Rattle.symbols_deps.specs.declared.rules.PatternContextRule.{PatternContextRule}
use Rattle.symbols_deps.specs.declared.rules.NamespaceRule.{NamespaceRule}
use Rattle.symbols_deps.specs.declared.rules.EdgeGuard.{EdgeGuard}
use Rattle.symbols_deps.specs.declared.rules.EdgeRuleSet.{EdgeRuleSet}
use Rattle.symbols_deps.specs.Annotations.{is_child_pattern_annotated}
use Rattle.symbols_deps.specs.EdgeRules.{FieldEdges, default_edge_rules, edge_rules_with_pattern_context, edge_rules_with_namespace_rule, edge_rules_with_guard}
use Rattle.symbols_deps.specs.EdgeRules.{edge_rules_marking_namespace, edges_to_children, edge_to_child, edge_to_optional_child, edge_to_child_if}
use Rattle.symbols_deps.specs.EdgeRules.{edge_to_initializer_unless_annotated}
use Rattle.symbols_nodes.specs.Readings.{evaluate_node_of_greater_number}

abbrev pub signature_edge_rules : EdgeRuleSet
signature_edge_rules = edge_rules_with_pattern_context PatternContextRule.Signature default_edge_rules

-- A key, which is a value if it is computed.
abbrev pub value_if_computed_key_edge_rules : EdgeRuleSet
value_if_computed_key_edge_rules = edge_rules_with_namespace_rule NamespaceRule.ValueIfComputed default_edge_rules

-- The key of a property or a method of an interface, if it is in brackets.
abbrev pub edge_to_computed_key : Bool → ℕ → FieldEdges
edge_to_computed_key computed key = edge_to_child_if computed (edge_rules_marking_namespace In.Value) key

abbrev pub item_edges : Item → List FieldEdges
item_edges (Item.Program _) = []
item_edges (Item.Import _ _) = []
item_edges (Item.ImportNamed _ _) = []
item_edges (Item.ImportDefault _) = []
item_edges (Item.ImportNamespace _) = []
item_edges (Item.ExportDecl _) = []
item_edges (Item.ExportNamed _ _) = []
item_edges (Item.ExportSpecifier _ _) = []
item_edges (Item.ExportNamespace _) = []
item_edges (Item.ExportDefaultSpecifier _) = []
item_edges (Item.ExportDefaultDecl _) = []
item_edges (Item.ExportDefaultExpr _) = []
item_edges (Item.TsExportAssignment _) = []
item_edges (Item.ExportAll _) = []
item_edges (Item.TsImportEqualsDecl _ _ _ _) = []
item_edges (Item.ExprStmt expr) = edge_to_child default_edge_rules expr ∷ []

abbrev pub decl_edges : TreeNode → Decl → List FieldEdges
decl_edges node (Decl.ClassDecl ident class) = edge_to_child default_edge_rules ident ∷ edge_to_child default_edge_rules class ∷ []
decl_edges node (Decl.ClassExpr ident class) = edge_to_optional_child default_edge_rules ident ∷ edge_to_child default_edge_rules class ∷ []
decl_edges node (Decl.Class type_params super_class super_type_params implements _) =
    edge_to_optional_child default_edge_rules type_params ∷ edge_to_optional_child default_edge_rules super_class
    ∷ edge_to_optional_child default_edge_rules super_type_params
    ∷ edges_to_children default_edge_rules implements.items
    ∷ []
decl_edges node (Decl.FnDecl ident function) = edge_to_child default_edge_rules ident ∷ edge_to_child default_edge_rules function ∷ []
decl_edges node (Decl.FnExpr ident function) = edge_to_optional_child default_edge_rules ident ∷ edge_to_child default_edge_rules function ∷ []
decl_edges node (Decl.Function type_params params return_type _) =
    edge_to_optional_child default_edge_rules type_params ∷ edges_to_children default_edge_rules params.items
    ∷ edge_to_optional_child default_edge_rules return_type ∷ []
decl_edges node (Decl.VarDecl decls) = edges_to_children default_edge_rules decls.items ∷ []
decl_edges node (Decl.UsingDecl decls) = edges_to_children default_edge_rules decls.items ∷ []
decl_edges node (Decl.VarDeclarator name init) = edge_to_child default_edge_rules name
    ∷ edge_to_initializer_unless_annotated (is_child_pattern_annotated node name) init ∷ []
decl_edges node (Decl.TsInterfaceDecl _ type_params extends _) = edge_to_optional_child default_edge_rules type_params
    ∷ edges_to_children default_edge_rules extends.items ∷ []
decl_edges node (Decl.TsTypeAliasDecl _ type_params type_ann) = edge_to_optional_child default_edge_rules type_params
    ∷ edge_to_child (edge_rules_marking_namespace In.Type) type_ann ∷ []
decl_edges node (Decl.TsEnumDecl _ members) = edges_to_children default_edge_rules members.items ∷ []
decl_edges node (Decl.TsEnumMember init) = edge_to_optional_child default_edge_rules init ∷ []
decl_edges node (Decl.TsModuleDecl _ _ _) = []
decl_edges node (Decl.TsNamespaceDecl _ _) = []
decl_edges node (Decl.TsModuleBlock _) = []

abbrev pub member_edges : Member → List FieldEdges
member_edges (Member.Constructor _ _ _) = []
member_edges (Member.TsParamProp param _) = edge_to_child (edge_rules_with_pattern_context PatternContextRule.Property default_edge_rules) param ∷ []
member_edges (Member.ClassMethod _ _ _ _ _) = []
member_edges (Member.ClassProp _ _ _ _ _) = []
member_edges (Member.AutoAccessor _ _ _ _ _) = []
member_edges (Member.TsIndexSignature params type_ann _) = edges_to_children signature_edge_rules params.items
    ∷ edge_to_optional_child default_edge_rules type_ann ∷ []
member_edges (Member.TsCallSignatureDecl type_params params type_ann) =
    edge_to_optional_child default_edge_rules type_params ∷ edges_to_children signature_edge_rules params.items
    ∷ edge_to_optional_child default_edge_rules type_ann ∷ []
member_edges (Member.TsConstructSignatureDecl type_params params type_ann) =
    edge_to_optional_child default_edge_rules type_params ∷ edges_to_children signature_edge_rules params.items
    ∷ edge_to_optional_child default_edge_rules type_ann ∷ []
member_edges (Member.TsPropertySignature key computed type_ann) = edge_to_computed_key computed key ∷ edge_to_optional_child default_edge_rules type_ann ∷ []
member_edges (Member.TsGetterSignature key computed type_ann) = edge_to_computed_key computed key ∷ edge_to_optional_child default_edge_rules type_ann ∷ []
member_edges (Member.TsSetterSignature key computed param) = edge_to_computed_key computed key ∷ edge_to_child signature_edge_rules param ∷ []
member_edges (Member.TsMethodSignature key computed type_params params type_ann) =
    edge_to_computed_key computed key ∷ edge_to_optional_child default_edge_rules type_params ∷ edges_to_children signature_edge_rules params.items
    ∷ edge_to_optional_child default_edge_rules type_ann ∷ []

abbrev pub ty_edges : Ty → List FieldEdges
ty_edges (Ty.TsTypeParamDecl params) = edges_to_children default_edge_rules params.items ∷ []
ty_edges (Ty.TsTypeParam constraint default) = edge_to_optional_child (edge_rules_marking_namespace In.Type) constraint
    ∷ edge_to_optional_child (edge_rules_marking_namespace In.Type) default ∷ []
ty_edges (Ty.TsTypeParamInstantiation params) = edges_to_children (edge_rules_marking_namespace In.Type) params.items ∷ []
ty_edges (Ty.TsTypeAnn ty) = edge_to_child (edge_rules_marking_namespace In.Type) ty ∷ []
ty_edges (Ty.TsExprWithTypeArgs expr type_args) = edge_to_optional_child default_edge_rules type_args ∷ edge_to_child
    (edge_rules_marking_namespace In.Both) expr
    ∷ []
ty_edges (Ty.TsAsExpr _ ty) = edge_to_child (edge_rules_marking_namespace In.Type) ty ∷ []
ty_edges (Ty.TsTypeAssertion _ ty) = edge_to_child (edge_rules_marking_namespace In.Type) ty ∷ []
ty_edges (Ty.TsTypeQuery expr_name type_args) = edge_to_child (edge_rules_marking_namespace In.Value) expr_name
    ∷ edge_to_optional_child default_edge_rules type_args ∷ []
ty_edges (Ty.TsImportType _ _ type_args) = edge_to_optional_child default_edge_rules type_args ∷ []
ty_edges (Ty.TsTupleElement _ ty) = edge_to_child (edge_rules_marking_namespace In.Type) ty ∷ []
ty_edges (Ty.TsQualifiedName _ _) = []

-- The edges of an expression. `refers` says that the node is a reference itself.
abbrev pub expr_edges : Bool → Expr → List FieldEdges
expr_edges refers (Expr.Ident _) = []
expr_edges refers (Expr.Member obj prop) = edge_to_child_if (not refers) default_edge_rules obj ∷ edge_to_child_if (not refers) default_edge_rules prop ∷ []
expr_edges refers (Expr.IdentName _) = []
expr_edges refers (Expr.PrivateName _) = []
expr_edges refers (Expr.Str _) = []
expr_edges refers (Expr.Num _) = []
expr_edges refers (Expr.BigInt _) = []
expr_edges refers (Expr.Computed expr) = edge_to_child default_edge_rules expr ∷ []
expr_edges refers (Expr.Assign _ left right) = edge_to_child default_edge_rules left ∷ edge_to_child default_edge_rules right ∷ []
expr_edges refers (Expr.Arrow type_params params return_type is_block body) =
    edge_to_optional_child default_edge_rules type_params ∷ edges_to_children default_edge_rules params.items
    ∷ edge_to_optional_child default_edge_rules return_type
    ∷ edge_to_child_if (not (is_block || is_some return_type)) default_edge_rules body ∷ []

-- The edges of a pattern. `annotated` says that the pattern has a type annotation.
abbrev pub pat_edges : Bool → Pat → List FieldEdges
pat_edges annotated (Pat.BindingIdent _ type_ann) = edge_to_optional_child default_edge_rules type_ann ∷ []
pat_edges annotated (Pat.ArrayPat _ type_ann) = edge_to_optional_child default_edge_rules type_ann ∷ []
pat_edges annotated (Pat.ObjectPat _ type_ann) = edge_to_optional_child default_edge_rules type_ann ∷ []
pat_edges annotated (Pat.RestPat _ type_ann) = edge_to_optional_child default_edge_rules type_ann ∷ []
pat_edges annotated (Pat.KeyValuePatProp key value) = edge_to_child value_if_computed_key_edge_rules key ∷ edge_to_child default_edge_rules value ∷ []
pat_edges annotated (Pat.AssignPatProp key value) = edge_to_child default_edge_rules key ∷ edge_to_optional_child default_edge_rules value ∷ []
pat_edges annotated (Pat.AssignPat left right) = edge_to_child default_edge_rules left ∷ edge_to_initializer_unless_annotated annotated (Some right) ∷ []
pat_edges annotated (Pat.ExprPat expr) = edge_to_child (edge_rules_with_guard EdgeGuard.Expressions default_edge_rules) expr ∷ []
pat_edges annotated (Pat.Plain children) =
    edges_to_children (edge_rules_with_pattern_context PatternContextRule.SignatureKinds
    (edge_rules_with_namespace_rule NamespaceRule.ByKind default_edge_rules)) children.items ∷ []
pat_edges annotated (Pat.Other children) = edges_to_children (edge_rules_with_namespace_rule NamespaceRule.ByKind default_edge_rules) children.items ∷ []

-- ---- edges in other forms

-- The edges of a pattern in a signature.
abbrev pub signature_pattern_edges : Bool → Pat → List FieldEdges
signature_pattern_edges annotated (Pat.ArrayPat elems type_ann) = edges_to_children default_edge_rules elems.items
    ∷ edge_to_optional_child default_edge_rules type_ann
    ∷ []
signature_pattern_edges annotated (Pat.ObjectPat props type_ann) =
    edges_to_children (edge_rules_with_pattern_context PatternContextRule.SignatureRest default_edge_rules) props.items
    ∷ edge_to_optional_child default_edge_rules type_ann ∷ []
signature_pattern_edges annotated (Pat.RestPat arg type_ann) = edge_to_child default_edge_rules arg ∷ edge_to_optional_child default_edge_rules type_ann ∷ []
signature_pattern_edges annotated pat = pat_edges annotated pat

-- An expression that asserts a type: `e as T` or `<T>e`.
abbrev pub is_type_assertion : Kind → Bool
is_type_assertion (Kind.Ty (Ty.TsAsExpr _ _)) = true
is_type_assertion (Kind.Ty (Ty.TsTypeAssertion _ _)) = true
is_type_assertion _ = false

abbrev pub is_child_type_assertion : TreeNode → ℕ → Bool
is_child_type_assertion node n = option_map_or is_type_assertion (evaluate_node_of_greater_number kind_of node n) false

-- The edges of a parameter property. The default value is visited only if it asserts a type and the parameter has no annotation.
abbrev pub param_prop_edges : TreeNode → Bool → Pat → List FieldEdges
param_prop_edges node annotated (Pat.BindingIdent _ type_ann) = edge_to_optional_child default_edge_rules type_ann ∷ []
param_prop_edges node annotated (Pat.AssignPat left right) =
    edge_to_child default_edge_rules left ∷ edge_to_child_if (not annotated && is_child_type_assertion node right) default_edge_rules right ∷ []
param_prop_edges node annotated _ = []

abbrev pub pat_edges_by_context : TreeNode → PatternContext → Bool → Pat → List FieldEdges
pat_edges_by_context node PatternContext.Usual annotated pat = pat_edges annotated pat
pat_edges_by_context node PatternContext.Signature annotated pat = signature_pattern_edges annotated pat
pat_edges_by_context node PatternContext.Property annotated pat = param_prop_edges node annotated pat

-- The edges of a node that is entered in a form. `refers` says that it is a reference itself, `annotated` that it is a pattern with an
-- annotation.
abbrev pub edges_of_node_in_context : TreeNode → PatternContext → Bool → Bool → Kind → List FieldEdges
edges_of_node_in_context node form refers annotated (Kind.Item item) = item_edges item
edges_of_node_in_context node form refers annotated (Kind.Decl decl) = decl_edges node decl
edges_of_node_in_context node form refers annotated (Kind.Member member) = member_edges member
edges_of_node_in_context node form refers annotated (Kind.Ty ty) = ty_edges ty
edges_of_node_in_context node form refers annotated (Kind.Expr expr) = expr_edges refers expr
edges_of_node_in_context node form refers annotated (Kind.Pat pat) = pat_edges_by_context node form annotated pat

-- ---- where the visit of a declaration begins, if not at its node's own edges

abbrev pub start_edges_of_kind : Kind → List FieldEdges
start_edges_of_kind (Kind.Item (Item.ExportDefaultExpr expr)) = edge_to_child default_edge_rules expr ∷ []
start_edges_of_kind (Kind.Member (Member.Constructor params _ _)) = edges_to_children default_edge_rules params.items ∷ []
start_edges_of_kind (Kind.Member (Member.ClassMethod key _ _ _ _)) = edge_to_child
    (edge_rules_with_guard EdgeGuard.Expressions value_if_computed_key_edge_rules) key ∷ []
start_edges_of_kind (Kind.Member (Member.ClassProp key type_ann value _ _)) =
    edge_to_child (edge_rules_with_guard EdgeGuard.Expressions value_if_computed_key_edge_rules) key ∷ edge_to_optional_child default_edge_rules type_ann
    ∷ edge_to_initializer_unless_annotated (is_some type_ann) value ∷ []
start_edges_of_kind (Kind.Member (Member.AutoAccessor _ type_ann _ _ _)) = edge_to_optional_child default_edge_rules type_ann ∷ []
start_edges_of_kind (Kind.Expr (Expr.Assign _ _ right)) = edge_to_child (edge_rules_with_guard EdgeGuard.Expressions default_edge_rules) right ∷ []
start_edges_of_kind _ = []
