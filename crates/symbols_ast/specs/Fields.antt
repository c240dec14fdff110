-- Generated from tools/kinds/kinds.txt by tools/kinds.py --write. Do not edit.
-- The fields that hold children: of each kind in their order, each with the category that may stand there; and by their names, of a kind
-- without the field none.
use Rattle.std.specs.Prelude.{ℕ, List, [], ◌∷◌, Option, Some, None}
use Rattle.symbols_ast.specs.declared.tree.categories.Category.{Category}
use Rattle.symbols_ast.specs.declared.tree.kinds.Item.{Item}
use Rattle.symbols_ast.specs.declared.tree.kinds.Decl.{Decl}
use Rattle.symbols_ast.specs.declared.tree.kinds.Member.{Member}
use Rattle.symbols_ast.specs.declared.tree.kinds.Ty.{Ty}
use Rattle.symbols_ast.specs.declared.tree.kinds.Expr.{Expr}
use Rattle.symbols_ast.specs.declared.tree.kinds.Pat.{Pat}
use Rattle.symbols_ast.specs.declared.tree.kinds.Kind.{Kind}
use Rattle.symbols_ast.specs.FieldViews.{FieldView, field_of_one_child, field_of_optional_child, field_of_children}

abbrev pub item_fields : Item → List FieldView
item_fields (Item.Program body) = field_of_children Category.Item body.items ∷ []
item_fields (Item.Import specifiers _) = field_of_children Category.ImportSpecifier specifiers.items ∷ []
item_fields (Item.ImportNamed local _) = field_of_one_child Category.Ident local ∷ []
item_fields (Item.ImportDefault local) = field_of_one_child Category.Ident local ∷ []
item_fields (Item.ImportNamespace local) = field_of_one_child Category.Ident local ∷ []
item_fields (Item.ExportDecl decl) = field_of_one_child Category.ExportedDeclaration decl ∷ []
item_fields (Item.ExportNamed specifiers _) = field_of_children Category.ExportSpecifier specifiers.items ∷ []
item_fields (Item.ExportSpecifier orig _) = field_of_one_child Category.ExportOrig orig ∷ []
item_fields (Item.ExportNamespace _) = []
item_fields (Item.ExportDefaultSpecifier local) = field_of_one_child Category.Ident local ∷ []
item_fields (Item.ExportDefaultDecl decl) = field_of_one_child Category.DefaultDeclaration decl ∷ []
item_fields (Item.ExportDefaultExpr expr) = field_of_one_child Category.Expression expr ∷ []
item_fields (Item.TsExportAssignment expr) = field_of_one_child Category.Expression expr ∷ []
item_fields (Item.ExportAll _) = []
item_fields (Item.TsImportEqualsDecl _ id entity _) = field_of_one_child Category.Ident id ∷ field_of_optional_child Category.Entity entity ∷ []
item_fields (Item.ExprStmt expr) = field_of_one_child Category.Expression expr ∷ []

abbrev pub decl_fields : Decl → List FieldView
decl_fields (Decl.ClassDecl ident class) = field_of_one_child Category.Ident ident ∷ field_of_one_child Category.Class class ∷ []
decl_fields (Decl.ClassExpr ident class) = field_of_optional_child Category.Ident ident ∷ field_of_one_child Category.Class class ∷ []
decl_fields (Decl.Class type_params super_class super_type_params implements body) =
    field_of_optional_child Category.TypeParams type_params ∷ field_of_optional_child Category.Expression super_class ∷
    field_of_optional_child Category.TypeArgs super_type_params ∷ field_of_children Category.ExprWithTypeArgs implements.items ∷
    field_of_children Category.Member body.items ∷ []
decl_fields (Decl.FnDecl ident function) = field_of_one_child Category.Ident ident ∷ field_of_one_child Category.Function function ∷ []
decl_fields (Decl.FnExpr ident function) = field_of_optional_child Category.Ident ident ∷ field_of_one_child Category.Function function ∷ []
decl_fields (Decl.Function type_params params return_type body) =
    field_of_optional_child Category.TypeParams type_params ∷ field_of_children Category.Pattern params.items ∷
    field_of_optional_child Category.Annotation return_type ∷ field_of_optional_child Category.Any body ∷ []
decl_fields (Decl.VarDecl decls) = field_of_children Category.VarDeclarator decls.items ∷ []
decl_fields (Decl.UsingDecl decls) = field_of_children Category.VarDeclarator decls.items ∷ []
decl_fields (Decl.VarDeclarator name init) = field_of_one_child Category.Pattern name ∷ field_of_optional_child Category.Expression init ∷ []
decl_fields (Decl.TsInterfaceDecl id type_params extends body) =
    field_of_one_child Category.Ident id ∷ field_of_optional_child Category.TypeParams type_params ∷ field_of_children Category.ExprWithTypeArgs extends.items ∷
    field_of_children Category.Element body.items ∷ []
decl_fields (Decl.TsTypeAliasDecl id type_params type_ann) =
    field_of_one_child Category.Ident id ∷ field_of_optional_child Category.TypeParams type_params ∷ field_of_one_child Category.Type type_ann ∷ []
decl_fields (Decl.TsEnumDecl id members) = field_of_one_child Category.Ident id ∷ field_of_children Category.EnumMember members.items ∷ []
decl_fields (Decl.TsEnumMember init) = field_of_optional_child Category.Expression init ∷ []
decl_fields (Decl.TsModuleDecl id _ body) = field_of_one_child Category.ModuleName id ∷ field_of_optional_child Category.ModuleBody body ∷ []
decl_fields (Decl.TsNamespaceDecl id body) = field_of_one_child Category.Ident id ∷ field_of_one_child Category.ModuleBody body ∷ []
decl_fields (Decl.TsModuleBlock body) = field_of_children Category.Item body.items ∷ []

abbrev pub member_fields : Member → List FieldView
member_fields (Member.Constructor params body _) = field_of_children Category.ConstructorParam params.items ∷ field_of_optional_child Category.Any body ∷ []
member_fields (Member.TsParamProp param _) = field_of_one_child Category.ParamPropPattern param ∷ []
member_fields (Member.ClassMethod key function _ _ _) = field_of_one_child Category.Key key ∷ field_of_one_child Category.Function function ∷ []
member_fields (Member.ClassProp key type_ann value _ _) =
    field_of_one_child Category.Key key ∷ field_of_optional_child Category.Annotation type_ann ∷ field_of_optional_child Category.Expression value ∷ []
member_fields (Member.AutoAccessor key type_ann value _ _) =
    field_of_one_child Category.AccessorKey key ∷ field_of_optional_child Category.Annotation type_ann ∷
    field_of_optional_child Category.Expression value ∷ []
member_fields (Member.TsIndexSignature params type_ann _) =
    field_of_children Category.Signature params.items ∷ field_of_optional_child Category.Annotation type_ann ∷ []
member_fields (Member.TsCallSignatureDecl type_params params type_ann) =
    field_of_optional_child Category.TypeParams type_params ∷ field_of_children Category.Signature params.items ∷
    field_of_optional_child Category.Annotation type_ann ∷ []
member_fields (Member.TsConstructSignatureDecl type_params params type_ann) =
    field_of_optional_child Category.TypeParams type_params ∷ field_of_children Category.Signature params.items ∷
    field_of_optional_child Category.Annotation type_ann ∷ []
member_fields (Member.TsPropertySignature key _ type_ann) =
    field_of_one_child Category.Expression key ∷ field_of_optional_child Category.Annotation type_ann ∷ []
member_fields (Member.TsGetterSignature key _ type_ann) = field_of_one_child Category.Expression key ∷ field_of_optional_child Category.Annotation type_ann ∷ []
member_fields (Member.TsSetterSignature key _ param) = field_of_one_child Category.Expression key ∷ field_of_one_child Category.Signature param ∷ []
member_fields (Member.TsMethodSignature key _ type_params params type_ann) =
    field_of_one_child Category.Expression key ∷ field_of_optional_child Category.TypeParams type_params ∷ field_of_children Category.Signature params.items ∷
    field_of_optional_child Category.Annotation type_ann ∷ []

abbrev pub ty_fields : Ty → List FieldView
ty_fields (Ty.TsTypeParamDecl params) = field_of_children Category.TypeParam params.items ∷ []
ty_fields (Ty.TsTypeParam constraint default) = field_of_optional_child Category.Type constraint ∷ field_of_optional_child Category.Type default ∷ []
ty_fields (Ty.TsTypeParamInstantiation params) = field_of_children Category.Type params.items ∷ []
ty_fields (Ty.TsTypeAnn ty) = field_of_one_child Category.Type ty ∷ []
ty_fields (Ty.TsExprWithTypeArgs expr type_args) = field_of_one_child Category.Expression expr ∷ field_of_optional_child Category.TypeArgs type_args ∷ []
ty_fields (Ty.TsAsExpr expr ty) = field_of_one_child Category.Expression expr ∷ field_of_one_child Category.Type ty ∷ []
ty_fields (Ty.TsTypeAssertion expr ty) = field_of_one_child Category.Expression expr ∷ field_of_one_child Category.Type ty ∷ []
ty_fields (Ty.TsTypeQuery expr_name type_args) = field_of_one_child Category.QueryName expr_name ∷ field_of_optional_child Category.TypeArgs type_args ∷ []
ty_fields (Ty.TsImportType _ qualifier type_args) = field_of_optional_child Category.Entity qualifier ∷ field_of_optional_child Category.TypeArgs type_args ∷ []
ty_fields (Ty.TsTupleElement label ty) = field_of_optional_child Category.Pattern label ∷ field_of_one_child Category.Type ty ∷ []
ty_fields (Ty.TsQualifiedName left _) = field_of_one_child Category.Entity left ∷ []

abbrev pub expr_fields : Expr → List FieldView
expr_fields (Expr.Ident _) = []
expr_fields (Expr.Member obj prop) = field_of_one_child Category.Expression obj ∷ field_of_one_child Category.MemberProp prop ∷ []
expr_fields (Expr.IdentName _) = []
expr_fields (Expr.PrivateName _) = []
expr_fields (Expr.Str _) = []
expr_fields (Expr.Num _) = []
expr_fields (Expr.BigInt _) = []
expr_fields (Expr.Computed expr) = field_of_one_child Category.Expression expr ∷ []
expr_fields (Expr.Assign _ left right) = field_of_one_child Category.AssignLeft left ∷ field_of_one_child Category.Expression right ∷ []
expr_fields (Expr.Arrow type_params params return_type _ body) =
    field_of_optional_child Category.TypeParams type_params ∷ field_of_children Category.Pattern params.items ∷
    field_of_optional_child Category.Annotation return_type ∷ field_of_one_child Category.Any body ∷ []

abbrev pub pat_fields : Pat → List FieldView
pat_fields (Pat.BindingIdent _ type_ann) = field_of_optional_child Category.Annotation type_ann ∷ []
pat_fields (Pat.ArrayPat elems type_ann) = field_of_children Category.Pattern elems.items ∷ field_of_optional_child Category.Annotation type_ann ∷ []
pat_fields (Pat.ObjectPat props type_ann) = field_of_children Category.ObjectPatProp props.items ∷ field_of_optional_child Category.Annotation type_ann ∷ []
pat_fields (Pat.RestPat arg type_ann) = field_of_one_child Category.Pattern arg ∷ field_of_optional_child Category.Annotation type_ann ∷ []
pat_fields (Pat.KeyValuePatProp key value) = field_of_one_child Category.Key key ∷ field_of_one_child Category.Pattern value ∷ []
pat_fields (Pat.AssignPatProp key value) = field_of_one_child Category.BindingIdent key ∷ field_of_optional_child Category.Expression value ∷ []
pat_fields (Pat.AssignPat left right) = field_of_one_child Category.Pattern left ∷ field_of_one_child Category.Expression right ∷ []
pat_fields (Pat.ExprPat expr) = field_of_one_child Category.Expression expr ∷ []
pat_fields (Pat.Plain children) = field_of_children Category.Any children.items ∷ []
pat_fields (Pat.Other children) = field_of_children Category.Any children.items ∷ []

abbrev pub fields : Kind → List FieldView
fields (Kind.Item k) = item_fields k
fields (Kind.Decl k) = decl_fields k
fields (Kind.Member k) = member_fields k
fields (Kind.Ty k) = ty_fields k
fields (Kind.Expr k) = expr_fields k
fields (Kind.Pat k) = pat_fields k

abbrev pub body_children_of : Kind → List ℕ
body_children_of (Kind.Item (Item.Program child)) = child.items
body_children_of (Kind.Decl (Decl.Class _ _ _ _ child)) = child.items
body_children_of (Kind.Decl (Decl.TsInterfaceDecl _ _ _ child)) = child.items
body_children_of (Kind.Decl (Decl.TsModuleBlock child)) = child.items
body_children_of _ = []

abbrev pub specifier_children_of : Kind → List ℕ
specifier_children_of (Kind.Item (Item.Import child _)) = child.items
specifier_children_of (Kind.Item (Item.ExportNamed child _)) = child.items
specifier_children_of _ = []

abbrev pub local_child_of : Kind → Option ℕ
local_child_of (Kind.Item (Item.ImportNamed child _)) = Some child
local_child_of (Kind.Item (Item.ImportDefault child)) = Some child
local_child_of (Kind.Item (Item.ImportNamespace child)) = Some child
local_child_of (Kind.Item (Item.ExportDefaultSpecifier child)) = Some child
local_child_of _ = None

abbrev pub decl_child_of : Kind → Option ℕ
decl_child_of (Kind.Item (Item.ExportDecl child)) = Some child
decl_child_of (Kind.Item (Item.ExportDefaultDecl child)) = Some child
decl_child_of _ = None

abbrev pub orig_child_of : Kind → Option ℕ
orig_child_of (Kind.Item (Item.ExportSpecifier child _)) = Some child
orig_child_of _ = None

abbrev pub expr_child_of : Kind → Option ℕ
expr_child_of (Kind.Item (Item.ExportDefaultExpr child)) = Some child
expr_child_of (Kind.Item (Item.TsExportAssignment child)) = Some child
expr_child_of (Kind.Item (Item.ExprStmt child)) = Some child
expr_child_of (Kind.Ty (Ty.TsExprWithTypeArgs child _)) = Some child
expr_child_of (Kind.Ty (Ty.TsAsExpr child _)) = Some child
expr_child_of (Kind.Ty (Ty.TsTypeAssertion child _)) = Some child
expr_child_of (Kind.Expr (Expr.Computed child)) = Some child
expr_child_of (Kind.Pat (Pat.ExprPat child)) = Some child
expr_child_of _ = None

abbrev pub id_child_of : Kind → Option ℕ
id_child_of (Kind.Item (Item.TsImportEqualsDecl _ child _ _)) = Some child
id_child_of (Kind.Decl (Decl.TsInterfaceDecl child _ _ _)) = Some child
id_child_of (Kind.Decl (Decl.TsTypeAliasDecl child _ _)) = Some child
id_child_of (Kind.Decl (Decl.TsEnumDecl child _)) = Some child
id_child_of (Kind.Decl (Decl.TsModuleDecl child _ _)) = Some child
id_child_of (Kind.Decl (Decl.TsNamespaceDecl child _)) = Some child
id_child_of _ = None

abbrev pub entity_child_of : Kind → Option ℕ
entity_child_of (Kind.Item (Item.TsImportEqualsDecl _ _ child _)) = child
entity_child_of _ = None

abbrev pub ident_child_of : Kind → Option ℕ
ident_child_of (Kind.Decl (Decl.ClassDecl child _)) = Some child
ident_child_of (Kind.Decl (Decl.ClassExpr child _)) = child
ident_child_of (Kind.Decl (Decl.FnDecl child _)) = Some child
ident_child_of (Kind.Decl (Decl.FnExpr child _)) = child
ident_child_of _ = None

abbrev pub class_child_of : Kind → Option ℕ
class_child_of (Kind.Decl (Decl.ClassDecl _ child)) = Some child
class_child_of (Kind.Decl (Decl.ClassExpr _ child)) = Some child
class_child_of _ = None

abbrev pub type_params_child_of : Kind → Option ℕ
type_params_child_of (Kind.Decl (Decl.Class child _ _ _ _)) = child
type_params_child_of (Kind.Decl (Decl.Function child _ _ _)) = child
type_params_child_of (Kind.Decl (Decl.TsInterfaceDecl _ child _ _)) = child
type_params_child_of (Kind.Decl (Decl.TsTypeAliasDecl _ child _)) = child
type_params_child_of (Kind.Member (Member.TsCallSignatureDecl child _ _)) = child
type_params_child_of (Kind.Member (Member.TsConstructSignatureDecl child _ _)) = child
type_params_child_of (Kind.Member (Member.TsMethodSignature _ _ child _ _)) = child
type_params_child_of (Kind.Expr (Expr.Arrow child _ _ _ _)) = child
type_params_child_of _ = None

abbrev pub super_class_child_of : Kind → Option ℕ
super_class_child_of (Kind.Decl (Decl.Class _ child _ _ _)) = child
super_class_child_of _ = None

abbrev pub super_type_params_child_of : Kind → Option ℕ
super_type_params_child_of (Kind.Decl (Decl.Class _ _ child _ _)) = child
super_type_params_child_of _ = None

abbrev pub implements_children_of : Kind → List ℕ
implements_children_of (Kind.Decl (Decl.Class _ _ _ child _)) = child.items
implements_children_of _ = []

abbrev pub function_child_of : Kind → Option ℕ
function_child_of (Kind.Decl (Decl.FnDecl _ child)) = Some child
function_child_of (Kind.Decl (Decl.FnExpr _ child)) = Some child
function_child_of (Kind.Member (Member.ClassMethod _ child _ _ _)) = Some child
function_child_of _ = None

abbrev pub param_children_of : Kind → List ℕ
param_children_of (Kind.Decl (Decl.Function _ child _ _)) = child.items
param_children_of (Kind.Member (Member.Constructor child _ _)) = child.items
param_children_of (Kind.Member (Member.TsIndexSignature child _ _)) = child.items
param_children_of (Kind.Member (Member.TsCallSignatureDecl _ child _)) = child.items
param_children_of (Kind.Member (Member.TsConstructSignatureDecl _ child _)) = child.items
param_children_of (Kind.Member (Member.TsMethodSignature _ _ _ child _)) = child.items
param_children_of (Kind.Ty (Ty.TsTypeParamDecl child)) = child.items
param_children_of (Kind.Ty (Ty.TsTypeParamInstantiation child)) = child.items
param_children_of (Kind.Expr (Expr.Arrow _ child _ _ _)) = child.items
param_children_of _ = []

abbrev pub return_type_child_of : Kind → Option ℕ
return_type_child_of (Kind.Decl (Decl.Function _ _ child _)) = child
return_type_child_of (Kind.Expr (Expr.Arrow _ _ child _ _)) = child
return_type_child_of _ = None

abbrev pub body_child_of : Kind → Option ℕ
body_child_of (Kind.Decl (Decl.Function _ _ _ child)) = child
body_child_of (Kind.Decl (Decl.TsModuleDecl _ _ child)) = child
body_child_of (Kind.Decl (Decl.TsNamespaceDecl _ child)) = Some child
body_child_of (Kind.Member (Member.Constructor _ child _)) = child
body_child_of (Kind.Expr (Expr.Arrow _ _ _ _ child)) = Some child
body_child_of _ = None

abbrev pub decl_children_of : Kind → List ℕ
decl_children_of (Kind.Decl (Decl.VarDecl child)) = child.items
decl_children_of (Kind.Decl (Decl.UsingDecl child)) = child.items
decl_children_of _ = []

abbrev pub name_child_of : Kind → Option ℕ
name_child_of (Kind.Decl (Decl.VarDeclarator child _)) = Some child
name_child_of _ = None

abbrev pub init_child_of : Kind → Option ℕ
init_child_of (Kind.Decl (Decl.VarDeclarator _ child)) = child
init_child_of (Kind.Decl (Decl.TsEnumMember child)) = child
init_child_of _ = None

abbrev pub extends_children_of : Kind → List ℕ
extends_children_of (Kind.Decl (Decl.TsInterfaceDecl _ _ child _)) = child.items
extends_children_of _ = []

abbrev pub type_ann_child_of : Kind → Option ℕ
type_ann_child_of (Kind.Decl (Decl.TsTypeAliasDecl _ _ child)) = Some child
type_ann_child_of (Kind.Member (Member.ClassProp _ child _ _ _)) = child
type_ann_child_of (Kind.Member (Member.AutoAccessor _ child _ _ _)) = child
type_ann_child_of (Kind.Member (Member.TsIndexSignature _ child _)) = child
type_ann_child_of (Kind.Member (Member.TsCallSignatureDecl _ _ child)) = child
type_ann_child_of (Kind.Member (Member.TsConstructSignatureDecl _ _ child)) = child
type_ann_child_of (Kind.Member (Member.TsPropertySignature _ _ child)) = child
type_ann_child_of (Kind.Member (Member.TsGetterSignature _ _ child)) = child
type_ann_child_of (Kind.Member (Member.TsMethodSignature _ _ _ _ child)) = child
type_ann_child_of (Kind.Pat (Pat.BindingIdent _ child)) = child
type_ann_child_of (Kind.Pat (Pat.ArrayPat _ child)) = child
type_ann_child_of (Kind.Pat (Pat.ObjectPat _ child)) = child
type_ann_child_of (Kind.Pat (Pat.RestPat _ child)) = child
type_ann_child_of _ = None

abbrev pub member_children_of : Kind → List ℕ
member_children_of (Kind.Decl (Decl.TsEnumDecl _ child)) = child.items
member_children_of _ = []

abbrev pub param_child_of : Kind → Option ℕ
param_child_of (Kind.Member (Member.TsParamProp child _)) = Some child
param_child_of (Kind.Member (Member.TsSetterSignature _ _ child)) = Some child
param_child_of _ = None

abbrev pub key_child_of : Kind → Option ℕ
key_child_of (Kind.Member (Member.ClassMethod child _ _ _ _)) = Some child
key_child_of (Kind.Member (Member.ClassProp child _ _ _ _)) = Some child
key_child_of (Kind.Member (Member.AutoAccessor child _ _ _ _)) = Some child
key_child_of (Kind.Member (Member.TsPropertySignature child _ _)) = Some child
key_child_of (Kind.Member (Member.TsGetterSignature child _ _)) = Some child
key_child_of (Kind.Member (Member.TsSetterSignature child _ _)) = Some child
key_child_of (Kind.Member (Member.TsMethodSignature child _ _ _ _)) = Some child
key_child_of (Kind.Pat (Pat.KeyValuePatProp child _)) = Some child
key_child_of (Kind.Pat (Pat.AssignPatProp child _)) = Some child
key_child_of _ = None

abbrev pub value_child_of : Kind → Option ℕ
value_child_of (Kind.Member (Member.ClassProp _ _ child _ _)) = child
value_child_of (Kind.Member (Member.AutoAccessor _ _ child _ _)) = child
value_child_of (Kind.Pat (Pat.KeyValuePatProp _ child)) = Some child
value_child_of (Kind.Pat (Pat.AssignPatProp _ child)) = child
value_child_of _ = None

abbrev pub constraint_child_of : Kind → Option ℕ
constraint_child_of (Kind.Ty (Ty.TsTypeParam child _)) = child
constraint_child_of _ = None

abbrev pub default_child_of : Kind → Option ℕ
default_child_of (Kind.Ty (Ty.TsTypeParam _ child)) = child
default_child_of _ = None

abbrev pub ty_child_of : Kind → Option ℕ
ty_child_of (Kind.Ty (Ty.TsTypeAnn child)) = Some child
ty_child_of (Kind.Ty (Ty.TsAsExpr _ child)) = Some child
ty_child_of (Kind.Ty (Ty.TsTypeAssertion _ child)) = Some child
ty_child_of (Kind.Ty (Ty.TsTupleElement _ child)) = Some child
ty_child_of _ = None

abbrev pub type_args_child_of : Kind → Option ℕ
type_args_child_of (Kind.Ty (Ty.TsExprWithTypeArgs _ child)) = child
type_args_child_of (Kind.Ty (Ty.TsTypeQuery _ child)) = child
type_args_child_of (Kind.Ty (Ty.TsImportType _ _ child)) = child
type_args_child_of _ = None

abbrev pub expr_name_child_of : Kind → Option ℕ
expr_name_child_of (Kind.Ty (Ty.TsTypeQuery child _)) = Some child
expr_name_child_of _ = None

abbrev pub qualifier_child_of : Kind → Option ℕ
qualifier_child_of (Kind.Ty (Ty.TsImportType _ child _)) = child
qualifier_child_of _ = None

abbrev pub label_child_of : Kind → Option ℕ
label_child_of (Kind.Ty (Ty.TsTupleElement child _)) = child
label_child_of _ = None

abbrev pub left_child_of : Kind → Option ℕ
left_child_of (Kind.Ty (Ty.TsQualifiedName child _)) = Some child
left_child_of (Kind.Expr (Expr.Assign _ child _)) = Some child
left_child_of (Kind.Pat (Pat.AssignPat child _)) = Some child
left_child_of _ = None

abbrev pub obj_child_of : Kind → Option ℕ
obj_child_of (Kind.Expr (Expr.Member child _)) = Some child
obj_child_of _ = None

abbrev pub prop_child_of : Kind → Option ℕ
prop_child_of (Kind.Expr (Expr.Member _ child)) = Some child
prop_child_of _ = None

abbrev pub right_child_of : Kind → Option ℕ
right_child_of (Kind.Expr (Expr.Assign _ _ child)) = Some child
right_child_of (Kind.Pat (Pat.AssignPat _ child)) = Some child
right_child_of _ = None

abbrev pub elem_children_of : Kind → List ℕ
elem_children_of (Kind.Pat (Pat.ArrayPat child _)) = child.items
elem_children_of _ = []

abbrev pub prop_children_of : Kind → List ℕ
prop_children_of (Kind.Pat (Pat.ObjectPat child _)) = child.items
prop_children_of _ = []

abbrev pub arg_child_of : Kind → Option ℕ
arg_child_of (Kind.Pat (Pat.RestPat child _)) = Some child
arg_child_of _ = None

abbrev pub children_field_of : Kind → List ℕ
children_field_of (Kind.Pat (Pat.Plain child)) = child.items
children_field_of (Kind.Pat (Pat.Other child)) = child.items
children_field_of _ = []
