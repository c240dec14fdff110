-- Generated from tools/kinds/kinds.txt by tools/kinds.py --write. Do not edit.
-- The kinds as they are read, by the enum that has them: each field of the tree's kinds under its key. The names in a row stand
-- for the fields by place alone. It is the reading function that ties a key to a field, since it names both: where two names
-- of a row are swapped, it is not proved.
use Rattle.std.specs.Prelude.{ℕ, List, [], ◌∷◌, Option, option_map, codes, string_bytes}
use Rattle.serde_json.specs.Data.{Data}
use Rattle.symbols_ast.specs.Kinds.{item_kind_name, decl_kind_name, member_kind_name, ty_kind_name, expr_kind_name, pat_kind_name}
use Rattle.symbols_ast.specs.declared.tree.kinds.Item.{Item}
use Rattle.symbols_ast.specs.declared.tree.kinds.Decl.{Decl}
use Rattle.symbols_ast.specs.declared.tree.kinds.Member.{Member}
use Rattle.symbols_ast.specs.declared.tree.kinds.Ty.{Ty}
use Rattle.symbols_ast.specs.declared.tree.kinds.Expr.{Expr}
use Rattle.symbols_ast.specs.declared.tree.kinds.Pat.{Pat}
use Rattle.symbols_ast.specs.declared.tree.kinds.Kind.{Kind}
use Rattle.symq_reader.specs.Kinds.{JsonFieldValue, holds_child, holds_optional_child, holds_children, holds_text, holds_optional_text, holds_flag}
use Rattle.symq_reader.specs.Kinds.{holds_identifier, holds_accessibility, holds_method_kind, kind_name_by_text}
use Rattle.symq_reader.specs.KindTable.{item_kind_names_by_text, decl_kind_names_by_text, member_kind_names_by_text, ty_kind_names_by_text}
use Rattle.symq_reader.specs.KindTable.{expr_kind_names_by_text, pat_kind_names_by_text}
use Rattle.symq_reader.specs.KindShapes.{KindNameAndFieldValues, read_if_kind_named, identifier_view}

unfoldable pub read_item : List ℕ → Data → Option (Option KindNameAndFieldValues)
read_item t d = read_if_kind_named (kind_name_by_text item_kind_names_by_text t) d

unfoldable pub read_decl : List ℕ → Data → Option (Option KindNameAndFieldValues)
read_decl t d = read_if_kind_named (kind_name_by_text decl_kind_names_by_text t) d

unfoldable pub read_member : List ℕ → Data → Option (Option KindNameAndFieldValues)
read_member t d = read_if_kind_named (kind_name_by_text member_kind_names_by_text t) d

unfoldable pub read_ty : List ℕ → Data → Option (Option KindNameAndFieldValues)
read_ty t d = read_if_kind_named (kind_name_by_text ty_kind_names_by_text t) d

unfoldable pub read_expr : List ℕ → Data → Option (Option KindNameAndFieldValues)
read_expr t d = read_if_kind_named (kind_name_by_text expr_kind_names_by_text t) d

unfoldable pub read_pat : List ℕ → Data → Option (Option KindNameAndFieldValues)
read_pat t d = read_if_kind_named (kind_name_by_text pat_kind_names_by_text t) d

abbrev pub item_field_values : Item → List (List ℕ × JsonFieldValue)
item_field_values (Item.Program body) = (codes "body", holds_children body.items) ∷ []
item_field_values (Item.Import specifiers src) = (codes "specifiers", holds_children specifiers.items) ∷ (codes "src", holds_text (string_bytes src)) ∷ []
item_field_values (Item.ImportNamed local imported) =
    (codes "local", holds_child local) ∷ (codes "imported", holds_optional_text (option_map string_bytes imported)) ∷ []
item_field_values (Item.ImportDefault local) = (codes "local", holds_child local) ∷ []
item_field_values (Item.ImportNamespace local) = (codes "local", holds_child local) ∷ []
item_field_values (Item.ExportDecl decl) = (codes "decl", holds_child decl) ∷ []
item_field_values (Item.ExportNamed specifiers src) =
    (codes "specifiers", holds_children specifiers.items) ∷ (codes "src", holds_optional_text (option_map string_bytes src)) ∷ []
item_field_values (Item.ExportSpecifier orig exported) =
    (codes "orig", holds_child orig) ∷ (codes "exported", holds_optional_text (option_map string_bytes exported)) ∷ []
item_field_values (Item.ExportNamespace name) = (codes "name", holds_text (string_bytes name)) ∷ []
item_field_values (Item.ExportDefaultSpecifier local) = (codes "local", holds_child local) ∷ []
item_field_values (Item.ExportDefaultDecl decl) = (codes "decl", holds_child decl) ∷ []
item_field_values (Item.ExportDefaultExpr expr) = (codes "expr", holds_child expr) ∷ []
item_field_values (Item.TsExportAssignment expr) = (codes "expr", holds_child expr) ∷ []
item_field_values (Item.ExportAll src) = (codes "src", holds_text (string_bytes src)) ∷ []
item_field_values (Item.TsImportEqualsDecl is_export id entity external) =
    (codes "is_export", holds_flag is_export) ∷ (codes "id", holds_child id) ∷ (codes "entity", holds_optional_child entity) ∷
    (codes "external", holds_optional_text (option_map string_bytes external)) ∷ []
item_field_values (Item.ExprStmt expr) = (codes "expr", holds_child expr) ∷ []

abbrev pub decl_field_values : Decl → List (List ℕ × JsonFieldValue)
decl_field_values (Decl.ClassDecl ident class) = (codes "ident", holds_child ident) ∷ (codes "class", holds_child class) ∷ []
decl_field_values (Decl.ClassExpr ident class) = (codes "ident", holds_optional_child ident) ∷ (codes "class", holds_child class) ∷ []
decl_field_values (Decl.Class type_params super_class super_type_params implements body) =
    (codes "type_params", holds_optional_child type_params) ∷ (codes "super_class", holds_optional_child super_class) ∷
    (codes "super_type_params", holds_optional_child super_type_params) ∷ (codes "implements", holds_children implements.items) ∷
    (codes "body", holds_children body.items) ∷ []
decl_field_values (Decl.FnDecl ident function) = (codes "ident", holds_child ident) ∷ (codes "function", holds_child function) ∷ []
decl_field_values (Decl.FnExpr ident function) = (codes "ident", holds_optional_child ident) ∷ (codes "function", holds_child function) ∷ []
decl_field_values (Decl.Function type_params params return_type body) =
    (codes "type_params", holds_optional_child type_params) ∷ (codes "params", holds_children params.items) ∷
    (codes "return_type", holds_optional_child return_type) ∷ (codes "body", holds_optional_child body) ∷ []
decl_field_values (Decl.VarDecl decls) = (codes "decls", holds_children decls.items) ∷ []
decl_field_values (Decl.UsingDecl decls) = (codes "decls", holds_children decls.items) ∷ []
decl_field_values (Decl.VarDeclarator name init) = (codes "name", holds_child name) ∷ (codes "init", holds_optional_child init) ∷ []
decl_field_values (Decl.TsInterfaceDecl id type_params extends body) =
    (codes "id", holds_child id) ∷ (codes "type_params", holds_optional_child type_params) ∷ (codes "extends", holds_children extends.items) ∷
    (codes "body", holds_children body.items) ∷ []
decl_field_values (Decl.TsTypeAliasDecl id type_params type_ann) =
    (codes "id", holds_child id) ∷ (codes "type_params", holds_optional_child type_params) ∷ (codes "type_ann", holds_child type_ann) ∷ []
decl_field_values (Decl.TsEnumDecl id members) = (codes "id", holds_child id) ∷ (codes "members", holds_children members.items) ∷ []
decl_field_values (Decl.TsEnumMember init) = (codes "init", holds_optional_child init) ∷ []
decl_field_values (Decl.TsModuleDecl id declare body) =
    (codes "id", holds_child id) ∷ (codes "declare", holds_flag declare) ∷ (codes "body", holds_optional_child body) ∷ []
decl_field_values (Decl.TsNamespaceDecl id body) = (codes "id", holds_child id) ∷ (codes "body", holds_child body) ∷ []
decl_field_values (Decl.TsModuleBlock body) = (codes "body", holds_children body.items) ∷ []

abbrev pub member_field_values : Member → List (List ℕ × JsonFieldValue)
member_field_values (Member.Constructor params body accessibility) =
    (codes "params", holds_children params.items) ∷ (codes "body", holds_optional_child body) ∷
    (codes "accessibility", holds_accessibility accessibility) ∷ []
member_field_values (Member.TsParamProp param accessibility) =
    (codes "param", holds_child param) ∷ (codes "accessibility", holds_accessibility accessibility) ∷ []
member_field_values (Member.ClassMethod key function kind is_static accessibility) =
    (codes "key", holds_child key) ∷ (codes "function", holds_child function) ∷ (codes "method_kind", holds_method_kind kind) ∷
    (codes "is_static", holds_flag is_static) ∷ (codes "accessibility", holds_accessibility accessibility) ∷ []
member_field_values (Member.ClassProp key type_ann value is_static accessibility) =
    (codes "key", holds_child key) ∷ (codes "type_ann", holds_optional_child type_ann) ∷ (codes "value", holds_optional_child value) ∷
    (codes "is_static", holds_flag is_static) ∷ (codes "accessibility", holds_accessibility accessibility) ∷ []
member_field_values (Member.AutoAccessor key type_ann value is_static accessibility) =
    (codes "key", holds_child key) ∷ (codes "type_ann", holds_optional_child type_ann) ∷ (codes "value", holds_optional_child value) ∷
    (codes "is_static", holds_flag is_static) ∷ (codes "accessibility", holds_accessibility accessibility) ∷ []
member_field_values (Member.TsIndexSignature params type_ann is_static) =
    (codes "params", holds_children params.items) ∷ (codes "type_ann", holds_optional_child type_ann) ∷ (codes "is_static", holds_flag is_static) ∷ []
member_field_values (Member.TsCallSignatureDecl type_params params type_ann) =
    (codes "type_params", holds_optional_child type_params) ∷ (codes "params", holds_children params.items) ∷
    (codes "type_ann", holds_optional_child type_ann) ∷ []
member_field_values (Member.TsConstructSignatureDecl type_params params type_ann) =
    (codes "type_params", holds_optional_child type_params) ∷ (codes "params", holds_children params.items) ∷
    (codes "type_ann", holds_optional_child type_ann) ∷ []
member_field_values (Member.TsPropertySignature key computed type_ann) =
    (codes "key", holds_child key) ∷ (codes "computed", holds_flag computed) ∷ (codes "type_ann", holds_optional_child type_ann) ∷ []
member_field_values (Member.TsGetterSignature key computed type_ann) =
    (codes "key", holds_child key) ∷ (codes "computed", holds_flag computed) ∷ (codes "type_ann", holds_optional_child type_ann) ∷ []
member_field_values (Member.TsSetterSignature key computed param) =
    (codes "key", holds_child key) ∷ (codes "computed", holds_flag computed) ∷ (codes "param", holds_child param) ∷ []
member_field_values (Member.TsMethodSignature key computed type_params params type_ann) =
    (codes "key", holds_child key) ∷ (codes "computed", holds_flag computed) ∷ (codes "type_params", holds_optional_child type_params) ∷
    (codes "params", holds_children params.items) ∷ (codes "type_ann", holds_optional_child type_ann) ∷ []

abbrev pub ty_field_values : Ty → List (List ℕ × JsonFieldValue)
ty_field_values (Ty.TsTypeParamDecl params) = (codes "params", holds_children params.items) ∷ []
ty_field_values (Ty.TsTypeParam constraint default) =
    (codes "constraint", holds_optional_child constraint) ∷ (codes "default", holds_optional_child default) ∷ []
ty_field_values (Ty.TsTypeParamInstantiation params) = (codes "params", holds_children params.items) ∷ []
ty_field_values (Ty.TsTypeAnn ty) = (codes "ty", holds_child ty) ∷ []
ty_field_values (Ty.TsExprWithTypeArgs expr type_args) = (codes "expr", holds_child expr) ∷ (codes "type_args", holds_optional_child type_args) ∷ []
ty_field_values (Ty.TsAsExpr expr ty) = (codes "expr", holds_child expr) ∷ (codes "ty", holds_child ty) ∷ []
ty_field_values (Ty.TsTypeAssertion expr ty) = (codes "expr", holds_child expr) ∷ (codes "ty", holds_child ty) ∷ []
ty_field_values (Ty.TsTypeQuery expr_name type_args) = (codes "expr_name", holds_child expr_name) ∷ (codes "type_args", holds_optional_child type_args) ∷ []
ty_field_values (Ty.TsImportType arg qualifier type_args) =
    (codes "arg", holds_text (string_bytes arg)) ∷ (codes "qualifier", holds_optional_child qualifier) ∷
    (codes "type_args", holds_optional_child type_args) ∷ []
ty_field_values (Ty.TsTupleElement label ty) = (codes "label", holds_optional_child label) ∷ (codes "ty", holds_child ty) ∷ []
ty_field_values (Ty.TsQualifiedName left right) = (codes "left", holds_child left) ∷ (codes "right", holds_text (string_bytes right)) ∷ []

abbrev pub expr_field_values : Expr → List (List ℕ × JsonFieldValue)
expr_field_values (Expr.Ident sym) = (codes "sym", holds_identifier (identifier_view sym)) ∷ []
expr_field_values (Expr.Member obj prop) = (codes "obj", holds_child obj) ∷ (codes "prop", holds_child prop) ∷ []
expr_field_values (Expr.IdentName name) = (codes "name", holds_text (string_bytes name)) ∷ []
expr_field_values (Expr.PrivateName name) = (codes "name", holds_text (string_bytes name)) ∷ []
expr_field_values (Expr.Str value) = (codes "value", holds_text (string_bytes value)) ∷ []
expr_field_values (Expr.Num text) = (codes "text", holds_text (string_bytes text)) ∷ []
expr_field_values (Expr.BigInt text) = (codes "text", holds_text (string_bytes text)) ∷ []
expr_field_values (Expr.Computed expr) = (codes "expr", holds_child expr) ∷ []
expr_field_values (Expr.Assign plain left right) =
    (codes "plain", holds_flag plain) ∷ (codes "left", holds_child left) ∷ (codes "right", holds_child right) ∷ []
expr_field_values (Expr.Arrow type_params params return_type is_block body) =
    (codes "type_params", holds_optional_child type_params) ∷ (codes "params", holds_children params.items) ∷
    (codes "return_type", holds_optional_child return_type) ∷ (codes "is_block", holds_flag is_block) ∷ (codes "body", holds_child body) ∷ []

abbrev pub pat_field_values : Pat → List (List ℕ × JsonFieldValue)
pat_field_values (Pat.BindingIdent sym type_ann) =
    (codes "sym", holds_identifier (identifier_view sym)) ∷ (codes "type_ann", holds_optional_child type_ann) ∷ []
pat_field_values (Pat.ArrayPat elems type_ann) = (codes "elems", holds_children elems.items) ∷ (codes "type_ann", holds_optional_child type_ann) ∷ []
pat_field_values (Pat.ObjectPat props type_ann) = (codes "props", holds_children props.items) ∷ (codes "type_ann", holds_optional_child type_ann) ∷ []
pat_field_values (Pat.RestPat arg type_ann) = (codes "arg", holds_child arg) ∷ (codes "type_ann", holds_optional_child type_ann) ∷ []
pat_field_values (Pat.KeyValuePatProp key value) = (codes "key", holds_child key) ∷ (codes "value", holds_child value) ∷ []
pat_field_values (Pat.AssignPatProp key value) = (codes "key", holds_child key) ∷ (codes "value", holds_optional_child value) ∷ []
pat_field_values (Pat.AssignPat left right) = (codes "left", holds_child left) ∷ (codes "right", holds_child right) ∷ []
pat_field_values (Pat.ExprPat expr) = (codes "expr", holds_child expr) ∷ []
pat_field_values (Pat.Plain children) = (codes "children", holds_children children.items) ∷ []
pat_field_values (Pat.Other children) = (codes "children", holds_children children.items) ∷ []

abbrev pub item_name_and_field_values : Item → KindNameAndFieldValues
item_name_and_field_values k = record { name = item_kind_name k; slots = item_field_values k }

abbrev pub decl_name_and_field_values : Decl → KindNameAndFieldValues
decl_name_and_field_values k = record { name = decl_kind_name k; slots = decl_field_values k }

abbrev pub member_name_and_field_values : Member → KindNameAndFieldValues
member_name_and_field_values k = record { name = member_kind_name k; slots = member_field_values k }

abbrev pub ty_name_and_field_values : Ty → KindNameAndFieldValues
ty_name_and_field_values k = record { name = ty_kind_name k; slots = ty_field_values k }

abbrev pub expr_name_and_field_values : Expr → KindNameAndFieldValues
expr_name_and_field_values k = record { name = expr_kind_name k; slots = expr_field_values k }

abbrev pub pat_name_and_field_values : Pat → KindNameAndFieldValues
pat_name_and_field_values k = record { name = pat_kind_name k; slots = pat_field_values k }

abbrev pub kind_name_and_field_values : Kind → KindNameAndFieldValues
kind_name_and_field_values (Kind.Item k) = item_name_and_field_values k
kind_name_and_field_values (Kind.Decl k) = decl_name_and_field_values k
kind_name_and_field_values (Kind.Member k) = member_name_and_field_values k
kind_name_and_field_values (Kind.Ty k) = ty_name_and_field_values k
kind_name_and_field_values (Kind.Expr k) = expr_name_and_field_values k
kind_name_and_field_values (Kind.Pat k) = pat_name_and_field_values k
