-- Generated from tools/kinds/kinds.txt by tools/kinds.py --write. Do not edit.
-- The kinds as the text of a graph has them: each kind's fields by key and sort, and the text of each kind, by the enum that has
-- the kind. KindShapesTable has these keys and sorts in this order once more, beside the fields of the tree's kinds: a reading
-- function is proved only where the two lists have the same.
use Rattle.std.specs.Prelude.{ℕ, List, [], ◌∷◌, codes}
use Rattle.symbols_ast.specs.declared.tree.names.KindName.{KindName}
use Rattle.symbols_ast.specs.declared.tree.names.KindName.TheVariants as Name
use Rattle.symq_reader.specs.Kinds.{JsonFieldSort, child, optional_child, children, text, optional_text, flag, identifier, accessibility, method_kind}

abbrev pub json_fields_of_kind : KindName → List (List ℕ × JsonFieldSort)
-- items of a module, their parts, and statements
json_fields_of_kind Name.Program = (codes "body", children) ∷ []
json_fields_of_kind Name.Import = (codes "specifiers", children) ∷ (codes "src", text) ∷ []
json_fields_of_kind Name.ImportNamed = (codes "local", child) ∷ (codes "imported", optional_text) ∷ []
json_fields_of_kind Name.ImportDefault = (codes "local", child) ∷ []
json_fields_of_kind Name.ImportNamespace = (codes "local", child) ∷ []
json_fields_of_kind Name.ExportDecl = (codes "decl", child) ∷ []
json_fields_of_kind Name.ExportNamed = (codes "specifiers", children) ∷ (codes "src", optional_text) ∷ []
json_fields_of_kind Name.ExportSpecifier = (codes "orig", child) ∷ (codes "exported", optional_text) ∷ []
json_fields_of_kind Name.ExportNamespace = (codes "name", text) ∷ []
json_fields_of_kind Name.ExportDefaultSpecifier = (codes "local", child) ∷ []
json_fields_of_kind Name.ExportDefaultDecl = (codes "decl", child) ∷ []
json_fields_of_kind Name.ExportDefaultExpr = (codes "expr", child) ∷ []
json_fields_of_kind Name.TsExportAssignment = (codes "expr", child) ∷ []
json_fields_of_kind Name.ExportAll = (codes "src", text) ∷ []
json_fields_of_kind Name.TsImportEqualsDecl =
    (codes "is_export", flag) ∷ (codes "id", child) ∷ (codes "entity", optional_child) ∷ (codes "external", optional_text) ∷ []
json_fields_of_kind Name.ExprStmt = (codes "expr", child) ∷ []
-- declarations and their parts
json_fields_of_kind Name.ClassDecl = (codes "ident", child) ∷ (codes "class", child) ∷ []
json_fields_of_kind Name.ClassExpr = (codes "ident", optional_child) ∷ (codes "class", child) ∷ []
json_fields_of_kind Name.Class =
    (codes "type_params", optional_child) ∷ (codes "super_class", optional_child) ∷ (codes "super_type_params", optional_child) ∷
    (codes "implements", children) ∷ (codes "body", children) ∷ []
json_fields_of_kind Name.FnDecl = (codes "ident", child) ∷ (codes "function", child) ∷ []
json_fields_of_kind Name.FnExpr = (codes "ident", optional_child) ∷ (codes "function", child) ∷ []
json_fields_of_kind Name.Function =
    (codes "type_params", optional_child) ∷ (codes "params", children) ∷ (codes "return_type", optional_child) ∷ (codes "body", optional_child) ∷ []
json_fields_of_kind Name.VarDecl = (codes "decls", children) ∷ []
json_fields_of_kind Name.UsingDecl = (codes "decls", children) ∷ []
json_fields_of_kind Name.VarDeclarator = (codes "name", child) ∷ (codes "init", optional_child) ∷ []
json_fields_of_kind Name.TsInterfaceDecl =
    (codes "id", child) ∷ (codes "type_params", optional_child) ∷ (codes "extends", children) ∷ (codes "body", children) ∷ []
json_fields_of_kind Name.TsTypeAliasDecl = (codes "id", child) ∷ (codes "type_params", optional_child) ∷ (codes "type_ann", child) ∷ []
json_fields_of_kind Name.TsEnumDecl = (codes "id", child) ∷ (codes "members", children) ∷ []
json_fields_of_kind Name.TsEnumMember = (codes "init", optional_child) ∷ []
json_fields_of_kind Name.TsModuleDecl = (codes "id", child) ∷ (codes "declare", flag) ∷ (codes "body", optional_child) ∷ []
json_fields_of_kind Name.TsNamespaceDecl = (codes "id", child) ∷ (codes "body", child) ∷ []
json_fields_of_kind Name.TsModuleBlock = (codes "body", children) ∷ []
-- members of classes and interfaces
json_fields_of_kind Name.Constructor = (codes "params", children) ∷ (codes "body", optional_child) ∷ (codes "accessibility", accessibility) ∷ []
json_fields_of_kind Name.TsParamProp = (codes "param", child) ∷ (codes "accessibility", accessibility) ∷ []
json_fields_of_kind Name.ClassMethod =
    (codes "key", child) ∷ (codes "function", child) ∷ (codes "method_kind", method_kind) ∷ (codes "is_static", flag) ∷
    (codes "accessibility", accessibility) ∷ []
json_fields_of_kind Name.ClassProp =
    (codes "key", child) ∷ (codes "type_ann", optional_child) ∷ (codes "value", optional_child) ∷ (codes "is_static", flag) ∷
    (codes "accessibility", accessibility) ∷ []
json_fields_of_kind Name.AutoAccessor =
    (codes "key", child) ∷ (codes "type_ann", optional_child) ∷ (codes "value", optional_child) ∷ (codes "is_static", flag) ∷
    (codes "accessibility", accessibility) ∷ []
json_fields_of_kind Name.TsIndexSignature = (codes "params", children) ∷ (codes "type_ann", optional_child) ∷ (codes "is_static", flag) ∷ []
json_fields_of_kind Name.TsCallSignatureDecl = (codes "type_params", optional_child) ∷ (codes "params", children) ∷ (codes "type_ann", optional_child) ∷ []
json_fields_of_kind Name.TsConstructSignatureDecl = (codes "type_params", optional_child) ∷ (codes "params", children) ∷ (codes "type_ann", optional_child) ∷ []
json_fields_of_kind Name.TsPropertySignature = (codes "key", child) ∷ (codes "computed", flag) ∷ (codes "type_ann", optional_child) ∷ []
json_fields_of_kind Name.TsGetterSignature = (codes "key", child) ∷ (codes "computed", flag) ∷ (codes "type_ann", optional_child) ∷ []
json_fields_of_kind Name.TsSetterSignature = (codes "key", child) ∷ (codes "computed", flag) ∷ (codes "param", child) ∷ []
json_fields_of_kind Name.TsMethodSignature =
    (codes "key", child) ∷ (codes "computed", flag) ∷ (codes "type_params", optional_child) ∷ (codes "params", children) ∷
    (codes "type_ann", optional_child) ∷ []
-- types and what holds them
json_fields_of_kind Name.TsTypeParamDecl = (codes "params", children) ∷ []
json_fields_of_kind Name.TsTypeParam = (codes "constraint", optional_child) ∷ (codes "default", optional_child) ∷ []
json_fields_of_kind Name.TsTypeParamInstantiation = (codes "params", children) ∷ []
json_fields_of_kind Name.TsTypeAnn = (codes "ty", child) ∷ []
json_fields_of_kind Name.TsExprWithTypeArgs = (codes "expr", child) ∷ (codes "type_args", optional_child) ∷ []
json_fields_of_kind Name.TsAsExpr = (codes "expr", child) ∷ (codes "ty", child) ∷ []
json_fields_of_kind Name.TsTypeAssertion = (codes "expr", child) ∷ (codes "ty", child) ∷ []
json_fields_of_kind Name.TsTypeQuery = (codes "expr_name", child) ∷ (codes "type_args", optional_child) ∷ []
json_fields_of_kind Name.TsImportType = (codes "arg", text) ∷ (codes "qualifier", optional_child) ∷ (codes "type_args", optional_child) ∷ []
json_fields_of_kind Name.TsTupleElement = (codes "label", optional_child) ∷ (codes "ty", child) ∷ []
json_fields_of_kind Name.TsQualifiedName = (codes "left", child) ∷ (codes "right", text) ∷ []
-- expressions and names
json_fields_of_kind Name.Ident = (codes "sym", identifier) ∷ []
json_fields_of_kind Name.Member = (codes "obj", child) ∷ (codes "prop", child) ∷ []
json_fields_of_kind Name.IdentName = (codes "name", text) ∷ []
json_fields_of_kind Name.PrivateName = (codes "name", text) ∷ []
json_fields_of_kind Name.Str = (codes "value", text) ∷ []
json_fields_of_kind Name.Num = (codes "text", text) ∷ []
json_fields_of_kind Name.BigInt = (codes "text", text) ∷ []
json_fields_of_kind Name.Computed = (codes "expr", child) ∷ []
json_fields_of_kind Name.Assign = (codes "plain", flag) ∷ (codes "left", child) ∷ (codes "right", child) ∷ []
json_fields_of_kind Name.Arrow =
    (codes "type_params", optional_child) ∷ (codes "params", children) ∷ (codes "return_type", optional_child) ∷ (codes "is_block", flag) ∷
    (codes "body", child) ∷ []
-- patterns, other types, and all else
json_fields_of_kind Name.BindingIdent = (codes "sym", identifier) ∷ (codes "type_ann", optional_child) ∷ []
json_fields_of_kind Name.ArrayPat = (codes "elems", children) ∷ (codes "type_ann", optional_child) ∷ []
json_fields_of_kind Name.ObjectPat = (codes "props", children) ∷ (codes "type_ann", optional_child) ∷ []
json_fields_of_kind Name.RestPat = (codes "arg", child) ∷ (codes "type_ann", optional_child) ∷ []
json_fields_of_kind Name.KeyValuePatProp = (codes "key", child) ∷ (codes "value", child) ∷ []
json_fields_of_kind Name.AssignPatProp = (codes "key", child) ∷ (codes "value", optional_child) ∷ []
json_fields_of_kind Name.AssignPat = (codes "left", child) ∷ (codes "right", child) ∷ []
json_fields_of_kind Name.ExprPat = (codes "expr", child) ∷ []
json_fields_of_kind Name.Plain = (codes "children", children) ∷ []
json_fields_of_kind Name.Other = (codes "children", children) ∷ []

abbrev pub item_kind_names_by_text : List (List ℕ × KindName)
item_kind_names_by_text =
    (codes "Program", Name.Program) ∷
    (codes "Import", Name.Import) ∷
    (codes "ImportNamed", Name.ImportNamed) ∷
    (codes "ImportDefault", Name.ImportDefault) ∷
    (codes "ImportNamespace", Name.ImportNamespace) ∷
    (codes "ExportDecl", Name.ExportDecl) ∷
    (codes "ExportNamed", Name.ExportNamed) ∷
    (codes "ExportSpecifier", Name.ExportSpecifier) ∷
    (codes "ExportNamespace", Name.ExportNamespace) ∷
    (codes "ExportDefaultSpecifier", Name.ExportDefaultSpecifier) ∷
    (codes "ExportDefaultDecl", Name.ExportDefaultDecl) ∷
    (codes "ExportDefaultExpr", Name.ExportDefaultExpr) ∷
    (codes "TsExportAssignment", Name.TsExportAssignment) ∷
    (codes "ExportAll", Name.ExportAll) ∷
    (codes "TsImportEqualsDecl", Name.TsImportEqualsDecl) ∷
    (codes "ExprStmt", Name.ExprStmt) ∷
    []

abbrev pub decl_kind_names_by_text : List (List ℕ × KindName)
decl_kind_names_by_text =
    (codes "ClassDecl", Name.ClassDecl) ∷
    (codes "ClassExpr", Name.ClassExpr) ∷
    (codes "Class", Name.Class) ∷
    (codes "FnDecl", Name.FnDecl) ∷
    (codes "FnExpr", Name.FnExpr) ∷
    (codes "Function", Name.Function) ∷
    (codes "VarDecl", Name.VarDecl) ∷
    (codes "UsingDecl", Name.UsingDecl) ∷
    (codes "VarDeclarator", Name.VarDeclarator) ∷
    (codes "TsInterfaceDecl", Name.TsInterfaceDecl) ∷
    (codes "TsTypeAliasDecl", Name.TsTypeAliasDecl) ∷
    (codes "TsEnumDecl", Name.TsEnumDecl) ∷
    (codes "TsEnumMember", Name.TsEnumMember) ∷
    (codes "TsModuleDecl", Name.TsModuleDecl) ∷
    (codes "TsNamespaceDecl", Name.TsNamespaceDecl) ∷
    (codes "TsModuleBlock", Name.TsModuleBlock) ∷
    []

abbrev pub member_kind_names_by_text : List (List ℕ × KindName)
member_kind_names_by_text =
    (codes "Constructor", Name.Constructor) ∷
    (codes "TsParamProp", Name.TsParamProp) ∷
    (codes "ClassMethod", Name.ClassMethod) ∷
    (codes "ClassProp", Name.ClassProp) ∷
    (codes "AutoAccessor", Name.AutoAccessor) ∷
    (codes "TsIndexSignature", Name.TsIndexSignature) ∷
    (codes "TsCallSignatureDecl", Name.TsCallSignatureDecl) ∷
    (codes "TsConstructSignatureDecl", Name.TsConstructSignatureDecl) ∷
    (codes "TsPropertySignature", Name.TsPropertySignature) ∷
    (codes "TsGetterSignature", Name.TsGetterSignature) ∷
    (codes "TsSetterSignature", Name.TsSetterSignature) ∷
    (codes "TsMethodSignature", Name.TsMethodSignature) ∷
    []

abbrev pub ty_kind_names_by_text : List (List ℕ × KindName)
ty_kind_names_by_text =
    (codes "TsTypeParamDecl", Name.TsTypeParamDecl) ∷
    (codes "TsTypeParam", Name.TsTypeParam) ∷
    (codes "TsTypeParamInstantiation", Name.TsTypeParamInstantiation) ∷
    (codes "TsTypeAnn", Name.TsTypeAnn) ∷
    (codes "TsExprWithTypeArgs", Name.TsExprWithTypeArgs) ∷
    (codes "TsAsExpr", Name.TsAsExpr) ∷
    (codes "TsTypeAssertion", Name.TsTypeAssertion) ∷
    (codes "TsTypeQuery", Name.TsTypeQuery) ∷
    (codes "TsImportType", Name.TsImportType) ∷
    (codes "TsTupleElement", Name.TsTupleElement) ∷
    (codes "TsQualifiedName", Name.TsQualifiedName) ∷
    []

abbrev pub expr_kind_names_by_text : List (List ℕ × KindName)
expr_kind_names_by_text =
    (codes "Ident", Name.Ident) ∷
    (codes "Member", Name.Member) ∷
    (codes "IdentName", Name.IdentName) ∷
    (codes "PrivateName", Name.PrivateName) ∷
    (codes "Str", Name.Str) ∷
    (codes "Num", Name.Num) ∷
    (codes "BigInt", Name.BigInt) ∷
    (codes "Computed", Name.Computed) ∷
    (codes "Assign", Name.Assign) ∷
    (codes "Arrow", Name.Arrow) ∷
    []

abbrev pub pat_kind_names_by_text : List (List ℕ × KindName)
pat_kind_names_by_text =
    (codes "BindingIdent", Name.BindingIdent) ∷
    (codes "ArrayPat", Name.ArrayPat) ∷
    (codes "ObjectPat", Name.ObjectPat) ∷
    (codes "RestPat", Name.RestPat) ∷
    (codes "KeyValuePatProp", Name.KeyValuePatProp) ∷
    (codes "AssignPatProp", Name.AssignPatProp) ∷
    (codes "AssignPat", Name.AssignPat) ∷
    (codes "ExprPat", Name.ExprPat) ∷
    (codes "Type", Name.Plain) ∷
    (codes "Other", Name.Other) ∷
    []
