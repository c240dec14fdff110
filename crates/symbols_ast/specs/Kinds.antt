-- Generated from tools/kinds/kinds.txt by tools/kinds.py --write. Do not edit.
-- The names of the kinds, and the categories: which kinds may stand at a place.
use Rattle.std.specs.Prelude.{Bool, true, false, ◌||◌, not}
use Rattle.symbols_ast.specs.declared.tree.names.KindName.{KindName}
use Rattle.symbols_ast.specs.declared.tree.names.KindName.TheVariants as Name
use Rattle.symbols_ast.specs.declared.tree.kinds.Item.{Item}
use Rattle.symbols_ast.specs.declared.tree.kinds.Decl.{Decl}
use Rattle.symbols_ast.specs.declared.tree.kinds.Member.{Member}
use Rattle.symbols_ast.specs.declared.tree.kinds.Ty.{Ty}
use Rattle.symbols_ast.specs.declared.tree.kinds.Expr.{Expr}
use Rattle.symbols_ast.specs.declared.tree.kinds.Pat.{Pat}
use Rattle.symbols_ast.specs.declared.tree.kinds.Kind.{Kind}
use Rattle.symbols_ast.specs.declared.tree.categories.Category.{Category}

abbrev pub item_kind_name : Item → KindName
item_kind_name (Item.Program _) = Name.Program
item_kind_name (Item.Import _ _) = Name.Import
item_kind_name (Item.ImportNamed _ _) = Name.ImportNamed
item_kind_name (Item.ImportDefault _) = Name.ImportDefault
item_kind_name (Item.ImportNamespace _) = Name.ImportNamespace
item_kind_name (Item.ExportDecl _) = Name.ExportDecl
item_kind_name (Item.ExportNamed _ _) = Name.ExportNamed
item_kind_name (Item.ExportSpecifier _ _) = Name.ExportSpecifier
item_kind_name (Item.ExportNamespace _) = Name.ExportNamespace
item_kind_name (Item.ExportDefaultSpecifier _) = Name.ExportDefaultSpecifier
item_kind_name (Item.ExportDefaultDecl _) = Name.ExportDefaultDecl
item_kind_name (Item.ExportDefaultExpr _) = Name.ExportDefaultExpr
item_kind_name (Item.TsExportAssignment _) = Name.TsExportAssignment
item_kind_name (Item.ExportAll _) = Name.ExportAll
item_kind_name (Item.TsImportEqualsDecl _ _ _ _) = Name.TsImportEqualsDecl
item_kind_name (Item.ExprStmt _) = Name.ExprStmt

abbrev pub decl_kind_name : Decl → KindName
decl_kind_name (Decl.ClassDecl _ _) = Name.ClassDecl
decl_kind_name (Decl.ClassExpr _ _) = Name.ClassExpr
decl_kind_name (Decl.Class _ _ _ _ _) = Name.Class
decl_kind_name (Decl.FnDecl _ _) = Name.FnDecl
decl_kind_name (Decl.FnExpr _ _) = Name.FnExpr
decl_kind_name (Decl.Function _ _ _ _) = Name.Function
decl_kind_name (Decl.VarDecl _) = Name.VarDecl
decl_kind_name (Decl.UsingDecl _) = Name.UsingDecl
decl_kind_name (Decl.VarDeclarator _ _) = Name.VarDeclarator
decl_kind_name (Decl.TsInterfaceDecl _ _ _ _) = Name.TsInterfaceDecl
decl_kind_name (Decl.TsTypeAliasDecl _ _ _) = Name.TsTypeAliasDecl
decl_kind_name (Decl.TsEnumDecl _ _) = Name.TsEnumDecl
decl_kind_name (Decl.TsEnumMember _) = Name.TsEnumMember
decl_kind_name (Decl.TsModuleDecl _ _ _) = Name.TsModuleDecl
decl_kind_name (Decl.TsNamespaceDecl _ _) = Name.TsNamespaceDecl
decl_kind_name (Decl.TsModuleBlock _) = Name.TsModuleBlock

abbrev pub member_kind_name : Member → KindName
member_kind_name (Member.Constructor _ _ _) = Name.Constructor
member_kind_name (Member.TsParamProp _ _) = Name.TsParamProp
member_kind_name (Member.ClassMethod _ _ _ _ _) = Name.ClassMethod
member_kind_name (Member.ClassProp _ _ _ _ _) = Name.ClassProp
member_kind_name (Member.AutoAccessor _ _ _ _ _) = Name.AutoAccessor
member_kind_name (Member.TsIndexSignature _ _ _) = Name.TsIndexSignature
member_kind_name (Member.TsCallSignatureDecl _ _ _) = Name.TsCallSignatureDecl
member_kind_name (Member.TsConstructSignatureDecl _ _ _) = Name.TsConstructSignatureDecl
member_kind_name (Member.TsPropertySignature _ _ _) = Name.TsPropertySignature
member_kind_name (Member.TsGetterSignature _ _ _) = Name.TsGetterSignature
member_kind_name (Member.TsSetterSignature _ _ _) = Name.TsSetterSignature
member_kind_name (Member.TsMethodSignature _ _ _ _ _) = Name.TsMethodSignature

abbrev pub ty_kind_name : Ty → KindName
ty_kind_name (Ty.TsTypeParamDecl _) = Name.TsTypeParamDecl
ty_kind_name (Ty.TsTypeParam _ _) = Name.TsTypeParam
ty_kind_name (Ty.TsTypeParamInstantiation _) = Name.TsTypeParamInstantiation
ty_kind_name (Ty.TsTypeAnn _) = Name.TsTypeAnn
ty_kind_name (Ty.TsExprWithTypeArgs _ _) = Name.TsExprWithTypeArgs
ty_kind_name (Ty.TsAsExpr _ _) = Name.TsAsExpr
ty_kind_name (Ty.TsTypeAssertion _ _) = Name.TsTypeAssertion
ty_kind_name (Ty.TsTypeQuery _ _) = Name.TsTypeQuery
ty_kind_name (Ty.TsImportType _ _ _) = Name.TsImportType
ty_kind_name (Ty.TsTupleElement _ _) = Name.TsTupleElement
ty_kind_name (Ty.TsQualifiedName _ _) = Name.TsQualifiedName

abbrev pub expr_kind_name : Expr → KindName
expr_kind_name (Expr.Ident _) = Name.Ident
expr_kind_name (Expr.Member _ _) = Name.Member
expr_kind_name (Expr.IdentName _) = Name.IdentName
expr_kind_name (Expr.PrivateName _) = Name.PrivateName
expr_kind_name (Expr.Str _) = Name.Str
expr_kind_name (Expr.Num _) = Name.Num
expr_kind_name (Expr.BigInt _) = Name.BigInt
expr_kind_name (Expr.Computed _) = Name.Computed
expr_kind_name (Expr.Assign _ _ _) = Name.Assign
expr_kind_name (Expr.Arrow _ _ _ _ _) = Name.Arrow

abbrev pub pat_kind_name : Pat → KindName
pat_kind_name (Pat.BindingIdent _ _) = Name.BindingIdent
pat_kind_name (Pat.ArrayPat _ _) = Name.ArrayPat
pat_kind_name (Pat.ObjectPat _ _) = Name.ObjectPat
pat_kind_name (Pat.RestPat _ _) = Name.RestPat
pat_kind_name (Pat.KeyValuePatProp _ _) = Name.KeyValuePatProp
pat_kind_name (Pat.AssignPatProp _ _) = Name.AssignPatProp
pat_kind_name (Pat.AssignPat _ _) = Name.AssignPat
pat_kind_name (Pat.ExprPat _) = Name.ExprPat
pat_kind_name (Pat.Plain _) = Name.Plain
pat_kind_name (Pat.Other _) = Name.Other

-- the kind without its fields
abbrev pub kind_name : Kind → KindName
kind_name (Kind.Item k) = item_kind_name k
kind_name (Kind.Decl k) = decl_kind_name k
kind_name (Kind.Member k) = member_kind_name k
kind_name (Kind.Ty k) = ty_kind_name k
kind_name (Kind.Expr k) = expr_kind_name k
kind_name (Kind.Pat k) = pat_kind_name k

-- the declarations that stand alone
abbrev pub is_declaration : KindName → Bool
is_declaration Name.ClassDecl = true
is_declaration Name.FnDecl = true
is_declaration Name.VarDecl = true
is_declaration Name.UsingDecl = true
is_declaration Name.TsInterfaceDecl = true
is_declaration Name.TsTypeAliasDecl = true
is_declaration Name.TsEnumDecl = true
is_declaration Name.TsModuleDecl = true
is_declaration _ = false

-- statements
abbrev pub is_statement : KindName → Bool
is_statement Name.ExprStmt = true
is_statement Name.Other = true
is_statement k = is_declaration k

-- expressions
abbrev pub is_expression : KindName → Bool
is_expression Name.Ident = true
is_expression Name.Member = true
is_expression Name.Str = true
is_expression Name.Num = true
is_expression Name.BigInt = true
is_expression Name.Assign = true
is_expression Name.FnExpr = true
is_expression Name.ClassExpr = true
is_expression Name.Arrow = true
is_expression Name.TsAsExpr = true
is_expression Name.TsTypeAssertion = true
is_expression Name.Other = true
is_expression _ = false

-- keys of members and of pattern properties
abbrev pub is_property_key : KindName → Bool
is_property_key Name.IdentName = true
is_property_key Name.Str = true
is_property_key Name.Num = true
is_property_key Name.BigInt = true
is_property_key Name.Computed = true
is_property_key _ = false

-- a name, or a name with dots
abbrev pub is_ts_entity_name : KindName → Bool
is_ts_entity_name Name.Ident = true
is_ts_entity_name Name.TsQualifiedName = true
is_ts_entity_name _ = false

-- patterns of a signature
abbrev pub is_signature_pattern : KindName → Bool
is_signature_pattern Name.BindingIdent = true
is_signature_pattern Name.ArrayPat = true
is_signature_pattern Name.ObjectPat = true
is_signature_pattern Name.RestPat = true
is_signature_pattern _ = false

-- patterns
abbrev pub is_pattern : KindName → Bool
is_pattern Name.AssignPat = true
is_pattern Name.ExprPat = true
is_pattern Name.Other = true
is_pattern k = is_signature_pattern k

-- types
abbrev pub is_type : KindName → Bool
is_type Name.Plain = true
is_type Name.TsTypeQuery = true
is_type Name.TsImportType = true
is_type _ = false

-- members of a class
abbrev pub is_member : KindName → Bool
is_member Name.Constructor = true
is_member Name.ClassMethod = true
is_member Name.ClassProp = true
is_member Name.TsIndexSignature = true
is_member Name.AutoAccessor = true
is_member Name.Other = true
is_member _ = false

-- elements of an interface
abbrev pub is_type_element : KindName → Bool
is_type_element Name.TsCallSignatureDecl = true
is_type_element Name.TsConstructSignatureDecl = true
is_type_element Name.TsPropertySignature = true
is_type_element Name.TsGetterSignature = true
is_type_element Name.TsSetterSignature = true
is_type_element Name.TsMethodSignature = true
is_type_element Name.TsIndexSignature = true
is_type_element _ = false

-- what stands in a body of items alone
abbrev pub is_import_or_export : KindName → Bool
is_import_or_export Name.Import = true
is_import_or_export Name.ExportDecl = true
is_import_or_export Name.ExportNamed = true
is_import_or_export Name.ExportDefaultDecl = true
is_import_or_export Name.ExportDefaultExpr = true
is_import_or_export Name.ExportAll = true
is_import_or_export Name.TsImportEqualsDecl = true
is_import_or_export Name.TsExportAssignment = true
is_import_or_export _ = false

-- what may stand in the body of a module or of a namespace
abbrev pub is_item : KindName → Bool
is_item k = is_statement k || is_import_or_export k

-- declarations that `export` may stand before
abbrev pub is_exportable_declaration : KindName → Bool
is_exportable_declaration Name.UsingDecl = false
is_exportable_declaration k = is_declaration k

-- all but the program and what stands in a body of items alone
abbrev pub is_neither_program_nor_import_export : KindName → Bool
is_neither_program_nor_import_export Name.Program = false
is_neither_program_nor_import_export k = not (is_import_or_export k)

-- parameters of a constructor
abbrev pub is_constructor_param : KindName → Bool
is_constructor_param Name.TsParamProp = true
is_constructor_param k = is_pattern k

-- keys of accessors
abbrev pub is_accessor_key : KindName → Bool
is_accessor_key Name.PrivateName = true
is_accessor_key k = is_property_key k

-- what `typeof` asks of
abbrev pub is_type_query_expr : KindName → Bool
is_type_query_expr Name.TsImportType = true
is_type_query_expr k = is_ts_entity_name k

-- the left of an assignment
abbrev pub is_assign_left : KindName → Bool
is_assign_left Name.BindingIdent = true
is_assign_left k = is_expression k

-- whether a kind may stand at a place of the category
abbrev pub category_allows_kind : Category → KindName → Bool
category_allows_kind Category.Item k = is_item k
category_allows_kind Category.ImportSpecifier Name.ImportNamed = true
category_allows_kind Category.ImportSpecifier Name.ImportDefault = true
category_allows_kind Category.ImportSpecifier Name.ImportNamespace = true
category_allows_kind Category.ImportSpecifier _ = false
category_allows_kind Category.Ident Name.Ident = true
category_allows_kind Category.Ident _ = false
category_allows_kind Category.ExportedDeclaration k = is_exportable_declaration k
category_allows_kind Category.ExportSpecifier Name.ExportSpecifier = true
category_allows_kind Category.ExportSpecifier Name.ExportNamespace = true
category_allows_kind Category.ExportSpecifier _ = false
category_allows_kind Category.ExportOrig Name.Ident = true
category_allows_kind Category.ExportOrig Name.Str = true
category_allows_kind Category.ExportOrig _ = false
category_allows_kind Category.DefaultDeclaration Name.ClassExpr = true
category_allows_kind Category.DefaultDeclaration Name.FnExpr = true
category_allows_kind Category.DefaultDeclaration Name.TsInterfaceDecl = true
category_allows_kind Category.DefaultDeclaration _ = false
category_allows_kind Category.Expression k = is_expression k
category_allows_kind Category.Entity k = is_ts_entity_name k
category_allows_kind Category.Class Name.Class = true
category_allows_kind Category.Class _ = false
category_allows_kind Category.TypeParams Name.TsTypeParamDecl = true
category_allows_kind Category.TypeParams _ = false
category_allows_kind Category.TypeArgs Name.TsTypeParamInstantiation = true
category_allows_kind Category.TypeArgs _ = false
category_allows_kind Category.ExprWithTypeArgs Name.TsExprWithTypeArgs = true
category_allows_kind Category.ExprWithTypeArgs _ = false
category_allows_kind Category.Member k = is_member k
category_allows_kind Category.Function Name.Function = true
category_allows_kind Category.Function _ = false
category_allows_kind Category.Pattern k = is_pattern k
category_allows_kind Category.Annotation Name.TsTypeAnn = true
category_allows_kind Category.Annotation _ = false
category_allows_kind Category.Any k = is_neither_program_nor_import_export k
category_allows_kind Category.VarDeclarator Name.VarDeclarator = true
category_allows_kind Category.VarDeclarator _ = false
category_allows_kind Category.Element k = is_type_element k
category_allows_kind Category.Type k = is_type k
category_allows_kind Category.EnumMember Name.TsEnumMember = true
category_allows_kind Category.EnumMember _ = false
category_allows_kind Category.ModuleName Name.Ident = true
category_allows_kind Category.ModuleName Name.Str = true
category_allows_kind Category.ModuleName _ = false
category_allows_kind Category.ModuleBody Name.TsModuleBlock = true
category_allows_kind Category.ModuleBody Name.TsNamespaceDecl = true
category_allows_kind Category.ModuleBody _ = false
category_allows_kind Category.ConstructorParam k = is_constructor_param k
category_allows_kind Category.ParamPropPattern Name.BindingIdent = true
category_allows_kind Category.ParamPropPattern Name.AssignPat = true
category_allows_kind Category.ParamPropPattern _ = false
category_allows_kind Category.Key k = is_property_key k
category_allows_kind Category.AccessorKey k = is_accessor_key k
category_allows_kind Category.Signature k = is_signature_pattern k
category_allows_kind Category.TypeParam Name.TsTypeParam = true
category_allows_kind Category.TypeParam _ = false
category_allows_kind Category.QueryName k = is_type_query_expr k
category_allows_kind Category.MemberProp Name.IdentName = true
category_allows_kind Category.MemberProp Name.PrivateName = true
category_allows_kind Category.MemberProp Name.Computed = true
category_allows_kind Category.MemberProp _ = false
category_allows_kind Category.AssignLeft k = is_assign_left k
category_allows_kind Category.ObjectPatProp Name.KeyValuePatProp = true
category_allows_kind Category.ObjectPatProp Name.AssignPatProp = true
category_allows_kind Category.ObjectPatProp Name.RestPat = true
category_allows_kind Category.ObjectPatProp _ = false
category_allows_kind Category.BindingIdent Name.BindingIdent = true
category_allows_kind Category.BindingIdent _ = false
