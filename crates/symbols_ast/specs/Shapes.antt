-- The shape of a node: each child has a kind that its field allows, and the node follows the rules of its own kind.
use Rattle.std.specs.Prelude.{ℕ, Bool, true, false, not, ◌||◌, List, Some, None}
use Rattle.std.specs.Option.{option_map_or}
use Rattle.std.specs.List.{list_any}
use Rattle.symbols_ast.specs.declared.tree.arena.Node.{Node}
use Rattle.symbols_ast.specs.declared.tree.categories.Category.{Category}
use Rattle.symbols_ast.specs.declared.tree.kinds.Kind.{Kind}
use Rattle.symbols_ast.specs.declared.tree.kinds.Item.TheVariants as Item
use Rattle.symbols_ast.specs.declared.tree.kinds.Member.TheVariants as Member
use Rattle.symbols_ast.specs.declared.tree.kinds.Pat.TheVariants as Pat
use Rattle.symbols_ast.specs.declared.tree.kinds.Expr.TheVariants as Expr
use Rattle.symbols_ast.specs.Kinds.{kind_name, category_allows_kind}
use Rattle.symbols_ast.specs.FieldViews.{FieldView}
use Rattle.symbols_ast.specs.Fields.{fields}
use Rattle.symbols_ast.specs.Nodes.{kind_at}

-- Node n exists, and the category doesn't allow its kind.
abbrev pub is_misplaced_child : List Node → Category → ℕ → Bool
is_misplaced_child nodes category n = option_map_or (λ kind. not (category_allows_kind category (kind_name kind))) (kind_at nodes n) false

-- A child in the field has a kind that the field doesn't allow.
abbrev pub field_has_misplaced_child : List Node → FieldView → Bool
field_has_misplaced_child nodes field = list_any (is_misplaced_child nodes field.category) field.children

abbrev pub has_misplaced_child : List Node → Kind → Bool
has_misplaced_child nodes kind = list_any (field_has_misplaced_child nodes) (fields kind)

abbrev pub is_string_literal : Kind → Bool
is_string_literal (Kind.Expr (Expr.Str _)) = true
is_string_literal _ = false

abbrev pub is_binding_ident : Kind → Bool
is_binding_ident (Kind.Pat (Pat.BindingIdent _ _)) = true
is_binding_ident _ = false

-- An export specifier that needs a `from`: a namespace, or a name that is a string.
abbrev pub export_specifier_needs_from_clause : List Node → Kind → Bool
export_specifier_needs_from_clause nodes (Kind.Item (Item.ExportNamespace _)) = true
export_specifier_needs_from_clause nodes (Kind.Item (Item.ExportSpecifier orig _)) = option_map_or is_string_literal (kind_at nodes orig) false
export_specifier_needs_from_clause nodes _ = false

-- A pattern with a default whose left is no identifier.
abbrev pub is_destructuring_with_default : List Node → Kind → Bool
is_destructuring_with_default nodes (Kind.Pat (Pat.AssignPat left _)) = not (option_map_or is_binding_ident (kind_at nodes left) false)
is_destructuring_with_default nodes _ = false

-- The node breaks a rule of its own kind.
abbrev pub breaks_rule_of_its_kind : List Node → Kind → Bool
breaks_rule_of_its_kind nodes (Kind.Item (Item.ExportDefaultSpecifier _)) = true
breaks_rule_of_its_kind nodes (Kind.Item (Item.ExportNamed specifiers None)) =
    list_any (λ n. option_map_or (export_specifier_needs_from_clause nodes) (kind_at nodes n) false) specifiers.items
breaks_rule_of_its_kind nodes (Kind.Item (Item.TsImportEqualsDecl _ _ None None)) = true
breaks_rule_of_its_kind nodes (Kind.Item (Item.TsImportEqualsDecl _ _ (Some _) (Some _))) = true
breaks_rule_of_its_kind nodes (Kind.Member (Member.TsParamProp param _)) = option_map_or (is_destructuring_with_default nodes) (kind_at nodes param) false
breaks_rule_of_its_kind nodes _ = false

-- Node n has a bad shape.
unfoldable pub has_misplaced_child_or_breaks_rule : List Node → ℕ → Bool
has_misplaced_child_or_breaks_rule nodes n = option_map_or (λ kind. has_misplaced_child nodes kind || breaks_rule_of_its_kind nodes kind)
    (kind_at nodes n) false
