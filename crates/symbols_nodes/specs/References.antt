-- References to symbols, and the nodes that are references.
use Rattle.std.specs.Prelude.{ℕ, Bool, true, false, List, [], ◌∷◌, map, Option, None, Some, string_bytes}
use Rattle.std.specs.Cow.{cow_str_bytes}
use Rattle.std.specs.Option.{option_map, option_and_then}
use Rattle.symbols_ast.specs.declared.tree.kinds.Kind.{Kind}
use Rattle.symbols_ast.specs.declared.tree.kinds.Ty.TheVariants as Ty
use Rattle.symbols_ast.specs.declared.tree.kinds.Expr.TheVariants as Expr
use Rattle.symbols_ast.specs.Ids.{IdView, id_view}
use Rattle.symbols_ast.specs.NodeRefs.{TreeNode, kind_of}
use Rattle.symbols_nodes.specs.declared.deps.dep.ReferenceNamespace.{ReferenceNamespace}
use Rattle.symbols_nodes.specs.declared.deps.dep.ResolveDepsMode.{ResolveDepsMode}
use Rattle.symbols_nodes.specs.declared.deps.dep.ResolveDepsMode.TheVariants.{TypesOnly, TypesAndExpressions}
use Rattle.symbols_nodes.specs.declared.deps.dep.SymbolNodeDep.{SymbolNodeDep}
use Rattle.symbols_nodes.specs.declared.deps.dep.SymbolNodeDep.TheVariants as Dep
use Rattle.symbols_nodes.specs.DottedNames.{DottedName, entity_name, member_expr_name}
use Rattle.symbols_nodes.specs.Readings.{evaluate_node_of_greater_number}

abbrev pub visits_expressions : ResolveDepsMode → Bool
visits_expressions TypesOnly = false
visits_expressions TypesAndExpressions = true

-- A reference: an identifier, a dotted name, or an import type with its specifier and the parts after it.
pub data SymbolReference : Type 0 where
  id : IdView → SymbolReference
  qualified_id : IdView → List (List ℕ) → SymbolReference
  import_type : List ℕ → List (List ℕ) → SymbolReference

-- A reference, and whether it refers to a value, a type or both.
pub record NamespacedReference : Type 0 where
  pub reference : SymbolReference
  pub namespace : ReferenceNamespace

-- The view of a `SymbolNodeDep`.
abbrev pub reference_view : SymbolNodeDep → SymbolReference
reference_view (Dep.Id name) = id (id_view name.now)
reference_view (Dep.QualifiedId name parts) = qualified_id (id_view name.now) (map cow_str_bytes parts.items)
reference_view (Dep.ImportType specifier_text parts) = import_type specifier_text.now (map cow_str_bytes parts.items)

abbrev pub namespaced_reference_view : SymbolNodeDep × ReferenceNamespace → NamespacedReference
namespaced_reference_view found = record { reference = reference_view found.0; namespace = found.1 }

-- ---- the nodes that are references

abbrev pub qualified_id_reference : DottedName → SymbolReference
qualified_id_reference name = qualified_id name.leftmost name.parts

-- The reference of an import type's qualifier, the leftmost name first.
abbrev pub import_type_reference : List ℕ → DottedName → SymbolReference
import_type_reference specifier_text name = import_type specifier_text (name.leftmost.name ∷ name.parts)

abbrev pub reference_of_kind : TreeNode → Kind → Option SymbolReference
reference_of_kind node (Kind.Expr (Expr.Ident sym)) = Some (id (id_view sym))
reference_of_kind node (Kind.Expr (Expr.Member _ _)) = option_map qualified_id_reference (member_expr_name node)
reference_of_kind node (Kind.Ty (Ty.TsQualifiedName _ _)) = option_map qualified_id_reference (entity_name node)
reference_of_kind node (Kind.Ty (Ty.TsImportType arg None _)) = Some (import_type (string_bytes arg) [])
reference_of_kind node (Kind.Ty (Ty.TsImportType arg (Some qualifier) _)) =
    option_map (import_type_reference (string_bytes arg)) (evaluate_node_of_greater_number entity_name node qualifier)
reference_of_kind node _ = None

-- The reference that a node is, if it is one.
unfoldable pub reference_of_node : TreeNode → Option SymbolReference
reference_of_node node = option_and_then (reference_of_kind node) (kind_of node)
