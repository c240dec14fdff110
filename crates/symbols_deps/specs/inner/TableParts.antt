-- The parts of the table of edges that have functions of their own.
use Rattle.std.specs.Prelude.{Bool, true, false, ◌||◌, List, [], if◌then◌else◌}
use Rattle.symbols_ast.specs.declared.tree.kinds.Decl.{Decl}
use Rattle.symbols_ast.specs.declared.tree.kinds.Member.{Member}
use Rattle.symbols_ast.specs.NodeRefs.{TreeNode}
use Rattle.symbols_deps.specs.declared.rules.PatternContextRule.{PatternContextRule}
use Rattle.symbols_deps.specs.declared.rules.NamespaceRule.{NamespaceRule}
use Rattle.symbols_deps.specs.declared.rules.EdgeGuard.{EdgeGuard}
use Rattle.symbols_deps.specs.declared.rules.EdgeRuleSet.{EdgeRuleSet}
use Rattle.symbols_deps.specs.EdgeRules.{FieldEdges, default_edge_rules, edge_rules_with_pattern_context, edge_rules_with_namespace_rule, edge_rules_with_guard}
use Rattle.symbols_deps.specs.EdgeTable.{decl_edges, member_edges}

abbrev pub is_class_kind : Decl → Bool
is_class_kind (Decl.ClassDecl _ _) = true
is_class_kind (Decl.ClassExpr _ _) = true
is_class_kind (Decl.Class _ _ _ _ _) = true
is_class_kind _ = false

abbrev pub is_function_kind : Decl → Bool
is_function_kind (Decl.FnDecl _ _) = true
is_function_kind (Decl.FnExpr _ _) = true
is_function_kind (Decl.Function _ _ _ _) = true
is_function_kind _ = false

-- The edges of classes, of functions, and of all other declarations.
abbrev pub class_edges : TreeNode → Decl → List FieldEdges
class_edges node decl = if is_class_kind decl then decl_edges node decl else []

abbrev pub function_edges : TreeNode → Decl → List FieldEdges
function_edges node decl = if is_function_kind decl then decl_edges node decl else []

abbrev pub other_decl_edges : TreeNode → Decl → List FieldEdges
other_decl_edges node decl = if is_class_kind decl || is_function_kind decl then [] else decl_edges node decl

abbrev pub is_keyed_type_element : Member → Bool
is_keyed_type_element (Member.TsPropertySignature _ _ _) = true
is_keyed_type_element (Member.TsGetterSignature _ _ _) = true
is_keyed_type_element (Member.TsSetterSignature _ _ _) = true
is_keyed_type_element (Member.TsMethodSignature _ _ _ _ _) = true
is_keyed_type_element _ = false

-- The edges of interface members with a key, and of all other members.
abbrev pub keyed_type_element_edges : Member → List FieldEdges
keyed_type_element_edges member = if is_keyed_type_element member then member_edges member else []

abbrev pub other_member_edges : Member → List FieldEdges
other_member_edges member = if is_keyed_type_element member then [] else member_edges member

-- The rules of the initializer of a variable, a property or a pattern.
abbrev pub edge_rules_with_initializer_guard : EdgeRuleSet
edge_rules_with_initializer_guard = edge_rules_with_guard EdgeGuard.Initializer default_edge_rules

-- The rules of the parts of a type.
abbrev pub type_part_edge_rules_by_child_kind : EdgeRuleSet
type_part_edge_rules_by_child_kind = edge_rules_with_pattern_context PatternContextRule.SignatureKinds
    (edge_rules_with_namespace_rule NamespaceRule.ByKind default_edge_rules)
