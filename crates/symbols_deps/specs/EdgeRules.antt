-- Edges from a node to the children of a field, with the rules of the field.
use Rattle.std.specs.Prelude.{ℕ, Bool, List, [], ◌∷◌, if◌then◌else◌, Option, None, Some}
use Rattle.std.specs.Option.{option_to_list}
use Rattle.symbols_nodes.specs.declared.deps.dep.ReferenceNamespace.{ReferenceNamespace}
use Rattle.symbols_deps.specs.declared.rules.PatternContextRule.{PatternContextRule}
use Rattle.symbols_deps.specs.declared.rules.NamespaceRule.{NamespaceRule}
use Rattle.symbols_deps.specs.declared.rules.EdgeGuard.{EdgeGuard}
use Rattle.symbols_deps.specs.declared.rules.EdgeRuleSet.{EdgeRuleSet}

-- Followed in both modes, without a mark; the child is entered in its usual form.
abbrev pub default_edge_rules : EdgeRuleSet
default_edge_rules = record { form = PatternContextRule.Usual; mark = NamespaceRule.Unmarked; guard = EdgeGuard.Open }

abbrev pub edge_rules_with_pattern_context : PatternContextRule → EdgeRuleSet → EdgeRuleSet
edge_rules_with_pattern_context form rules = record rules { form = form }

abbrev pub edge_rules_with_namespace_rule : NamespaceRule → EdgeRuleSet → EdgeRuleSet
edge_rules_with_namespace_rule mark rules = record rules { mark = mark }

abbrev pub edge_rules_with_guard : EdgeGuard → EdgeRuleSet → EdgeRuleSet
edge_rules_with_guard guard rules = record rules { guard = guard }

abbrev pub edge_rules_marking_namespace : ReferenceNamespace → EdgeRuleSet
edge_rules_marking_namespace namespace = edge_rules_with_namespace_rule (NamespaceRule.Marked namespace) default_edge_rules

-- The edges of one field, with the rules that they share.
pub record FieldEdges : Type 0 where
  pub rules : EdgeRuleSet
  pub children : List ℕ

abbrev pub edges_to_children : EdgeRuleSet → List ℕ → FieldEdges
edges_to_children rules children = record { rules = rules; children = children }

abbrev pub edge_to_child : EdgeRuleSet → ℕ → FieldEdges
edge_to_child rules child = edges_to_children rules (child ∷ [])

abbrev pub edge_to_optional_child : EdgeRuleSet → Option ℕ → FieldEdges
edge_to_optional_child rules child = edges_to_children rules (option_to_list child)

-- An edge to the child if the condition holds, else none.
abbrev pub edge_to_child_if : Bool → EdgeRuleSet → ℕ → FieldEdges
edge_to_child_if condition rules child = edge_to_optional_child rules (if condition then Some child else None)

-- An edge to the initializer of a pattern or a property; none if that has a type annotation.
abbrev pub edge_to_initializer_unless_annotated : Bool → Option ℕ → FieldEdges
edge_to_initializer_unless_annotated annotated value = edge_to_optional_child (edge_rules_with_guard EdgeGuard.Initializer default_edge_rules)
    (if annotated then None else value)
