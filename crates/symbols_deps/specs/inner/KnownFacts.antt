-- Facts about a node that its parent has established.
use Rattle.std.specs.Prelude.{◌≡◌, ℕ, Bool, true, false, is_some, Some}
use Rattle.symbols_ast.specs.declared.tree.kinds.Kind.{Kind}
use Rattle.symbols_ast.specs.declared.tree.kinds.Expr.{Expr}
use Rattle.symbols_ast.specs.declared.tree.kinds.Ty.{Ty}
use Rattle.symbols_ast.specs.declared.tree.kinds.Pat.{Pat}
use Rattle.symbols_ast.specs.NodeRefs.{TreeNode, kind_of}
use Rattle.symbols_deps.specs.declared.known.KnownFact.{KnownFact}
use Rattle.symbols_deps.specs.Annotations.{has_type_annotation}
use Rattle.symbols_nodes.specs.DottedNames.{member_expr_name}

-- The established answer, else the given one.
abbrev pub has_name_by_known_fact : KnownFact → Bool → Bool
has_name_by_known_fact KnownFact.NoName answer = false
has_name_by_known_fact _ answer = answer

abbrev pub is_annotated_by_known_fact : KnownFact → Bool → Bool
is_annotated_by_known_fact (KnownFact.Annotated annotated) answer = annotated
is_annotated_by_known_fact _ answer = answer

-- The established fact holds of the node.
abbrev pub IsKnownFactTrueOf : KnownFact → TreeNode → Type 0
IsKnownFactTrueOf known node = (has_name_by_known_fact known (is_some (member_expr_name node)) ≡ is_some (member_expr_name node))
    × (is_annotated_by_known_fact known (has_type_annotation node) ≡ has_type_annotation node)

-- ---- facts by the kind

abbrev pub IsExprNode : TreeNode → Expr → Type 0
IsExprNode node expr = kind_of node ≡ Some (Kind.Expr expr)

abbrev pub IsMemberExprNode : TreeNode → ℕ → ℕ → Type 0
IsMemberExprNode node obj prop = IsExprNode node (Expr.Member obj prop)

abbrev pub IsPatNode : TreeNode → Pat → Type 0
IsPatNode node pat = kind_of node ≡ Some (Kind.Pat pat)

-- The kinds that may be references.
abbrev pub may_be_reference : Kind → Bool
may_be_reference (Kind.Expr (Expr.Ident _)) = true
may_be_reference (Kind.Expr (Expr.Member _ _)) = true
may_be_reference (Kind.Ty (Ty.TsQualifiedName _ _)) = true
may_be_reference (Kind.Ty (Ty.TsImportType _ _ _)) = true
may_be_reference _ = false
