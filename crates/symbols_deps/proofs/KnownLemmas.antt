-- Facts about a child that its parent has established.
use Rattle.std.proofs.Common.{◌≡◌, ℕ, true, false, List, Option, None, Some, refl, sym, ◌∙◌, ap}
use Rattle.std.specs.Prelude.{is_some}
use Rattle.std.specs.Option.{option_map, option_and_then}
use Rattle.symbols_ast.specs.declared.tree.kinds.Kind.{Kind}
use Rattle.symbols_ast.specs.declared.tree.kinds.Ty.{Ty}
use Rattle.symbols_ast.specs.declared.tree.kinds.Expr.{Expr}
use Rattle.symbols_ast.specs.declared.tree.kinds.Pat.{Pat}
use Rattle.symbols_ast.specs.declared.tree.arena.Id.{Id}
use Rattle.symbols_ast.specs.Ids.{id_view}
use Rattle.symbols_ast.specs.NodeRefs.{TreeNode, kind_of}
use Rattle.symbols_deps.specs.Annotations.{type_annotation_recursion_step, pattern_annotation, has_type_annotation}
use Rattle.symbols_nodes.specs.DottedNames.{DottedName, append_name_part, dotted_name_part_of_member_prop, member_expr_recursion_step, member_expr_name}
use Rattle.symbols_nodes.specs.Readings.{node_of_greater_number, evaluate_node_of_greater_number}
use Rattle.symbols_deps.specs.inner.KnownFacts.{may_be_reference}
use Rattle.symbols_nodes.specs.References.{id, qualified_id_reference, reference_of_kind, reference_of_node}
use Rattle.symbols_nodes.specs.laws.Readings.{recursive_evaluation_unfolds}

none_mapped : {A B : Type 0} (f : A → B) (o : Option A) → is_some (option_map f o) ≡ false → o ≡ None
none_mapped f None is = refl
none_mapped f (Some x) is = absurd (let no : ⊥ = cc in no)

part_occurs : (part : Option (List ℕ)) (name : Option DottedName) → is_some part ≡ true
    → option_and_then (λ text. option_map (append_name_part text) name) part ≡ None
    → name ≡ None
part_occurs None name there is = absurd (let no : ⊥ = cc in no)
part_occurs (Some text) None there is = refl
part_occurs (Some text) (Some name) there is = absurd (let no : ⊥ = cc in no)

no_reference : (node : TreeNode) (obj prop : ℕ) → kind_of node ≡ Some (Kind.Expr (Expr.Member obj prop)) → is_some (reference_of_node node) ≡ false
    → member_expr_name node ≡ None
unfolding reference_of_node
no_reference node obj prop is refers = none_mapped qualified_id_reference (member_expr_name node) (rw is at refers)

-- If a member expression is no dotted name though its property may be a part of one, its object is no dotted name.
pub object_unnamed : (node child : TreeNode) (obj prop : ℕ) → kind_of node ≡ Some (Kind.Expr (Expr.Member obj prop)) → is_some (reference_of_node node) ≡ false
    → is_some (evaluate_node_of_greater_number dotted_name_part_of_member_prop node prop) ≡ true
    → node_of_greater_number node obj ≡ Some child → member_expr_name child ≡ None
object_unnamed node child obj prop is refers part below =
    let unnamed = no_reference node obj prop is refers in
    let by_parts = rw is at (sym (recursive_evaluation_unfolds member_expr_recursion_step node) ∙ unnamed) in
    let none = part_occurs (evaluate_node_of_greater_number dotted_name_part_of_member_prop node prop)
    (evaluate_node_of_greater_number member_expr_name node obj) part
    by_parts in
    rw below at none

-- A pattern with a default has an annotation if and only if its left has one.
pub left_annotated : (node child : TreeNode) (left right : ℕ) → kind_of node ≡ Some (Kind.Pat (Pat.AssignPat left right))
    → node_of_greater_number node left ≡ Some child
    → has_type_annotation child ≡ has_type_annotation node
left_annotated node child left right is below =
    let same : pattern_annotation node ≡ pattern_annotation child = rw (is, below) at (recursive_evaluation_unfolds type_annotation_recursion_step node) in
    ap is_some (sym same)

is_none_if : {A : Type 0} (o : Option A) → false ≡ is_some o → o ≡ None
is_none_if None is = refl
is_none_if (Some x) is = absurd (let no : ⊥ = cc in no)

-- A node that is known to be no dotted name has none.
pub unnamed_none : (node : TreeNode) → false ≡ is_some (member_expr_name node) → member_expr_name node ≡ None
unnamed_none node is = is_none_if (member_expr_name node) is

-- A node of any other kind is no reference.
nothing_in : (node : TreeNode) (kind : Kind) → may_be_reference kind ≡ false → reference_of_kind node kind ≡ None
nothing_in node (Kind.Item item) is = refl
nothing_in node (Kind.Decl decl) is = refl
nothing_in node (Kind.Member member) is = refl
nothing_in node (Kind.Pat pat) is = refl
nothing_in node (Kind.Expr (Expr.Ident name)) is = absurd (let no : ⊥ = cc in no)
nothing_in node (Kind.Expr (Expr.Member obj prop)) is = absurd (let no : ⊥ = cc in no)
nothing_in node (Kind.Expr expr) is = refl
nothing_in node (Kind.Ty (Ty.TsQualifiedName left right)) is = absurd (let no : ⊥ = cc in no)
nothing_in node (Kind.Ty (Ty.TsImportType arg qualifier type_args)) is = absurd (let no : ⊥ = cc in no)
nothing_in node (Kind.Ty ty) is = refl

pub refers_to_nothing : (node : TreeNode) (kind : Kind) → kind_of node ≡ Some kind → may_be_reference kind ≡ false → reference_of_node node ≡ None
unfolding reference_of_node
refers_to_nothing node kind is not_so = rw is (nothing_in node kind not_so)

-- An identifier is a reference.
pub refers_by_name : (node : TreeNode) (sym : Id) → kind_of node ≡ Some (Kind.Expr (Expr.Ident sym)) → reference_of_node node ≡ Some (id (id_view sym))
unfolding reference_of_node
refers_by_name node sym is = rw is refl
