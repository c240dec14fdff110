use Rattle.std.proofs.Common.{◌≡◌, ◌++◌, ◌∙◌, ap, false, Some, List, map, refl, rules}
use Rattle.std.proofs.lemmas.Result.{on_ok_weaker}
use Rattle.symbols_ast.specs.declared.tree.kinds.Kind.{Kind}
use Rattle.symbols_ast.specs.NodeRefs.{node_view, kind_of}
use Rattle.symbols_deps.specs.inner.KnownFacts.{may_be_reference}
use Rattle.symbols_nodes.specs.References.{NamespacedReference, namespaced_reference_view}
use Rattle.symbols_deps.proofs.VisitLists.{begins_alone, begins_unnamed}
use Rattle.symbols_deps.proofs.starts.push_node.Goals as goal

pub returns-in-Decl : goal.returns-in-Decl
returns-in-Decl c =
    let kind = Kind.Decl c.in-Decl.decl in
    let is : kind_of (node_view c.args.node) ≡ Some kind = search rules in
    on_ok_weaker c.visit_decl.result (λ below. below
    ∙ ap (λ (ds : List NamespacedReference). map namespaced_reference_view c.args.found.now.items ++ ds)
    (begins_unnamed c.args.mode (node_view c.args.node) kind is refl))
    c.visit_decl.ensures

pub returns-in-Member : goal.returns-in-Member
returns-in-Member c =
    let kind = Kind.Member c.in-Member.member in
    let is : kind_of (node_view c.args.node) ≡ Some kind = search rules in
    on_ok_weaker c.visit_member.result (λ below. below
    ∙ ap (λ (ds : List NamespacedReference). map namespaced_reference_view c.args.found.now.items ++ ds)
    (begins_unnamed c.args.mode (node_view c.args.node) kind is refl))
    c.visit_member.ensures

pub returns-in_default-2 : goal.returns-in_default-2
returns-in_default-2 c =
    let not_so : may_be_reference c.kind.result.now ≡ false = search rules in
    on_ok_weaker c.visit_node.result (λ below. below
    ∙ ap (λ (ds : List NamespacedReference). map namespaced_reference_view c.args.found.now.items
    ++ ds) (begins_alone c.args.mode (node_view c.args.node) c.kind.result.now c.kind.ensures not_so)) c.visit_node.ensures
