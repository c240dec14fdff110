use Rattle.std.proofs.Common.{◌∷◌, refl, sym, ap, subst, ◌∙◌, arith}
use Rattle.std.proofs.lemmas.List.{nil_from_length}
use Rattle.symbols_queries.specs.Queries.{path_tree_view}
use Rattle.symq_core.specs.PathData.{path_tree_json}
use Rattle.symq_core.specs.inner.JsonWriting.{AppendsTokens, tokens_of}
use Rattle.symq_core.proofs.Paths.{unresolved_is, writing_begun, writing_next, writing_opened, writing_last, link_smaller}
use Rattle.symq_core.proofs.write_paths.write_link.Goals as goal

pub loop-innermost-init : goal.loop-innermost-init
loop-innermost-init c =
    writing_begun c.args.link.now _ c.new-links.ensures.items c.in_ok-push.ensures.items refl c.as_slice.ensures.value c.in_ok-begin_link.ensures

pub loop-innermost-preserved : goal.loop-innermost-preserved
loop-innermost-preserved c =
    writing_opened c.loop-innermost.links.items c.pop.new.self.items c.push-in-Some.new.self.items c.push-in-Link.new.self.items c.in-Some.innermost _ _
    c.in-Link.next c.in-Some.ensures.items c.in_ok-push-2.ensures.items c.in_ok-push-in-Link.ensures.items refl
    (c.in-Some-split_first.ensures.cases.0 ∙ ap (λ x. x ∷ c.in-Some-split_first.rest.now) c.in-Link.is) refl c.as_slice-in-Link.ensures.value
    c.in_ok-begin_link-in-Link.ensures c.loop-innermost.invariant

pub loop-innermost-smaller : goal.loop-innermost-smaller
loop-innermost-smaller c =
    link_smaller c.loop-innermost.links.items c.pop.new.self.items c.push-in-Some.new.self.items c.push-in-Link.new.self.items c.in-Some.innermost _ _
    c.in-Link.next c.in-Some.ensures.items c.in_ok-push-2.ensures.items c.in_ok-push-in-Link.ensures.items
    (c.in-Some-split_first.ensures.cases.0 ∙ ap (λ x. x ∷ c.in-Some-split_first.rest.now) c.in-Link.is) c.as_slice-in-Link.ensures.value

pub returns : goal.returns
returns c =
    let links = c.loop-innermost.links in
    writing_last links.items (nil_from_length links.items (omega (arith, c.in_default.ensures.cases.0, links.ok.0))) c.loop-innermost.invariant

pub loop-innermost-preserved-in-Continue-branch-7 : goal.loop-innermost-preserved-in-Continue-branch-7
loop-innermost-preserved-in-Continue-branch-7 c =
    let x = c.in-Unresolved in
    writing_next c.loop-innermost.links.items c.pop.new.self.items c.push-in-Some.new.self.items c.in-Some.innermost _ c.in-Some-split_first.path.now
    c.in-Some.ensures.items c.in_ok-push-2.ensures.items refl c.in-Some-split_first.ensures.cases.0
    (subst (λ tree. AppendsTokens c.loop-innermost.out c.write_unresolved.new.out (tokens_of (path_tree_json tree)))
    (sym (ap path_tree_view x.is ∙ unresolved_is x.unresolved)) c.in_ok-write_unresolved-in-Unresolved.ensures) c.loop-innermost.invariant
