use Rattle.std.proofs.Common.{reverse, ap, refl, arith}
use Rattle.std.proofs.lemmas.List.{nil_from_length}
use Rattle.symbols_queries.specs.declared.paths_by_specifier.PathBySpecifier.TheVariants as path
use Rattle.symbols_paths.proofs.DropOrder.{popped}
use Rattle.symbols_paths.proofs.DropPaths.{weight_of_path}
use Rattle.symbols_queries.proofs.Known.{unresolved_known, definition_known, link_here}
use Rattle.symbols_queries.proofs.OpenLinks.{converting_begun, converting_leaf, converting_link, converting_close, converted_last, first_known, definition_view}
use Rattle.symbols_queries.proofs.OpenLinks.{unresolved_view, link_smaller, close_smaller}
use Rattle.symbols_queries.proofs.paths_by_specifier.paths_by_specifier.Goals as goal

pub definition_by_specifier-requires : goal.definition_by_specifier-requires
definition_by_specifier-requires c = definition_known c.args.root.now c.in-Some.path c.in-Definition.definition c.in-Definition.ensures
    (first_known c.loop-path.rest.items c.pop.new.self.items c.in-Some.path c.in-Some.ensures.items c.loop-path.invariant)

pub unresolved_by_specifier-requires : goal.unresolved_by_specifier-requires
unresolved_by_specifier-requires c = unresolved_known c.args.root.now c.in-Some.path c.in-Unresolved.unresolved c.in-Unresolved.ensures
    (first_known c.loop-path.rest.items c.pop.new.self.items c.in-Some.path c.in-Some.ensures.items c.loop-path.invariant)

pub specifier_from_id-requires : goal.specifier_from_id-requires
specifier_from_id-requires c = link_here c.args.root.now c.in-Some.path c.in-Link.link c.in-Link.ensures
    (first_known c.loop-path.rest.items c.pop.new.self.items c.in-Some.path c.in-Some.ensures.items c.loop-path.invariant)

pub loop-path-init : goal.loop-path-init
loop-path-init c =
    converting_begun c.args.root.now c.new-named.result.items c.reverse.new.self.items c.args.paths.items c.new-links.result.items c.new-named.ensures.items
    c.reverse.ensures.items c.new-links.ensures.items c.requires

pub loop-path-preserved : goal.loop-path-preserved
loop-path-preserved c =
    let rest = c.loop-path.rest in
    converting_close rest.items c.loop-path.links.items c.pop-in_default.new.self.items c.in-Some-pop.link _
    (nil_from_length rest.items (omega (arith, c.in_default.ensures.cases.0, rest.ok.0))) c.in-Some-pop.ensures.items refl refl refl refl refl
    c.in_ok-push.ensures.items c.loop-path.invariant

pub loop-path-preserved-in-Link : goal.loop-path-preserved-in-Link
loop-path-preserved-in-Link c =
    converting_link c.loop-path.rest.items c.pop.new.self.items c.reverse-in-Link.new.self.items c.loop-path.links.items c.push-in-Link.new.self.items
    c.in-Some.path c.in-Link.link _ c.in-Some.ensures.items c.in-Link.ensures c.reverse-in-Link.ensures.items c.in_ok-push-in-Link.ensures.items
    c.specifier_from_id.ensures refl refl refl refl refl c.new-named-in-Link.ensures.items c.loop-path.invariant

pub loop-path-preserved-in-Continue-branch-2 : goal.loop-path-preserved-in-Continue-branch-2
loop-path-preserved-in-Continue-branch-2 c =
    converting_leaf c.loop-path.rest.items c.pop.new.self.items c.in-Some.path _ c.in-Some.ensures.items c.in_ok-push-in-Definition.ensures.items
    (definition_view c.args.root.now c.in-Some.path c.in-Definition.definition c.definition_by_specifier.result c.in-Definition.ensures
    c.definition_by_specifier.ensures) c.loop-path.invariant

pub loop-path-preserved-in-Continue-1 : goal.loop-path-preserved-in-Continue-1
loop-path-preserved-in-Continue-1 c =
    converting_leaf c.loop-path.rest.items c.pop.new.self.items c.in-Some.path _ c.in-Some.ensures.items c.in_ok-push-in-Unresolved.ensures.items
    (unresolved_view c.args.root.now c.in-Some.path c.in-Unresolved.unresolved c.unresolved_by_specifier.result c.in-Unresolved.ensures
    c.unresolved_by_specifier.ensures) c.loop-path.invariant

pub loop-path-smaller : goal.loop-path-smaller
loop-path-smaller c =
    close_smaller c.loop-path.rest.items c.loop-path.links.items c.pop-in_default.new.self.items c.in-Some-pop.link c.in-Some-pop.ensures.items

pub loop-path-smaller-in-Link : goal.loop-path-smaller-in-Link
loop-path-smaller-in-Link c =
    link_smaller c.loop-path.rest.items c.pop.new.self.items c.reverse-in-Link.new.self.items c.loop-path.links.items c.push-in-Link.new.self.items
    c.in-Some.path c.in-Link.link _ c.in-Some.ensures.items c.in-Link.ensures c.reverse-in-Link.ensures.items c.in_ok-push-in-Link.ensures.items refl

pub loop-path-smaller-in-Continue-branch-2 : goal.loop-path-smaller-in-Continue-branch-2
loop-path-smaller-in-Continue-branch-2 c =
    omega (arith, popped weight_of_path c.loop-path.rest.items c.pop.new.self.items c.in-Some.path c.in-Some.ensures.items)

pub loop-path-smaller-in-Continue-1 : goal.loop-path-smaller-in-Continue-1
loop-path-smaller-in-Continue-1 c =
    omega (arith, popped weight_of_path c.loop-path.rest.items c.pop.new.self.items c.in-Some.path c.in-Some.ensures.items)

pub returns-in_default-pop : goal.returns-in_default-pop
returns-in_default-pop c =
    let rest = c.loop-path.rest in
    let links = c.loop-path.links in
    converted_last c.loop-path.invariant (ap reverse (nil_from_length rest.items (omega (arith, c.in_default.ensures.cases.0, rest.ok.0))))
    (ap reverse (nil_from_length links.items (omega (arith, c.in_default-pop.ensures.cases.0, links.ok.0))))
