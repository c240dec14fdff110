use Rattle.std.proofs.Common.{◌++◌, reverse, refl, sym, ap, subst, ◌∙◌, arith}
use Rattle.std.proofs.lemmas.List.{nil_from_length, reverse-reverse}
use Rattle.symbols_paths.specs.PathTrees.{leaves_of_tree}
use Rattle.symbols_paths.specs.Views.{path_by_specifier}
use Rattle.symbols_paths.specs.declared.definition_iter.DefinitionOrUnresolved.TheVariants as end
use Rattle.symbols_paths.proofs.PathEnds.{AreEndsSo, ends_last}
use Rattle.symbols_paths.proofs.VisitedBuilders.{ends_in_leaf, ends_in_link, unresolved_leaf, definition_leaf}
use Rattle.symbols_paths.proofs.DropOrder.{popped, replaced}
use Rattle.symbols_paths.proofs.DropPaths.{weight_of_path, weight_of_link}
use Rattle.symbols_paths.proofs.definition_iter.add_ends.Goals as goal

pub loop-path-init : goal.loop-path-init
loop-path-init c = subst (λ rest. AreEndsSo c.args.left.now.items rest c.args.left.now.items c.args.paths.items)
    (sym (ap reverse c.reverse.ensures.items ∙ reverse-reverse c.args.paths.items)) (λ root. refl)

pub loop-path-preserved-in-Continue-1 : goal.loop-path-preserved-in-Continue-1
loop-path-preserved-in-Continue-1 c =
    let x = c.in-Unresolved in
    ends_in_leaf c.loop-path.left.items c.push_back.new.self.items c.args.left.now.items c.loop-path.stack.items c.pop.new.self.items c.args.paths.items
    c.in-Some.path (end.Unresolved x.unresolved) c.in-Some.ensures.items
    (λ root. ap (λ path. leaves_of_tree (path_by_specifier root path)) x.ensures ∙ unresolved_leaf root x.unresolved)
    c.in_ok-push_back-in-Unresolved.ensures.items c.loop-path.invariant

pub loop-path-preserved-in-Continue-branch-2 : goal.loop-path-preserved-in-Continue-branch-2
loop-path-preserved-in-Continue-branch-2 c =
    let x = c.in-Definition in
    ends_in_leaf c.loop-path.left.items c.push_back-in-Definition.new.self.items c.args.left.now.items c.loop-path.stack.items c.pop.new.self.items
    c.args.paths.items c.in-Some.path (end.Definition x.definition) c.in-Some.ensures.items
    (λ root. ap (λ path. leaves_of_tree (path_by_specifier root path)) x.ensures ∙ definition_leaf root x.definition)
    c.in_ok-push_back-in-Definition.ensures.items c.loop-path.invariant

pub loop-path-preserved : goal.loop-path-preserved
loop-path-preserved c =
    let x = c.in-Link in
    ends_in_link c.loop-path.left.items c.args.left.now.items c.loop-path.stack.items c.pop.new.self.items c.append.new.self.items c.args.paths.items
    c.in-Some.path x.link c.in-Some.ensures.items x.ensures
    (c.in_ok-append-in-Link.ensures.items ∙ ap (λ ys. c.pop.new.self.items ++ ys) c.reverse-in-Link.ensures.items) c.loop-path.invariant

pub loop-path-smaller-in-Continue-1 : goal.loop-path-smaller-in-Continue-1
loop-path-smaller-in-Continue-1 c = popped weight_of_path c.loop-path.stack.items c.pop.new.self.items c.in-Some.path c.in-Some.ensures.items

pub loop-path-smaller-in-Continue-branch-2 : goal.loop-path-smaller-in-Continue-branch-2
loop-path-smaller-in-Continue-branch-2 c = popped weight_of_path c.loop-path.stack.items c.pop.new.self.items c.in-Some.path c.in-Some.ensures.items

pub loop-path-smaller : goal.loop-path-smaller
loop-path-smaller c =
    let x = c.in-Link in
    replaced weight_of_path c.loop-path.stack.items c.pop.new.self.items x.link.next.items c.append.new.self.items c.in-Some.path c.in-Some.ensures.items
    (c.in_ok-append-in-Link.ensures.items ∙ ap (λ ys. c.pop.new.self.items ++ ys) c.reverse-in-Link.ensures.items)
    (ap (λ path. (weight_of_path path).1) x.ensures ∙ ap (λ w. w.1) (weight_of_link x.link))

pub returns : goal.returns
returns c =
    let stack = c.loop-path.stack in
    ends_last c.loop-path.left.items c.args.left.now.items (reverse stack.items) c.args.paths.items
    (ap reverse (nil_from_length stack.items (omega (arith, c.in_default.ensures.cases.0, stack.ok.0)))) c.loop-path.invariant
