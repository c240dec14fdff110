use Rattle.std.proofs.Common.{subst, arith}
use Rattle.std.proofs.lemmas.List.{nil_from_length}
use Rattle.symbols_paths.specs.Views.{remaining_ends}
use Rattle.symbols_paths.proofs.PathEnds.{AreDefinitionsSo, definitions_first, definitions_next, definitions_last}
use Rattle.symbols_paths.proofs.definition_iter.definitions_of_ends.Goals as goal

pub loop-end-init : goal.loop-end-init
loop-end-init c = rw (c.new-left.ensures.items, c.into_iter-end-iterator.ensures.into_iter_gives.0) (definitions_first (remaining_ends c.args.ends))

pub loop-end-preserved : goal.loop-end-preserved
loop-end-preserved c =
    let so = subst (λ rest. AreDefinitionsSo c.loop-end.left.items rest (remaining_ends c.args.ends)) c.in-Some.ensures.steps.0 c.loop-end.invariant in
    definitions_next c.loop-end.left.items c.add_definition.new.left.items c.in-Some.end c.next.new.self.rest.items (remaining_ends c.args.ends) so
    c.in_ok-add_definition.ensures.view c.in_ok-add_definition.ensures.stored

pub returns-clause-view : goal.returns-clause-view
returns-clause-view c =
    let over = nil_from_length c.loop-end.end-iterator.rest.items (omega (arith, c.in-None.ensures.steps.0, c.loop-end.end-iterator.rest.ok.0)) in
    definitions_last c.loop-end.left.items c.loop-end.end-iterator.rest.items (remaining_ends c.args.ends) over c.loop-end.invariant

pub returns-clause-stored : goal.returns-clause-stored
returns-clause-stored c = λ root a. (c.loop-end.invariant.stored root a).0
