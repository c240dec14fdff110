use Rattle.std.proofs.Common.{arith, subst}
use Rattle.std.proofs.lemmas.List.{nil_from_length}
use Rattle.symbols_paths.proofs.DepEntries.{AreEntriesSo, entries_first, entries_next, entries_last, modules_last}
use Rattle.symbols_paths.proofs.symbol_dep.entries_of_paths.Goals as goal

pub loop-path-init : goal.loop-path-init
loop-path-init c = rw (c.new-entries.ensures.items, c.into_iter-path-iterator.ensures.into_iter_gives.0) (entries_first c.args.paths.items)

pub loop-path-preserved : goal.loop-path-preserved
loop-path-preserved c =
    let so = subst (λ rest. AreEntriesSo c.loop-path.entries.items rest c.args.paths.items) c.in-Some.ensures.steps.0 c.loop-path.invariant in
    entries_next c.loop-path.entries.items c.push.new.self.items c.in-Some.path c.next.new.self.rest.items c.args.paths.items so c.in_ok-push.ensures.items

pub returns-clause-view : goal.returns-clause-view
returns-clause-view c =
    let over = nil_from_length c.loop-path.path-iterator.rest.items (omega (arith, c.in-None.ensures.steps.0, c.loop-path.path-iterator.rest.ok.0)) in
    entries_last c.loop-path.entries.items c.loop-path.path-iterator.rest.items c.args.paths.items over c.loop-path.invariant

pub returns-clause-modules : goal.returns-clause-modules
returns-clause-modules c =
    let over = nil_from_length c.loop-path.path-iterator.rest.items (omega (arith, c.in-None.ensures.steps.0, c.loop-path.path-iterator.rest.ok.0)) in
    modules_last c.loop-path.entries.items c.loop-path.path-iterator.rest.items c.args.paths.items over c.loop-path.invariant
