use Rattle.symbols_paths.proofs.SymbolSteps.{step_definition, step_nothing, step_symbol, step_unresolved_id}
use Rattle.symbols_paths.proofs.follow_decl.follow_decl.Goals as goal

pub returns-in_ok-with_definition-in-Definition-clause-steps : goal.returns-in_ok-with_definition-in-Definition-clause-steps
returns-in_ok-with_definition-in-Definition-clause-steps g c = step_definition g.start c.args.root.now c.args.state.now.resolving.keys
    c.args.state.now.visited.keys c.args.state.now.frames.items c.args.here c.requires.0 c.requires.1.1
    c.in-Definition.kind c.in-Definition.range c.in_ok-with_definition-in-Definition.field-0 (rw c.in-Definition.is at c.requires.1.0)
    c.in_ok-with_definition-in-Definition.ensures.next
    (c.in_ok-with_definition-in-Definition.ensures.stored c.args.root.now c.requires.0.step_valid.stored c.requires.0.step_valid.paths.stored)

pub returns-in-Nothing-clause-steps : goal.returns-in-Nothing-clause-steps
returns-in-Nothing-clause-steps g c = step_nothing g.start c.args.root.now c.args.state.now.resolving.keys c.args.state.now.visited.keys
    c.args.state.now.frames.items c.args.here c.requires.0 c.requires.1.1
    c.at_next_decl.result (rw c.in-Nothing.is at c.requires.1.0) c.at_next_decl.ensures.next
    (rw c.at_next_decl.ensures.same c.requires.0.step_valid.paths.stored)

pub returns-in_ok-push_front-in-Symbol-clause-steps : goal.returns-in_ok-push_front-in-Symbol-clause-steps
returns-in_ok-push_front-in-Symbol-clause-steps g c = rw c.in_ok-push_front-in-Symbol.ensures.items (step_symbol
    g.start c.args.root.now c.args.state.now.resolving.keys c.args.state.now.visited.keys c.args.state.now.frames.items c.args.here c.requires.0 c.requires.1.1
    c.in-Symbol.symbol_id c.new-target.result (rw c.in-Symbol.is at c.requires.1.0) c.new-target.ensures.module c.new-target.ensures.symbol)

pub returns-in_ok-with_unresolved_id-in-UnresolvedId-clause-steps : goal.returns-in_ok-with_unresolved_id-in-UnresolvedId-clause-steps
returns-in_ok-with_unresolved_id-in-UnresolvedId-clause-steps g c = step_unresolved_id
    g.start c.args.root.now c.args.state.now.resolving.keys c.args.state.now.visited.keys c.args.state.now.frames.items c.args.here c.requires.0 c.requires.1.1
    c.in-UnresolvedId.id c.in-UnresolvedId.parts c.in_ok-with_unresolved_id-in-UnresolvedId.field-0 (rw c.in-UnresolvedId.is at c.requires.1.0)
    c.in_ok-with_unresolved_id-in-UnresolvedId.ensures.next
    (c.in_ok-with_unresolved_id-in-UnresolvedId.ensures.stored c.args.root.now c.requires.0.step_valid.stored c.requires.0.step_valid.paths.stored)
