use Rattle.std.proofs.Common.{◌≡◌, true, false, option_copied, Some, None, sym, ap, subst, ◌∙◌, arith}
use Rattle.std.proofs.lemmas.List.{length_push}
use Rattle.symbols_ast.specs.Graph.{content_types_dependency}
use Rattle.symbols_root.specs.laws.Specifiers.{on_err_if_true}
use Rattle.symbols_root.specs.laws.TypesChains.{types_chain_is_unique}
use Rattle.symbols_root.proofs.Following.{IsFollowing, borrowed_specifiers, visited_is, visited_push, following_first}
use Rattle.symbols_root.proofs.Following.{following_over, following_back, following_room, following_last, following_step, types_followed}
use Rattle.symbols_root.proofs.types_chain.get_prefer_types.Goals as goal

pub types-init : goal.types-init
types-init c = rw (c.with_hasher-before.ensures.empty, c.get-found.ensures.found) (following_first c.args.graph.now c.args.specifier.now)

pub returns-then-is_visited-clause-resolved : goal.returns-then-is_visited-clause-resolved
returns-then-is_visited-clause-resolved c =
    let m = c.in-Some.graph_module.now in
    let old = visited_is c.types.before.keys c.specifier.result.now m.specifier true (sym c.if-is_visited.true ∙ c.is_visited.ensures) c.specifier.ensures in
    following_back m (subst (IsFollowing c.args.graph.now c.args.specifier.now (borrowed_specifiers c.types.before.keys) (option_copied c.types.resolved_to))
    (ap option_copied c.in-Some.is) c.types.invariant) old

pub returns-in_default-types_dependency-clause-resolved : goal.returns-in_default-types_dependency-clause-resolved
returns-in_default-types_dependency-clause-resolved c =
    let m = c.in-Some.graph_module.now in
    let new = visited_is c.types.before.keys c.specifier.result.now m.specifier false (sym c.if-is_visited.false ∙ c.is_visited.ensures) c.specifier.ensures in
    let none : content_types_dependency m.content ≡ None = sym c.types_dependency.ensures ∙ ap option_copied c.in_default-types_dependency.is in
    c.last_analyzable_module-resolved_to.ensures.value ∙ following_last m (subst (IsFollowing c.args.graph.now c.args.specifier.now
    (borrowed_specifiers c.types.before.keys) (option_copied c.types.resolved_to)) (ap option_copied c.in-Some.is)
    c.types.invariant) new c.last_analyzable_module-resolved_to.ensures.checked none

pub types-smaller : goal.types-smaller
types-smaller c =
    let m = c.in-Some.graph_module.now in
    let new = visited_is c.types.before.keys c.specifier.result.now m.specifier false (sym c.if-is_visited.false ∙ c.is_visited.ensures) c.specifier.ensures in
    let more = visited_push c.types.before.keys c.insert.new.self.keys c.specifier-in-Some.result m.specifier c.in_ok-insert.ensures.keys
    c.specifier-in-Some.ensures new in
    let room = following_room m (subst (IsFollowing c.args.graph.now c.args.specifier.now (borrowed_specifiers c.types.before.keys)
    (option_copied c.types.resolved_to)) (ap option_copied c.in-Some.is) c.types.invariant) new in
    rw more (omega (arith, room, length_push (borrowed_specifiers c.types.before.keys) m.specifier))

pub types-preserved : goal.types-preserved
types-preserved c =
    let m = c.in-Some.graph_module.now in
    let new = visited_is c.types.before.keys c.specifier.result.now m.specifier false (sym c.if-is_visited.false ∙ c.is_visited.ensures) c.specifier.ensures in
    let more = visited_push c.types.before.keys c.insert.new.self.keys c.specifier-in-Some.result m.specifier c.in_ok-insert.ensures.keys
    c.specifier-in-Some.ensures new in
    let types : content_types_dependency m.content ≡ Some c.in-Some-types_dependency.types.now =
    sym c.types_dependency.ensures ∙ ap option_copied c.in-Some-types_dependency.is in
    following_step m c.in-Some-types_dependency.types.now (borrowed_specifiers c.insert.new.self.keys)
    (option_copied c.last_analyzable_module-resolved_to.result) (option_copied c.get-found-in-Some.result) c.types.invariant (ap option_copied c.in-Some.is)
    new c.last_analyzable_module-resolved_to.ensures.checked types more c.last_analyzable_module-resolved_to.ensures.value c.get-found-in-Some.ensures.found

pub returns-clause-resolved : goal.returns-clause-resolved
returns-clause-resolved c = following_over (subst (IsFollowing c.args.graph.now c.args.specifier.now (borrowed_specifiers c.types.before.keys)
    (option_copied c.types.resolved_to)) (ap option_copied c.in_default.is) c.types.invariant)

pub returns-then-is_visited-clause-chain : goal.returns-then-is_visited-clause-chain
returns-then-is_visited-clause-chain c = types_chain_is_unique c.args.graph.now c.args.specifier.now

pub returns-in_default-types_dependency-clause-chain : goal.returns-in_default-types_dependency-clause-chain
returns-in_default-types_dependency-clause-chain c = types_chain_is_unique c.args.graph.now c.args.specifier.now

pub returns-in_err-insert-clause-chain : goal.returns-in_err-insert-clause-chain
returns-in_err-insert-clause-chain c = types_chain_is_unique c.args.graph.now c.args.specifier.now

pub returns-clause-chain : goal.returns-clause-chain
returns-clause-chain c = types_chain_is_unique c.args.graph.now c.args.specifier.now

pub returns-in_err-insert-clause-types : goal.returns-in_err-insert-clause-types
returns-in_err-insert-clause-types c =
    let m = c.in-Some.graph_module.now in
    let types : content_types_dependency m.content ≡ Some c.in-Some-types_dependency.types.now =
    sym c.types_dependency.ensures ∙ ap option_copied c.in-Some-types_dependency.is in
    on_err_if_true c.from_residual.result (types_followed c.args.graph.now c.args.specifier.now c.in-Some-types_dependency.types.now m types
    (c.types.invariant.named m (ap option_copied c.in-Some.is)))
