use Rattle.std.proofs.Common.{ℕ, ◌<◌, List, [], ◌∷◌, length, sym, ap, ◌∙◌, arith}
use Rattle.std.proofs.lemmas.Option.{slice_get_within}
use Rattle.symbols_root.specs.laws.Growing.{has_grown_trans}
use Rattle.symbols_answers.specs.Questions.{append_resolved_import_type}
use Rattle.symbols_queries.specs.Queries.{query_view}
use Rattle.symbols_queries.proofs.Requesting.{requesting_first, requesting_next_by, requesting_over, requested_stored, keeps_at_err, keeps_out_of_memory}
use Rattle.symbols_queries.proofs.Requesting.{stored_so_far}
use Rattle.symbols_queries.proofs.inputs.requested_specifiers.Goals as goal

pub loop-specifier-init : goal.loop-specifier-init
loop-specifier-init c =
    let query = query_view c.args.query.now in
    requesting_first c.args.root.now query c.add_import_type_target.new.list (c.in_ok-add_import_type_target.ensures
    ∙ ap (append_resolved_import_type c.args.root.now.graph query) (c.new-list.ensures ∙ ap (λ (queried : List ℕ). queried ∷ []) c.specifier.ensures))

pub returns-in-Err-clause-keeps : goal.returns-in-Err-clause-keeps
returns-in-Err-clause-keeps c =
    keeps_at_err c.args.root.now c.loop-specifier.root c.module_from_specifier.new.self (query_view c.args.query.now)
    c.loop-specifier.list c.loop-specifier.index c.in-Some.specifier.now c.in-Err.fault c.loop-specifier.invariant (sym c.in-Some.ensures.at)
    c.in-Err.ensures.unchanged c.in-Err.ensures.keeps.grown c.in-Err.ensures.keeps.refused c.in-Err.ensures.keeps.enough

pub loop-specifier-preserved : goal.loop-specifier-preserved
loop-specifier-preserved c =
    requesting_next_by c.args.root.now c.loop-specifier.root c.module_from_specifier.new.self (query_view c.args.query.now)
    c.loop-specifier.list c.add_requests.new.list c.loop-specifier.index c.in-Some.specifier.now c.in-Ok.requested c.loop-specifier.invariant
    c.in-Some.ensures.few (sym c.in-Some.ensures.at) c.in-Ok.ensures.stored c.in-Ok.ensures.keeps.grown.graph c.in-Ok.ensures.gives
    c.in_ok-add_requests.ensures

pub returns-in_err-add_requests-clause-keeps : goal.returns-in_err-add_requests-clause-keeps
returns-in_err-add_requests-clause-keeps c =
    keeps_out_of_memory c.args.root.now c.module_from_specifier.new.self (query_view c.args.query.now)
    c.from_residual-in_err-add_requests.result (has_grown_trans c.loop-specifier.invariant.grown c.in-Ok.ensures.keeps.grown)
    (stored_so_far c.args.root.now c.loop-specifier.root c.module_from_specifier.new.self (query_view c.args.query.now)
    c.loop-specifier.list c.loop-specifier.index c.in-Some.specifier.now c.loop-specifier.invariant (sym c.in-Some.ensures.at) c.in-Ok.ensures.stored)
    c.from_residual-in_err-add_requests.ensures.1

pub overflow_add-index : goal.overflow_add-index
overflow_add-index c =
    let within : c.loop-specifier.index < length c.loop-specifier.list = slice_get_within c.loop-specifier.list c.loop-specifier.index
    c.in-Some.specifier.now (sym c.in-Some.ensures.at) in
    omega (arith, within, c.in-Some.ensures.few)

pub loop-specifier-smaller : goal.loop-specifier-smaller
loop-specifier-smaller c =
    let within : c.loop-specifier.index < length c.loop-specifier.list = slice_get_within c.loop-specifier.list c.loop-specifier.index
    c.in-Some.specifier.now (sym c.in-Some.ensures.at) in
    omega (arith, within, c.in-Some.ensures.few)

pub returns-clause-listed : goal.returns-clause-listed
returns-clause-listed c =
    requesting_over c.args.root.now c.loop-specifier.root (query_view c.args.query.now) c.loop-specifier.list
    c.loop-specifier.index c.loop-specifier.invariant (sym c.in_default.ensures.at)

pub returns-clause-stored : goal.returns-clause-stored
returns-clause-stored c =
    requested_stored c.args.root.now c.loop-specifier.root (query_view c.args.query.now) c.loop-specifier.list
    c.loop-specifier.index c.loop-specifier.invariant c.in_default.ensures.few (sym c.in_default.ensures.at)
