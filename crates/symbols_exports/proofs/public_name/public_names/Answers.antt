use Rattle.std.proofs.Common.{ℕ, sym, subst, ◌∙◌}
use Rattle.std.specs.Prelude.{◌≢◌, AllPairs}
use Rattle.symbols_root.specs.Roots.{specifier_in}
use Rattle.symbols_exports.specs.ExportAnswers.{IsExportsCallFault}
use Rattle.symbols_exports.specs.PublicNames.{ExportedNameWithMember}
use Rattle.symbols_exports.specs.CollectedNames.{resolved_export_views}
use Rattle.symbols_exports.proofs.PublicNameItems.{public_apart, items_viewed, all_explicit, refused_after}
use Rattle.symbols_exports.proofs.WalkEndsByFilter.{on_memory}
use Rattle.symbols_exports.proofs.public_name.public_names.Goals as goal

pub list_names-requires : goal.list_names-requires
list_names-requires c =
    let answer = c.in_ok-found.ensures.answers.1 in
    let start = specifier_in c.args.root.now c.args.module_id in
    all_explicit c.exports.new.root c.args.root.now.graph start (resolved_export_views c.in_ok-found.found.resolved.entries) c.in_ok-found.ensures.grown.graph
    (c.in_ok-found.ensures.listed start) answer.are_modules_of_exports_stored answer.are_exports_of_module

pub returns-in_err-list_names-clause-faults : goal.returns-in_err-list_names-clause-faults
returns-in_err-list_names-clause-faults c =
    let answer = c.in_ok-found.ensures.answers in
    on_memory (λ fault. (lookups : ℕ) × IsExportsCallFault c.args.root.now c.exports.new.root c.args.module_id fault lookups)
    c.from_residual-in_err-list_names.result
    c.from_residual-in_err-list_names.ensures.1
    (answer.0, refused_after answer.1)

pub returns-clause-answers : goal.returns-clause-answers
returns-clause-answers c =
    let answer = c.in_ok-found.ensures.answers.1 in
    record {
      known = answer.known;
      are_public_names = c.in_ok-list_names.ensures ∙ items_viewed c.exports.new.root c.args.root.now.graph (specifier_in c.args.root.now c.args.module_id)
          (resolved_export_views
          c.in_ok-found.found.resolved.entries) c.in_ok-found.ensures.grown.graph answer.are_exports_of_module;
      reached = answer.reached;
      are_reached = answer.are_reached;
      stored = answer.stored;
    }

pub returns-clause-once : goal.returns-clause-once
returns-clause-once c =
    let answer = c.in_ok-found.ensures.answers.1 in
    let start = specifier_in c.args.root.now c.args.module_id in
    let items = c.in_ok-list_names.ensures ∙ items_viewed c.exports.new.root c.args.root.now.graph start (resolved_export_views
    c.in_ok-found.found.resolved.entries) c.in_ok-found.ensures.grown.graph answer.are_exports_of_module in
    subst (AllPairs (λ (a b : ExportedNameWithMember). a ≢ b)) (sym items) (public_apart c.args.root.now.graph start)
