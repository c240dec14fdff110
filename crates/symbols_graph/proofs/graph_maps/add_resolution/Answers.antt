use Rattle.std.proofs.Common.{◌≡◌, rules, sym, ap, subst, ◌∙◌, Some, None}
use Rattle.std.specs.Option.{option_copied_mut, IsSome}
use Rattle.std.proofs.lemmas.Result.{IfOk-weaker}
use Rattle.indexmap.specs.IndexMap.{get_by_text}
use Rattle.symbols_graph.proofs.ResolutionMaps.{resolved_specifier_in_maps-into, resolved_specifier_in_maps-first}
use Rattle.symbols_graph.proofs.graph_maps.add_resolution.Goals as goal

pub returns-in-Some-clause-found : goal.returns-in-Some-clause-found
returns-in-Some-clause-found c =
    let found : get_by_text c.args.tables.now c.as_str.result.now ≡ Some c.in-Some.table.now =
    sym c.get_mut.ensures.value ∙ ap option_copied_mut c.in-Some.is in
    let outer = (c.get_mut.follows.holds c.put.new.named).3 (subst IsSome (sym found) (search rules)) in
    IfOk-weaker c.put.result _ _ (λ _ inner. resolved_specifier_in_maps-into c.args.tables.now c.as_str.result.now c.args.row.referrer c.args.row.specifier_text
    c.args.row.specifier c.as_str.ensures.value (c.get_mut.follows.lender c.put.new.named) c.in-Some.table.now c.put.new.named found outer inner)
    c.put.ensures.updates

pub returns-clause-found : goal.returns-clause-found
returns-clause-found c =
    let absent : get_by_text c.args.tables.now c.as_str.result.now ≡ None = sym c.get_mut.ensures.value ∙ ap option_copied_mut c.in_default.is in
    IfOk-weaker c.put-3.result _ _
    (λ _ outer. resolved_specifier_in_maps-first c.args.tables.now c.as_str.result.now c.args.row.referrer c.args.row.specifier_text
    c.args.row.specifier c.as_str.ensures.value c.get_mut.follows.lender-at-none c.put-3.new.named c.with_hasher-table.result c.put-2.new.named
    c.get_mut.follows.holds-at-none absent c.with_hasher-table.ensures.empty outer c.in_ok-put.ensures.updates) c.put-3.ensures.updates
