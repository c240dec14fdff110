use Rattle.std.proofs.Common.{List, map, refl, sym, ap, rules, length, String, ◌∙◌}
use Rattle.std.specs.Global.{Global}
use Rattle.std.proofs.lemmas.Iterator.Adapters.{YieldsList-from_vec}
use Rattle.std.proofs.lemmas.Iterator.Consumers.{YieldsList-turn}
use Rattle.symbols_graph.specs.PutModules.{resolution_with_referrer}
use Rattle.symbols_graph.specs.Tables.{string_pairs_bytes}
use Rattle.symq_c.proofs.ModuleLists.{row_has_referrer, with_row}
use Rattle.symq_c.proofs.module_of_text.resolutions_of.Goals as goal

pub returns-in_default-clause-refused : goal.returns-in_default-clause-refused
returns-in_default-clause-refused c =
    let all = c.args.rows.items in
    let row = c.in-Some.row in
    let given = c.into_iter-row-iterator.ensures.into_iter_gives in
    let rank = YieldsList-turn (YieldsList-from_vec all given.0 (search rules)) c.loop-row.yielded c.loop-row.row-iterator c.loop-row.yielded_by c.next.result
    c.next.new.self row c.in-Some.is c.next.ensures.steps in
    λ _. (refl, λ resolved same. c.in_default.ensures (row_has_referrer all (length c.loop-row.yielded) row c.args.referrer.now resolved rank.0 rank.1 same))

pub loop-row-preserved : goal.loop-row-preserved
loop-row-preserved c =
    with_row c.loop-row.yielded c.in-Some.row c.args.referrer.now c.loop-row.resolved.items c.in-Some-pair_of.pair c.in-Some-pair_of.ensures
    c.loop-row.invariant
    ∙ ap (λ (pairs : List (String Global × String Global)). map (resolution_with_referrer c.args.referrer.now) (string_pairs_bytes pairs))
    (sym c.in_ok-push.ensures.items)
