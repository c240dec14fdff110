use Rattle.std.proofs.Common.{◌≡◌, ◌∙◌, sym, ap, rules, map, List, ℕ, Bor, string_bytes}
use Rattle.std.specs.Vec.{vec_items}
use Rattle.std.proofs.lemmas.Iterator.{YieldsList-from_slice, YieldsList-from_map_by}
use Rattle.std.proofs.lemmas.Iterator.Consumers.{map_from_collect}
use Rattle.std.proofs.lemmas.Result.{IfOk-at_ok, IfOk-weaker}
use Rattle.std.proofs.lemmas.Simd.{map-map}
use Rattle.symbols_ast.specs.Graph.{resolution_view}
use Rattle.symbols_graph.specs.GraphFaults.{resolution_keys}
use Rattle.symbols_graph.proofs.RepeatLemmas.{first_repeat_read, pair_eq-Decides}
use Rattle.symbols_graph.proofs.duplicates.repeated_resolution.Goals as goal

abbrev read : Bor (List ℕ) × Bor (List ℕ) → List ℕ × List ℕ
read p = (p.0.now, p.1.now)

pub returns : goal.returns
returns c =
    let collected = map_from_collect c.collect.result c.collect.ensures.ran (YieldsList-from_map_by _ read
    (λ x. (string_bytes x.referrer, string_bytes x.specifier_text)) (YieldsList-from_slice c.args.resolutions.now cc) c.map.ensures.closure
    (λ x r q k. search rules)) in
    let names : map read c.deref.result.now ≡ resolution_keys (map resolution_view c.args.resolutions.now) =
    ap (map read) c.deref.ensures.value ∙ IfOk-at_ok (λ w. map read (vec_items w)
    ≡ map (λ x. (string_bytes x.referrer, string_bytes x.specifier_text)) c.args.resolutions.now) c.in_ok-pairs.was collected
    ∙ sym (map-map (λ x. (x.referrer, x.specifier_text)) resolution_view c.args.resolutions.now) in
    IfOk-weaker c.first_repeat.result _ _ (first_repeat_read _ read (λ x y. pair_eq-Decides x.0.now x.1.now y.0.now y.1.now) c.deref.result.now _ names)
    c.first_repeat.ensures
