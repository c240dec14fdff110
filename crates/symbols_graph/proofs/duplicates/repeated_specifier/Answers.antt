use Rattle.std.proofs.Common.{◌≡◌, ◌∙◌, sym, ap, rules, map, List, ℕ, Bor, string_bytes}
use Rattle.std.specs.Vec.{vec_items}
use Rattle.std.proofs.lemmas.Iterator.{YieldsList-from_slice, YieldsList-from_map_by}
use Rattle.std.proofs.lemmas.Iterator.Consumers.{map_from_collect}
use Rattle.std.proofs.lemmas.Result.{IfOk-at_ok, IfOk-weaker}
use Rattle.std.proofs.lemmas.Simd.{map-map}
use Rattle.std.proofs.lemmas.Slice.Eq.{bytes_eq-Decides}
use Rattle.symbols_ast.specs.Graph.{module_view}
use Rattle.symbols_graph.specs.GraphFaults.{module_specifiers}
use Rattle.symbols_graph.proofs.RepeatLemmas.{first_repeat_read}
use Rattle.symbols_graph.proofs.duplicates.repeated_specifier.Goals as goal

pub returns : goal.returns
returns c =
    let collected = map_from_collect c.collect.result c.collect.ensures.ran (YieldsList-from_map_by _ (λ (r : Bor (List ℕ)). r.now)
    (λ x. string_bytes x.specifier) (YieldsList-from_slice c.args.modules.now cc) c.map.ensures.closure (λ x r q k. search rules)) in
    let names : map (λ (x : Bor (List ℕ)). x.now) c.deref.result.now ≡ module_specifiers (map module_view c.args.modules.now) =
    ap (map (λ (x : Bor (List ℕ)). x.now)) c.deref.ensures.value
    ∙ IfOk-at_ok (λ w. map (λ (x : Bor (List ℕ)). x.now) (vec_items w) ≡ map (λ x. string_bytes x.specifier) c.args.modules.now) c.in_ok-names.was collected
    ∙ sym (map-map (λ x. x.specifier) module_view c.args.modules.now) in
    IfOk-weaker c.first_repeat.result _ _ (first_repeat_read _ (λ (x : Bor (List ℕ)). x.now) (λ x y. bytes_eq-Decides x.now y.now) c.deref.result.now _ names)
    c.first_repeat.ensures
