use Rattle.std.proofs.Common.{◌&&◌, cond, sym, ap, ◌∙◌, rules, length, take, map, Some, string_bytes}
use Rattle.std.specs.Str.{bytes_eq}
use Rattle.std.proofs.lemmas.Iterator.Adapters.{YieldsList-from_vec}
use Rattle.std.proofs.lemmas.Iterator.Consumers.{YieldsList-turn}
use Rattle.std.proofs.lemmas.List.{length_push}
use Rattle.symbols_ast.specs.Graph.{resolution_view, find_resolved_specifier}
use Rattle.symbols_graph.proofs.ResolutionMaps.{found_next}
use Rattle.symbols_graph.proofs.graph_maps.keyed_resolutions.Goals as goal

pub loop-row-preserved : goal.loop-row-preserved
loop-row-preserved c =
    let all = c.args.resolutions.items in
    let row = c.in-Some.row in
    let given = c.into_iter-row-iterator.ensures.into_iter_gives in
    let rank = YieldsList-turn (YieldsList-from_vec all given.0 (search rules)) c.loop-row.yielded c.loop-row.row-iterator c.loop-row.yielded_by c.next.result
    c.next.new.self row c.in-Some.is c.next.ensures.steps in
    record {
      same = λ r t. c.in_ok-add_resolution.ensures.found r t ∙ ap (λ before. cond (bytes_eq r (string_bytes row.referrer)
          && bytes_eq t (string_bytes row.specifier_text)) (Some (string_bytes row.specifier)) before) (c.loop-row.invariant.same r t)
          ∙ sym (found_next all (length c.loop-row.yielded) row c.requires rank.0 rank.1 r t)
          ∙ ap (λ n. find_resolved_specifier (take n (map resolution_view all)) r t) (sym (length_push c.loop-row.yielded row));
      unique = c.in_ok-add_resolution.ensures.unique;
    }
