use Rattle.std.proofs.Common.{◌≡◌, map, Some, sym, ap, ◌∙◌}
use Rattle.json.proofs.Trees.{view-Object}
use Rattle.json.specs.Json.{object}
use Rattle.json.specs.Value.{members_view}
use Rattle.symq_reader.specs.GraphText.{require_object, graph_of_json_fields, raw_graph_view, raw_module_view}
use Rattle.symq_reader.specs.JsonData.{json_data}
use Rattle.symq_reader.proofs.Parts.{graph_whole}
use Rattle.symq_reader.proofs.stream.graph_members.Goals as goal

pub returns : goal.returns
returns c =
    let h = c.in_ok-found.ensures in
    let retained = members_view c.modules_among.new.retained.items in
    let read = raw_graph_view c.in_ok-graph.graph in
    let around : require_object graph_of_json_fields (json_data (object retained)) ≡ Some read =
    ap (λ j. require_object graph_of_json_fields (json_data j)) (sym (view-Object c.modules_among.new.retained)) ∙ c.in_ok-graph.ensures in
    record {
      all = h.1.all;
      read = h.1.read;
      fit = h.1.fit;
      is = graph_whole 126 c.args.reader.now c.modules_among.new.reader h.0 retained h.1 read (map raw_module_view c.in_ok-found.found.items) around h.2;
    }
