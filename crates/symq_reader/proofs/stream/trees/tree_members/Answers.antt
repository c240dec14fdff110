use Rattle.std.proofs.Common.{◌≡◌, map, Some, sym, ap, ◌∙◌}
use Rattle.json.proofs.Trees.{view-Object}
use Rattle.json.specs.Json.{object}
use Rattle.json.specs.Value.{members_view}
use Rattle.symq_reader.specs.GraphText.{as_tree, raw_node_view, raw_tree_view}
use Rattle.symq_reader.specs.JsonData.{json_data}
use Rattle.symq_reader.proofs.Parts.{tree_whole}
use Rattle.symq_reader.proofs.stream.trees.tree_members.Goals as goal

pub returns : goal.returns
returns c =
    let h = c.in_ok-found.ensures in
    let retained = members_view c.nodes_among.new.retained.items in
    let around : as_tree (json_data (object retained)) ≡ Some (raw_tree_view c.in_ok-tree.tree) =
    ap (λ j. as_tree (json_data j)) (sym (view-Object c.nodes_among.new.retained)) ∙ c.in_ok-tree.ensures in
    record {
      all = h.1.all;
      read = h.1.read;
      fit = h.1.fit;
      is = tree_whole 123 c.args.reader.now c.nodes_among.new.reader h.0 retained h.1 (raw_tree_view c.in_ok-tree.tree)
          (map raw_node_view c.in_ok-found.found.items)
          around h.2;
    }
