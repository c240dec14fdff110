use Rattle.std.proofs.Common.{◌≡◌, option_map, Some, sym, ap, ◌∙◌}
use Rattle.json.proofs.Trees.{view-Object}
use Rattle.json.specs.Json.{object}
use Rattle.json.specs.Value.{members_view}
use Rattle.symq_reader.specs.GraphText.{as_module, raw_module_view, raw_tree_view}
use Rattle.symq_reader.specs.JsonData.{json_data}
use Rattle.symq_reader.proofs.Parts.{module_whole}
use Rattle.symq_reader.proofs.stream.modules.module_members.Goals as goal

pub returns : goal.returns
returns c =
    let h = c.in_ok-tree.ensures in
    let retained = members_view c.tree_among.new.retained.items in
    let read = raw_module_view c.in_ok-found.found in
    let tree = option_map raw_tree_view c.in_ok-tree.tree in
    let around : as_module (json_data (object retained)) ≡ Some read =
    ap (λ j. as_module (json_data j)) (sym (view-Object c.tree_among.new.retained)) ∙ c.in_ok-found.ensures in
    record {
      all = h.1.all;
      read = h.1.read;
      fit = h.1.fit;
      is = module_whole 124 c.args.reader.now c.tree_among.new.reader h.0 retained h.1 read tree around h.2 ∙ ap Some (sym c.module_shape_with_tree.ensures);
    }
