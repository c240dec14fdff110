use Rattle.std.proofs.Common.{option_map, codes, None, refl, ap, rules}
use Rattle.json.specs.Value.{members_view}
use Rattle.symq_reader.specs.GraphText.{as_tree, raw_tree_view}
use Rattle.symq_reader.specs.inner.Streams.{value_in_optional_data}
use Rattle.symq_reader.proofs.Streamed.{among_none, among_one}
use Rattle.symq_reader.proofs.stream.modules.tree_among.Goals as goal

pub returns-then-not-branch : goal.returns-then-not-branch
returns-then-not-branch c =
    let h = c.in_ok-pass_until.ensures in
    among_none (value_in_optional_data as_tree) 124 c.args.reader.now c.pass_until.new.reader (codes "tree") c.in_ok-pass_until.field-0
    (members_view c.args.retained.now.items) h.0 (members_view c.pass_until.new.retained.items) None (search rules) h.1
    (ap members_view c.requires) h.2 refl

pub returns : goal.returns
returns c =
    let h = c.in_ok-pass_until.ensures in
    let k = c.in_ok-pass_until-2.ensures in
    among_one (value_in_optional_data as_tree) 124 c.args.reader.now c.pass_until.new.reader c.optional_tree.new.reader c.pass_until-2.new.reader (codes "tree")
    c.in_ok-pass_until.field-0 c.in_ok-pass_until-2.field-0 (members_view c.args.retained.now.items) h.0
    (members_view c.pass_until.new.retained.items) k.0 (members_view c.pass_until-2.new.retained.items) (option_map raw_tree_view c.in_ok-found.found)
    (search rules) h.1 (ap members_view c.requires) h.2 c.in_ok-found.ensures (search rules) k.1 k.2
