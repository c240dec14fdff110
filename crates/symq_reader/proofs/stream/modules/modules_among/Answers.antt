use Rattle.std.proofs.Common.{map, codes, Some, sym, ap, rules}
use Rattle.json.specs.Value.{members_view}
use Rattle.symq_reader.specs.GraphText.{as_module, raw_module_view}
use Rattle.symq_reader.specs.inner.Streams.{list_in_optional_data}
use Rattle.symq_reader.proofs.Streamed.{among_none, among_one}
use Rattle.symq_reader.proofs.stream.modules.modules_among.Goals as goal

pub returns-then-not-branch : goal.returns-then-not-branch
returns-then-not-branch c =
    let h = c.in_ok-pass_until.ensures in
    among_none (list_in_optional_data as_module) 126 c.args.reader.now c.pass_until.new.reader (codes "modules") c.in_ok-pass_until.field-0
    (members_view c.args.retained.now.items) h.0 (members_view c.pass_until.new.retained.items) (map raw_module_view c.new.result.items) (search rules) h.1
    (ap members_view c.requires) h.2 (ap (λ xs. Some (map raw_module_view xs)) (sym c.new.ensures.items))

pub returns : goal.returns
returns c =
    let h = c.in_ok-pass_until.ensures in
    let k = c.in_ok-pass_until-2.ensures in
    among_one (list_in_optional_data as_module) 126 c.args.reader.now c.pass_until.new.reader c.module_list.new.reader c.pass_until-2.new.reader
    (codes "modules")
    c.in_ok-pass_until.field-0 c.in_ok-pass_until-2.field-0 (members_view c.args.retained.now.items) h.0
    (members_view c.pass_until.new.retained.items) k.0 (members_view c.pass_until-2.new.retained.items) (map raw_module_view c.in_ok-found.found.items)
    (search rules) h.1 (ap members_view c.requires) h.2 c.in_ok-found.ensures (search rules) k.1 k.2
