use Rattle.std.proofs.Common.{◌≡◌, None, map, rules}
use Rattle.std.specs.Cow.{cow_str_bytes}
use Rattle.serde_json.specs.Find.{as_str}
use Rattle.symq_reader.specs.JsonData.{value_data}
use Rattle.symq_core.proofs.Partings.{no_text}
use Rattle.symq_core.proofs.references.read_texts.Goals as goal

pub returns-in-None : goal.returns-in-None
returns-in-None c =
    let l = c.loop-item in
    let none : as_str (value_data c.item-item.result) ≡ None = search rules in
    no_text (map cow_str_bytes l.texts.items) c.item-item.result c.args.items.now l.item-index _ c.loop-item-test.true c.item-item.is none l.invariant
