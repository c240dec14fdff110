use Rattle.std.proofs.Common.{◌≡◌, ◌<◌, List, [], length, sym, ap, subst, ◌∙◌, rules}
use Rattle.json.specs.Token.{Token}
use Rattle.json.specs.Lex.{tokens}
use Rattle.json.specs.Json.{no_items, item}
use Rattle.symq_reader.specs.GraphText.{as_module}
use Rattle.symq_reader.specs.inner.Pieces.{ConsumesModule, ConsumesValues, AreModulesAppended}
use Rattle.symq_reader.specs.inner.Streams.{items_joined}
use Rattle.symq_reader.proofs.Pieces.{took_no_values, took_value, none_more, one_more}
use Rattle.symq_reader.proofs.Streamed.{reads_shorter}
use Rattle.symq_reader.proofs.stream.pieces.piece.Goals as goal

pub modules-init : goal.modules-init
modules-init c = (no_items, took_no_values c.in_ok-reader.reader, none_more c.args.found.now.items)

pub modules-smaller : goal.modules-smaller
modules-smaller c =
    let took : ConsumesModule c.modules.reader c.next_module.new.reader c.modules.found.items c.next_module.new.found.items = search rules in
    let less : length c.next_module.new.reader < length c.modules.reader = reads_shorter 125 _ _ as_module _ took.reads in
    less

pub modules-preserved : goal.modules-preserved
modules-preserved c =
    let l = c.modules in
    let took : ConsumesModule l.reader c.next_module.new.reader l.found.items c.next_module.new.found.items = search rules in (
      items_joined l.invariant.0 (item took.reads.at no_items),
      took_value c.in_ok-reader.reader l.reader c.next_module.new.reader l.invariant.0 took.reads.at l.invariant.1 took.reads.read,
      one_more l.reader c.next_module.new.reader l.invariant.0 c.args.found.now.items l.found.items c.next_module.new.found.items took l.invariant.2,
    )

pub returns : goal.returns
returns c =
    let l = c.modules in
    let last : (l.reader ≡ []) × (c.next_module.new.found.items ≡ l.found.items) = search rules in
    let over = subst (ConsumesValues c.in_ok-reader.reader l.invariant.0) last.0 l.invariant.1 in
    let text : c.in_ok-reader.reader ≡ tokens c.args.bytes.now = c.in_ok-reader.ensures.ok ∙ ap tokens c.in-Ok.ensures.cases.0 in
    record {
      utf8 = c.in-Ok.ensures.cases.1;
      values = l.invariant.0;
      took = subst (λ (ts : List Token). ConsumesValues ts l.invariant.0 []) text over;
      more = subst (AreModulesAppended l.invariant.0 c.args.found.now.items) (sym last.1) l.invariant.2;
    }
